-- One octet more of a text: a space ends a word, a newline a line, and any other octet belongs to the present word.
use mathlib.Core.Path.{◌≡◌, refl, sym, ap, ◌∙◌}
use mathlib.Core.Bool.{Bool, true, false, cond, ◌&&◌}
use mathlib.Core.List.{List, [], ◌∷◌}
use Prim.Native.Nat.{ℕ, suc, ◌+◌, ◌-◌, ◌*◌, ◌^◌, ◌≤◌, ◌<◌}
use native.Mathlib.Nat.{le-mul_of_pos_right, one-le-pow, pow-suc}
use native.Mathlib.Omega.{arith}
use borrow.Author.Tests.{eqb-true, eqb-false, eq-eqb, ne_eqb}
use lib.Dec.{eqb}
use lib.ListN.{length}
use Rattle.text.specs.declared.pieces.Word.{Word}
use Rattle.text.specs.declared.pieces.Rest.{Rest}
use Rattle.text.specs.declared.pieces.Progress.{Progress}
use Rattle.text.specs.Numerals.{zero_sign, is_numeral, is_signed, value}
use Rattle.text.specs.Words.{space, newline, ahead, cut, words, lines, pass, Test}
use Rattle.text.specs.Text.{word_at, rows_form}
use Rattle.text.specs.code.Scan.{large, Stands}
use Rattle.text.specs.code.Pieces.{rest_test, line, onward, form_from, ends, finished, Steps}
use Rattle.text.specs.code.Turns.{complete, number_start, narrow, at, refused_text, next_word, next_line, one_fewer, spaced, ended, word_within, rest_within, Counted, CountWithin, Inside}
use Rattle.text.proofs.Cuts.{cut_some, cut_here, cut_past}
use Rattle.text.proofs.Readings.{and_true, and_false}
use Rattle.text.proofs.Narrows.{may_end, after_octet, start_octet}

-- what is refused stays so
none : (n : ℕ) (l : List ℕ) (ls : List (List ℕ)) → onward Word.Hello Rest.Refused n l ls ≡ false
unfolding onward rest_test pass
none n l ls = let p = cut_some space l in rw p.is

-- two tests of equal numbers that hold together
eqb_same : (a b c d : ℕ) → (a ≡ b → c ≡ d) → (c ≡ d → a ≡ b) → eqb a b ≡ eqb c d
eqb_same a b c d f g = go (eqb c d) refl
  where
    go : (t : Bool) → eqb c d ≡ t → eqb a b ≡ t
    go true e = eq-eqb a b (g (eqb-true c d e))
    go false e = ne_eqb a b (λ k. eqb-false c d e (f k))

one_more : (m n : ℕ) → eqb (suc m) (n * 1 + 0 + 1) ≡ eqb m n
one_more m n = eqb_same (suc m) (n * 1 + 0 + 1) m n (λ (k : suc m ≡ n * 1 + 0 + 1). omega arith) (λ (k : m ≡ n). omega arith)

one_off : (m n : ℕ) → (n ≡ 0 → ⊥) → eqb (suc m) n ≡ eqb m (n - 1)
one_off m n h = eqb_same (suc m) n m (n - 1) (λ (k : suc m ≡ n). omega arith) (λ (k : m ≡ n - 1). omega arith)

-- a number with one more digit, or a large one instead of it
count_same : (k p v a m : ℕ) → 1 ≤ p → k < large → Stands m a → eqb k (a * p + v + 1) ≡ eqb k (m * p + v + 1)
count_same k p v a m o h s = eqb_same k (a * p + v + 1) k (m * p + v + 1) (λ e. e ∙ ap (λ (z : ℕ). z * p + v + 1) (small a m s (less a e))) (λ e. e ∙ ap (λ (z : ℕ). z * p + v + 1) (sym (small_too (less m e))))
  where
    less : (z : ℕ) → k ≡ z * p + v + 1 → z < large
    less z e = let l = le-mul_of_pos_right z o in omega arith

    small : (a m : ℕ) → Stands m a → a < large → a ≡ m
    small a m s l = omega arith

    small_too : m < large → a ≡ m
    small_too l = omega arith

one_digit_more : (n d p q v : ℕ) → q ≡ p * 10 → n * q + (d * p + v) + 1 ≡ (n * 10 + d) * p + v + 1
one_digit_more n d p q v e = rw e (omega arith)

from_zero : (p v : ℕ) → v ≡ 0 * p + v
from_zero p v = omega arith

module _ (l : List ℕ) (ls : List (List ℕ)) where
  -- ---- a space

  gap : words (space ∷ l) ≡ [] ∷ words l
  gap = cut_here space space l refl

  -- a word that ends here, and those after it
  passes : (r : Rest) (ts : List Test) → pass (rest_test r ∷ ts) (words (space ∷ l)) ≡ (complete r && pass ts (words l))
  unfolding pass
  passes r ts = rw (gap, may_end r)

  no_word_after : pass [] (words l) ≡ false
  unfolding pass
  no_word_after = let p = cut_some space l in rw p.is

  -- a line after the first has a word before its first space
  no_row_space : (ls : List (List ℕ)) → rows_form ((space ∷ l) ∷ ls) ≡ false
  unfolding rows_form pass is_numeral
  no_row_space [] = refl
  no_row_space (k ∷ ks) = rw gap

  spaced_is : (w : Word) (r : Rest) (n : ℕ) → complete r ≡ true → onward w r n (space ∷ l) ls ≡ onward (next_word w n).word (next_word w n).rest (next_word w n).count l ls
  unfolding onward rest_test
  spaced_is Word.Hello r n e = rw (passes r, e, gap)
  spaced_is Word.Date r n e = rw (passes r, e, gap)
  spaced_is Word.Time r n e = rw (passes r, e, gap)
  spaced_is Word.Tsp r n e = rw (passes r, e, gap)
  spaced_is Word.Base r n e =
      let w = word_at (words l) 0 in
      rw (passes r, e, gap)
      (ap (λ (k : ℕ). pass (is_numeral ∷ []) (words l) && rows_form ls && eqb (length ls) (k + 1)) (from_zero (10 ^ length w) (value w)))
  spaced_is Word.Count r n e = rw (passes r, e, no_word_after) (sym (none 0 l ls))
  spaced_is Word.Line r n e = ap (λ (b : Bool). b && eqb (length ls) n) (no_row_space ls) ∙ sym (none 0 l ls)
  spaced_is Word.Delay r n e = rw (passes r, e)
  spaced_is Word.Offset r n e = rw (passes r, e, no_word_after) (sym (none 0 l ls))

  not_spaced : (w : Word) (r : Rest) (n : ℕ) → complete r ≡ false → onward w r n (space ∷ l) ls ≡ false
  unfolding onward
  not_spaced Word.Hello r n e = rw (passes r, e)
  not_spaced Word.Date r n e = rw (passes r, e)
  not_spaced Word.Time r n e = rw (passes r, e)
  not_spaced Word.Tsp r n e = rw (passes r, e)
  not_spaced Word.Base r n e = rw (passes r, e)
  not_spaced Word.Count r n e = rw (passes r, e)
  not_spaced Word.Line r n e = ap (λ (b : Bool). b && eqb (length ls) n) (no_row_space ls)
  not_spaced Word.Delay r n e = rw (passes r, e)
  not_spaced Word.Offset r n e = rw (passes r, e)

  pub after_space : (p : Progress) → onward p.word p.rest p.count (space ∷ l) ls ≡ onward (spaced p).word (spaced p).rest (spaced p).count l ls
  after_space p = go (complete p.rest) refl
    where
      go : (b : Bool) → complete p.rest ≡ b → onward p.word p.rest p.count (space ∷ l) ls
          ≡ onward (cond b (next_word p.word p.count) refused_text).word (cond b (next_word p.word p.count) refused_text).rest (cond b (next_word p.word p.count) refused_text).count l ls
      go true e = spaced_is p.word p.rest p.count e
      go false e = not_spaced p.word p.rest p.count e ∙ sym (none 0 l ls)

  -- ---- a newline: the present line ends, and the next begins

  -- a last word that ends here
  line_passes : (r : Rest) → pass (rest_test r ∷ []) (words []) ≡ complete r
  unfolding pass cut
  line_passes r = and_true (rest_test r []) ∙ may_end r

  -- a word that others must follow
  line_short : (r : Rest) (t : Test) (ts : List Test) → pass (rest_test r ∷ t ∷ ts) (words []) ≡ false
  unfolding pass cut
  line_short r t ts = and_false (rest_test r [])

  count_ended : (r : Rest) (n : ℕ) → complete r ≡ true → onward Word.Count r n [] (l ∷ ls) ≡ onward Word.Line Rest.Number n l ls
  unfolding onward cut value
  count_ended r n e = rw (line_passes r, e) (ap (λ (b : Bool). rows_form (l ∷ ls) && b) (one_more (length ls) n))

  no_empty_row : (n : ℕ) (r : Rest) → onward Word.Line r n [] (l ∷ ls) ≡ false
  unfolding onward rows_form pass cut is_numeral
  no_empty_row n r = refl

  row_ended : (r : Rest) (n : ℕ) → complete r ≡ true → onward Word.Offset r n [] (l ∷ ls) ≡ onward (one_fewer n).word (one_fewer n).rest (one_fewer n).count l ls
  unfolding onward
  row_ended r n e = rw (line_passes r, e) (go (eqb n 0) refl)
    where
      go : (b : Bool) → eqb n 0 ≡ b → (rows_form (l ∷ ls) && eqb (suc (length ls)) n)
          ≡ onward (cond b refused_text (at Word.Line Rest.Number (n - 1))).word (cond b refused_text (at Word.Line Rest.Number (n - 1))).rest (cond b refused_text (at Word.Line Rest.Number (n - 1))).count l ls
      go true q =
          let z = eqb-true n 0 q in
          ap (λ (b : Bool). rows_form (l ∷ ls) && b) (ne_eqb (suc (length ls)) n (λ (k : suc (length ls) ≡ n). omega arith)) ∙ and_false (rows_form (l ∷ ls)) ∙ sym (none 0 l ls)
      go false q =
          let h = eqb-false n 0 q in
          ap (λ (b : Bool). rows_form (l ∷ ls) && b) (one_off (length ls) n h)

  pub line_ended : (w : Word) (r : Rest) (n : ℕ) → complete r ≡ true → onward w r n [] (l ∷ ls) ≡ onward (next_line w n).word (next_line w n).rest (next_line w n).count l ls
  unfolding onward
  line_ended Word.Hello r n e = rw (line_short r) (sym (none 0 l ls))
  line_ended Word.Date r n e = rw (line_short r) (sym (none 0 l ls))
  line_ended Word.Time r n e = rw (line_short r) (sym (none 0 l ls))
  line_ended Word.Tsp r n e = rw (line_short r) (sym (none 0 l ls))
  line_ended Word.Base r n e = rw (line_short r) (sym (none 0 l ls))
  line_ended Word.Count r n e = count_ended r n e
  line_ended Word.Line r n e = no_empty_row n r ∙ sym (none 0 l ls)
  line_ended Word.Delay r n e = rw (line_short r) (sym (none 0 l ls))
  line_ended Word.Offset r n e = row_ended r n e

  not_ended : (w : Word) (r : Rest) (n : ℕ) → complete r ≡ false → onward w r n [] (l ∷ ls) ≡ false
  unfolding onward
  not_ended Word.Hello r n e = rw (line_short r)
  not_ended Word.Date r n e = rw (line_short r)
  not_ended Word.Time r n e = rw (line_short r)
  not_ended Word.Tsp r n e = rw (line_short r)
  not_ended Word.Base r n e = rw (line_short r)
  not_ended Word.Count r n e = rw (line_passes r, e)
  not_ended Word.Line r n e = no_empty_row n r
  not_ended Word.Delay r n e = rw (line_short r)
  not_ended Word.Offset r n e = rw (line_passes r, e)

  pub after_newline : (p : Progress) → onward p.word p.rest p.count [] (l ∷ ls) ≡ onward (ended p).word (ended p).rest (ended p).count l ls
  after_newline p = go (complete p.rest) refl
    where
      go : (b : Bool) → complete p.rest ≡ b → onward p.word p.rest p.count [] (l ∷ ls)
          ≡ onward (cond b (next_line p.word p.count) refused_text).word (cond b (next_line p.word p.count) refused_text).rest (cond b (next_line p.word p.count) refused_text).count l ls
      go true e = line_ended p.word p.rest p.count e
      go false e = not_ended p.word p.rest p.count e ∙ sym (none 0 l ls)

-- ---- an octet of a word

-- the first word with an octet before it, and the words after it
record Front (c : ℕ) (l : List ℕ) : Type 0 where
  pub word : List ℕ
  pub later : List (List ℕ)
  pub is : words l ≡ word ∷ later
  pub before : words (c ∷ l) ≡ (c ∷ word) ∷ later

front : (c : ℕ) (l : List ℕ) → (c ≡ space → ⊥) → Front c l
front c l h =
    let p = cut_some space l in
    record { word = p.first; later = p.rest; is = p.is; before = cut_past space c l h ∙ rw p.is }

module _ (c : ℕ) (l : List ℕ) (ls : List (List ℕ)) (h : c ≡ space → ⊥) where
  abbrev f : Front c l
  f = front c l h

  pass_octet : (r : Rest) (ts : List Test) → pass (rest_test r ∷ ts) (words (c ∷ l)) ≡ pass (rest_test (narrow r c) ∷ ts) (words l)
  unfolding pass
  pass_octet r ts = rw (f.before, f.is, after_octet r c f.word)

  pass_start : (ts : List Test) → pass (is_numeral ∷ ts) (words (c ∷ l)) ≡ pass (rest_test (number_start c) ∷ ts) (words l)
  unfolding pass
  pass_start ts = rw (f.before, f.is, start_octet c f.word)

  -- the row that begins here
  row_start : (ls : List (List ℕ)) → rows_form ((c ∷ l) ∷ ls) ≡ (pass (rest_test (number_start c) ∷ is_signed ∷ []) (words l) && rows_form ls)
  unfolding rows_form
  row_start [] = sym (and_false (pass (rest_test (number_start c) ∷ is_signed ∷ []) (words l)))
  row_start (k ∷ ks) = rw (pass_start (is_signed ∷ []))

  count_within : (r : Rest) (n m : ℕ) → length ls < large → Counted n c m → onward Word.Count r n (c ∷ l) ls ≡ onward Word.Count (narrow r c) m l ls
  unfolding onward value
  count_within r n m k e =
      let w = f.word in
      let p = 10 ^ length w in
      let q = one_digit_more n (c - zero_sign) p (10 ^ suc (length w)) (value w) (pow-suc 10 (length w)) in
      rw (pass_octet r, f.before, f.is)
      (ap (λ (z : ℕ). pass (rest_test (narrow r c) ∷ []) (w ∷ f.later) && rows_form ls && eqb (length ls) z) q
      ∙ ap (λ (b : Bool). pass (rest_test (narrow r c) ∷ []) (w ∷ f.later) && rows_form ls && b) (count_same (length ls) p (value w) (n * 10 + (c - zero_sign)) m (one-le-pow (length w) 10 (omega arith)) k e))

  pub within : (w : Word) (r : Rest) (n m : ℕ) → length ls < large → CountWithin w n c m → onward w r n (c ∷ l) ls ≡ onward (word_within w) (rest_within w r c) m l ls
  unfolding onward
  within Word.Hello r n m k e = rw (pass_octet r, f.before, f.is)
  within Word.Date r n m k e = rw (pass_octet r, f.before, f.is)
  within Word.Time r n m k e = rw (pass_octet r, f.before, f.is)
  within Word.Tsp r n m k e = rw (pass_octet r, f.before, f.is)
  within Word.Base r n m k e = rw (pass_octet r, f.before, f.is)
  within Word.Count r n m k e = count_within r n m k (e.counted refl)
  within Word.Line r n m k e = rw (row_start ls, e.kept refl)
  within Word.Delay r n m k e = rw (pass_octet r, e.kept refl)
  within Word.Offset r n m k e = rw (pass_octet r, e.kept refl)

-- ---- any octet

length_others : (text : List ℕ) → length (lines text) ≤ length text + 1
unfolding cut
length_others [] = omega arith
length_others (c ∷ text) = go (eqb c newline) (cut newline text) (length_others text)
  where
    go : (b : Bool) (ls : List (List ℕ)) → length ls ≤ length text + 1 → length (cond b ([] ∷ ls) (ahead (c ∷ []) ls)) ≤ suc (length text) + 1
    go true ls h = omega arith
    go false [] h = omega arith
    go false (k ∷ ks) h = omega arith

module _ (p : Progress) (c : ℕ) where
  pub steps_space : c ≡ space → Steps p c (spaced p)
  steps_space e text h =
      let q = cut_some newline text in
      let k : lines (c ∷ text) ≡ (c ∷ q.first) ∷ q.rest = cut_past newline c text (λ z. omega arith) ∙ rw q.is in
      rw (k, q.is, e) (after_space q.first q.rest p)

  pub steps_newline : c ≡ newline → Steps p c (ended p)
  steps_newline e text h =
      let q = cut_some newline text in
      let k : lines (c ∷ text) ≡ [] ∷ (q.first ∷ q.rest) = cut_here newline c text e ∙ rw q.is in
      rw (k, q.is) (after_newline q.first q.rest p)

  pub steps_within : (r : Progress) → (c ≡ space → ⊥) → (c ≡ newline → ⊥) → Inside p c r → Steps p c r
  steps_within r f g i text h =
      let q = cut_some newline text in
      let k : lines (c ∷ text) ≡ (c ∷ q.first) ∷ q.rest = cut_past newline c text g ∙ rw q.is in
      let o = length_others text in
      let z : length q.rest < large = omega (arith, ap length q.is) in
      rw (k, q.is, i.word, i.rest) (within c q.first q.rest f p.word p.rest p.count r.count z i.count)

-- ---- the end

-- no rows are not of the form: a line that does not end is not
open_line : (ts : List Test) (n : ℕ) → line ts n [] [] ≡ false
unfolding rows_form
open_line ts n = ap (λ (b : Bool). b && eqb 0 n) (and_false (pass ts (words [])))

ends_so : (w : Word) (r : Rest) (n : ℕ) → onward w r n [] [] ≡ ends w n
unfolding onward rows_form
ends_so Word.Hello r n = open_line (rest_test r ∷ is_numeral ∷ is_numeral ∷ is_numeral ∷ is_numeral ∷ is_numeral ∷ []) (value (word_at (words []) 5) + 1)
ends_so Word.Date r n = open_line (rest_test r ∷ is_numeral ∷ is_numeral ∷ is_numeral ∷ is_numeral ∷ []) (value (word_at (words []) 4) + 1)
ends_so Word.Time r n = open_line (rest_test r ∷ is_numeral ∷ is_numeral ∷ is_numeral ∷ []) (value (word_at (words []) 3) + 1)
ends_so Word.Tsp r n = open_line (rest_test r ∷ is_numeral ∷ is_numeral ∷ []) (value (word_at (words []) 2) + 1)
ends_so Word.Base r n = open_line (rest_test r ∷ is_numeral ∷ []) (value (word_at (words []) 1) + 1)
ends_so Word.Count r n = open_line (rest_test r ∷ []) (n * 10 ^ length (word_at (words []) 0) + value (word_at (words []) 0) + 1)
ends_so Word.Line r n = eqb_same 0 n n 0 sym sym
ends_so Word.Delay r n = open_line (rest_test r ∷ is_signed ∷ []) n
ends_so Word.Offset r n = open_line (rest_test r ∷ []) n

pub end_is : (p : Progress) → form_from p [] ≡ finished p
unfolding cut
end_is p = ends_so p.word p.rest p.count

-- ---- for the functions of the code

pub steps_as : (p r s : Progress) (c : ℕ) → r ≡ s → Steps p c s → Steps p c r
steps_as p r s c e f = rw e f
