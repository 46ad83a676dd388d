-- A text there and back: cut at its marks it falls into the words that were written, and joined again they are the text.
use mathlib.Core.Path.{◌≡◌, refl, sym, ap, ◌∙◌}
use mathlib.Core.Bool.{Bool, true, false, cond, ◌&&◌, false≢true}
use mathlib.Core.List.{List, [], ◌∷◌, ◌++◌, append_assoc}
use Prim.Native.Nat.{ℕ, ◌+◌, ◌^◌, ◌≤◌, ◌<◌}
use native.Mathlib.Omega.{arith}
use borrow.Author.Tests.{leb-true, eqb-true}
use lib.Dec.{eqb}
use lib.ListN.{length}
use Rattle.lists.proofs.Tests.{both}
use Rattle.text.specs.Numerals.{numeral, signed_numeral, is_numeral, is_signed, value, signed_value}
use Rattle.text.specs.Words.{space, newline, ahead, cut, words, lines, Test, pass, same}
use Rattle.text.specs.Numbers.{Row, Numbers, fits_octet, fits_two, fits_four, fits_signed, row_fits, rows_fit, first_fits, numbers_fit}
use Rattle.text.specs.Text.{hello, first_line, row_line, row_lines, text_of, word_at, first_tests, row_tests, rows_form, row_in, rows_in, form, numbers_in}
use Rattle.text.proofs.Cuts.{cut_some}
use Rattle.text.proofs.Values.{same_is}
use Rattle.text.proofs.Frees.{Free, cut_free, cut_at, numeral_free, signed_free}
use Rattle.text.proofs.RowsLoop.{form_more, in_more}
use Rattle.text.proofs.Verdict.{good_form, numbers_are, rows_counted}
use Rattle.text.proofs.NumeralBack.{numeral_good, numeral_value, numeral_back, signed_good, signed_back}

-- ---- what fits is below ten digits

pub record AllFit (s : Numbers) : Type 0 where
  pub date : s.date ≤ 65535
  pub time : s.time ≤ 4294967295
  pub tsp : s.tsp ≤ 65535
  pub base : s.base ≤ 255
  pub count : s.count ≤ 255
  pub rows : rows_fit s.rows ≡ true

pub all_fit : (s : Numbers) → numbers_fit s ≡ true → AllFit s
unfolding numbers_fit
all_fit s e =
    let p₅ = both (first_fits s) (rows_fit s.rows) e in
    let p₄ = both (fits_two s.date && fits_four s.time && fits_two s.tsp && fits_octet s.base) (fits_octet s.count) p₅.0 in
    let p₃ = both (fits_two s.date && fits_four s.time && fits_two s.tsp) (fits_octet s.base) p₄.0 in
    let p₂ = both (fits_two s.date && fits_four s.time) (fits_two s.tsp) p₃.0 in
    let p₁ = both (fits_two s.date) (fits_four s.time) p₂.0 in
    record {
      date = leb-true s.date 65535 p₁.0;
      time = leb-true s.time 4294967295 p₁.1;
      tsp = leb-true s.tsp 65535 p₂.1;
      base = leb-true s.base 255 p₃.1;
      count = leb-true s.count 255 p₄.1;
      rows = p₅.1;
    }

-- ---- written, then read

free_joined : (mark : ℕ) (xs ys : List ℕ) → Free mark xs → Free mark ys → Free mark (xs ++ ys)
free_joined mark [] ys f g = g
free_joined mark (x ∷ xs) ys f g = (f.0, free_joined mark xs ys f.1 g)

free_hello : (mark : ℕ) → mark < 48 → Free mark hello
free_hello mark h = ((λ e. omega arith), ((λ e. omega arith), ((λ e. omega arith), ((λ e. omega arith), ((λ e. omega arith), tt)))))

free_numeral : (mark n : ℕ) → mark < 48 → n < 10 ^ 10 → Free mark (numeral n)
free_numeral mark n h l = numeral_free mark (numeral n) h (numeral_good n l)

-- a space in front is no newline
free_next : (xs : List ℕ) → Free newline xs → Free newline (space ∷ xs)
free_next xs f = ((λ e. omega arith), f)

module _ (r : Row) (fits : row_fits r ≡ true) where
  abbrev row_body : List ℕ
  row_body = numeral r.delay ++ space ∷ signed_numeral r.offset

  delay_small : r.delay < 10 ^ 10
  delay_small = omega (arith, leb-true r.delay 65535 (both (fits_two r.delay) (fits_signed r.offset) fits).0)

  offset_good : (is_signed (signed_numeral r.offset) ≡ true) × (signed_value (signed_numeral r.offset) ≡ r.offset)
  offset_good = signed_good r.offset (both (fits_two r.delay) (fits_signed r.offset) fits).1

  row_words : words row_body ≡ numeral r.delay ∷ signed_numeral r.offset ∷ []
  row_words =
      cut_at space (numeral r.delay) (signed_numeral r.offset) (free_numeral space r.delay (omega arith) delay_small)
      ∙ ap (λ ws. numeral r.delay ∷ ws) (cut_free space (signed_numeral r.offset) (signed_free space (signed_numeral r.offset) (omega arith) offset_good.0))

  row_passes : pass row_tests (words row_body) ≡ true
  unfolding pass
  row_passes = rw (row_words, numeral_good r.delay delay_small, offset_good.0)

  row_back : row_in (words row_body) ≡ r
  row_back = rw (row_words, numeral_value r.delay delay_small, offset_good.1)

  row_free : Free newline row_body
  row_free =
      free_joined newline (numeral r.delay) (space ∷ signed_numeral r.offset) (free_numeral newline r.delay (omega arith) delay_small)
      (free_next (signed_numeral r.offset) (signed_free newline (signed_numeral r.offset) (omega arith) offset_good.0))

  row_split : (t : List ℕ) → lines (row_line r ++ t) ≡ row_body ∷ lines t
  row_split t = ap lines (append_assoc row_body (newline ∷ []) t) ∙ cut_at newline row_body t row_free

pub record RowsBack (rows : List Row) : Type 0 where
  pub formed : rows_form (lines (row_lines rows)) ≡ true
  pub back : rows_in (lines (row_lines rows)) ≡ rows
  pub counted : length (lines (row_lines rows)) ≡ length rows + 1

pub rows_back : (rows : List Row) → rows_fit rows ≡ true → RowsBack rows
unfolding row_lines rows_fit rows_form rows_in cut
rows_back [] e = record { formed = refl; back = refl; counted = refl }
rows_back (r ∷ rows) e =
    let p = both (row_fits r) (rows_fit rows) e in
    let b = rows_back rows p.1 in
    let body = row_body r p.0 in
    let t = row_lines rows in
    let s : lines (row_line r ++ t) ≡ body ∷ lines t = row_split r p.0 t in
    record {
      formed = rw s (form_more body t ∙ rw (row_passes r p.0, b.formed));
      back = rw s (in_more body t ∙ rw (row_back r p.0, b.back));
      counted = omega (arith, ap length s, b.counted);
    }

module _ (s : Numbers) (f : AllFit s) where
  abbrev D : List ℕ
  D = numeral s.date

  abbrev T : List ℕ
  T = numeral s.time

  abbrev P : List ℕ
  P = numeral s.tsp

  abbrev B : List ℕ
  B = numeral s.base

  abbrev C : List ℕ
  C = numeral s.count

  abbrev body : List ℕ
  body = hello ++ space ∷ (D ++ space ∷ (T ++ space ∷ (P ++ space ∷ (B ++ space ∷ C))))

  small : (n k : ℕ) → n ≤ k → k < 10 ^ 10 → n < 10 ^ 10
  small n k h l = omega arith

  free_words : (mark : ℕ) → mark < 48 → Free mark D × Free mark T × Free mark P × Free mark B × Free mark C
  free_words mark h =
      (free_numeral mark s.date h (small _ _ f.date (omega arith)), free_numeral mark s.time h (small _ _ f.time (omega arith)), free_numeral mark s.tsp h (small _ _ f.tsp (omega arith)), free_numeral mark s.base h (small _ _ f.base (omega arith)), free_numeral mark s.count h (small _ _ f.count (omega arith)))

  first_words : words body ≡ hello ∷ D ∷ T ∷ P ∷ B ∷ C ∷ []
  first_words =
      let g = free_words space (omega arith) in
      cut_at space hello _ (free_hello space (omega arith))
      ∙ ap (λ ws. hello ∷ ws) (cut_at space D _ g.0
      ∙ ap (λ ws. D ∷ ws) (cut_at space T _ g.1
      ∙ ap (λ ws. T ∷ ws) (cut_at space P _ g.2
      ∙ ap (λ ws. P ∷ ws) (cut_at space B _ g.3
      ∙ ap (λ ws. B ∷ ws) (cut_free space C g.4)))))

  first_passes : pass first_tests (words body) ≡ true
  unfolding pass same
  first_passes =
      rw (first_words, numeral_good s.date (small _ _ f.date (omega arith)), numeral_good s.time (small _ _ f.time (omega arith)), numeral_good s.tsp (small _ _ f.tsp (omega arith)), numeral_good s.base (small _ _ f.base (omega arith)), numeral_good s.count (small _ _ f.count (omega arith)))

  body_free : Free newline body
  body_free =
      let g = free_words newline (omega arith) in
      let f₄ : Free newline (B ++ space ∷ C) = free_joined newline B (space ∷ C) g.3 (free_next C g.4) in
      let f₃ : Free newline (P ++ space ∷ (B ++ space ∷ C)) = free_joined newline P (space ∷ (B ++ space ∷ C)) g.2 (free_next (B ++ space ∷ C) f₄) in
      let f₂ : Free newline (T ++ space ∷ (P ++ space ∷ (B ++ space ∷ C))) = free_joined newline T (space ∷ (P ++ space ∷ (B ++ space ∷ C))) g.1 (free_next (P ++ space ∷ (B ++ space ∷ C)) f₃) in
      let f₁ : Free newline (D ++ space ∷ (T ++ space ∷ (P ++ space ∷ (B ++ space ∷ C)))) =
      free_joined newline D (space ∷ (T ++ space ∷ (P ++ space ∷ (B ++ space ∷ C)))) g.0 (free_next (T ++ space ∷ (P ++ space ∷ (B ++ space ∷ C))) f₂) in
      free_joined newline hello (space ∷ (D ++ space ∷ (T ++ space ∷ (P ++ space ∷ (B ++ space ∷ C))))) (free_hello newline (omega arith)) (free_next (D ++ space ∷ (T ++ space ∷ (P ++ space ∷ (B ++ space ∷ C)))) f₁)

  text_is : text_of s ≡ body ++ newline ∷ row_lines s.rows
  unfolding text_of
  text_is = simp append_assoc

  text_split : lines (text_of s) ≡ body ∷ lines (row_lines s.rows)
  text_split = ap lines text_is ∙ cut_at newline body (row_lines s.rows) body_free

  module _ (counts : s.count ≡ length s.rows) where
    abbrev ls : List (List ℕ)
    ls = lines (row_lines s.rows)

    count_back : value (word_at (words body) 5) ≡ s.count
    count_back = rw (first_words) (numeral_value s.count (small _ _ f.count (omega arith)))

    pub text_formed : form (text_of s) ≡ true
    text_formed =
        let b = rows_back s.rows f.rows in
        good_form (text_of s) body ls text_split first_passes b.formed s.count (omega (arith, b.counted)) (sym count_back)

    pub text_numbers : numbers_in (text_of s) ≡ s
    text_numbers =
        let b = rows_back s.rows f.rows in
        numbers_are (text_of s) body ls text_split
        ∙ rw (first_words, numeral_value s.date (small _ _ f.date (omega arith)), numeral_value s.time (small _ _ f.time (omega arith)), numeral_value s.tsp (small _ _ f.tsp (omega arith)), numeral_value s.base (small _ _ f.base (omega arith)), numeral_value s.count (small _ _ f.count (omega arith)), b.back)

-- ---- read, then written

abbrev joins : (mark : ℕ) → List (List ℕ) → List ℕ
joins mark [] = []
joins mark (w ∷ []) = w
joins mark (w ∷ v ∷ ws) = w ++ mark ∷ joins mark (v ∷ ws)

joins_ahead : (mark c : ℕ) (w : List ℕ) (ws : List (List ℕ)) → joins mark ((c ∷ w) ∷ ws) ≡ c ∷ joins mark (w ∷ ws)
joins_ahead mark c w [] = refl
joins_ahead mark c w (v ∷ ws) = refl

joins_cut : (mark : ℕ) (s : List ℕ) → joins mark (cut mark s) ≡ s
unfolding cut
joins_cut mark [] = refl
joins_cut mark (c ∷ s) =
    let p = cut_some mark s in
    let q : joins mark (p.first ∷ p.rest) ≡ s = ap (joins mark) (sym p.is) ∙ joins_cut mark s in
    rw p.is (go p.first p.rest q (eqb c mark) refl)
  where
    go : (w : List ℕ) (ws : List (List ℕ)) → joins mark (w ∷ ws) ≡ s → (b : Bool) → eqb c mark ≡ b
        → joins mark (cond b ([] ∷ w ∷ ws) (ahead (c ∷ []) (w ∷ ws))) ≡ c ∷ s
    go w ws q true e = rw q (ap (λ (x : ℕ). x ∷ s) (sym (eqb-true c mark e)))
    go w ws q false e = joins_ahead mark c w ws ∙ ap (λ (x : List ℕ). c ∷ x) q

record RowWords (ws : List (List ℕ)) : Type 0 where
  delay : List ℕ
  offset : List ℕ
  are : ws ≡ delay ∷ offset ∷ []
  delay_good : is_numeral delay ≡ true
  offset_good : is_signed offset ≡ true

row_words_are : (ws : List (List ℕ)) → pass row_tests ws ≡ true → RowWords ws
unfolding pass
row_words_are [] e = absurd (false≢true e)
row_words_are (d ∷ []) e = absurd (false≢true (both (is_numeral d) false e).1)
row_words_are (d ∷ o ∷ []) e =
    let p = both (is_numeral d) (is_signed o && true) e in
    record { delay = d; offset = o; are = refl; delay_good = p.0; offset_good = (both (is_signed o) true p.1).0 }
row_words_are (d ∷ o ∷ w ∷ ws) e = absurd (false≢true (both (is_signed o) false (both (is_numeral d) (is_signed o && false) e).1).1)

line_back : (line : List ℕ) → pass row_tests (words line) ≡ true → row_fits (row_in (words line)) ≡ true → row_line (row_in (words line)) ≡ line ++ newline ∷ []
line_back line e f =
    let p = row_words_are (words line) e in
    let j : p.delay ++ space ∷ p.offset ≡ line = ap (joins space) (sym p.are) ∙ joins_cut space line in
    let g : row_fits (record { delay = value p.delay; offset = signed_value p.offset }) ≡ true = rw p.are at f in
    let q = both (fits_two (value p.delay)) (fits_signed (signed_value p.offset)) g in
    let d = numeral_back p.delay p.delay_good (omega (arith, leb-true (value p.delay) 65535 q.0)) in
    let o = signed_back p.offset p.offset_good q.1 in
    rw (p.are, d, o, j)

lines_back : (ls : List (List ℕ)) → rows_form ls ≡ true → rows_fit (rows_in ls) ≡ true → row_lines (rows_in ls) ≡ joins newline ls
unfolding rows_form rows_in row_lines rows_fit
lines_back [] e f = absurd (false≢true e)
lines_back ([] ∷ []) e f = refl
lines_back ((c ∷ w) ∷ []) e f = absurd (false≢true e)
lines_back (line ∷ next ∷ rest) e f =
    let p = both (pass row_tests (words line)) (rows_form (next ∷ rest)) e in
    let q = both (row_fits (row_in (words line))) (rows_fit (rows_in (next ∷ rest))) f in
    rw (line_back line p.0 q.0, lines_back (next ∷ rest) p.1 q.1) (append_assoc line (newline ∷ []) (joins newline (next ∷ rest)))

record FirstWords (ws : List (List ℕ)) : Type 0 where
  d : List ℕ
  t : List ℕ
  p : List ℕ
  b : List ℕ
  c : List ℕ
  are : ws ≡ hello ∷ d ∷ t ∷ p ∷ b ∷ c ∷ []
  d_good : is_numeral d ≡ true
  t_good : is_numeral t ≡ true
  p_good : is_numeral p ≡ true
  b_good : is_numeral b ≡ true
  c_good : is_numeral c ≡ true

-- a test that a word passes, and those of the words behind it
record Next (t : Test) (ts : List Test) (ws : List (List ℕ)) : Type 0 where
  word : List ℕ
  rest : List (List ℕ)
  are : ws ≡ word ∷ rest
  passes : t word ≡ true
  others : pass ts rest ≡ true

next : (t : Test) (ts : List Test) (ws : List (List ℕ)) → pass (t ∷ ts) ws ≡ true → Next t ts ws
unfolding pass
next t ts [] e = absurd (false≢true e)
next t ts (w ∷ ws) e = let p = both (t w) (pass ts ws) e in record { word = w; rest = ws; are = refl; passes = p.0; others = p.1 }

none : (ws : List (List ℕ)) → pass [] ws ≡ true → ws ≡ []
unfolding pass
none [] e = refl
none (w ∷ ws) e = absurd (false≢true e)

first_words_are : (ws : List (List ℕ)) → pass first_tests ws ≡ true → FirstWords ws
first_words_are ws e =
    let n₀ = next (same hello) (is_numeral ∷ is_numeral ∷ is_numeral ∷ is_numeral ∷ is_numeral ∷ []) ws e in
    let n₁ = next is_numeral (is_numeral ∷ is_numeral ∷ is_numeral ∷ is_numeral ∷ []) n₀.rest n₀.others in
    let n₂ = next is_numeral (is_numeral ∷ is_numeral ∷ is_numeral ∷ []) n₁.rest n₁.others in
    let n₃ = next is_numeral (is_numeral ∷ is_numeral ∷ []) n₂.rest n₂.others in
    let n₄ = next is_numeral (is_numeral ∷ []) n₃.rest n₃.others in
    let n₅ = next is_numeral [] n₄.rest n₄.others in
    record {
      d = n₁.word;
      t = n₂.word;
      p = n₃.word;
      b = n₄.word;
      c = n₅.word;
      are = n₀.are
          ∙ ap (λ ws. n₀.word ∷ ws) (n₁.are
          ∙ ap (λ ws. n₁.word ∷ ws) (n₂.are
          ∙ ap (λ ws. n₂.word ∷ ws) (n₃.are
          ∙ ap (λ ws. n₃.word ∷ ws) (n₄.are
          ∙ ap (λ ws. n₄.word ∷ ws) (n₅.are
          ∙ ap (λ ws. n₅.word ∷ ws) (none n₅.rest n₅.others))))))
          ∙ ap (λ w. w ∷ n₁.word ∷ n₂.word ∷ n₃.word ∷ n₄.word ∷ n₅.word ∷ []) (sym (same_is hello n₀.word n₀.passes));
      d_good = n₁.passes;
      t_good = n₂.passes;
      p_good = n₃.passes;
      b_good = n₄.passes;
      c_good = n₅.passes;
    }

-- the first line of five words
abbrev line_of : (d t p b c : List ℕ) → List ℕ
line_of d t p b c = hello ++ space ∷ d ++ space ∷ t ++ space ∷ p ++ space ∷ b ++ space ∷ c ++ newline ∷ []

line_of_lem : (d t p b c : List ℕ) → line_of d t p b c ≡ (hello ++ space ∷ (d ++ space ∷ (t ++ space ∷ (p ++ space ∷ (b ++ space ∷ c))))) ++ newline ∷ []
line_of_lem d t p b c = simp append_assoc

abbrev numbers_at : List (List ℕ) → List Row → Numbers
numbers_at ws rows =
    record {
      date = value (word_at ws 1);
      time = value (word_at ws 2);
      tsp = value (word_at ws 3);
      base = value (word_at ws 4);
      count = value (word_at ws 5);
      rows = rows;
    }

module _ {ws : List (List ℕ)} (w : FirstWords ws) (rows : List Row) where
  abbrev written : Numbers
  written =
      record {
        date = value w.d;
        time = value w.t;
        tsp = value w.p;
        base = value w.b;
        count = value w.c;
        rows = rows;
      }

  numbers_written : ◌≡◌ {A = Numbers} (numbers_at ws rows) written
  numbers_written = ap (λ (z : List (List ℕ)). numbers_at z rows) w.are

  first_back : AllFit written
      → first_line written ≡ (hello ++ space ∷ (w.d ++ space ∷ (w.t ++ space ∷ (w.p ++ space ∷ (w.b ++ space ∷ w.c))))) ++ newline ∷ []
  first_back a =
      let d = numeral_back w.d w.d_good (omega (arith, a.date)) in
      let t = numeral_back w.t w.t_good (omega (arith, a.time)) in
      let p = numeral_back w.p w.p_good (omega (arith, a.tsp)) in
      let b = numeral_back w.b w.b_good (omega (arith, a.base)) in
      let c = numeral_back w.c w.c_good (omega (arith, a.count)) in
      ap (λ x. line_of x (numeral (value w.t)) (numeral (value w.p)) (numeral (value w.b)) (numeral (value w.c))) d
      ∙ ap (λ x. line_of w.d x (numeral (value w.p)) (numeral (value w.b)) (numeral (value w.c))) t
      ∙ ap (λ x. line_of w.d w.t x (numeral (value w.b)) (numeral (value w.c))) p
      ∙ ap (λ x. line_of w.d w.t w.p x (numeral (value w.c))) b
      ∙ ap (λ x. line_of w.d w.t w.p w.b x) c
      ∙ line_of_lem w.d w.t w.p w.b w.c

-- rows are never without a last piece
joins_more : (line : List ℕ) (ls : List (List ℕ)) → rows_form ls ≡ true → line ++ newline ∷ [] ++ joins newline ls ≡ joins newline (line ∷ ls)
unfolding rows_form
joins_more line [] e = absurd (false≢true e)
joins_more line (l ∷ ls) e = append_assoc line (newline ∷ []) (joins newline (l ∷ ls))

pub record Formed (text : List ℕ) : Type 0 where
  pub line : List ℕ
  pub ls : List (List ℕ)
  pub split : lines text ≡ line ∷ ls
  pub first : pass first_tests (words line) ≡ true
  pub rows : rows_form ls ≡ true
  pub count : length ls ≡ value (word_at (words line) 5) + 1

pub formed : (text : List ℕ) → form text ≡ true → Formed text
unfolding form
formed text e =
    let m = cut_some newline text in
    let g : (pass first_tests (words m.first) && rows_form m.rest && eqb (length m.rest) (value (word_at (words m.first) 5) + 1)) ≡ true = rw m.is at e in
    let g₁ = both (pass first_tests (words m.first) && rows_form m.rest) (eqb (length m.rest) (value (word_at (words m.first) 5) + 1)) g in
    let g₂ = both (pass first_tests (words m.first)) (rows_form m.rest) g₁.0 in
    record { line = m.first; ls = m.rest; split = m.is; first = g₂.0; rows = g₂.1; count = eqb-true _ _ g₁.1 }

-- the rows are as many as N says
pub text_counts : (text : List ℕ) → form text ≡ true → (numbers_in text).count ≡ length (numbers_in text).rows
text_counts text e =
    let g = formed text e in
    rw (numbers_are text g.line g.ls g.split) (sym (rows_counted g.ls (value (word_at (words g.line) 5)) (sym g.count)))

pub text_back : (text : List ℕ) → form text ≡ true → numbers_fit (numbers_in text) ≡ true → text_of (numbers_in text) ≡ text
unfolding text_of
text_back text e f =
    let g = formed text e in
    let line = g.line in
    let ls = g.ls in
    let w = first_words_are (words line) g.first in
    let n : numbers_in text ≡ written w (rows_in ls) = numbers_are text line ls g.split ∙ numbers_written w (rows_in ls) in
    let a : AllFit (written w (rows_in ls)) = all_fit (written w (rows_in ls)) (ap numbers_fit (sym n) ∙ f) in
    let j : hello ++ space ∷ (w.d ++ space ∷ (w.t ++ space ∷ (w.p ++ space ∷ (w.b ++ space ∷ w.c)))) ≡ line = ap (joins space) (sym w.are) ∙ joins_cut space line in
    let k : joins newline (line ∷ ls) ≡ text = ap (joins newline) (sym g.split) ∙ joins_cut newline text in
    let h : first_line (written w (rows_in ls)) ≡ line ++ newline ∷ [] = first_back w (rows_in ls) a ∙ ap (λ (x : List ℕ). x ++ newline ∷ []) j in
    ap (λ (s : Numbers). first_line s ++ row_lines s.rows) n
    ∙ ap (λ (x : List ℕ). x ++ row_lines (rows_in ls)) h
    ∙ ap (λ (x : List ℕ). line ++ newline ∷ [] ++ x) (lines_back ls g.rows a.rows)
    ∙ joins_more line ls g.rows
    ∙ k
