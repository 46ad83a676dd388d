-- What is told of words: of one that is no number, of a number behind a sign, and of a field with more behind it.
use mathlib.Core.Path.{◌≡◌, refl, sym, ◌∙◌}
use mathlib.Core.Bool.{Bool, true, false, not, ◌&&◌}
use mathlib.Core.List.{List, [], ◌∷◌}
use Prim.Native.Nat.{ℕ, ◌-◌, ◌<◌}
use native.Mathlib.Omega.{arith}
use borrow.Author.Tests.{eq-eqb, ne_eqb}
use lib.Dec.{eqb}
use lib.ListN.{length, get_or, take, drop, length-drop}
use lib.Seq.{take_all}
use Rattle.std.specs.Prelude.{Option, None, Some}
use Rattle.text.specs.Numerals.{zero_sign, minus_sign, is_digit, all_digits, is_numeral, is_signed, value}
use Rattle.text.specs.Words.{space, words, Test, pass}
use Rattle.text.specs.code.Scan.{Stands, NumberRead, Signed, NoField, Field, CutAt}

-- ---- a word that is no number, and one of which only the test is another

pub same_test : (t u : Test) (s : List ℕ) (r : Option ℕ) → t s ≡ u s → NumberRead t s r → NumberRead u s r
same_test t u s None e n = sym e ∙ n
same_test t u s (Some r) e n = (sym e ∙ n.0, n.1)

pub nothing : (s : List ℕ) → length s ≡ 0 → is_numeral s ≡ false
unfolding is_numeral
nothing [] e = refl
nothing (c ∷ s) e = absurd (omega arith)

pub and_true : (b : Bool) → (b && true) ≡ b
and_true true = refl
and_true false = refl

pub and_false : (b : Bool) → (b && false) ≡ false
and_false true = refl
and_false false = refl

pub one_digit : (s : List ℕ) → length s ≡ 1 → all_digits s ≡ is_numeral s
unfolding all_digits is_numeral
one_digit [] e = absurd (omega arith)
one_digit (c ∷ []) e = and_true (is_digit c)
one_digit (c ∷ d ∷ s) e = absurd (omega arith)

pub zero_ahead : (s : List ℕ) → 1 < length s → get_or s 0 0 ≡ zero_sign → is_numeral s ≡ false
unfolding is_numeral
zero_ahead [] h e = absurd (omega arith)
zero_ahead (c ∷ []) h e = absurd (omega arith)
zero_ahead (c ∷ d ∷ s) h e = rw (eq-eqb c zero_sign e)

pub many_digits : (s : List ℕ) → 1 < length s → (get_or s 0 0 ≡ zero_sign → ⊥) → all_digits s ≡ is_numeral s
unfolding is_numeral
many_digits [] h e = absurd (omega arith)
many_digits (c ∷ []) h e = absurd (omega arith)
many_digits (c ∷ d ∷ s) h e = rw (ne_eqb c zero_sign e)

-- ---- a number with a sign

pub from_on : (k : ℕ) (s : List ℕ) → take (length s - k) (drop k s) ≡ drop k s
from_on k s = take_all (length s - k) (drop k s) (rw length-drop (omega arith))

pub empty_offset : (s : List ℕ) → length s ≡ 0 → is_signed s ≡ false
unfolding is_signed is_numeral
empty_offset [] e = refl
empty_offset (c ∷ s) e = absurd (omega arith)

signed_minus : (s : List ℕ) → get_or s 0 0 ≡ minus_sign → is_signed s ≡ (is_numeral (drop 1 s) && not (eqb (value (drop 1 s)) 0))
unfolding is_signed
signed_minus s e = rw (eq-eqb (get_or s 0 0) minus_sign e)

-- what stands for zero, and what does not
zero_stands : (r n : ℕ) → Stands r n → r ≡ 0 → n ≡ 0
zero_stands r n s e = omega arith

not_zero_stands : (r n : ℕ) → Stands r n → (r ≡ 0 → ⊥) → n ≡ 0 → ⊥
not_zero_stands r n s h e = h (omega arith)

-- a minus ahead of a word that is no number, of zero, or of another number
pub minus_none : (s : List ℕ) → get_or s 0 0 ≡ minus_sign → is_numeral (drop 1 s) ≡ false → is_signed s ≡ false
minus_none s e f = signed_minus s e ∙ rw f

pub minus_zero : (s : List ℕ) (n : ℕ) → get_or s 0 0 ≡ minus_sign → n ≡ 0 → Stands n (value (drop 1 s)) → is_signed s ≡ false
minus_zero s n e z r = signed_minus s e ∙ rw (eq-eqb _ _ (zero_stands _ _ r z)) (and_false (is_numeral (drop 1 s)))

pub minus_offset : (s : List ℕ) (n : ℕ) → get_or s 0 0 ≡ minus_sign → (n ≡ 0 → ⊥) → is_numeral (drop 1 s) ≡ true → Stands n (value (drop 1 s))
    → Signed s (record { negative = true; size = n })
minus_offset s n e z t r =
    let m = eq-eqb (get_or s 0 0) minus_sign e in
    record { signed = signed_minus s e ∙ rw (t, ne_eqb _ _ (not_zero_stands _ _ r z)); sign = sym m; number = rw m r }

pub plain_none : (s : List ℕ) → (get_or s 0 0 ≡ minus_sign → ⊥) → is_numeral s ≡ false → is_signed s ≡ false
unfolding is_signed
plain_none s h e = rw (ne_eqb (get_or s 0 0) minus_sign h, e)

pub plain_offset : (s : List ℕ) (n : ℕ) → (get_or s 0 0 ≡ minus_sign → ⊥) → is_numeral s ≡ true → Stands n (value s)
    → Signed s (record { negative = false; size = n })
unfolding is_signed
plain_offset s n h t r =
    let m = ne_eqb (get_or s 0 0) minus_sign h in
    record { signed = rw (m, t); sign = sym m; number = rw m r }

-- ---- a field with more behind it

pub field_none : (s : List ℕ) → words s ≡ s ∷ [] → NoField s
unfolding pass
field_none s e t ts = rw e (and_false (is_numeral s))

pub field_bad : {s word rest : List ℕ} → CutAt space s word rest → is_numeral word ≡ false → NoField s
unfolding pass
field_bad f e t ts = rw (f.split, e)

pub field_there : {s word rest : List ℕ} (n : ℕ) → CutAt space s word rest → is_numeral word ≡ true → Stands n (value word) → Field s n rest
field_there {s} {word} n f t r = record { word = word; split = f.split; numeral = t; number = r }

-- a field that passes takes a test and a word off
pub field_passes : {s rest : List ℕ} {n : ℕ} (ts : List Test) → Field s n rest → pass (is_numeral ∷ ts) (words s) ≡ pass ts (words rest)
unfolding pass
field_passes ts g = rw (g.split, g.numeral)
