-- Words without a mark in them are one piece: digits, numerals and signed numerals hold no space and no newline.
use mathlib.Core.Path.{◌≡◌, refl, ◌∙◌}
use mathlib.Core.Bool.{Bool, true, false, cond, not, ◌&&◌, false≢true}
use mathlib.Core.List.{List, [], ◌∷◌, ◌++◌}
use Prim.Native.Nat.{ℕ, ◌<◌}
use native.Mathlib.Omega.{arith}
use borrow.Author.Tests.{leb-true, eqb-true, eq-eqb, ne_eqb}
use lib.Dec.{eqb, leb}
use Rattle.lists.proofs.Tests.{both}
use Rattle.text.specs.Numerals.{zero_sign, nine_sign, minus_sign, is_digit, all_digits, is_numeral, is_signed, value}
use Rattle.text.specs.Words.{space, cut, words, Test, pass}
use Rattle.text.proofs.Cuts.{cut_some}
use Rattle.text.proofs.Readings.{and_true, and_false}

abbrev pub Free : (mark : ℕ) → List ℕ → Type 0
Free mark [] = Unit {0}
Free mark (c ∷ s) = (c ≡ mark → ⊥) × Free mark s

pub cut_free : (mark : ℕ) (s : List ℕ) → Free mark s → cut mark s ≡ s ∷ []
unfolding cut
cut_free mark [] f = refl
cut_free mark (c ∷ s) f = rw (ne_eqb c mark f.0, cut_free mark s f.1)

pub cut_at : (mark : ℕ) (s t : List ℕ) → Free mark s → cut mark (s ++ mark ∷ t) ≡ s ∷ cut mark t
unfolding cut
cut_at mark [] t f = rw (eq-eqb mark mark refl)
cut_at mark (c ∷ s) t f = rw (ne_eqb c mark f.0, cut_at mark s t f.1)

pub digits_free : (mark : ℕ) (s : List ℕ) → mark < zero_sign → all_digits s ≡ true → Free mark s
unfolding all_digits
digits_free mark [] h e = tt
digits_free mark (c ∷ s) h e =
    let p = both (is_digit c) (all_digits s) e in
    let l = leb-true zero_sign c (both (leb zero_sign c) (leb c nine_sign) p.0).0 in
    ((λ q. omega arith), digits_free mark s h p.1)

pub numeral_digits : (s : List ℕ) → is_numeral s ≡ true → all_digits s ≡ true
unfolding is_numeral all_digits
numeral_digits [] e = absurd (false≢true e)
numeral_digits (c ∷ []) e = and_true (is_digit c) ∙ e
numeral_digits (c ∷ d ∷ s) e = (both (not (eqb c zero_sign)) (all_digits (c ∷ d ∷ s)) e).1

pub numeral_free : (mark : ℕ) (s : List ℕ) → mark < zero_sign → is_numeral s ≡ true → Free mark s
numeral_free mark s h e = digits_free mark s h (numeral_digits s e)

pub signed_free : (mark : ℕ) (s : List ℕ) → mark < minus_sign → is_signed s ≡ true → Free mark s
unfolding is_signed is_numeral
signed_free mark [] h e = tt
signed_free mark (c ∷ s) h e = go (eqb c minus_sign) refl e
  where
    go : (b : Bool) → eqb c minus_sign ≡ b → cond b (is_numeral s && not (eqb (value s) 0)) (is_numeral (c ∷ s)) ≡ true → Free mark (c ∷ s)
    go true q t =
        let m = eqb-true c minus_sign q in
        ((λ k. omega arith), numeral_free mark s (omega arith) (both (is_numeral s) (not (eqb (value s) 0)) t).0)
    go false q t = numeral_free mark (c ∷ s) (omega arith) t

-- ---- the last word of a line: it is all that is left

-- one piece, or more than one
data Pieces (mark : ℕ) (s : List ℕ) : Type 0 where
  one : cut mark s ≡ s ∷ [] → Pieces mark s
  more : (w v : List ℕ) (ws : List (List ℕ)) → cut mark s ≡ w ∷ v ∷ ws → Pieces mark s

pieces : (mark : ℕ) (s : List ℕ) → Pieces mark s
unfolding cut
pieces mark [] = one refl
pieces mark (c ∷ s) = go (eqb c mark) refl (pieces mark s)
  where
    go : (b : Bool) → eqb c mark ≡ b → Pieces mark s → Pieces mark (c ∷ s)
    go true q p = let r = cut_some mark s in more [] r.first r.rest (rw (q, r.is))
    go false q (one e) = one (rw (q, e))
    go false q (more w v ws e) = more (c ∷ w) v ws (rw (q, e))

pub last_word : (t : Test) → ((s : List ℕ) → t s ≡ true → Free space s) → (s : List ℕ) → pass (t ∷ []) (words s) ≡ t s
unfolding pass
last_word t f s = go (t s) refl (pieces space s)
  where
    go : (b : Bool) → t s ≡ b → Pieces space s → pass (t ∷ []) (words s) ≡ t s
    go b q (one e) = rw e (and_true (t s))
    go true q (more w v ws e) = rw (cut_free space s (f s q)) (and_true (t s))
    go false q (more w v ws e) = rw (e, q) (and_false (t w))
