-- The number that digits stand for, digit by digit from the left; and words of the same characters.
use mathlib.Core.Path.{◌≡◌, refl, sym, ap, ◌∙◌}
use mathlib.Core.Bool.{Bool, true, false, ◌&&◌, true≢false}
use mathlib.Core.List.{List, [], ◌∷◌, ◌++◌}
use Prim.Native.Nat.{ℕ, suc, ◌+◌, ◌-◌, ◌*◌, ◌^◌, ◌≤◌, ◌<◌}
use native.Mathlib.Nat.{pow-suc}
use native.Mathlib.Numerals.{add-one}
use native.Mathlib.Omega.{arith}
use borrow.Author.Tests.{le-leb, eqb-true}
use lib.Dec.{eqb}
use lib.Pointwise.{pointwise}
use lib.ListN.{length, get_or, take, drop, length-append, drop_of_length-le}
use lib.Seq.{drop-cons, take-suc}
use Rattle.lists.proofs.Tests.{both}
use Rattle.text.specs.Numerals.{zero_sign, nine_sign, is_digit, all_digits, value}
use Rattle.text.specs.Words.{same}

pub value_snoc : (xs : List ℕ) (c : ℕ) → value (xs ++ c ∷ []) ≡ value xs * 10 + (c - zero_sign)
unfolding value
value_snoc [] c = omega arith
value_snoc (x ∷ xs) c =
    let e = value_snoc xs c in
    let l : length (xs ++ c ∷ []) ≡ suc (length xs) = length-append xs (c ∷ []) ∙ add-one (length xs) in
    rw (l, e) (go (x - zero_sign) (10 ^ length xs) (10 ^ suc (length xs)) (value xs) (c - zero_sign) (pow-suc 10 (length xs)))
  where
    go : (d p q v e : ℕ) → q ≡ p * 10 → d * q + (v * 10 + e) ≡ (d * p + v) * 10 + e
    go d p q v e r = rw r (omega arith)

-- ---- digits, from the left

pub digit_good : (c : ℕ) → zero_sign ≤ c → c ≤ nine_sign → is_digit c ≡ true
digit_good c h k = rw (le-leb zero_sign c h, le-leb c nine_sign k)

module _ (s : List ℕ) (i : ℕ) (h : i < length s) where
  rest : drop i s ≡ get_or s i 0 ∷ drop (i + 1) s
  rest = rw (add-one, drop-cons s i 0 h)

  pub digits_more : is_digit (get_or s i 0) ≡ true → all_digits (drop i s) ≡ all_digits (drop (i + 1) s)
  unfolding all_digits
  digits_more e = rw (rest, e)

  pub digits_stop : is_digit (get_or s i 0) ≡ false → all_digits (drop i s) ≡ false
  unfolding all_digits
  digits_stop e = rw (rest, e)

  pub value_more : value (take (i + 1) s) ≡ value (take i s) * 10 + (get_or s i 0 - zero_sign)
  value_more = rw (add-one, take-suc s i 0 h) (value_snoc (take i s) (get_or s i 0))

pub digits_end : (s : List ℕ) (i : ℕ) → length s ≤ i → all_digits (drop i s) ≡ true
unfolding all_digits
digits_end s i h = rw (drop_of_length-le s h)

-- ---- the same characters

pub so_not : (b : Bool) → (b ≡ true → ⊥) → b ≡ false
so_not true h = absurd (h refl)
so_not false h = refl

pub same_is : (xs ys : List ℕ) → same xs ys ≡ true → xs ≡ ys
unfolding same
same_is [] [] e = refl
same_is [] (y ∷ ys) e = absurd (true≢false (sym e))
same_is (x ∷ xs) [] e = absurd (true≢false (sym e))
same_is (x ∷ xs) (y ∷ ys) e =
    let p = both (eqb y x) (same xs ys) e in
    let q : y ≡ x = eqb-true y x p.0 in
    let r = same_is xs ys p.1 in
    cc

pub same_pointwise : (xs ys : List ℕ) → same xs ys ≡ pointwise eqb ys xs
unfolding same
same_pointwise [] [] = refl
same_pointwise [] (y ∷ ys) = refl
same_pointwise (x ∷ xs) [] = refl
same_pointwise (x ∷ xs) (y ∷ ys) = ap (λ (b : Bool). eqb y x && b) (same_pointwise xs ys)
