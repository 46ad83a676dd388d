-- One octet more: the tests of the rest of a text before it are those that the code keeps after it.
use mathlib.Core.Path.{◌≡◌, refl, sym, ap, ◌∙◌}
use mathlib.Core.Bool.{Bool, true, false, cond, not, ◌&&◌, true≢false}
use mathlib.Core.List.{List, [], ◌∷◌}
use Prim.Native.Nat.{ℕ, ◌+◌, ◌-◌, ◌*◌, ◌^◌, ◌≤◌}
use native.Mathlib.Nat.{one-le-mul, one-le-pow}
use native.Mathlib.Omega.{arith}
use borrow.Author.Tests.{eqb-true, eq-eqb, ne_eqb, leb-true}
use lib.Dec.{eqb, leb}
use lib.ListN.{length}
use Rattle.lists.proofs.Tests.{both}
use Rattle.text.specs.declared.pieces.Rest.{Rest}
use Rattle.text.specs.Numerals.{zero_sign, nine_sign, minus_sign, is_digit, all_digits, is_numeral, is_signed, value}
use Rattle.text.specs.Words.{same}
use Rattle.text.specs.code.Pieces.{rest_test, is_positive}
use Rattle.text.specs.code.Turns.{complete, letter, number_start, signed_start, positive_start, digit, narrow}
use Rattle.text.proofs.Readings.{and_true}

-- ---- the rest of a word

pub may_end : (r : Rest) → rest_test r [] ≡ complete r
unfolding rest_test same is_numeral is_signed all_digits
may_end Rest.Hello = refl
may_end Rest.Ello = refl
may_end Rest.Llo = refl
may_end Rest.Lo = refl
may_end Rest.O = refl
may_end Rest.Number = refl
may_end Rest.Signed = refl
may_end Rest.Positive = refl
may_end Rest.Digits = refl
may_end Rest.Empty = refl
may_end Rest.Refused = refl

after_letter : (x c : ℕ) (xs w : List ℕ) (next : Rest) → rest_test next ≡ same xs → same (x ∷ xs) (c ∷ w) ≡ rest_test (letter c x next) w
unfolding rest_test same
after_letter x c xs w next e = go (eqb c x)
  where
    go : (b : Bool) → (b && same xs w) ≡ rest_test (cond b next Rest.Refused) w
    go true = rw e
    go false = refl

after_start : (c : ℕ) (w : List ℕ) → is_numeral (c ∷ w) ≡ rest_test (number_start c) w
unfolding rest_test same is_numeral all_digits
after_start c [] = go (is_digit c) (eqb c zero_sign)
  where
    go : (b z : Bool) → b ≡ rest_test (cond b (cond z Rest.Empty Rest.Digits) Rest.Refused) []
    go true true = refl
    go true false = refl
    go false z = refl
after_start c (d ∷ w) = go (is_digit c) (eqb c zero_sign)
  where
    go : (b z : Bool) → (not z && (b && all_digits (d ∷ w))) ≡ rest_test (cond b (cond z Rest.Empty Rest.Digits) Rest.Refused) (d ∷ w)
    go true true = refl
    go true false = refl
    go false true = refl
    go false false = refl

after_sign : (c : ℕ) (w : List ℕ) → is_signed (c ∷ w) ≡ rest_test (signed_start c) w
unfolding rest_test is_signed
after_sign c w = go (eqb c minus_sign)
  where
    go : (b : Bool) → cond b (is_positive w) (is_numeral (c ∷ w)) ≡ rest_test (cond b Rest.Positive (number_start c)) w
    go true = refl
    go false = after_start c w

after_digit : (c : ℕ) (w : List ℕ) → all_digits (c ∷ w) ≡ rest_test (digit c) w
unfolding rest_test all_digits
after_digit c w = go (is_digit c)
  where
    go : (b : Bool) → (b && all_digits w) ≡ rest_test (cond b Rest.Digits Rest.Refused) w
    go true = refl
    go false = refl

-- a numeral that begins with another digit than zero is not zero
positive_value : (c : ℕ) (w : List ℕ) → is_digit c ≡ true → (c ≡ zero_sign → ⊥) → eqb (value (c ∷ w)) 0 ≡ false
unfolding value
positive_value c w d h =
    let l = leb-true zero_sign c (both (leb zero_sign c) (leb c nine_sign) d).0 in
    let k : 1 ≤ c - zero_sign = omega arith in
    ne_eqb _ 0 (λ e. go (c - zero_sign) (10 ^ length w) (value w) k (one-le-pow (length w) 10 (omega arith)) e)
  where
    go : (d p v : ℕ) → 1 ≤ d → 1 ≤ p → d * p + v ≡ 0 → ⊥
    go d p v k q e = let z = one-le-mul k q in omega arith

zero_is : (w : List ℕ) → is_positive (zero_sign ∷ w) ≡ false
unfolding is_numeral value
zero_is [] = refl
zero_is (d ∷ w) = refl

after_positive : (c : ℕ) (w : List ℕ) → is_positive (c ∷ w) ≡ rest_test (positive_start c) w
unfolding rest_test
after_positive c w = go (eqb c zero_sign) refl (is_digit c) refl
  where
    go : (z : Bool) → eqb c zero_sign ≡ z → (b : Bool) → is_digit c ≡ b → is_positive (c ∷ w) ≡ rest_test (cond z Rest.Refused (number_start c)) w
    go true e b q = rw (eqb-true c zero_sign e) (zero_is w)
    go false e true q =
        let z = positive_value c w q (λ k. true≢false (sym (eq-eqb c zero_sign k) ∙ e)) in
        ap (λ (t : Bool). is_numeral (c ∷ w) && not t) z ∙ and_true (is_numeral (c ∷ w)) ∙ after_start c w
    go false e false q =
        let n : is_numeral (c ∷ w) ≡ false = after_start c w ∙ rw q in
        ap (λ (t : Bool). t && not (eqb (value (c ∷ w)) 0)) n ∙ sym n ∙ after_start c w

pub after_octet : (r : Rest) (c : ℕ) (w : List ℕ) → rest_test r (c ∷ w) ≡ rest_test (narrow r c) w
unfolding rest_test same
after_octet Rest.Hello c w = after_letter 104 c (101 ∷ 108 ∷ 108 ∷ 111 ∷ []) w Rest.Ello refl
after_octet Rest.Ello c w = after_letter 101 c (108 ∷ 108 ∷ 111 ∷ []) w Rest.Llo refl
after_octet Rest.Llo c w = after_letter 108 c (108 ∷ 111 ∷ []) w Rest.Lo refl
after_octet Rest.Lo c w = after_letter 108 c (111 ∷ []) w Rest.O refl
after_octet Rest.O c w = after_letter 111 c [] w Rest.Empty refl
after_octet Rest.Number c w = after_start c w
after_octet Rest.Signed c w = after_sign c w
after_octet Rest.Positive c w = after_positive c w
after_octet Rest.Digits c w = after_digit c w
after_octet Rest.Empty c w = refl
after_octet Rest.Refused c w = refl

pub start_octet : (c : ℕ) (w : List ℕ) → is_numeral (c ∷ w) ≡ rest_test (number_start c) w
start_octet = after_start
