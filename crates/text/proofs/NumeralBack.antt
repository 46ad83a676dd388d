-- Numerals there and back: digits hold their number, and no two numerals have one value, since the longer has the larger.
use mathlib.Core.Path.{◌≡◌, refl, sym, ap, ◌∙◌}
use mathlib.Core.Bool.{Bool, true, false, cond, not, ◌&&◌, false≢true}
use mathlib.Core.List.{List, [], ◌∷◌, ◌++◌}
use Prim.Native.Nat.{ℕ, zero, suc, ◌+◌, ◌-◌, ◌*◌, ◌/◌, ◌%◌, ◌^◌, ◌≤◌, ◌<◌}
use native.Mathlib.Nat.{pow-suc, pow-le-pow_right, mul-le-mul_right}
use native.Mathlib.Omega.{arith}
use borrow.Author.Tests.{leb-true, ltb-true, ltb-false, eqb-true, eqb-false, ne_eqb, not-true}
use lib.Dec.{leb, ltb, eqb}
use lib.IntN.{ℤ, pos, negsuc, neg_ℤ}
use lib.ListN.{length, get_or, get_or-append}
use Rattle.lists.proofs.Tests.{both}
use Rattle.text.specs.Numerals.{zero_sign, nine_sign, minus_sign, digits, width, numeral, signed_numeral, is_digit, all_digits, is_numeral, value, is_negative, is_signed, signed_value}
use Rattle.text.specs.Numbers.{fits_signed}
use Rattle.text.proofs.Puts.{digits_length}
use Rattle.text.proofs.Widths.{Held, width_held}
use Rattle.text.proofs.Values.{value_snoc, digit_good}
use Rattle.text.proofs.Readings.{one_digit, many_digits}
use Rattle.text.proofs.Frees.{numeral_digits}
use Rattle.text.proofs.Ranges.{size_fits}

-- ---- written, then read

digits_value : (k n : ℕ) → n < 10 ^ k → value (digits k n) ≡ n
unfolding digits value
digits_value zero n h = omega arith
digits_value (suc k) n h =
    let p = pow-suc 10 k in
    value_snoc (digits k (n / 10)) (zero_sign + n % 10) ∙ rw (digits_value k (n / 10) (omega arith)) (omega arith)

all_snoc : (xs : List ℕ) (c : ℕ) → all_digits xs ≡ true → is_digit c ≡ true → all_digits (xs ++ c ∷ []) ≡ true
unfolding all_digits
all_snoc [] c e q = rw q
all_snoc (x ∷ xs) c e q = let p = both (is_digit x) (all_digits xs) e in rw p.0 (all_snoc xs c p.1 q)

digits_all : (k n : ℕ) → all_digits (digits k n) ≡ true
unfolding digits all_digits
digits_all zero n = refl
digits_all (suc k) n =
    all_snoc (digits k (n / 10)) (zero_sign + n % 10) (digits_all k (n / 10)) (digit_good (zero_sign + n % 10) (omega arith) (omega arith))

digits_lead : (k n : ℕ) → 10 ^ k ≤ n → n < 10 ^ suc k → get_or (digits (suc k) n) 0 0 ≡ zero_sign → ⊥
unfolding digits
digits_lead zero n h l e = omega arith
digits_lead (suc k) n h l e =
    let p = pow-suc 10 k in
    let q = pow-suc 10 (suc k) in
    let d = digits_length (suc k) (n / 10) in
    digits_lead k (n / 10) (omega arith) (omega arith) (sym (get_or-append (digits (suc k) (n / 10)) ((zero_sign + n % 10) ∷ []) 0 0 (omega arith)) ∙ e)

digits_numeral : (w n : ℕ) → Held n w → n < 10 ^ 10 → is_numeral (digits w n) ≡ true
digits_numeral zero n h l = absurd (omega (arith, h.some))
digits_numeral (suc zero) n h l = sym (one_digit (digits 1 n) (digits_length 1 n)) ∙ digits_all 1 n
digits_numeral (suc (suc k)) n h l =
    let e : suc (suc k) - 1 ≡ suc k = omega arith in
    let low : 10 ^ suc k ≤ n = rw e at (h.fewest (omega arith)) in
    let s = digits (suc (suc k)) n in
    sym (many_digits s (omega (arith, digits_length (suc (suc k)) n)) (digits_lead (suc k) n low (h.enough l))) ∙ digits_all (suc (suc k)) n

pub numeral_good : (n : ℕ) → n < 10 ^ 10 → is_numeral (numeral n) ≡ true
numeral_good n h = digits_numeral (width n) n (width_held n) h

pub numeral_value : (n : ℕ) → n < 10 ^ 10 → value (numeral n) ≡ n
numeral_value n h = digits_value (width n) n ((width_held n).enough h)

-- ---- read, then written

digit_from : (c : ℕ) → is_digit c ≡ true → (zero_sign ≤ c) × (c ≤ nine_sign)
digit_from c e = let p = both (leb zero_sign c) (leb c nine_sign) e in (leb-true zero_sign c p.0, leb-true c nine_sign p.1)

value_below : (s : List ℕ) → all_digits s ≡ true → value s < 10 ^ length s
unfolding value all_digits
value_below [] e = omega arith
value_below (c ∷ s) e =
    let p = both (is_digit c) (all_digits s) e in
    let d = digit_from c p.0 in
    let l : c - zero_sign ≤ 9 = omega arith in
    omega (arith, value_below s p.1, mul-le-mul_right (10 ^ length s) l, pow-suc 10 (length s))

value_above : (s : List ℕ) → is_numeral s ≡ true → 1 < length s → 10 ^ (length s - 1) ≤ value s
unfolding value is_numeral all_digits
value_above [] e h = absurd (omega arith)
value_above (c ∷ []) e h = absurd (omega arith)
value_above (c ∷ d ∷ s) e h =
    let p = both (not (eqb c zero_sign)) (is_digit c && all_digits (d ∷ s)) e in
    let q = digit_from c (both (is_digit c) (all_digits (d ∷ s)) p.1).0 in
    let z = eqb-false c zero_sign (not-true (eqb c zero_sign) p.0) in
    let l : 1 ≤ c - zero_sign = omega (arith, z) in
    let n : suc (suc (length s)) - 1 ≡ suc (length s) = omega arith in
    rw n (omega (arith, mul-le-mul_right (10 ^ suc (length s)) l))

head_is : (d e p v w : ℕ) → v < p → w < p → d * p + v ≡ e * p + w → d ≡ e
head_is d e p v w hv hw q = go (ltb d e) refl (ltb e d) refl
  where
    go : (a : Bool) → ltb d e ≡ a → (b : Bool) → ltb e d ≡ b → d ≡ e
    go true x b y = absurd (omega (arith, mul-le-mul_right p (ltb-true d e x)))
    go false x true y = absurd (omega (arith, mul-le-mul_right p (ltb-true e d y)))
    go false x false y = omega (arith, ltb-false d e x, ltb-false e d y)

same_digits : (xs ys : List ℕ) → all_digits xs ≡ true → all_digits ys ≡ true → length xs ≡ length ys → value xs ≡ value ys → xs ≡ ys
unfolding value all_digits
same_digits [] [] a b l e = refl
same_digits [] (y ∷ ys) a b l e = absurd (omega arith)
same_digits (x ∷ xs) [] a b l e = absurd (omega arith)
same_digits (x ∷ xs) (y ∷ ys) a b l e =
    let p = both (is_digit x) (all_digits xs) a in
    let q = both (is_digit y) (all_digits ys) b in
    let n : length xs ≡ length ys = omega arith in
    let m = value_below xs p.1 in
    let k : value ys < 10 ^ length xs = rw n (value_below ys q.1) in
    let f : (x - zero_sign) * 10 ^ length xs + value xs ≡ (y - zero_sign) * 10 ^ length xs + value ys = e ∙ rw n in
    let d : x - zero_sign ≡ y - zero_sign = head_is (x - zero_sign) (y - zero_sign) (10 ^ length xs) (value xs) (value ys) m k f in
    let c : x ≡ y = omega (arith, digit_from x p.0, digit_from y q.0) in
    let v : value xs ≡ value ys = omega (arith, ap (λ (z : ℕ). z * 10 ^ length xs) d) in
    let r : xs ≡ ys = same_digits xs ys p.1 q.1 n v in
    ap (λ (z : ℕ). z ∷ xs) c ∙ ap (λ (z : List ℕ). y ∷ z) r

some_signs : (s : List ℕ) → is_numeral s ≡ true → 0 < length s
unfolding is_numeral
some_signs [] e = absurd (false≢true e)
some_signs (c ∷ s) e = omega arith

not_longer : (xs ys : List ℕ) → is_numeral xs ≡ true → is_numeral ys ≡ true → value xs ≡ value ys → length xs < length ys → ⊥
not_longer xs ys a b e h =
    omega (arith, value_below xs (numeral_digits xs a), value_above ys b (omega (arith, some_signs xs a)), pow-le-pow_right {n = 10} (omega arith) {i = length xs} {j = length ys - 1} (omega arith))

same_numeral : (xs ys : List ℕ) → is_numeral xs ≡ true → is_numeral ys ≡ true → value xs ≡ value ys → xs ≡ ys
same_numeral xs ys a b e = go (ltb (length xs) (length ys)) refl (ltb (length ys) (length xs)) refl
  where
    go : (s : Bool) → ltb (length xs) (length ys) ≡ s → (t : Bool) → ltb (length ys) (length xs) ≡ t → xs ≡ ys
    go true x t y = absurd (not_longer xs ys a b e (ltb-true _ _ x))
    go false x true y = absurd (not_longer ys xs b a (sym e) (ltb-true _ _ y))
    go false x false y =
        same_digits xs ys (numeral_digits xs a) (numeral_digits ys b) (omega (arith, ltb-false (length xs) (length ys) x, ltb-false (length ys) (length xs) y)) e

pub numeral_back : (s : List ℕ) → is_numeral s ≡ true → value s < 10 ^ 10 → numeral (value s) ≡ s
numeral_back s e h = same_numeral (numeral (value s)) s (numeral_good (value s) h) e (numeral_value (value s) h)

-- ---- with a sign

no_minus : (s : List ℕ) → all_digits s ≡ true → is_negative s ≡ false
unfolding all_digits
no_minus [] e = refl
no_minus (c ∷ s) e = ne_eqb c minus_sign (λ q. omega (arith, digit_from c (both (is_digit c) (all_digits s) e).0))

pub signed_good : (z : ℤ) → fits_signed z ≡ true → (is_signed (signed_numeral z) ≡ true) × (signed_value (signed_numeral z) ≡ z)
unfolding is_signed signed_value
signed_good (pos n) e =
    let h : n < 10 ^ 10 = omega (arith, leb-true n 32767 e) in
    let m = no_minus (numeral n) (digits_all (width n) n) in
    (rw m (numeral_good n h), rw (m, numeral_value n h))
signed_good (negsuc n) e =
    let h : suc n < 10 ^ 10 = omega (arith, leb-true n 32767 (both (leb n 32767) true e).0) in
    let z : suc n ≡ 0 → ⊥ = λ q. omega arith in
    (rw (numeral_good (suc n) h, numeral_value (suc n) h, ne_eqb (suc n) 0 z), rw (numeral_value (suc n) h))

pub signed_back : (w : List ℕ) → is_signed w ≡ true → fits_signed (signed_value w) ≡ true → signed_numeral (signed_value w) ≡ w
unfolding is_signed signed_value is_numeral
signed_back [] s f = absurd (false≢true s)
signed_back (c ∷ w) s f = go (eqb c minus_sign) refl s f
  where
    minus : (n : ℕ) → (n ≡ 0 → ⊥) → signed_numeral (neg_ℤ (pos n)) ≡ minus_sign ∷ numeral n
    minus zero h = absurd (h refl)
    minus (suc n) h = refl

    go : (b : Bool) → eqb c minus_sign ≡ b → cond b (is_numeral w && not (eqb (value w) 0)) (is_numeral (c ∷ w)) ≡ true
        → fits_signed (cond b (neg_ℤ (pos (value w))) (pos (value (c ∷ w)))) ≡ true
        → signed_numeral (cond b (neg_ℤ (pos (value w))) (pos (value (c ∷ w)))) ≡ c ∷ w
    go true q t g =
        let p = both (is_numeral w) (not (eqb (value w) 0)) t in
        let z = eqb-false (value w) 0 (not-true (eqb (value w) 0) p.1) in
        let h : value w < 10 ^ 10 = omega (arith, size_fits true (value w) g) in
        minus (value w) z ∙ ap (λ (x : List ℕ). minus_sign ∷ x) (numeral_back w p.0 h) ∙ ap (λ (x : ℕ). x ∷ w) (sym (eqb-true c minus_sign q))
    go false q t g = numeral_back (c ∷ w) t (omega (arith, size_fits false (value (c ∷ w)) g))
