-- The folded sum of octets is their words' exact sum with its carries added in, so it obeys the rules of sums.
use Rattle.std.proofs.Common.{◌≡◌, ℕ, zero, suc, ◌+◌, ◌-◌, ◌*◌, ◌%◌, ◌<◌, ◌≤◌, Bool, true, false, cond, ltb, List, [], ◌∷◌, ◌++◌, length, get_or, drop, sym, refl, ap, ◌∙◌, ap₂, add-zero, zero-add, add-one, arith, drop-cons, ltb-false, ltb-true, eq-eqb}
use native.Mathlib.Numerals.{add-two}
use Rattle.checksum.specs.Checksum.{all_ones, fold, folded, checksum_good, checksum_of}
use Rattle.checksum.specs.code.EndAround.{end_around, summed, word_sum}
use Rattle.octets.specs.Octets.{Octets}
use Rattle.octets.proofs.Each.{joined}

-- ---- carries added in on the way, and at the end

-- what adding in a carry does, by its two cases
data Folds (a b r : ℕ) : Type 0 where
  no_carry : a + b ≤ all_ones → r ≡ a + b → Folds a b r
  carry : all_ones < a + b → r ≡ a + b - all_ones → Folds a b r

folds : (a b : ℕ) → Folds a b (fold a b)
unfolding fold
folds a b = go (ltb all_ones (a + b)) refl
  where
    go : (t : Bool) → ltb all_ones (a + b) ≡ t → Folds a b (cond t (a + b - all_ones) (a + b))
    go true e = carry (ltb-true all_ones (a + b) e) refl
    go false e = no_carry (ltb-false all_ones (a + b) e) refl

pub fold_small : (a b : ℕ) → a + b ≤ all_ones → fold a b ≡ a + b
fold_small a b h = go (folds a b)
  where
    go : {r : ℕ} → Folds a b r → r ≡ a + b
    go (no_carry k e) = e
    go (carry k e) = absurd (omega arith)

pub end_small : (t : ℕ) → end_around t ≤ all_ones
unfolding end_around
end_small zero = omega arith
end_small (suc n) = omega arith

pub end_positive : (t : ℕ) → 0 < t → end_around t ≡ (t - 1) % all_ones + 1
unfolding end_around
end_positive zero h = absurd (omega arith)
end_positive (suc n) h = omega arith

pub end_word : (t : ℕ) → t ≤ all_ones → end_around t ≡ t
unfolding end_around
end_word zero h = refl
end_word (suc n) h = omega arith

-- carries may be added in at any time
pub fold_ends : (a b : ℕ) → fold (end_around a) (end_around b) ≡ end_around (a + b)
unfolding end_around
fold_ends a b = go a b (folds (end_around a) (end_around b))
  where
    go : (a b : ℕ) {r : ℕ} → Folds (end_around a) (end_around b) r → r ≡ end_around (a + b)
    go zero b (no_carry h e) = let z : 0 + b ≡ b = omega arith in rw z (omega arith)
    go zero b (carry h e) = absurd (omega (arith, end_small b))
    go (suc a) zero (no_carry h e) = let z : suc a + 0 ≡ suc a = omega arith in rw z (omega arith)
    go (suc a) zero (carry h e) = absurd (omega arith)
    go (suc a) (suc b) (no_carry h e) = let s : suc a + suc b ≡ suc (a + b + 1) = omega arith in rw s (omega arith)
    go (suc a) (suc b) (carry h e) = let s : suc a + suc b ≡ suc (a + b + 1) = omega arith in rw s (omega arith)

pub end_again : (t : ℕ) → end_around (end_around t) ≡ end_around t
end_again t = end_word (end_around t) (end_small t)

-- totals that are congruent to the same sums are so after an addition
pub end_plus : (a b c d : ℕ) → end_around a ≡ end_around b → end_around c ≡ end_around d → end_around (a + c) ≡ end_around (b + d)
end_plus a b c d e f = sym (fold_ends a c) ∙ ap₂ fold e f ∙ fold_ends b d

-- a word in the high half of a total counts as in the low one
pub end_high : (a t : ℕ) → end_around (a * 256 * 256 + t) ≡ end_around (a + t)
unfolding end_around
end_high zero t = let z : 0 * 256 * 256 + t ≡ 0 + t = omega arith in rw z
end_high (suc a) t =
    let s : suc a * 256 * 256 + t ≡ suc (a * 256 * 256 + 0xffff + t) = omega arith in
    let r : suc a + t ≡ suc (a + t) = omega arith in
    rw (s, r) (omega arith)

-- ---- the words of octets

pub folded_sum : (xs : List ℕ) → Octets xs → folded xs ≡ end_around (word_sum xs)
unfolding folded
folded_sum [] o = sym (end_word 0 (omega arith))
folded_sum (x ∷ []) o = rw add-zero (sym (end_word (x * 256) (omega arith)))
folded_sum (x ∷ y ∷ rest) o =
    ap₂ fold (sym (end_word (x * 256 + y) (omega arith))) (folded_sum rest o.1.1)
    ∙ fold_ends (x * 256 + y) (word_sum rest)

-- an even number of octets before
pub sum_append : (f : ℕ → ℕ → ℕ) (xs ys : List ℕ) → length xs % 2 ≡ 0 → summed f (xs ++ ys) ≡ summed f xs + summed f ys
sum_append f [] ys e = sym (zero-add (summed f ys))
sum_append f (x ∷ []) ys e = absurd (omega arith)
sum_append f (x ∷ y ∷ rest) ys e = omega (arith, sum_append f rest ys (omega arith))

-- the word at place i
pub one_more : (f : ℕ → ℕ → ℕ) (s : List ℕ) (i : ℕ) → i + 1 < length s → summed f (drop i s) ≡ f (get_or s i 0) (get_or s (i + 1) 0) + summed f (drop (i + 2) s)
one_more f s i h =
    let h₀ : i < length s = omega arith in
    let h₁ : suc i < length s = omega arith in
    rw (add-one, add-two, drop-cons s i 0, drop-cons s (suc i) 0)

-- ---- the laws of the folded sum

pub folded_small : (xs : List ℕ) → Octets xs → folded xs ≤ all_ones
folded_small xs o = rw (folded_sum xs o) (end_small (word_sum xs))

-- a word at an even place counts as it would at the start
pub folded_word : (xs ys : List ℕ) (hi lo : ℕ) → length xs % 2 ≡ 0 → Octets xs → hi < 256 → lo < 256 → Octets ys
    → folded (xs ++ hi ∷ lo ∷ ys) ≡ fold (hi * 256 + lo) (folded (xs ++ ys))
folded_word xs ys hi lo e o h l p =
    let w : word_sum (xs ++ hi ∷ lo ∷ ys) ≡ hi * 256 + lo + word_sum (xs ++ ys) =
    omega (arith, sum_append (λ x y. x * 256 + y) xs (hi ∷ lo ∷ ys) e, sum_append (λ x y. x * 256 + y) xs ys e) in
    folded_sum (xs ++ hi ∷ lo ∷ ys) (joined xs (hi ∷ lo ∷ ys) o (h, (l, p))) ∙ ap end_around w
    ∙ sym (fold_ends (hi * 256 + lo) (word_sum (xs ++ ys)))
    ∙ ap₂ fold (end_word (hi * 256 + lo) (omega arith)) (sym (folded_sum (xs ++ ys) (joined xs ys o p)))

-- a word of zero at an even place changes no checksum
pub zero_word : (xs ys : List ℕ) → length xs % 2 ≡ 0 → Octets xs → Octets ys → checksum_of (xs ++ 0 ∷ 0 ∷ ys) ≡ checksum_of (xs ++ ys)
unfolding checksum_of
zero_word xs ys e o p =
    let small = folded_small (xs ++ ys) (joined xs ys o p) in
    ap (λ n. all_ones - n)
    (folded_word xs ys 0 0 e o (omega arith) (omega arith) p ∙ fold_small 0 (folded (xs ++ ys)) (omega arith) ∙ zero-add (folded (xs ++ ys)))

-- the checksum of the others at an even place makes all good
pub checksum_good_lem : (xs ys : List ℕ) (hi lo : ℕ) → length xs % 2 ≡ 0 → Octets xs → hi < 256 → lo < 256 → Octets ys
    → hi * 256 + lo ≡ checksum_of (xs ++ ys) → checksum_good (xs ++ hi ∷ lo ∷ ys) ≡ true
unfolding checksum_good checksum_of
checksum_good_lem xs ys hi lo e o h l p c =
    let s = folded_small (xs ++ ys) (joined xs ys o p) in
    eq-eqb (folded (xs ++ hi ∷ lo ∷ ys)) all_ones
    (folded_word xs ys hi lo e o h l p ∙ fold_small (hi * 256 + lo) (folded (xs ++ ys)) (omega arith) ∙ omega arith)
