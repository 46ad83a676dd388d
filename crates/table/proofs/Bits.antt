-- Marks as bits: the bits of a word from a place on are zero where the word, shifted by that place, is; and no id from n on is marked where that holds of each word.
use mathlib.Core.Path.{◌≡◌, refl, sym, ap, subst, ◌∙◌}
use mathlib.Core.Bool.{Bool, true, false, not, ◌&&◌, and_assoc, and-true}
use mathlib.Core.List.{List, [], ◌∷◌, ◌++◌}
use Prim.Native.Nat.{ℕ, zero, suc, ◌+◌, ◌-◌, ◌*◌, ◌/◌, ◌%◌, ◌≤◌, ◌<◌, ◌^◌}
use native.Mathlib.Nat.{zero-add, add-zero, pow-suc, zero-div, div-div-eq-div-mul, div-eq_of_lt}
use native.Mathlib.Omega.{arith}
use borrow.Author.Tests.{eq-eqb, ne_eqb, eqb-true, eqb-false, ltb-true, ltb-false}
use lib.Dec.{eqb, ltb}
use lib.ListN.{length, get_or, get_or-eq_default}
use Rattle.table.specs.declared.marks.Marks.{Marks}
use Rattle.table.specs.Forms.{every, up_from}
use Rattle.table.specs.Marks.{bit, mark, none_from}
use Rattle.table.specs.code.Words.{word_of, zero_from}

-- ---- a test of numbers in a row

every_append : {A : Type 0} (test : A → Bool) (xs ys : List A) → every test (xs ++ ys) ≡ (every test xs && every test ys)
every_append test [] ys = refl
every_append test (x ∷ xs) ys = rw (every_append test xs ys) (sym (and_assoc (test x) (every test xs) (every test ys)))

from_append : (first m n : ℕ) → up_from first (m + n) ≡ up_from first m ++ up_from (first + m) n
from_append first zero n = rw (zero-add n, add-zero first) refl
from_append first (suc m) n =
    let s : first + suc m ≡ suc first + m = omega arith in
    let t : suc m + n ≡ suc (m + n) = omega arith in
    rw (s, t) (ap (λ l. first ∷ l) (from_append (suc first) m n))

-- two tests that are the same over the numbers in question, which are counted from another place
alike : (f g : ℕ → Bool) (c a first n : ℕ) → a ≡ c + first → ((i : ℕ) → first ≤ i → i < first + n → f (c + i) ≡ g i)
    → every f (up_from a n) ≡ every g (up_from first n)
alike f g c a first zero is same = refl
alike f g c a first (suc n) is same =
    let here : f a ≡ g first = ap f is ∙ same first (omega arith) (omega arith) in
    rw (here, alike f g c (suc a) (suc first) n (omega (arith, is)) (λ i l h. same i (omega (arith, l)) (omega (arith, h)))) refl

-- ---- one word

even_half : (x : ℕ) → (eqb (x % 2) 0 && eqb (x / 2) 0) ≡ eqb x 0
even_half zero = refl
even_half (suc x) = go (eqb (suc x % 2) 0) refl where
  more : eqb (suc x) 0 ≡ false
  more = ne_eqb (suc x) 0 (λ z. omega (arith, z))

  go : (b : Bool) → eqb (suc x % 2) 0 ≡ b → (b && eqb (suc x / 2) 0) ≡ eqb (suc x) 0
  go false e = sym more
  go true e = let even = eqb-true (suc x % 2) 0 e in ne_eqb (suc x / 2) 0 (λ z. omega (arith, even, z)) ∙ sym more

zero_bits : (word n k : ℕ) → word < 2 ^ (n + k) → every (λ (i : ℕ). eqb (bit word i) 0) (up_from n k) ≡ eqb (word / 2 ^ n) 0
zero_bits word n zero h =
    let z : n + 0 ≡ n = omega arith in
    let small : word < 2 ^ n = subst (λ (m : ℕ). word < 2 ^ m) z h in
    sym (eq-eqb (word / 2 ^ n) 0 (div-eq_of_lt small))
zero_bits word n (suc k) h =
    let s : n + suc k ≡ suc n + k = omega arith in
    let half : word / 2 ^ suc n ≡ word / 2 ^ n / 2 = ap (λ (m : ℕ). word / m) (pow-suc 2 n) ∙ sym (div-div-eq-div-mul word (2 ^ n) 2) in
    let small : word < 2 ^ (suc n + k) = subst (λ (m : ℕ). word < 2 ^ m) s h in
    ap (λ (b : Bool). eqb (bit word n) 0 && b) (zero_bits word (suc n) k small ∙ ap (λ (m : ℕ). eqb m 0) half) ∙ even_half (word / 2 ^ n)

-- a place that the word does not have
pub no_bits : (word n : ℕ) → 64 ≤ n → true ≡ zero_from word n
no_bits word n h = let z : 64 - n ≡ 0 = omega (arith, h) in rw (z) refl

pub word_zero : (word n : ℕ) → n < 64 → word < 2 ^ 64 → eqb (word / 2 ^ n) 0 ≡ zero_from word n
word_zero word n h small =
    let to : n + (64 - n) ≡ 64 = omega (arith, h) in
    sym (zero_bits word n (64 - n) (subst (λ (m : ℕ). word < 2 ^ m) (sym to) small))

-- ---- words in a row

abbrev unmarked : List ℕ → (id : ℕ) → Bool
unmarked ws id = not (eqb (bit (get_or ws (id / 64) 0) (id % 64)) 1)

abbrev zeros : List ℕ → (n : ℕ) → Bool
zeros [] n = true
zeros (w ∷ ws) n = zero_from w n && zeros ws (n - 64)

not_one : (x : ℕ) → not (eqb (x % 2) 1) ≡ eqb (x % 2) 0
not_one x = go (eqb (x % 2) 0) refl where
  go : (b : Bool) → eqb (x % 2) 0 ≡ b → not (eqb (x % 2) 1) ≡ b
  go true e = let even = eqb-true (x % 2) 0 e in rw (even) refl
  go false e = let odd = eqb-false (x % 2) 0 e in rw (eq-eqb (x % 2) 1 (omega (arith, odd))) refl

module _ (w : ℕ) (ws : List ℕ) where
  abbrev L : ℕ
  L = length ws

  -- an id of the first word, and of those behind it
  first_word : (i : ℕ) → i < 64 → unmarked (w ∷ ws) (0 + i) ≡ eqb (bit w i) 0
  first_word i h =
      let z : (0 + i) / 64 ≡ 0 = omega (arith, h) in
      let m : (0 + i) % 64 ≡ i = omega (arith, h) in
      rw (z, m) (not_one (w / 2 ^ i))

  other_word : (i : ℕ) → unmarked (w ∷ ws) (64 + i) ≡ unmarked ws i
  other_word i =
      let z : (64 + i) / 64 ≡ suc (i / 64) = omega arith in
      let m : (64 + i) % 64 ≡ i % 64 = omega arith in
      rw (z, m) refl

  word_more : ((n : ℕ) → every (unmarked ws) (up_from n (64 * L - n)) ≡ zeros ws n)
      → (n : ℕ) (b : Bool) → ltb n 64 ≡ b → every (unmarked (w ∷ ws)) (up_from n (64 * suc L - n)) ≡ (zero_from w n && zeros ws (n - 64))
  word_more rest n true e =
      let h = ltb-true n 64 e in
      let parts : 64 * suc L - n ≡ 64 - n + 64 * L = omega (arith, h) in
      let to : n + (64 - n) ≡ 64 = omega (arith, h) in
      let z : n - 64 ≡ 0 = omega (arith, h) in
      let all : 64 * L - 0 ≡ 64 * L = omega arith in
      let front : every (unmarked (w ∷ ws)) (up_from n (64 - n)) ≡ zero_from w n =
      alike (unmarked (w ∷ ws)) (λ (i : ℕ). eqb (bit w i) 0) 0 n n (64 - n) (sym (zero-add n)) (λ i l k. first_word i (omega (arith, k, to))) in
      let behind : every (unmarked (w ∷ ws)) (up_from 64 (64 * L)) ≡ zeros ws 0 =
      alike (unmarked (w ∷ ws)) (unmarked ws) 64 64 0 (64 * L) refl (λ i l k. other_word i) ∙ rw all at (rest 0) in
      rw (parts, from_append n (64 - n) (64 * L), to, z) (every_append (unmarked (w ∷ ws)) (up_from n (64 - n)) (up_from 64 (64 * L)) ∙ rw (front, behind) refl)
  word_more rest n false e =
      let h = ltb-false n 64 e in
      let parts : 64 * suc L - n ≡ 64 * L - (n - 64) = omega (arith, h) in
      let none : 64 - n ≡ 0 = omega (arith, h) in
      rw (parts, none)
      (alike (unmarked (w ∷ ws)) (unmarked ws) 64 n (n - 64) (64 * L - (n - 64)) (omega (arith, h)) (λ i l k. other_word i) ∙ rest (n - 64))

in_words : (ws : List ℕ) (n : ℕ) → every (unmarked ws) (up_from n (64 * length ws - n)) ≡ zeros ws n
in_words [] n = let z : 64 * 0 - n ≡ 0 = omega arith in rw (z) refl
in_words (w ∷ ws) n = word_more w ws (in_words ws) n (ltb n 64) refl

-- the word of an id, and one that has none
pub word_at : (m : Marks) (id k : ℕ) → 64 * k ≤ id → id < 64 * k + 64 → get_or m.words k 0 ≡ word_of m id
word_at m id k low high = let is : id / 64 ≡ k = omega (arith, low, high) in rw (is) refl

pub no_word : (m : Marks) (id : ℕ) → length m.words ≡ 4 → 256 ≤ id → 0 ≡ word_of m id
no_word m id four h =
    let past : length m.words ≤ id / 64 = omega (arith, four, h) in
    sym (get_or-eq_default m.words 0 past)

-- the four words of the marks
four_zeros : (ws : List ℕ) (n : ℕ) → length ws ≡ 4
    → (zero_from (get_or ws 0 0) n && zero_from (get_or ws 1 0) (n - 64) && zero_from (get_or ws 2 0) (n - 128) && zero_from (get_or ws 3 0) (n - 192)) ≡ zeros ws n
four_zeros [] n e = absurd (omega (arith, e))
four_zeros (a ∷ []) n e = absurd (omega (arith, e))
four_zeros (a ∷ b ∷ []) n e = absurd (omega (arith, e))
four_zeros (a ∷ b ∷ c ∷ []) n e = absurd (omega (arith, e))
four_zeros (a ∷ b ∷ c ∷ d ∷ []) n e =
    let m₂ : n - 64 - 64 ≡ n - 128 = omega arith in
    let m₃ : n - 128 - 64 ≡ n - 192 = omega arith in
    let p = zero_from a n in
    let q = zero_from b (n - 64) in
    let r = zero_from c (n - 128) in
    let s = zero_from d (n - 192) in
    rw (m₂, m₃, and-true s) (and_assoc (p && q) r s ∙ and_assoc p q (r && s))
four_zeros (a ∷ b ∷ c ∷ d ∷ x ∷ rest) n e = absurd (omega (arith, e))

pub four_words : (m : Marks) (n : ℕ) → length m.words ≡ 4
    → (zero_from (get_or m.words 0 0) n && zero_from (get_or m.words 1 0) (n - 64) && zero_from (get_or m.words 2 0) (n - 128) && zero_from (get_or m.words 3 0) (n - 192))
    ≡ none_from m n
unfolding none_from mark
four_words m n four =
    four_zeros m.words n four ∙ sym (in_words m.words n) ∙ ap (λ (k : ℕ). every (unmarked m.words) (up_from n (64 * k - n))) four

-- a word of zero has no bits
zero_word : (places : List ℕ) → every (λ (i : ℕ). eqb (bit 0 i) 0) places ≡ true
zero_word [] = refl
zero_word (i ∷ places) = rw (ap (λ (x : ℕ). x % 2) (zero-div (2 ^ i))) (zero_word places)

pub first_word_alone : (m : Marks) (n : ℕ) → length m.words ≡ 4 → get_or m.words 1 0 ≡ 0 → get_or m.words 2 0 ≡ 0 → get_or m.words 3 0 ≡ 0
    → zero_from (get_or m.words 0 0) n ≡ none_from m n
first_word_alone m n four one two three =
    sym
    (rw (one, two, three, zero_word (up_from (n - 64) (64 - (n - 64))), zero_word (up_from (n - 128) (64 - (n - 128))), zero_word (up_from (n - 192) (64 - (n - 192))), and-true (zero_from (get_or m.words 0 0) n), and-true (zero_from (get_or m.words 0 0) n), and-true (zero_from (get_or m.words 0 0) n)) at
    (sym (four_words m n four)))
