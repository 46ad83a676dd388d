-- Words that are added one after the other, each with its carry, give the folded sum, because carries may be added in at any time.
use Rattle.std.proofs.Common.{◌≡◌, ℕ, ◌+◌, ◌-◌, ◌*◌, ◌%◌, ◌^◌, ◌<◌, ◌≤◌, Bool, true, false, ltb, List, [], ◌∷◌, length, get_or, take, drop, sym, refl, ap, ◌∙◌, ap₂, add-zero, arith, take_all, ltb-false, ltb-true}
use Rattle.checksum.specs.Checksum.{all_ones, fold}
use Rattle.checksum.specs.code.EndAround.{end_around, word_sum}
use Rattle.checksum.proofs.Folding.{fold_ends, end_word, end_positive, end_again, end_plus}

-- the sum so far is congruent to the sum of all words less those left
abbrev pub Added : (s left : List ℕ) → (sum : ℕ) → Type 0
Added s left sum = end_around (sum + word_sum left) ≡ end_around (word_sum s)

pub fold_words : (a b : ℕ) → a ≤ all_ones → b ≤ all_ones → fold a b ≡ end_around (a + b)
fold_words a b h k = ap₂ fold (sym (end_word a h)) (sym (end_word b k)) ∙ fold_ends a b

not_less : (x y : ℕ) → (x < y → ⊥) → y ≤ x
not_less x y f = go (ltb x y) refl
  where
    go : (b : Bool) → ltb x y ≡ b → y ≤ x
    go true e = absurd (f (ltb-true x y e))
    go false e = ltb-false x y e

-- a sum cut to 16 bits, with a carry and without
pub with_carry : (a b r : ℕ) → a ≤ all_ones → b ≤ all_ones → r ≡ (a + b) % 2 ^ 16 → (a + b < 2 ^ 16 → ⊥) → r + 1 ≡ fold a b
with_carry a b r h k e f =
    let l : 0x10000 ≤ a + b = not_less (a + b) 0x10000 f in
    let w : r + 0x10000 ≡ a + b = omega arith in
    omega (arith, end_positive (a + b) (omega arith), fold_words a b h k)

pub no_carry : (a b r : ℕ) → a ≤ all_ones → b ≤ all_ones → r ≡ (a + b) % 2 ^ 16 → a + b < 2 ^ 16 → r ≡ fold a b
no_carry a b r h k e l = omega (arith, end_word (a + b) (omega arith), fold_words a b h k)

-- a word is added
with_word : (a b t : ℕ) → a ≤ all_ones → b ≤ all_ones → end_around (fold a b + t) ≡ end_around (a + (b + t))
with_word a b t h k =
    let e : a + b + t ≡ a + (b + t) = omega arith in
    end_plus (fold a b) (a + b) t t (rw (fold_words a b h k) (end_again (a + b))) refl ∙ rw e

-- a turn
pub turned : (s left : List ℕ) (sum w : ℕ) → 2 ≤ length left → sum ≤ all_ones → w ≤ all_ones → w ≡ get_or left 0 0 * 256 + get_or left 1 0
    → Added s left sum
    → Added s (take (length left - 2) (drop 2 left)) (fold sum w)
turned s [] sum w h k l e inv = absurd (omega arith)
turned s (x ∷ []) sum w h k l e inv = absurd (omega arith)
turned s (x ∷ y ∷ rest) sum w h k l e inv =
    let all : take (length (x ∷ y ∷ rest) - 2) rest ≡ rest = take_all _ rest (omega arith) in
    let m : sum + (w + word_sum rest) ≡ sum + word_sum (x ∷ y ∷ rest) = omega arith in
    ap (λ r. end_around (fold sum w + word_sum r)) all ∙ with_word sum w (word_sum rest) k l ∙ ap end_around m ∙ inv

-- the end: all words are in the sum, or an odd last octet remains
pub even_end : (s left : List ℕ) (sum : ℕ) → length left < 1 → sum ≤ all_ones → Added s left sum → sum ≡ end_around (word_sum s)
even_end s [] sum l h inv = sym (end_word sum h) ∙ rw add-zero at inv
even_end s (x ∷ rest) sum l h inv = absurd (omega arith)

pub odd_end : (s left : List ℕ) (sum w : ℕ) → length left ≡ 1 → sum ≤ all_ones → w ≤ all_ones → w ≡ get_or left 0 0 * 256 + 0
    → Added s left sum
    → fold sum w ≡ end_around (word_sum s)
odd_end s [] sum w l h k e inv = absurd (omega arith)
odd_end s (x ∷ []) sum w l h k e inv = fold_words sum w h k ∙ ap (λ n. end_around (sum + n)) e ∙ inv
odd_end s (x ∷ y ∷ rest) sum w l h k e inv = absurd (omega arith)
