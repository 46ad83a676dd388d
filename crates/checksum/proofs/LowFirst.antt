-- A sum of words with the low octet first is 256 times less, and 256 times a word is the word with its octets changed over, because a word in the high half of a total counts as in the low one.
use Rattle.std.proofs.Common.{◌≡◌, ℕ, zero, suc, ◌+◌, ◌-◌, ◌*◌, ◌/◌, ◌%◌, ◌^◌, ◌<◌, ◌≤◌, List, [], ◌∷◌, length, get_or, take, drop, sym, refl, ap, ◌∙◌, add-zero, mul-zero, zero-add, add_assoc, mul-suc, arith, take-append-drop, length-take-le, take_all}
use Rattle.checksum.specs.Checksum.{all_ones}
use Rattle.checksum.specs.code.EndAround.{end_around, word_sum, low_sum, low_four}
use Rattle.checksum.proofs.Folding.{end_word, end_high, end_again, end_plus, sum_append, one_more}

-- ---- the octets change places

low_times : (s : List ℕ) → end_around (low_sum s * 256) ≡ end_around (word_sum s)
low_times [] = refl
low_times (x ∷ []) = simp add-zero
low_times (x ∷ y ∷ rest) =
    let e₁ : (x + y * 256 + low_sum rest) * 256 ≡ y * 256 * 256 + (low_sum rest * 256 + x * 256) = omega arith in
    let e₂ : y + (low_sum rest * 256 + x * 256) ≡ low_sum rest * 256 + (x * 256 + y) = omega arith in
    let e₃ : word_sum rest + (x * 256 + y) ≡ x * 256 + y + word_sum rest = omega arith in
    rw e₁ (end_high y (low_sum rest * 256 + x * 256) ∙ rw e₂ (end_plus (low_sum rest * 256) (word_sum rest) (x * 256 + y) (x * 256 + y) (low_times rest) refl ∙ rw e₃))

end_times : (t k : ℕ) → end_around (end_around t * k) ≡ end_around (t * k)
end_times t zero = rw (mul-zero, mul-zero)
end_times t (suc k) = rw (mul-suc, mul-suc) (end_plus (end_around t * k) (t * k) (end_around t) t (end_times t k) (end_again t))

pub swapped_word : (w : ℕ) → w ≤ all_ones → w % 256 * 256 + w / 256 ≡ end_around (w * 256)
swapped_word w h =
    let e : w * 256 ≡ w / 256 * 256 * 256 + w % 256 * 256 = omega arith in
    let c : w / 256 + w % 256 * 256 ≡ w % 256 * 256 + w / 256 = omega arith in
    sym (rw e (end_high (w / 256) (w % 256 * 256) ∙ rw c (end_word (w % 256 * 256 + w / 256) (omega arith))))

-- a folded sum with the low octet first, and its octets changed over
pub changed_over : (s : List ℕ) (w r : ℕ) → w ≡ end_around (low_sum s) → r ≡ end_around (w * 256) → r ≡ end_around (word_sum s)
changed_over s w r e f = f ∙ ap (λ n. end_around (n * 256)) e ∙ end_times (low_sum s) 256 ∙ low_times s

-- ---- four octets at a time

four_more : (s : List ℕ) (i : ℕ) → i + 3 < length s
    → low_sum (drop i s) ≡ get_or s i 0 + get_or s (i + 1) 0 * 256 + (get_or s (i + 2) 0 + get_or s (i + 3) 0 * 256 + low_sum (drop (i + 4) s))
four_more s i h =
    let f : ℕ → ℕ → ℕ = λ x y. x + y * 256 in
    let e₁ : i + 2 + 1 ≡ i + 3 = omega arith in
    let e₂ : i + 2 + 2 ≡ i + 4 = omega arith in
    one_more f s i (omega arith) ∙ ap (λ n. f (get_or s i 0) (get_or s (i + 1) 0) + n) (rw (e₁, e₂) at (one_more f s (i + 2) (omega arith)))

-- ---- numbers congruent to the sum of the words

-- the sum so far is congruent to the sum of all words less those left
abbrev pub Stands : (s left : List ℕ) → (sum : ℕ) → Type 0
Stands s left sum = end_around (sum + low_sum left) ≡ end_around (low_sum s)

-- a turn: the two words are the halves of what is added
pub one_four : (s left : List ℕ) (sum n : ℕ) → 4 ≤ length left → n ≡ low_four (get_or left 0 0) (get_or left 1 0) (get_or left 2 0) (get_or left 3 0)
    → Stands s left sum
    → Stands s (take (length left - 4) (drop 4 left)) (sum + n)
one_four s [] sum n h e inv = absurd (omega arith)
one_four s (a ∷ []) sum n h e inv = absurd (omega arith)
one_four s (a ∷ b ∷ []) sum n h e inv = absurd (omega arith)
one_four s (a ∷ b ∷ c ∷ []) sum n h e inv = absurd (omega arith)
one_four s (a ∷ b ∷ c ∷ d ∷ rest) sum n h e inv =
    let t = a + b * 256 + (low_sum rest + sum) in
    let all : take (length (a ∷ b ∷ c ∷ d ∷ rest) - 4) rest ≡ rest = take_all _ rest (omega arith) in
    let e₁ : sum + n + low_sum rest ≡ (c + d * 256) * 256 * 256 + t = omega arith in
    let e₂ : c + d * 256 + t ≡ sum + low_sum (a ∷ b ∷ c ∷ d ∷ rest) = omega arith in
    ap (λ l. end_around (sum + n + low_sum l)) all ∙ ap end_around e₁ ∙ end_high (c + d * 256) t ∙ ap end_around e₂ ∙ inv

-- a turn of eight octets
pub two_fours : (s left : List ℕ) (sum n m : ℕ) → 8 ≤ length left
    → n ≡ low_four (get_or left 0 0) (get_or left 1 0) (get_or left 2 0) (get_or left 3 0)
    → m ≡ low_four (get_or left 4 0) (get_or left 5 0) (get_or left 6 0) (get_or left 7 0)
    → Stands s left sum
    → Stands s (take (length left - 8) (drop 8 left)) (sum + (n + m))
two_fours s [] sum n m h e₁ e₂ inv = absurd (omega arith)
two_fours s (a ∷ []) sum n m h e₁ e₂ inv = absurd (omega arith)
two_fours s (a ∷ b ∷ []) sum n m h e₁ e₂ inv = absurd (omega arith)
two_fours s (a ∷ b ∷ c ∷ []) sum n m h e₁ e₂ inv = absurd (omega arith)
two_fours s (a ∷ b ∷ c ∷ d ∷ rest) sum n m h e₁ e₂ inv =
    let one : Stands s (take (length (a ∷ b ∷ c ∷ d ∷ rest) - 4) rest) (sum + n) = one_four s (a ∷ b ∷ c ∷ d ∷ rest) sum n (omega arith) e₁ inv in
    let all : take (length (a ∷ b ∷ c ∷ d ∷ rest) - 4) rest ≡ rest = take_all _ rest (omega arith) in
    let less : length (a ∷ b ∷ c ∷ d ∷ rest) - 8 ≡ length rest - 4 = omega arith in
    rw (less, ← add_assoc sum n m)
    (one_four s rest (sum + n) m (omega arith) e₂ (rw all at one))

-- four octets and the rest
pub four_and_rest : (s : List ℕ) (n m : ℕ) → 4 ≤ length s → n ≡ low_four (get_or s 0 0) (get_or s 1 0) (get_or s 2 0) (get_or s 3 0)
    → m ≡ low_sum (take (length s - 4) (drop 4 s)) → end_around (n + m) ≡ end_around (low_sum s)
four_and_rest s n m h e f =
    let one : Stands s (take (length s - 4) (drop 4 s)) (0 + n) = one_four s s 0 n h e (ap end_around (zero-add (low_sum s))) in
    rw f (rw (zero-add n) at one)

-- what is added after the turns
pub after_turns : (s left : List ℕ) (sum n : ℕ) → end_around n ≡ end_around (low_sum left) → Stands s left sum → end_around (sum + n) ≡ end_around (low_sum s)
after_turns s left sum n e inv = end_plus sum sum n (low_sum left) refl e ∙ inv

-- ---- the halves of numbers

-- the first k fours: the low halves' sum, which the sum of all numbers gives though it is cut to 32 bits
pub record Halves (s : List ℕ) (k high sum : ℕ) : Type 0 where
  pub low : ℕ
  pub small : low ≤ 0xffff * k
  pub cut : sum ≡ (high * 0x10000 + low) % 2 ^ 32
  pub all : high + low + low_sum (drop (4 * k) s) ≡ low_sum s

pub no_halves : (s : List ℕ) → Halves s 0 0 0
no_halves s = record { low = 0; small = omega arith; cut = omega arith; all = zero-add (low_sum s) }

-- a turn
pub two_halves : (s : List ℕ) (k high sum n m : ℕ) → 4 * k + 3 < length s → n < 2 ^ 32 → n ≡ low_four (get_or s (4 * k) 0) (get_or s (4 * k + 1) 0) (get_or s (4 * k + 2) 0) (get_or s (4 * k + 3) 0) → m ≡ (sum + n) % 2 ^ 32
    → get_or s (4 * k) 0 < 256 → get_or s (4 * k + 1) 0 < 256
    → Halves s k high sum
    → Halves s (k + 1) (high + n / 0x10000) m
two_halves s k high sum n m h b e f x y inv =
    let p : 4 * (k + 1) ≡ 4 * k + 4 = omega arith in
    record {
      low = inv.low + n % 0x10000;
      small = omega (arith, inv.small);
      cut = omega (arith, inv.cut);
      all = rw p (omega (arith, inv.all, four_more s (4 * k) h));
    }

-- ---- two halves of the octets, the first an even number of them

pub halved : (s : List ℕ) (h a b : ℕ) → h ≤ length s → h % 2 ≡ 0
    → a ≡ end_around (low_sum (take h s)) → b ≡ end_around (low_sum (drop h s))
    → end_around (a + b) ≡ end_around (low_sum s)
halved s h a b l e p q =
    let m : low_sum s ≡ low_sum (take h s) + low_sum (drop h s) =
    ap low_sum (sym (take-append-drop h s)) ∙ sum_append (λ x y. x + y * 256) (take h s) (drop h s) (rw (length-take-le h s l) e) in
    rw (p, q, m)
    (end_plus (end_around (low_sum (take h s))) (low_sum (take h s)) (end_around (low_sum (drop h s))) (low_sum (drop h s)) (end_again (low_sum (take h s))) (end_again (low_sum (drop h s))))
