-- The entries of a word are its fours and what remains after them.
use mathlib.Core.Path.{◌≡◌, refl, sym, ap, ◌∙◌}
use mathlib.Core.Bool.{Bool, ◌&&◌}
use mathlib.Core.List.{List}
use Prim.Native.Nat.{ℕ, ◌+◌, ◌-◌, ◌*◌, ◌/◌, ◌%◌, ◌≤◌, ◌<◌, ◌^◌}
use native.Mathlib.Omega.{arith}
use lib.ListN.{length}
use Rattle.lists.specs.Lists.{part}
use Rattle.lists.proofs.Parts.{part_length}
use Rattle.table.specs.declared.Entry.{Entry}
use Rattle.table.specs.declared.entries.Stretch.{Stretch}
use Rattle.table.specs.Forms.{every_from}
use Rattle.table.specs.code.Loops.{InEntries}
use Rattle.table.specs.code.Words.{StretchFits, as_in_word, all_as_in_word}
use Rattle.table.specs.code.Fours.{rest_of, all_fours}
use Rattle.table.proofs.ByWords.{alike, two_parts}
use Rattle.table.proofs.FourAtOnce.{bit_at}
use Rattle.table.proofs.Loops.{both_lists}

-- the entries of two parts, one after the other
pub two_tests : (entries : List Entry) (first m n k : ℕ) (test : ℕ → Entry → Bool) → first + m + n ≤ length entries
    → (every_from k test (part first m entries) && every_from (k + m) test (part (first + m) n entries)) ≡ every_from k test (part first (m + n) entries)
two_tests entries first m n k test fits =
    let long : length (part first m entries) ≡ m = part_length first m entries (omega (arith, fits)) in
    ap (λ (j : ℕ). every_from k test (part first m entries) && every_from (k + j) test (part (first + m) n entries)) (sym long)
    ∙ both_lists k test (part first m entries) (part (first + m) n entries) ∙ ap (every_from k test) (sym (two_parts first m n entries))

module _ (entries : List Entry) (w : Stretch) (h : StretchFits w entries) where
  abbrev N : ℕ
  N = w.end - w.first

  abbrev n : ℕ
  n = 4 * (N / 4)

  abbrev test : ℕ → Entry → Bool
  test = as_in_word w.word

  pub rest_fits : InEntries (rest_of w).first (rest_of w).end entries
  rest_fits = record { rising = omega (arith, h.places.rising); inside = h.places.inside }

  in_rest : (m : ℕ) (e : Entry) → m < 0 + length (part (w.first + n) (w.end - (w.first + n)) entries) → as_in_word (w.word / 2 ^ (n % 64)) m e ≡ test (n + m) e
  in_rest m e l =
      let long = part_length (w.first + n) (w.end - (w.first + n)) entries (omega (arith, h.places.rising, h.places.inside)) in
      let less : n + m < 64 = omega (arith, l, long, h.few) in
      let same : n % 64 ≡ n = omega (arith, less) in
      let same-m : m % 64 ≡ m = omega (arith, less) in
      rw (same, same-m, bit_at w.word n (n + m) m refl less) refl

  pub by_fours : (all_fours w entries && all_as_in_word (rest_of w) entries) ≡ all_as_in_word w entries
  by_fours =
      let rest : w.end - (w.first + n) ≡ N - n = omega arith in
      let sum : n + (N - n) ≡ N = omega arith in
      let none : n + 0 ≡ n = omega arith in
      let zero : 0 + n ≡ n = omega arith in
      let after : every_from 0 (as_in_word (w.word / 2 ^ (n % 64))) (part (w.first + n) (w.end - (w.first + n)) entries) ≡ every_from n test (part (w.first + n) (N - n) entries) =
      alike (as_in_word (w.word / 2 ^ (n % 64))) test n 0 (part (w.first + n) (w.end - (w.first + n)) entries) in_rest ∙ ap (λ (k : ℕ). every_from k test (part (w.first + n) (w.end - (w.first + n)) entries)) none
      ∙ ap (λ (k : ℕ). every_from n test (part (w.first + n) k entries)) rest in
      sym
      (ap (λ (k : ℕ). every_from 0 test (part w.first k entries)) (sym sum)
      ∙ sym (two_tests entries w.first n (N - n) 0 test (omega (arith, h.places.rising, h.places.inside)))
      ∙ ap (λ (k : ℕ). every_from 0 test (part w.first n entries) && every_from k test (part (w.first + n) (N - n) entries)) zero
      ∙ ap (λ (b : Bool). every_from 0 test (part w.first n entries) && b) (sym after))
