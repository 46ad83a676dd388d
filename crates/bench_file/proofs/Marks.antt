-- The marks of a record as bits of words: one more bit, before the others.
use mathlib.Core.Path.{◌≡◌, ◌∙◌}
use Prim.Native.Nat.{ℕ, suc, ◌+◌, ◌-◌, ◌*◌, ◌^◌, ◌≤◌, ◌<◌, min}
use native.Mathlib.Nat.{pow-le-pow_right, pow-suc, zero-lt-suc}
use native.Mathlib.Omega.{arith}
use mathlib.Core.List.{List}
use lib.ListN.{length, get_or, drop, drop_of_length-le, length-drop}
use lib.Seq.{get_or-drop}
use Rattle.lists.specs.Lists.{part}
use Rattle.lists.proofs.Parts.{part_length}
use Rattle.lists.proofs.Rest.{rest_cons}
use Rattle.bench_file.specs.Settings.{word_of}

module _ (s : List ℕ) (at : ℕ) (h : at + 64 ≤ length s) where
  inside : 64 ≤ length (drop at s)
  inside = rw length-drop (omega arith)

  pub word_on : (i word mark : ℕ) → i < 64 → word ≡ word_of (drop (i + 1) (part at 64 s)) → mark ≡ min (get_or s (at + i) 0) 1
      → word * 2 + mark ≡ word_of (drop i (part at 64 s))
  word_on i word mark l e m =
      let w : ℕ = word_of (drop (i + 1) (part at 64 s)) in
      let t : word * 2 + mark ≡ min (get_or s (at + i) 0) 1 + 2 * w = omega arith in
      t ∙ rw (rest_cons (drop at s) 64 i inside 0 l, get_or-drop at s i 0)

  pub word_none : 0 ≡ word_of (drop 64 (part at 64 s))
  word_none = let t : length (part at 64 s) ≤ 64 = omega (arith, part_length at 64 s h) in rw (drop_of_length-le (part at 64 s) t)

-- a word that has a free bit
pub one_bit : (word i mark : ℕ) → i < 64 → word < 2 ^ (64 - (i + 1)) → mark ≤ 1 → word * 2 + mark < 2 ^ (64 - i)
one_bit word i mark l h m =
    let e : 64 - i ≡ suc (64 - (i + 1)) = omega arith in
    rw e (omega (arith, pow-suc 2 (64 - (i + 1))))

pub in_word : (word i mark : ℕ) → i < 64 → word < 2 ^ (64 - (i + 1)) → mark ≤ 1 → word * 2 + mark < 18446744073709551616
in_word word i mark l h m =
    let up : 64 - i ≤ 64 = omega arith in
    let e : 2 ^ (64 - i) ≤ 2 ^ 64 = pow-le-pow_right (zero-lt-suc 1) up in
    omega (arith, one_bit word i mark l h m)
