-- What is put over two parts of a list that do not meet: the order makes no difference.
use mathlib.Core.Path.{◌≡◌, sym, ap, ◌∙◌}
use mathlib.Core.List.{List, ◌++◌}
use Prim.Native.Nat.{ℕ, ◌+◌, ◌-◌, ◌≤◌}
use native.Mathlib.Omega.{arith}
use lib.ListN.{length, take, drop, length-append}
use lib.Seq.{take-take, take-append-le, take_at, drop_at, length-take-le}
use Rattle.lists.specs.Lists.{over}
use Rattle.lists.proofs.Parts.{over_after}

module _ {A : Type 0} (b y p : List A) (i j : ℕ) (apart : i + length y ≤ j) (inside : j + length p ≤ length b) where
  abbrev m : ℕ
  m = i + length y

  abbrev behind : List A
  behind = over (drop m b) (j - m) p

  there : m + (j - m) ≡ j
  there = omega arith

  later_first : over b j p ≡ take m b ++ behind
  later_first = sym (over_after m (j - m) b p ∙ ap (λ k. over b k p) there)

  front_long : length (take i b ++ y) ≡ m
  front_long = rw (length-append, length-take-le i b (omega arith))

  pub over_apart : over (over b j p) i y ≡ over (over b i y) j p
  over_apart =
      let l : length (take m b) ≡ m = length-take-le m b (omega arith) in
      let t : take i (take m b ++ behind) ≡ take i b = take-append-le i (take m b) behind (omega (arith, l)) ∙ take-take i m b (omega arith) in
      let left : over (over b j p) i y ≡ take i b ++ y ++ behind = rw (later_first, t, drop_at (take m b) behind m l) in
      let s = take i b ++ y in
      let right : over (s ++ drop m b) (m + (j - m)) p ≡ s ++ behind =
      sym (over_after m (j - m) (s ++ drop m b) p) ∙ rw (take_at s (drop m b) m front_long, drop_at s (drop m b) m front_long) in
      left ∙ sym right ∙ ap (λ k. over (over b i y) k p) there
