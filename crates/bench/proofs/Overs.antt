-- Octets of a list with others over it: those before, those after, and those put there.
use mathlib.Core.Path.{◌≡◌, sym, ◌∙◌, ap}
use mathlib.Core.List.{List, ◌++◌, append_assoc}
use Prim.Native.Nat.{ℕ, ◌+◌, ◌-◌, ◌≤◌, ◌<◌}
use native.Mathlib.Omega.{arith}
use lib.ListN.{length, get_or, take, drop, length-append, get_or-append}
use lib.Seq.{length-take-le, get_or-append-add, get_or-take, get_or-drop}
use Rattle.lists.specs.Lists.{over}

module _ (b r : List ℕ) (k : ℕ) (fits : k + length r ≤ length b) where
  front : length (take k b) ≡ k
  front = length-take-le k b (omega arith)

  whole : over b k r ≡ take k b ++ (r ++ drop (k + length r) b)
  whole = simp append_assoc

  pub before : (i : ℕ) → i < k → get_or (over b k r) i 0 ≡ get_or b i 0
  before i h =
      rw whole
      (get_or-append (take k b) (r ++ drop (k + length r) b) 0 i (omega (arith, front)) ∙ get_or-take k b i 0 h)

  -- from the k-th on
  past : (j : ℕ) → get_or (over b k r) (k + j) 0 ≡ get_or (r ++ drop (k + length r) b) j 0
  past j =
      rw whole
      (ap (λ (n : ℕ). get_or (take k b ++ (r ++ drop (k + length r) b)) (n + j) 0) (sym front)
      ∙ get_or-append-add (take k b) (r ++ drop (k + length r) b) j 0)

  pub there : (j : ℕ) → j < length r → get_or (over b k r) (k + j) 0 ≡ get_or r j 0
  there j h = past j ∙ get_or-append r (drop (k + length r) b) 0 j h

  pub behind : (i : ℕ) → k + length r ≤ i → get_or (over b k r) i 0 ≡ get_or b i 0
  behind i h =
      let e : i ≡ k + (length r + (i - (k + length r))) = omega arith in
      let f : k + length r + (i - (k + length r)) ≡ i = omega arith in
      ap (λ (n : ℕ). get_or (over b k r) n 0) e ∙ past (length r + (i - (k + length r)))
      ∙ get_or-append-add r (drop (k + length r) b) (i - (k + length r)) 0 ∙ get_or-drop (k + length r) b (i - (k + length r)) 0
      ∙ ap (λ (n : ℕ). get_or b n 0) f

  pub same_length : length (over b k r) ≡ length b
  same_length = rw whole (simp length-append (omega (arith, front, lib.ListN.length-drop (k + length r) b)))
