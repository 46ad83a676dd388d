-- A list after n turns of a loop that replaces one element in each turn, from place `first` on.
use mathlib.Core.List.{List}
use Prim.Native.Nat.{ℕ, zero, suc, ◌+◌}
use lib.ListN.{get_or, set}

module _ {A : Type 0} (turn : A → ℕ → A) (none : A) (first : ℕ) where
  abbrev pub maps : List A → ℕ → List A
  maps l zero = l
  maps l (suc n) = set (maps l n) (first + n) (turn (get_or (maps l n) (first + n) none) (first + n))
