-- A zero for each element of a list.
use mathlib.Core.Path.{◌≡◌, refl, ap}
use mathlib.Core.List.{List, [], ◌∷◌, map}
use Prim.Native.Nat.{ℕ}
use lib.ListN.{length}
use Rattle.std.specs.Prelude.{replicate}

pub zero_each : (l : List ℕ) → replicate {A = ℕ} (length l) 0 ≡ map (λ (_ : ℕ). 0) l
zero_each [] = refl
zero_each (x ∷ l) = ap (λ (r : List ℕ). 0 ∷ r) (zero_each l)
