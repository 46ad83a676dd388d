-- The default for an absent host is not read if the host is there.
use mathlib.Core.Path.{◌≡◌, refl}
use mathlib.Core.List.{List, [], ◌∷◌}
use Prim.Native.Nat.{ℕ, zero, suc, ◌<◌}
use native.Mathlib.Omega.{arith}
use lib.ListN.{length, get_or}
use lib.IntN.{pos}
use Rattle.host.specs.Walk.{no_walk}
use Rattle.bench.specs.declared.HostState.{HostState}

pub any_default : (l : List HostState) (i : ℕ) (d e : HostState) → i < length l → get_or l i d ≡ get_or l i e
any_default [] i d e h = absurd (omega arith)
any_default (x ∷ l) zero d e h = refl
any_default (x ∷ l) (suc i) d e h = any_default l i d e (omega arith)

-- a state of no host
abbrev pub nobody : HostState
nobody = record { clock = record { clock = record { 0 = pos 0 }; delta = record { 0 = pos 0 }; hold = record { 0 = 0 }; date = record { 0 = 0 } }; links = record { all = [] }; walk = no_walk }
