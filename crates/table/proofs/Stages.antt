-- How the lines of an update come out one after the other: each outcome of the code says how the line came out in the definition.
use mathlib.Core.Path.{◌≡◌}
use native.Mathlib.Omega.{arith}
use Prim.Native.Nat.{ℕ}
use Rattle.std.specs.declared.ops.ControlFlow.TheVariants.{Continue, Break}
use Rattle.table.specs.Forms.{Stage, on, end, flow_of}

pub goes_on : {A : Type 0} → (s : Stage A) (x : A) → Continue x ≡ flow_of s → s ≡ on x
goes_on (on e) x q = cc
goes_on (end e) x q = let z : ◌≡◌ {A = ℕ} 0 1 = cc in absurd (omega arith)

pub ends : {A : Type 0} → (s : Stage A) (x : A) → Break x ≡ flow_of s → s ≡ end x
ends (on e) x q = let z : ◌≡◌ {A = ℕ} 0 1 = cc in absurd (omega arith)
ends (end e) x q = cc
