use mathlib.Core.Path.{◌≡◌}
use Prim.Native.Nat.{◌-◌}
use Rattle.table.proofs.Changing.{made}
use Rattle.table.proofs.entries.change_each.Given as goal

abbrev pub invariant-loop-i : goal.invariant-loop-i
invariant-loop-i g l = l.entries ≡ made l.fn.w l.initial.entries (l.i - l.fn.w.first)
