use mathlib.Core.Path.{◌≡◌}
use mathlib.Core.List.{map}
use Prim.Native.Nat.{◌-◌}
use Rattle.lists.specs.Lists.{part}
use Rattle.wire.specs.code.Sealing.{with_reports}
use Rattle.table.specs.Entry.{advertised}
use Rattle.table.proofs.entries.read_out.Given as goal

abbrev pub invariant-loop-i : goal.invariant-loop-i
invariant-loop-i l = l.buffer ≡ with_reports 0 (map (advertised l.w.pid) (part l.w.first (l.i - l.w.first) l.entries)) l.initial.buffer
