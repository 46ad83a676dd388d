use Rattle.text.proofs.Lines.{HostAfter}
use mathlib.Core.Path.{◌≡◌}
use Prim.Native.Nat.{◌+◌, ◌-◌, ◌*◌, ◌≤◌}
use lib.ListN.{length}
use Rattle.text.specs.code.Put.{row_room}
use Rattle.text.proofs.write.put_rows.Given as goal

abbrev pub invariant-loop-host : goal.invariant-loop-host
invariant-loop-host l = (l.end * 4 + row_room * (length l.message - (12 + 4 * l.host)) ≤ length l.initial.text * 4) × (length l.text ≡ length l.initial.text) × HostAfter l.message l.initial.text l.text l.at l.end (12 + 4 * l.host)
