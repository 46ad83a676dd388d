use mathlib.Core.Path.{◌≡◌}
use mathlib.Core.Bool.{true}
use Prim.Native.Nat.{◌-◌, ◌<◌}
use Rattle.clock.specs.Clock.{clock_in_range}
use Rattle.lists.specs.Lists.{over}
use Rattle.table.proofs.Updating.{swept}
use Rattle.table.proofs.entries.update_all.Given as goal

abbrev pub invariant-loop-i : goal.invariant-loop-i
invariant-loop-i l =
    (l.w.first < l.w.end → clock_in_range l.c ≡ true)
    × (l.entries ≡ over l.initial.entries l.w.first (swept l.w l.packet l.initial.entries (l.i - l.w.first)).own_entries)
    × (l.c ≡ (swept l.w l.packet l.initial.entries (l.i - l.w.first)).clock)
