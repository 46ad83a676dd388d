-- After n turns the state is the one after n steps.
use Prim.Native.Nat.{◌-◌, ◌≤◌}
use Rattle.bench.specs.Bench.{bench}
use Rattle.bench.specs.Run.{steps}
use Rattle.bench.specs.code.Turns.{HostAfter}
use Rattle.bench.proofs.events.turns.Given as goal

abbrev pub invariant-loop-i : goal.invariant-loop-i
invariant-loop-i l =
    (l.w.first ≤ l.i)
    × HostAfter (steps l.file l.net_table (l.i - l.w.first) (bench l.initial.hosts l.copies l.initial.entries l.initial.slots l.initial.answers l.w.first)) l.hosts l.entries l.slots l.answers
