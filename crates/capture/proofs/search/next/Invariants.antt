use mathlib.Core.Path.{◌≡◌}
use Prim.Native.Nat.{◌-◌, ◌≤◌}
use lib.ListN.{length}
use Rattle.capture.specs.Search.{hits_at}
use Rattle.capture.proofs.search.next.Given as goal

abbrev pub invariant-loop-at : goal.invariant-loop-at
invariant-loop-at l = hits_at l.from l.input ≡ hits_at l.at l.input

abbrev pub invariant-loop-end : goal.invariant-loop-end
invariant-loop-end l =
    (l.from ≤ l.start) × (l.start ≤ l.end) × (l.end ≤ length l.input) × (hits_at l.from l.input ≡ hits_at l.start l.input)

abbrev pub decreases-loop-end : goal.decreases-loop-end
decreases-loop-end l = length l.input - l.end
