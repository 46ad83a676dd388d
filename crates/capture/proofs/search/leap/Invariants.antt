use Prim.Native.Nat.{◌-◌}
use lib.ListN.{length}
use Rattle.capture.specs.code.Next.{NoneBetween}
use Rattle.capture.proofs.search.leap.Given as goal

abbrev pub invariant-loop-at : goal.invariant-loop-at
invariant-loop-at l = NoneBetween l.input l.from l.at

abbrev pub decreases-loop-at : goal.decreases-loop-at
decreases-loop-at l = length l.input - l.at
