use Prim.Native.Nat.{◌-◌, ◌≤◌}
use lib.ListN.{length}
use Rattle.capture.proofs.HostAfter.{HostAfter}
use Rattle.capture.proofs.Listed.{StartsAfter}
use Rattle.capture.proofs.counting.survey.Given as goal

abbrev pub invariant-loop-hit : goal.invariant-loop-hit
invariant-loop-hit l =
    record {
      inside : l.at ≤ length l.input;
      few : (l.s.hits ≤ l.at) × (l.s.octets ≤ l.at) × (l.s.stretches ≤ l.at);
      counted : HostAfter l.input l.at l.s;
      listed : StartsAfter l.input l.initial.starts l.starts l.at l.s.hits;
    }

abbrev pub decreases-loop-hit : goal.decreases-loop-hit
decreases-loop-hit l = length l.input - l.at
