use Prim.Native.Nat.{◌+◌, ◌*◌}
use Rattle.capture.proofs.Listed.{ListedFrom}
use Rattle.capture.proofs.Outputs.{CaptureAfter, StretchesAfter}
use Rattle.capture.proofs.writing.write.Given as goal

abbrev pub invariant-loop-k : goal.invariant-loop-k
invariant-loop-k l =
    record {
      listed : ListedFrom l.input l.starts l.at l.k;
      packets : CaptureAfter l.input l.initial.capture l.capture l.at (4 + 4 * l.k) l.to;
      passed : StretchesAfter l.input l.initial.stretches l.stretches l.at l.end;
    }
