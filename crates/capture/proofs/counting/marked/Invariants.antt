use Rattle.capture.proofs.Marks.{Left}
use Rattle.capture.proofs.counting.marked.Given as goal

abbrev pub invariant-loop-k : goal.invariant-loop-k
invariant-loop-k l = Left l.input l.starts l.k
