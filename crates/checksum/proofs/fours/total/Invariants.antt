use Rattle.std.proofs.Common.{◌*◌, ◌≤◌}
use Rattle.checksum.proofs.LowFirst.{Halves}
use Rattle.checksum.proofs.fours.total.Given as goal

abbrev pub invariant-loop-k : goal.invariant-loop-k
invariant-loop-k l = (l.high ≤ 0xffff * l.k) × Halves l.s l.k l.high l.sum
