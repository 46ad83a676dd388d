use Rattle.std.proofs.Common.{◌≤◌, length}
use Rattle.checksum.specs.Checksum.{all_ones}
use Rattle.checksum.proofs.Words.{Added}
use Rattle.checksum.proofs.plain.folded.Given as goal

abbrev pub invariant-loop-left : goal.invariant-loop-left
invariant-loop-left l = (l.sum ≤ all_ones) × Added l.s l.left l.sum

abbrev pub decreases-loop-left : goal.decreases-loop-left
decreases-loop-left l = length l.left
