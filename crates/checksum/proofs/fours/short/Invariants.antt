use Rattle.std.proofs.Common.{◌+◌, ◌*◌, ◌^◌, ◌≤◌, length}
use Rattle.checksum.proofs.LowFirst.{Stands}
use Rattle.checksum.proofs.fours.short.Given as goal

abbrev pub invariant-loop-left : goal.invariant-loop-left
invariant-loop-left l = (l.sum + 2 ^ 32 * length l.left ≤ 2 ^ 32 * length l.s) × Stands l.s l.left l.sum

abbrev pub decreases-loop-left : goal.decreases-loop-left
decreases-loop-left l = length l.left
