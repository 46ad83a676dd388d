use Rattle.std.proofs.Common.{length}
use Rattle.checksum.proofs.fours.+long.Given as goal

-- the measure is the length
abbrev pub decreases-long : goal.decreases-long
decreases-long l = length l.s.now
