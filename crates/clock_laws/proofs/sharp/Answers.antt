-- `Back` has the proof.
use Rattle.clock_laws.proofs.Back.{sharp_holds}
use Rattle.clock_laws.proofs.sharp.Goals as goal

pub returns : goal.returns
returns c = sharp_holds
