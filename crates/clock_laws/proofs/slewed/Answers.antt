-- `Slewing` has the proof.
use Rattle.clock_laws.proofs.Slewing.{slewed_holds}
use Rattle.clock_laws.proofs.slewed.Goals as goal

pub returns : goal.returns
returns c = slewed_holds
