-- `Wearing` has the proof.
use Rattle.clock_laws.proofs.Wearing.{lasts_holds}
use Rattle.clock_laws.proofs.lasts.Goals as goal

pub returns : goal.returns
returns c = lasts_holds
