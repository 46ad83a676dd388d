-- While a host does not report itself, the DELAY of its ids rises with every epoch: Silence/Unreported.antt.
use Rattle.liveness_laws.proofs.Silence.Unreported.{unreported_gone_holds}
use Rattle.liveness_laws.proofs.unreported_host_gone.Goals as goal

pub returns : goal.returns
returns c = unreported_gone_holds
