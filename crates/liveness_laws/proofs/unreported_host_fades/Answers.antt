-- While a host does not report itself, the DELAY of its ids rises with every epoch: Silence/Unreported.antt.
use Rattle.liveness_laws.proofs.Silence.Unreported.{unreported_fades_holds}
use Rattle.liveness_laws.proofs.unreported_host_fades.Goals as goal

pub returns : goal.returns
returns c = unreported_fades_holds
