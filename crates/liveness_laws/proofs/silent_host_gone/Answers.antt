-- While nothing of a host is heard, the DELAY of its ids rises with every epoch: Silence/Epochs.antt.
use Rattle.liveness_laws.proofs.Silence.Epochs.{gone_holds}
use Rattle.liveness_laws.proofs.silent_host_gone.Goals as goal

pub returns : goal.returns
returns c = gone_holds
