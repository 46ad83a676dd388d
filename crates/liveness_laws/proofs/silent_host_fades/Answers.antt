-- While nothing of a host is heard, the DELAY of its ids rises with every epoch: Silence/Epochs.antt.
use Rattle.liveness_laws.proofs.Silence.Epochs.{fades_holds}
use Rattle.liveness_laws.proofs.silent_host_fades.Goals as goal

pub returns : goal.returns
returns c = fades_holds
