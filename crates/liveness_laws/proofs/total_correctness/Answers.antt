-- After more rounds than the network is wide every host is within reach: Total.antt.
use Rattle.liveness_laws.proofs.Total.{total_correctness}
use Rattle.liveness_laws.proofs.total_correctness.Goals as goal

pub returns : goal.returns
returns c = total_correctness
