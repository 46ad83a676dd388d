-- `Pair` has the proof.
use Rattle.network_laws.proofs.Pair.{pair_holds}
use Rattle.network_laws.proofs.inspect_then_act.Goals as goal

pub returns : goal.returns
returns c = pair_holds
