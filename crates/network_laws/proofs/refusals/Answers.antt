-- Who refuses changes nothing: Demand1/Refusals.antt.
use Rattle.network_laws.proofs.Demand1.Refusals.{refusals_hold}
use Rattle.network_laws.proofs.refusals.Goals as goal

pub returns : goal.returns
returns c = refusals_hold
