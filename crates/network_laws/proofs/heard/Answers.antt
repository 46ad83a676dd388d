-- What was written is read back, in the layout of its writer: Demand2.antt.
use Rattle.network_laws.proofs.Demand2.{heard_holds}
use Rattle.network_laws.proofs.heard.Goals as goal

pub returns : goal.returns
returns c = heard_holds
