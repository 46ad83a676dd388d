-- The node of a live entry is the one that marks its id: Demand3/MarkedOnce.antt.
use Rattle.network_laws.proofs.Demand3.MarkedOnce.{marked_once_holds}
use Rattle.network_laws.proofs.marked_once.Goals as goal

pub returns : goal.returns
returns c = marked_once_holds
