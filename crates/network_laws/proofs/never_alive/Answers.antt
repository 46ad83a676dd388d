-- Demand3/NeverAlive.antt.
use Rattle.network_laws.proofs.Demand3.NeverAlive.{never_alive_holds}
use Rattle.network_laws.proofs.never_alive.Goals as goal

pub returns : goal.returns
returns c = never_alive_holds
