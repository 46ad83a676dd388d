-- The shared host table has at each node's places what its last call stored: Demand3/Shared.antt.
use Rattle.network_laws.proofs.Demand3.Shared.{shared_demand_3}
use Rattle.network_laws.proofs.shared_demand_3.Goals as goal

pub returns : goal.returns
returns c = shared_demand_3
