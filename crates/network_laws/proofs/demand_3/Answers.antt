-- The calls that demand 3 names are some of all calls: Demand3/Histories.antt.
use Rattle.network_laws.proofs.Demand3.Histories.{demand_3}
use Rattle.network_laws.proofs.demand_3.Goals as goal

pub returns : goal.returns
returns c = demand_3
