-- Every call keeps tables, messages and links right: Demand3/Histories.antt.
use Rattle.network_laws.proofs.Demand3.Histories.{all_calls}
use Rattle.network_laws.proofs.demand_3_all_calls.Goals as goal

pub returns : goal.returns
returns c = all_calls
