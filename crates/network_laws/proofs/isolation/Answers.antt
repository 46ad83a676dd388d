-- Call by call, by locality: Demand1/Isolation.antt.
use Rattle.network_laws.proofs.Demand1.Isolation.{isolation_holds}
use Rattle.network_laws.proofs.isolation.Goals as goal

pub returns : goal.returns
returns c = isolation_holds
