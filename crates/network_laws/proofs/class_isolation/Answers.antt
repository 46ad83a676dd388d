-- Each call given its table, by isolation: Demand1/Class.antt.
use Rattle.network_laws.proofs.Demand1.Class.{class_isolation_holds}
use Rattle.network_laws.proofs.class_isolation.Goals as goal

pub returns : goal.returns
returns c = class_isolation_holds
