-- A call looks at nothing else: Demand1/Locality.antt.
use Rattle.network_laws.proofs.Demand1.Locality.{locality_holds}
use Rattle.network_laws.proofs.locality.Goals as goal

pub returns : goal.returns
returns c = locality_holds
