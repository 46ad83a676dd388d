-- Deleting the calls at other numbers changes nothing, since each of them keeps this number's places: Demand1/Alone.antt.
use Rattle.network_laws.proofs.Demand1.Alone.{alone_holds}
use Rattle.network_laws.proofs.alone.Goals as goal

pub returns : goal.returns
returns c = alone_holds
