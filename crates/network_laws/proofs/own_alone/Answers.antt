-- OwnAlone.antt.
use Rattle.network_laws.proofs.OwnAlone.{own_alone_holds}
use Rattle.network_laws.proofs.own_alone.Goals as goal

pub returns : goal.returns
returns c = own_alone_holds
