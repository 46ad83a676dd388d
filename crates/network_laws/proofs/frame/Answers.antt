-- A call writes its own host's first places and no other: Demand1/Frame.antt.
use Rattle.network_laws.proofs.Demand1.Frame.{frame_holds}
use Rattle.network_laws.proofs.frame.Goals as goal

pub returns : goal.returns
returns c = frame_holds
