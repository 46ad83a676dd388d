-- `WalkEnds` has the proof.
use Rattle.network_laws.proofs.WalkEnds.{walk_ends_holds}
use Rattle.network_laws.proofs.walk_ends.Goals as goal

pub returns : goal.returns
returns c = walk_ends_holds
