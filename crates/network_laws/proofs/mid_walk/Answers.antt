-- The walk is computed: MidWalk.antt.
use Rattle.network_laws.proofs.MidWalk.{mid_walk}
use Rattle.network_laws.proofs.mid_walk.Goals as goal

pub returns : goal.returns
returns c = mid_walk
