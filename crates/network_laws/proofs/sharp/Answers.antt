-- The history is computed: Demand3/Sharp.antt.
use Rattle.network_laws.proofs.Demand3.Sharp.{sharp}
use Rattle.network_laws.proofs.sharp.Goals as goal

pub returns : goal.returns
returns c = sharp
