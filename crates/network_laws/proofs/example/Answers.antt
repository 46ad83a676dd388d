-- The history is computed: Demand3/Alive.antt.
use Rattle.network_laws.proofs.Demand3.Alive.{alive}
use Rattle.network_laws.proofs.example.Goals as goal

pub returns : goal.returns
returns c = alive
