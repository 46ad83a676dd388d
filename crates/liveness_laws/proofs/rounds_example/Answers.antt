-- By computing: Rounds/Example.antt.
use Rattle.liveness_laws.proofs.Rounds.Example.{example_holds}
use Rattle.liveness_laws.proofs.rounds_example.Goals as goal

pub returns : goal.returns
returns c = example_holds
