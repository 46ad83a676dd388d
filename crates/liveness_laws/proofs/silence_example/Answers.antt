-- Three hosts and one epoch, computed: Silence/Example.antt.
use Rattle.liveness_laws.proofs.Silence.Example.{example_holds}
use Rattle.liveness_laws.proofs.silence_example.Goals as goal

pub returns : goal.returns
returns c = example_holds
