-- Three hosts and one epoch, computed: Silence/UnreportedExample.antt.
use Rattle.liveness_laws.proofs.Silence.UnreportedExample.{unreported_example_holds}
use Rattle.liveness_laws.proofs.unreported_example.Goals as goal

pub returns : goal.returns
returns c = unreported_example_holds
