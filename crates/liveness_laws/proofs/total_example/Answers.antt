-- The two rounds of `rounds_example` meet the conditions of total correctness; the entries are computed: TotalTwo.antt.
use Rattle.liveness_laws.proofs.TotalTwo.{total_example_holds}
use Rattle.liveness_laws.proofs.total_example.Goals as goal

pub returns : goal.returns
returns c = total_example_holds
