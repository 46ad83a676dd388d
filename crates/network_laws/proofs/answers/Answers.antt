-- The tests of each call are in its definition in their order: Demand1/Answers.antt.
use Rattle.network_laws.proofs.Demand1.Answers.{answers-hold}
use Rattle.network_laws.proofs.answers.Goals as goal

pub returns : goal.returns
returns c = answers-hold
