-- One way through `two_to_four`: rewriting by the contracts of `measured`, `step4` gives the definition.
use Rattle.arrival.specs.Steps.{steps2to4}
use Rattle.arrival.proofs.steps.two_to_four.Goals as goal

pub returns : goal.returns
unfolding steps2to4
returns c = rw (← c.measured.ensures) c.step4.ensures
