-- One way through `measured`: rewriting by the contracts of `tsp_of`, `delay_of`, `offset_of` gives the definition.
use Rattle.arrival.specs.Steps.{step2, step3}
use Rattle.arrival.proofs.steps.measured.Goals as goal

pub returns : goal.returns
unfolding step2 step3
returns c = rw (c.offset_of.ensures, c.delay_of-delay.ensures.0, c.tsp_of-tsp.ensures)
