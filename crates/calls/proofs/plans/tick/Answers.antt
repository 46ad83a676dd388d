-- The clock is ticked, whatever links, walk and table are.
use Rattle.host.proofs.Sound.{sound}
use Rattle.calls.specs.Effects as definition
use Rattle.calls.proofs.plans.tick.Goals as goal

pub ticked-requires-clause-clock_tick_value : goal.ticked-requires-clause-clock_tick_value
ticked-requires-clause-clock_tick_value c = (sound _ c.args.h.good).tick
