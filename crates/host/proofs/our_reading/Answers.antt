-- Good settings have a tick in range.
use Rattle.host.proofs.Sound.{sound}
use Rattle.host.proofs.our_reading.Goals as goal

pub reading-requires-clause-clock_tick_value : goal.reading-requires-clause-clock_tick_value
reading-requires-clause-clock_tick_value c = (sound _ c.args.h.good).tick
