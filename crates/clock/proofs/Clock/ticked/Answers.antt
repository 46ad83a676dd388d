-- CLOCK in range and a tick in range have a sum that fits.
use Rattle.clock.specs.Clock.{tick}
use Rattle.clock.proofs.Bounds.{range_says, ticked_off, nearby, off_fits}
use Rattle.clock.proofs.Clock.ticked.Goals as goal

pub add-requires : goal.add-requires
add-requires c = off_fits _ (ticked_off c.args.self c.args.clock_tick c.requires.self_value c.requires.clock_tick_value)

pub invariant_of-midnight : goal.invariant_of-midnight
invariant_of-midnight c =
    let o = ticked_off c.args.self c.args.clock_tick c.requires.self_value c.requires.clock_tick_value in
    record { near = rw c.add.ensures (nearby _ o (range_says c.args.self c.requires.self_value).rest.dated) }

pub returns : goal.returns
unfolding tick
returns c = rw c.add.ensures at c.midnight.ensures
