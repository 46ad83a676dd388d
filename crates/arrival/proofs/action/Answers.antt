-- Our reading is within a day.
use Rattle.table.proofs.Ranges.{reading_in}
use Rattle.host.specs.declared.Host.{Host}
use Rattle.arrival.proofs.action.Goals as goal

pub two_to_four-requires-clause-reading_value : goal.two_to_four-requires-clause-reading_value
two_to_four-requires-clause-reading_value c =
    let h : Host = c.args.h.host in
    rw c.our_reading-r.ensures (reading_in h.settings.clock_tick h.settings.hold_interval c.args.k h.clock)
