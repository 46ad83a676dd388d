-- Each part by its function; our reading is a time of the day.
use Rattle.table.proofs.Ranges.{reading_in}
use Rattle.host.specs.declared.Settings.{Settings}
use Rattle.sending.proofs.sends.Goals as goal

pub packet_sent-requires : goal.packet_sent-requires
packet_sent-requires c =
    let s : Settings = c.args.h.host.settings in
    rw c.our_reading-r.ensures (reading_in s.clock_tick s.hold_interval c.args.k c.args.h.host.clock)
