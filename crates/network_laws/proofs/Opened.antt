-- All rules of a host opened at once, for what is proved by computing: an answer says `unfolding opened`.
use Rattle.calendar.specs.Date.{last_day, real, next, previous}
use Rattle.checksum.specs.Checksum.{fold, folded, checksum_good, checksum_of}
use Rattle.clock.specs.While.{turns, while}
use Rattle.clock.specs.Midnight.{day_on, day_back, days_on, days_back, midnight}
use Rattle.clock.specs.Clock.{fresh_clock, reading, set_by, tick_in_range, clock_in_range}
use Rattle.clock.specs.Clock as clock
use Rattle.wire.specs.Ip.{ip_form, ip_checksum, protocol, header}
use Rattle.wire.specs.Hello.{hello_form, hello_checksum, report_at, hello}
use Rattle.wire.specs.Packet.{fields, parse, message}
use Rattle.route.specs.Find.{same_net, local_id, search, find}
use Rattle.table.specs.Marks.{mark, none_from}
use Rattle.table.specs.Entry.{fresh_entry, advertised, entry_in_range}
use Rattle.table.specs.Update.{line_a, line_b, line_c, lines, line_d, update, self_reported, reported_here}
use Rattle.table.specs.Sweep.{sweep}
use Rattle.table.specs.Runs.{changes, updates}
use Rattle.net_table.specs.Table.{table_bad}
use Rattle.host.specs.Settings.{settings_good}
use Rattle.host.specs.State.{fresh_links, own_entries, with_entries, no_link}
use Rattle.host.specs.Walk.{walk_in_range}
use Rattle.host.specs.CallState.{state_in_range}
use Rattle.host.specs.Guard.{no_places, guard}
use Rattle.host.specs.Inspection.{other_layout, looped, inspect}
use Rattle.arrival.specs.Steps.{step2, step3, step4, steps2to4}
use Rattle.calls.specs.Effects.{initialize, tick, self_report}
use Rattle.calls.specs.Perform.{perform}

unfoldable pub opened : Unit {0}
unfolding last_day real next previous fold folded checksum_good checksum_of turns while day_on day_back days_on days_back midnight fresh_clock reading set_by tick_in_range clock_in_range clock.tick ip_form ip_checksum protocol header hello_form hello_checksum report_at hello fields parse message same_net local_id search find mark none_from fresh_entry advertised entry_in_range line_a line_b line_c lines line_d update self_reported reported_here sweep changes updates table_bad settings_good fresh_links own_entries with_entries walk_in_range state_in_range no_places no_link guard other_layout looped inspect step2 step3 step4 steps2to4 initialize tick self_report perform
opened = tt
