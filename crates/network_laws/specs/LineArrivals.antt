-- CRYSTAL-9: arrivals with a line clock.
use Rattle.std.specs.Prelude.{Bool, cond, List, ℕ, ◌-◌, eqb, Result, Ok, Err}
use Rattle.answer.specs.declared.Answer.{Answer}
use Rattle.wire.specs.declared.Packet.{Packet}
use Rattle.lists.specs.Lists.{part, over}
use Rattle.quantity.specs.declared.Seconds.{Seconds}
use Rattle.quantity.specs.Words.{of_word}
use Rattle.calendar.specs.declared.Date.{Date}
use Rattle.clock.specs.declared.Clock.{Clock}
use Rattle.clock.specs.LineClock.{no_count, line_set, line_reading}
use Rattle.net_table.specs.declared.NetTable.{NetTable}
use Rattle.table.specs.declared.Entry.{Entry}
use Rattle.table.specs.declared.Update.{Update}
use Rattle.table.specs.declared.Updated.{Updated}
use Rattle.table.specs.declared.entries.Updates.{Updates}
use Rattle.table.specs.Forms.{Stage, on, end}
use Rattle.table.specs.Update.{lines, date_taken}
use Rattle.table.specs.Sweep.{Swept, sweep}
use Rattle.table.specs.Runs.{update_at}
use Rattle.host.specs.declared.Host.{Host}
use Rattle.arrival.specs.declared.Arrived.{Arrived}
use Rattle.arrival.specs.declared.Delivery.{Delivery}
use Rattle.arrival.specs.declared.Delivery.TheVariants.{Inspect, Act, Receive}
use Rattle.host.specs.Inspection.{inspect}
use Rattle.arrival.specs.Arrival.{ends, action_at, inspection}

-- ---- arrivals

-- CLOCK-14: an action
abbrev pub line_inspected : NetTable → Host → (link : ℕ) → Result Packet Answer → Arrived
line_inspected t h i (Err a) = ends a h
line_inspected t h i (Ok p) = action_at (line_reading h.clock) no_count t h i p

-- CLOCK-14: one of the three calls
abbrev pub line_delivered : Delivery → (packet : List ℕ) → NetTable → Host → Arrived
line_delivered (Inspect i) octets t h = inspection i octets h
line_delivered (Act i k) octets t h = line_inspected t h i (inspect h.settings i octets)
line_delivered (Receive i k) octets t h = line_inspected t h i (inspect h.settings i octets)

-- CLOCK-14: line (d)
abbrev pub line_settled : (clock_host_of : Bool) → Seconds → Date → Update → Clock → Stage Entry → Updated
line_settled clock_host_of h date u c (on e) = record { clock = cond clock_host_of (line_set h (of_word u.offset) (date_taken date c)) c; entry = e }
line_settled clock_host_of h date u c (end e) = record { clock = c; entry = e }

-- CLOCK-14: the update of a place
abbrev pub line_updated_at : Updates → (packet : List ℕ) → (place : ℕ) → Clock → Entry → Updated
line_updated_at w packet i c e =
    let u : Update = update_at w (i - w.base) packet in
    line_settled (eqb (i - w.base) w.clock_host) w.hold_interval w.date u c (lines u e)

-- CLOCK-14: all updates of an arrival
unfoldable pub line_updates : Updates → (packet : List ℕ) → List Entry → Swept
line_updates w packet entries =
    let swept : Swept = sweep w.first (line_updated_at w packet) w.clock (part w.first (w.end - w.first) entries) in
    record { clock = swept.clock; own_entries = over entries w.first swept.own_entries }
