-- CRYSTAL-9: the boxes of a walk with a line clock.
use Rattle.std.specs.Prelude.{cond, not, List, ℕ, Option, Some, None, Result, Ok, Err}
use Rattle.answer.specs.declared.Answer.{Answer}
use Rattle.quantity.specs.Words.{of_word}
use Rattle.answer.specs.declared.Answer.TheVariants.{OutOfRange, NoWalk}
use Rattle.clock.specs.declared.Clock.{Clock}
use Rattle.clock.specs.declared.Counter.{Counter}
use Rattle.clock.specs.declared.Reading.{Reading}
use Rattle.clock.specs.LineClock.{no_count, line_set, line_reading}
use Rattle.wire.specs.declared.Packet.{Packet}
use Rattle.net_table.specs.declared.NetTable.{NetTable}
use Rattle.table.specs.declared.Entry.{Entry}
use Rattle.table.specs.Update.{date_taken}
use Rattle.host.specs.declared.Effect.{Effect}
use Rattle.host.specs.declared.walk.Walk.{Walk}
use Rattle.host.specs.declared.walk.Place.{Place}
use Rattle.host.specs.declared.walk.Place.TheVariants.{Step1, Step2, Step3, Step4, Step5, LineA, LineB, LineC, LineD}
use Rattle.host.specs.declared.Host.{Host}
use Rattle.host.specs.CallState.{host}
use Rattle.host.specs.Walk.{is_open, place_of, packet_of, line_update}
use Rattle.host.specs.Effect.{nothing, answers}
use Rattle.host.specs.Reply.{plainly}
use Rattle.host.specs.Inspection.{inspect}
use Rattle.walk.specs.Boxes.{holding_reading, at_step, onward, next_id, is_clock_host, box_at}

-- ---- the boxes of a walk: step 1 reads the line clock, and line (d) sets it

-- CLOCK-14: step 1 of a walk
abbrev pub line_box1 : Host → Walk → Effect
line_box1 h w =
    let r : Reading = line_reading h.clock in
    onward (at_step 2 (holding_reading no_count r.time w)) r.clock h.links nothing

-- CLOCK-14: the clock that line (d) sets
abbrev pub line_clock_set : Packet → (packet : List ℕ) → Host → Walk → Clock
line_clock_set p octets h w =
    cond (is_clock_host h w) (line_set h.settings.hold_interval (of_word (line_update w p octets).offset) (date_taken p.date h.clock)) h.clock

-- CLOCK-14: line (d) of a walk
abbrev pub line_box_d : Packet → (packet : List ℕ) → Host → Walk → Effect
line_box_d p octets h w = next_id p (host h.settings (line_clock_set p octets h w) h.links) w nothing

-- CLOCK-14: the box of a place
abbrev pub line_box_at : Option Place → Counter → Packet → (packet : List ℕ) → NetTable → Host → Walk → Entry → Effect
line_box_at None k p octets t h w e = box_at None k p octets t h w e
line_box_at (Some Step1) k p octets t h w e = line_box1 h w
line_box_at (Some Step2) k p octets t h w e = box_at (Some Step2) k p octets t h w e
line_box_at (Some Step3) k p octets t h w e = box_at (Some Step3) k p octets t h w e
line_box_at (Some Step4) k p octets t h w e = box_at (Some Step4) k p octets t h w e
line_box_at (Some Step5) k p octets t h w e = box_at (Some Step5) k p octets t h w e
line_box_at (Some LineA) k p octets t h w e = box_at (Some LineA) k p octets t h w e
line_box_at (Some LineB) k p octets t h w e = box_at (Some LineB) k p octets t h w e
line_box_at (Some LineC) k p octets t h w e = box_at (Some LineC) k p octets t h w e
line_box_at (Some LineD) k p octets t h w e = line_box_d p octets h w

-- CLOCK-14: the box of a packet
abbrev pub line_box_of : Counter → (packet : List ℕ) → NetTable → Host → Walk → Entry → Result Packet Answer → Effect
line_box_of k octets t h w e (Err a) = answers (plainly OutOfRange) h.clock h.links w
line_box_of k octets t h w e (Ok p) = line_box_at (place_of w) k p octets t h w e

-- CLOCK-14: one box
abbrev pub line_step : Counter → NetTable → Host → Walk → (copy : List ℕ) → Entry → Effect
line_step k t h w copy e =
    cond (not (is_open w)) (answers (plainly NoWalk) h.clock h.links w)
    (line_box_of k (packet_of w copy) t h w e (inspect h.settings w.link (packet_of w copy)))
