-- CLOCK-14: the calls over a clock without a counter, and that calls without a count are the same.
use Rattle.std.specs.Prelude.{◌≡◌, cond, not, List, ℕ, ltb, pos, length, ◌≤ℤ◌}
use Rattle.quantity.specs.Quantity.{millis}
use Rattle.answer.specs.declared.Answer.TheVariants.{Done, ShortBuffer}
use Rattle.clock.specs.declared.Clock.{Clock}
use Rattle.clock.specs.declared.Reading.{Reading}
use Rattle.clock.specs.Midnight.{day}
use Rattle.clock.specs.LineClock.{no_count, no_counter, line_tick, line_adjust, line_set, line_reading}
use Rattle.wire.specs.Packet.{packet_length}
use Rattle.net_table.specs.declared.NetTable.{NetTable}
use Rattle.table.specs.declared.Entry.{Entry}
use Rattle.table.specs.declared.entries.Change.TheVariants.{Reported}
use Rattle.table.specs.Sweep.{Swept}
use Rattle.host.specs.declared.Effect.{Effect}
use Rattle.host.specs.declared.walk.Walk.{Walk}
use Rattle.host.specs.State.{link_of, with_entries}
use Rattle.host.specs.declared.Host.{Host}
use Rattle.host.specs.CallState.{CallState, entries_of}
use Rattle.host.specs.Guard.{guard, done}
use Rattle.host.specs.Effect.{each, answers}
use Rattle.host.specs.Reply.{plainly, returns_time}
use Rattle.sending.specs.declared.Sending.{Sending}
use Rattle.sending.specs.Send.{report_count, unsent, sent_at}
use Rattle.arrival.specs.declared.Arrived.{Arrived}
use Rattle.arrival.specs.declared.Delivery.TheVariants.{Inspect, Act, Receive}
use Rattle.calls.specs.declared.Request.{Request}
use Rattle.calls.specs.declared.Request.TheVariants.{Initialize, Tick, Adjust, Set, Read, Second, SelfReport, Lookup, Step}
use Rattle.calls.specs.Effects.{effect, wanted}
use Rattle.calls.specs.Perform.{Call, ask, send, deliver, open_walk, Outcome, scope_of_call, refused, entry_at, carried_out, sent_by, opened_by, perform}
use Rattle.walk.specs.Opening.{opening}
unfoldable pub use Rattle.network_laws.specs.LineWalks.{line_box1, line_clock_set, line_box_d, line_box_at, line_box_of, line_step}
unfoldable pub use Rattle.network_laws.specs.LineArrivals.{line_inspected, line_delivered, line_settled, line_updated_at, line_updates}

-- ---- requests

-- CLOCK-14: what a request results in
abbrev pub line_effect : Request → NetTable → Host → Walk → (copy : List ℕ) → Entry → Effect
line_effect Initialize t h w copy e = effect Initialize t h w copy e
line_effect (Tick n) t h w copy e = answers (plainly Done) (line_tick h.settings.clock_tick h.settings.hold_interval h.clock) h.links w
line_effect (Adjust n) t h w copy e = answers (plainly Done) (line_adjust h.settings.hold_interval h.clock) h.links w
line_effect (Set ms n) t h w copy e = answers (plainly Done) (line_set h.settings.hold_interval (millis ms) h.clock) h.links w
line_effect (Read k) t h w copy e =
    let r : Reading = line_reading h.clock in
    answers (returns_time r.time r.clock.date) r.clock h.links w
line_effect Second t h w copy e = effect Second t h w copy e
line_effect (SelfReport k) t h w copy e =
    let r : Reading = line_reading h.clock in
    record { reply = plainly Done; clock = r.clock; links = h.links; walk = w; work = each h.settings (Reported r.time) }
line_effect (Lookup a) t h w copy e = effect (Lookup a) t h w copy e
line_effect (Step k) t h w copy e = line_step k t h w copy e

-- ---- sends

-- CLOCK-14: a send
abbrev pub line_send : (link : ℕ) (room : ℕ) → Host → Sending
line_send i room h =
    cond (ltb room (packet_length (report_count h.settings (link_of h.links i)))) (unsent ShortBuffer h) (sent_at (line_reading h.clock) i h)

-- ---- the calls

-- CLOCK-14: the changes of an arrival
abbrev pub line_updated_by : Arrived → (packet : List ℕ) → CallState → Outcome
line_updated_by e octets x =
    let w : Swept = line_updates e.work octets (entries_of x) in
    record { reply = e.reply; clock = w.clock; links = e.links; walk = x.walk; copy = x.copy; entries = with_entries x.number w.own_entries x.entries; buffer = List.[] }

-- CLOCK-14: the work of each call
abbrev pub line_work : Call → CallState → Outcome
line_work (ask q) x = carried_out (line_effect q x.nets x.host x.walk x.copy (entry_at (wanted q x.nets x.host.settings x.walk) x)) x
line_work (send i k buffer) x = sent_by (line_send i (length buffer) x.host) buffer x
line_work (deliver d packet) x = line_updated_by (line_delivered d packet x.nets x.host) packet x
line_work (open_walk i packet) x = opened_by (opening i packet x.host.settings x.walk) packet x

-- CLOCK-14: the call
unfoldable pub line_perform : Call → CallState → Outcome
line_perform call x =
    cond (not (done (guard (scope_of_call call) x))) (refused (guard (scope_of_call call) x) call x) (line_work call x)

-- ---- the law

-- CLOCK-14: the call gets no count, and its walk has none
abbrev pub NoCount : Call → Walk → Type 0
NoCount (ask Initialize) w = Unit {0}
NoCount (ask (Tick n)) w = n ≡ no_count
NoCount (ask (Adjust n)) w = n ≡ no_count
NoCount (ask (Set ms n)) w = n ≡ no_count
NoCount (ask (Read k)) w = k ≡ no_counter
NoCount (ask Second) w = Unit {0}
NoCount (ask (SelfReport k)) w = k ≡ no_counter
NoCount (ask (Lookup a)) w = Unit {0}
NoCount (ask (Step k)) w = (k ≡ no_counter) × (w.count ≡ no_count)
NoCount (send i k buffer) w = k ≡ no_counter
NoCount (deliver (Inspect i) packet) w = Unit {0}
NoCount (deliver (Act i k) packet) w = k ≡ no_counter
NoCount (deliver (Receive i k) packet) w = k ≡ no_counter
NoCount (open_walk i packet) w = Unit {0}

-- CLOCK-14: CLOCK is within its day
pub record LineTime (c : Clock) : Type 0 where
  pub from_0 : (pos 0) ≤ℤ c.clock.0
  pub to_day : c.clock.0 ≤ℤ day.0

-- CLOCK-14: for every call without a count
pub record LineCalls : Type 0 where
  -- CLOCK-14: it is the call over a clock without a counter
  pub same : (c : Call) (x : CallState) → NoCount c x.walk → LineTime x.host.clock → perform c x ≡ line_perform c x
  -- CLOCK-14: and so for every list of such calls
  pub stays : (c : Call) (x : CallState) → NoCount c x.walk → LineTime x.host.clock → LineTime (perform c x).clock
  pub holds_none : (c : Call) (x : CallState) → NoCount c x.walk → x.walk.count ≡ no_count → (perform c x).walk.count ≡ no_count
