-- CALL-4: a call is its guard, then its work. Everything afterwards is defined, refusals included.
use Rattle.std.specs.Prelude.{◌≡◌, cond, not, List, [], ℕ, length, get_or, Option, Some, None}
use Rattle.answer.specs.declared.Answer.{Answer}
use Rattle.clock.specs.declared.Clock.{Clock}
use Rattle.clock.specs.declared.Counter.{Counter}
use Rattle.table.specs.declared.Entry.{Entry}
use Rattle.table.specs.Entry.{fresh_entry}
use Rattle.table.specs.Sweep.{Swept}
use Rattle.table.specs.Runs.{changes, updates}
use Rattle.host.specs.declared.Links.{Links}
use Rattle.host.specs.declared.walk.Walk.{Walk}
use Rattle.host.specs.declared.Reply.{Reply}
use Rattle.host.specs.declared.Effect.{Effect}
use Rattle.host.specs.declared.guard.Scope.{Scope}
use Rattle.host.specs.declared.guard.Scope.TheVariants.{OnLink, Opening}
use Rattle.host.specs.State.{with_entries}
use Rattle.host.specs.CallState.{CallState, call_state, entries_of}
use Rattle.host.specs.Guard.{guard, done}
use Rattle.host.specs.Reply.{plainly}
use Rattle.sending.specs.declared.Sending.{Sending}
use Rattle.sending.specs.Send.{send_in, written}
use Rattle.arrival.specs.declared.Arrived.{Arrived}
use Rattle.arrival.specs.Arrival.{on_link, delivered}
use Rattle.walk.specs.declared.Opening as declared
use Rattle.walk.specs.Opening.{opening, copied}
use Rattle.calls.specs.Effects.{scope_of, wanted, effect}
pub use Rattle.calls.specs.Calls.{Call, ask, send, deliver, open_walk, Outcome}
unfoldable pub use Rattle.calls.specs.Calls.{inspect, act, receive, step}

-- ---- the guard

-- CALL-2: how much of the caller's state the guard tests
abbrev pub scope_of_call : Call → Scope
scope_of_call (ask q) = scope_of q
scope_of_call (send i k buffer) = OnLink i
scope_of_call (deliver d packet) = OnLink (on_link d)
scope_of_call (open_walk i packet) = Opening i

-- SEND-4: the buffer of a send
abbrev pub buffer_of : Call → List ℕ
buffer_of (ask q) = []
buffer_of (send i k buffer) = buffer
buffer_of (deliver d packet) = []
buffer_of (open_walk i packet) = []

-- CALL-2, REPLY-3, CLOCK-16: a refusal changes nothing
abbrev pub refused : Answer → Call → CallState → Outcome
refused a call x =
    record { reply = plainly a; clock = x.host.clock; links = x.host.links; walk = x.walk; copy = x.copy; entries = x.entries; buffer = buffer_of call }

-- ---- the work

-- CALL-3: the entry of a found id
abbrev pub entry_at : Option ℕ → CallState → Entry
entry_at None x = fresh_entry
entry_at (Some id) x = get_or (entries_of x) id fresh_entry

-- CALL-4: the changes of a request
abbrev pub carried_out : Effect → CallState → Outcome
carried_out e x =
    record { reply = e.reply; clock = e.clock; links = e.links; walk = e.walk; copy = x.copy; entries = with_entries x.number (changes e.work (entries_of x)) x.entries; buffer = [] }

-- SEND-4: the changes of a send
abbrev pub sent_by : Sending → (buffer : List ℕ) → CallState → Outcome
sent_by p buffer x =
    record { reply = p.reply; clock = p.clock; links = p.links; walk = x.walk; copy = x.copy; entries = x.entries; buffer = written p (entries_of x) buffer }

-- UPDATE-2: the changes of an arrival: updates in rising order
abbrev pub updated_by : Arrived → (packet : List ℕ) → CallState → Outcome
updated_by e octets x =
    let w : Swept = updates e.work octets (entries_of x) in
    record { reply = e.reply; clock = w.clock; links = e.links; walk = x.walk; copy = x.copy; entries = with_entries x.number w.own_entries x.entries; buffer = [] }

-- WALK-1: the changes of opening a walk
abbrev pub opened_by : declared.Opening → (packet : List ℕ) → CallState → Outcome
opened_by o packet x =
    record { reply = o.reply; clock = x.host.clock; links = x.host.links; walk = o.walk; copy = copied o.octets packet x.copy; entries = x.entries; buffer = [] }

-- CALL-4: the work of each call
abbrev pub work : Call → CallState → Outcome
work (ask q) x = carried_out (effect q x.nets x.host x.walk x.copy (entry_at (wanted q x.nets x.host.settings x.walk) x)) x
work (send i k buffer) x = sent_by (send_in i k (length buffer) x.host) buffer x
work (deliver d packet) x = updated_by (delivered d packet x.nets x.host) packet x
work (open_walk i packet) x = opened_by (opening i packet x.host.settings x.walk) packet x

-- ---- the call

-- CALL-4, CALL-2, REPLY-1, EXACT-1: the call: the guard's refusal, or the work
unfoldable pub perform : Call → CallState → Outcome
perform call x =
    cond (not (done (guard (scope_of_call call) x))) (refused (guard (scope_of_call call) x) call x) (work call x)

-- ISOLATION-3: the state after a call, as the next call takes it
abbrev pub left : CallState → Outcome → CallState
left x o = call_state x.host.settings x.nets x.number o.clock o.links o.walk o.copy o.entries

-- INSPECT-4: the inspection and, if it answers 0, the action
abbrev pub in_turn : (link : ℕ) → Counter → (packet : List ℕ) → CallState → Outcome
in_turn i k packet x =
    let o : Outcome = perform (inspect i packet) x in
    cond (done o.reply.answer) (perform (act i k packet) (left x o)) o

-- CALL-4, REPLY-5: an outcome as a caller sees it, without a buffer
pub record Leaves (o : Outcome) (r : Reply) (c : Clock) (l : Links) (w : Walk) (octets : List ℕ) (es : List Entry) : Type 0 where
  pub reply : r ≡ o.reply
  pub clock : c ≡ o.clock
  pub links : l ≡ o.links
  pub walk : w ≡ o.walk
  pub copy : octets ≡ o.copy
  pub entries : es ≡ o.entries
