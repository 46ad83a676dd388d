-- CALL-1: what each call results in.
use Rattle.std.specs.Prelude.{cond, not, List, ℕ, Option, Some, None}
use Rattle.quantity.specs.declared.Millis.{Millis}
use Rattle.quantity.specs.declared.Count.{Count}
use Rattle.quantity.specs.Quantity.{millis}
use Rattle.answer.specs.declared.Answer.TheVariants.{Done, NoHost, HostDown}
use Rattle.clock.specs.declared.Counter.{Counter}
use Rattle.clock.specs.declared.Reading.{Reading}
use Rattle.clock.specs.Clock.{fresh_clock, hold_second}
use Rattle.clock.specs.Clock as clock
use Rattle.wire.specs.declared.Address.{Address}
use Rattle.table.specs.declared.Entry.{Entry}
use Rattle.table.specs.declared.entries.Change.TheVariants.{Fresh, Aged, Reported}
use Rattle.table.specs.Entry.{up}
use Rattle.host.specs.declared.Settings.{Settings}
use Rattle.host.specs.declared.walk.Walk.{Walk}
use Rattle.host.specs.declared.Reply.{Reply}
use Rattle.host.specs.declared.Effect.{Effect}
use Rattle.host.specs.declared.guard.Scope.{Scope}
use Rattle.host.specs.declared.guard.Scope.TheVariants.{Places, All, Walking}
use Rattle.net_table.specs.declared.NetTable.{NetTable}
use Rattle.host.specs.Settings.{found_for}
use Rattle.host.specs.State.{fresh_links}
use Rattle.host.specs.Walk.{no_walk}
use Rattle.host.specs.Effect.{each, answers}
use Rattle.host.specs.declared.Host.{Host}
use Rattle.host.specs.CallState.{our_reading}
use Rattle.host.specs.Reply.{plainly, returns_route, returns_time}
use Rattle.walk.specs.Boxes.{at_hand, step}
use Rattle.calls.specs.declared.Request.{Request}
use Rattle.calls.specs.declared.Request.TheVariants.{Initialize, Tick, Adjust, Set, Read, Second, SelfReport, Lookup, Step}

-- ---- the calls

-- HOST-7, TABLE-3, CLOCK-11, HOST-4, MARK-1: initialize: everything fresh, and no walk
unfoldable pub initialize : Settings → Effect
initialize s =
    record { reply = plainly Done; clock = fresh_clock s.time s.date; links = fresh_links s; walk = no_walk; work = each s Fresh }

-- CLOCK-2, CLOCK-14: tick
unfoldable pub tick : Count → Host → Walk → Effect
tick n h w = answers (plainly Done) (clock.tick h.settings.clock_tick h.settings.hold_interval n h.clock) h.links w

-- CLOCK-3, CLOCK-14: adjust
unfoldable pub adjust : Count → Host → Walk → Effect
adjust n h w = answers (plainly Done) (clock.adjust h.settings.hold_interval n h.clock) h.links w

-- CLOCK-4, CLOCK-14: set, by a signed number of milliseconds
unfoldable pub set_by : Millis → Count → Host → Walk → Effect
set_by ms n h w = answers (plainly Done) (clock.set_by h.settings.hold_interval n ms h.clock) h.links w

-- CLOCK-8, CLOCK-16: read: the reading and the DATE after it
unfoldable pub read : Counter → Host → Walk → Effect
read k h w =
    let r : Reading = our_reading k h in
    answers (returns_time r.time r.clock.date) r.clock h.links w

-- CLOCK-10, TABLE-5: second: HOLD and the entries
unfoldable pub second : Host → Walk → Effect
second h w =
    record { reply = plainly Done; clock = hold_second h.clock; links = h.links; walk = w; work = each h.settings Aged }

-- SELF-1, CLOCK-16: self-report: one reading for every marked id
unfoldable pub self_report : Counter → Host → Walk → Effect
self_report k h w =
    let r : Reading = our_reading k h in
    record { reply = plainly Done; clock = r.clock; links = h.links; walk = w; work = each h.settings (Reported r.time) }

-- CALL-3, ANSWER-11, ANSWER-13: 11 without an id, 13 if its entry is down; else id and PID
abbrev pub looked : Option ℕ → Entry → Reply
looked None e = plainly NoHost
looked (Some id) e = cond (not (up e)) (plainly HostDown) (returns_route id e.pid)

-- CALL-3: lookup; nothing changes
unfoldable pub lookup : Address → NetTable → Host → Walk → Entry → Effect
lookup a t h w e = answers (looked (found_for t h.settings a) e) h.clock h.links w

-- CALL-1: what a request results in, given the entry that it uses
abbrev pub effect : Request → NetTable → Host → Walk → (copy : List ℕ) → Entry → Effect
effect Initialize t h w copy e = initialize h.settings
effect (Tick n) t h w copy e = tick n h w
effect (Adjust n) t h w copy e = adjust n h w
effect (Set ms n) t h w copy e = set_by (millis ms) n h w
effect (Read k) t h w copy e = read k h w
effect Second t h w copy e = second h w
effect (SelfReport k) t h w copy e = self_report k h w
effect (Lookup a) t h w copy e = lookup a t h w e
effect (Step k) t h w copy e = step k t h w copy e

-- ---- what a call asks for beside

-- CALL-2, HOST-7: how much of the caller's state the guard tests
abbrev pub scope_of : Request → Scope
scope_of Initialize = Places
scope_of (Tick n) = All
scope_of (Adjust n) = All
scope_of (Set ms n) = All
scope_of (Read k) = All
scope_of Second = All
scope_of (SelfReport k) = All
scope_of (Lookup a) = All
scope_of (Step k) = Walking

-- CALL-3, WALK-3: the id whose entry a request uses
abbrev pub wanted : Request → NetTable → Settings → Walk → Option ℕ
wanted Initialize t s w = None
wanted (Tick n) t s w = None
wanted (Adjust n) t s w = None
wanted (Set ms n) t s w = None
wanted (Read k) t s w = None
wanted Second t s w = None
wanted (SelfReport k) t s w = None
wanted (Lookup a) t s w = found_for t s a
wanted (Step k) t s w = at_hand w
