-- MARK-6: if only the own id is marked, the calls are those without marks.
use Rattle.std.specs.Prelude.{◌≡◌, Bool, true, false, cond, not, ◌&&◌, ◌||◌, map, ℕ, ◌<◌, ltb, eqb, length, Option, Some, None, is_some}
use Rattle.quantity.specs.declared.Millis.{Millis}
use Rattle.answer.specs.declared.Answer.{Answer}
use Rattle.answer.specs.declared.Answer.TheVariants.{Done, Setting, OutOfRange, InWalk}
use Rattle.clock.specs.declared.Counter.{Counter}
use Rattle.clock.specs.declared.Reading.{Reading}
use Rattle.net_table.specs.Table.{table_bad}
use Rattle.table.specs.declared.Entry.{Entry}
use Rattle.table.specs.declared.entries.Change.TheVariants.{Put}
use Rattle.table.specs.declared.entries.Changes.{Changes}
use Rattle.table.specs.Forms.{every}
use Rattle.table.specs.Marks.{only_mark, marked}
use Rattle.table.specs.Entry.{with_mark, entry_in_range}
use Rattle.table.specs.Update.{self_reported}
use Rattle.host.specs.declared.Settings.{Settings}
use Rattle.host.specs.declared.Effect.{Effect}
use Rattle.host.specs.declared.guard.Scope.{Scope}
use Rattle.host.specs.declared.guard.Scope.TheVariants.{Places, All, OnLink, Opening, Walking}
use Rattle.host.specs.Settings.{own_id, numbers_good}
use Rattle.host.specs.State.{no_link}
use Rattle.host.specs.CallState.{CallState, call_state, our_reading, entries_of, host_in_range, own_walk_in_range, marks_as_set}
use Rattle.host.specs.Guard.{no_places, longest, in_walk, done}
use Rattle.host.specs.Effect.{nothing, one}
use Rattle.host.specs.Reply.{plainly}
use Rattle.host.specs.code.Returned.{initialized}
use Rattle.calls.specs.declared.Request.TheVariants.{Initialize, Tick, Adjust, Set, Read, Second, SelfReport, Lookup, Step}
use Rattle.calls.specs.Perform.{Call, ask, send, deliver, open_walk, Outcome, scope_of_call, refused, entry_at, carried_out, work, perform, left}

-- MARK-6: is it the own id?
abbrev pub is_own : Option ℕ → (id : ℕ) → Bool
is_own None id = false
is_own (Some own) id = eqb id own

-- MARK-6: only the own id is marked
abbrev pub MarksOwn : Settings → Type 0
MarksOwn s = (id : ℕ) → marked s.marks id ≡ is_own (own_id s) id

-- ---- the guard without marks

-- MARK-6: the test of the settings without marks
abbrev pub settings_unmarked : Settings → Bool
settings_unmarked s = numbers_good s && is_some (own_id s)

-- MARK-6: the test of the caller's state without marks
abbrev pub state_unmarked : CallState → Bool
state_unmarked x = host_in_range x.host && own_walk_in_range x && every entry_in_range (entries_of x)

-- MARK-6: out of range, without marks
abbrev pub own_out_unmarked : Scope → CallState → Bool
own_out_unmarked Places x = no_places x.number x.entries
own_out_unmarked All x = no_places x.number x.entries || not (state_unmarked x)
own_out_unmarked Walking x = no_places x.number x.entries || not (state_unmarked x)
own_out_unmarked (OnLink i) x = no_link x.host.settings i || (no_places x.number x.entries || not (state_unmarked x))
own_out_unmarked (Opening i) x =
    ltb (length x.copy) longest
    || (no_link x.host.settings i || (no_places x.number x.entries || not (state_unmarked x)))

-- MARK-6: the same, or a bad net table
abbrev pub out_unmarked : Scope → CallState → Bool
out_unmarked a x = table_bad x.nets || own_out_unmarked a x

-- MARK-6: the guard without marks
abbrev pub guard_unmarked : Scope → CallState → Answer
guard_unmarked a x =
    cond (out_unmarked a x) OutOfRange
    (cond (in_walk a x.walk) InWalk
    (cond (not (settings_unmarked x.host.settings && eqb x.host.settings.layout.nhosts x.nets.nhosts)) Setting Done))

-- ----

-- MARK-6, SELF-1: the update of the own id alone
abbrev pub own_work : Millis → Option ℕ → CallState → Changes
own_work time None x = nothing
own_work time (Some id) x = one id (Put (self_reported time (entry_at (Some id) x)))

-- MARK-6, SELF-1: a self-report of the own id alone
abbrev pub own_report : Counter → CallState → Effect
own_report k x =
    let r : Reading = our_reading k x.host in
    record { reply = plainly Done; clock = r.clock; links = x.host.links; walk = x.walk; work = own_work r.time (own_id x.host.settings) x }

-- ---- the calls

-- MARK-6: the work of each call
abbrev pub work_unmarked : Call → CallState → Outcome
work_unmarked (ask Initialize) x = work (ask Initialize) x
work_unmarked (ask (Tick n)) x = work (ask (Tick n)) x
work_unmarked (ask (Adjust n)) x = work (ask (Adjust n)) x
work_unmarked (ask (Set ms n)) x = work (ask (Set ms n)) x
work_unmarked (ask (Read k)) x = work (ask (Read k)) x
work_unmarked (ask Second) x = work (ask Second) x
work_unmarked (ask (SelfReport k)) x = carried_out (own_report k x) x
work_unmarked (ask (Lookup a)) x = work (ask (Lookup a)) x
work_unmarked (ask (Step k)) x = work (ask (Step k)) x
work_unmarked (send i k buffer) x = work (send i k buffer) x
work_unmarked (deliver d packet) x = work (deliver d packet) x
work_unmarked (open_walk i packet) x = work (open_walk i packet) x

-- MARK-6: the call without marks
abbrev pub perform_unmarked : Call → CallState → Outcome
perform_unmarked c x =
    cond (not (done (guard_unmarked (scope_of_call c) x))) (refused (guard_unmarked (scope_of_call c) x) c x) (work_unmarked c x)

-- ---- the state before and after a call, without the marks

-- MARK-6: an entry without its mark
abbrev pub bare : Entry → Entry
bare e = with_mark 0 e

-- MARK-6: a caller's state without marks
abbrev pub bare_state : CallState → CallState
bare_state x = call_state x.host.settings x.nets x.number x.host.clock x.host.links x.walk x.copy (map bare x.entries)

-- MARK-6: an outcome without marks
abbrev pub bare_outcome : Outcome → Outcome
bare_outcome o =
    record { reply = o.reply; clock = o.clock; links = o.links; walk = o.walk; copy = o.copy; entries = map bare o.entries; buffer = o.buffer }

-- ---- the law

-- MARK-6: for every call of a host that marks its own id alone
pub record OwnAlone : Type 0 where
  -- MARK-6: it is the call without marks
  pub calls : (c : Call) (x : CallState) → MarksOwn x.host.settings → (initialized (scope_of_call c) ≡ false → marks_as_set x ≡ true)
      → perform c x ≡ perform_unmarked c x
  -- MARK-6: which uses no mark
  pub blind : (c : Call) (x : CallState) → bare_outcome (perform_unmarked c x) ≡ bare_outcome (perform_unmarked c (bare_state x))
  -- MARK-1: after initialize the entries have the marks of the settings
  pub begins : (x : CallState) → (perform (ask Initialize) x).reply.answer ≡ Done → marks_as_set (left x (perform (ask Initialize) x)) ≡ true
  pub stays : (c : Call) (x : CallState) → marks_as_set x ≡ true → marks_as_set (left x (perform c x)) ≡ true
  -- MARK-6: such marks exist
  pub only : (own id : ℕ) → own < 256 → marked (only_mark own) id ≡ eqb id own
