-- Entries stay within their ranges: what is stored has a DELAY under 30,000, what is taken down has 30,000, and a TTL only falls or becomes 120.
-- Their marks stay as they are. The clock stays within its ranges too: a date that is taken is real, and a set keeps its ranges.
use mathlib.Core.Path.{◌≡◌, refl}
use mathlib.Core.Bool.{Bool, true, not, ◌&&◌}
use Prim.Native.Nat.{◌≤◌, ◌<◌, ◌^◌}
use native.Mathlib.Omega.{arith}
use Rattle.quantity.specs.declared.Millis.{Millis}
use Rattle.quantity.specs.declared.Seconds.{Seconds}
use Rattle.quantity.specs.declared.Count.{Count}
use Rattle.quantity.specs.Quantity.{less_millis}
use Rattle.quantity.specs.Words.{of_word}
use Rattle.quantity.proofs.Ints.{dn, lt_yes}
use Rattle.lists.proofs.Tests.{either, both}
use Rattle.calendar.specs.declared.Date.{Date}
use Rattle.calendar.specs.Date.{real, awaited}
use Rattle.clock.specs.declared.Clock.{Clock}
use Rattle.clock.specs.Midnight.{day_millis}
use Rattle.clock.specs.Clock.{clock_in_range}
use Rattle.clock.proofs.Range.{set_in_range}
use Rattle.clock.proofs.Bounds as clock
use Rattle.table.specs.declared.Entry.{Entry}
use Rattle.table.specs.declared.Update.{Update}
use Rattle.table.specs.Entry.{max_delay, fresh_entry, lives_here, taken_down, aged, up_to, entry_in_range}
use Rattle.table.specs.Update.{lines, date_taken, line_d, update, left, own_update, self_reported, reported_here}
use Rattle.table.proofs.Ranges.{Ranged, range_says, in_range, within}
use Rattle.table.proofs.Cases.{stored, lines_keep, update_keeps, aged_keeps, reported_keeps, clock_keeps}

pub fresh_in_range : entry_in_range fresh_entry ≡ true
unfolding entry_in_range fresh_entry
fresh_in_range = refl

down_ranged : (e : Entry) → Ranged e → Ranged (taken_down e)
down_ranged e r = record { delay = omega arith; ttl = omega arith; pid = r.pid; time = r.time }

pub aged_in_range : (e : Entry) → entry_in_range e ≡ true → entry_in_range (aged e) ≡ true
aged_in_range e h =
    let r = range_says e h in
    in_range (aged e)
    (aged_keeps Ranged e r (down_ranged e r) record { delay = r.delay; ttl = omega arith; pid = r.pid; time = r.time })

-- an update whose DELAY is not negative, and whose PID and reading are in range
module _ (u : Update) (delay : dn u.delay.0 ≤ 0) (pid : u.pid ≤ 8) (reading : up_to day_millis u.reading ≡ true) where
  stored_ranged : less_millis u.delay max_delay ≡ true → (e : Entry) → Ranged (stored u e)
  stored_ranged h e =
      let l = lt_yes u.delay.0 max_delay.0 h in
      record { delay = omega arith; ttl = omega arith; pid = pid; time = within 86400000 u.reading.0 reading }

  pub lines_in_range : (e : Entry) → entry_in_range e ≡ true → entry_in_range (left (lines u e)) ≡ true
  lines_in_range e h =
      let r = range_says e h in
      in_range (left (lines u e)) (lines_keep Ranged u e r (down_ranged e r) (λ h. stored_ranged h e))

  pub update_in_range : (clock_host_of : Bool) (h : Seconds) (n : Count) (date : Date) (c : Clock) (e : Entry) → entry_in_range e ≡ true
      → entry_in_range (update clock_host_of h n date u c e).entry ≡ true
  update_in_range clock_host_of h n date c e i =
      let r = range_says e i in
      in_range (update clock_host_of h n date u c e).entry
      (update_keeps Ranged clock_host_of h n date u c e r (down_ranged e r) (λ h. stored_ranged h e))

pub self_in_range : (reading : Millis) → up_to day_millis reading ≡ true → (e : Entry) → entry_in_range e ≡ true
    → entry_in_range (self_reported reading e) ≡ true
unfolding self_reported
self_in_range reading h e i = lines_in_range (own_update reading) (omega arith) (omega arith) h e i

pub reported_in_range : (reading : Millis) → up_to day_millis reading ≡ true → (e : Entry) → entry_in_range e ≡ true
    → entry_in_range (reported_here reading e) ≡ true
unfolding reported_here
reported_in_range reading h e i =
    either (λ (x : Entry). entry_in_range x ≡ true) (lives_here e) _ _ (λ t. self_in_range reading h e i) (λ t. i)

-- ---- the mark stays

pub update_mark : (clock_host_of : Bool) (h : Seconds) (n : Count) (date : Date) (u : Update) (c : Clock) (e : Entry)
    → (update clock_host_of h n date u c e).entry.here ≡ e.here
update_mark clock_host_of h n date u c e = update_keeps (λ (x : Entry). x.here ≡ e.here) clock_host_of h n date u c e refl refl (λ _. refl)

pub aged_mark : (e : Entry) → (aged e).here ≡ e.here
aged_mark e = aged_keeps (λ (x : Entry). x.here ≡ e.here) e refl refl refl

pub reported_mark : (reading : Millis) (e : Entry) → (reported_here reading e).here ≡ e.here
reported_mark reading e = reported_keeps (λ (x : Entry). x.here ≡ e.here) reading e refl refl (λ _. refl)

-- ---- the clock

pub date_in_range : (date : Date) (c : Clock) → clock_in_range c ≡ true → clock_in_range (date_taken date c) ≡ true
date_in_range date c i =
    let k = clock.range_says c i in
    let r = k.rest in
    either (λ (x : Clock). clock_in_range x ≡ true) (real date && not (awaited date)) _ _
    (λ t.
    clock.in_range _
    record {
      clock_low = k.clock_low;
      clock_high = k.clock_high;
      rest = record { delta_low = r.delta_low; delta_high = r.delta_high; hold_high = r.hold_high; dated = (both (real date) (not (awaited date)) t).0 };
    })
    (λ t. i)

pub clock_in_range_lem : (clock_host_of : Bool) (h : Seconds) → h.0 ≤ 255 → (n : Count) → n.0 < 2 ^ 16 → (date : Date) (u : Update) (c : Clock) (e : Entry)
    → clock_in_range c ≡ true → clock_in_range (update clock_host_of h n date u c e).clock ≡ true
unfolding line_d
clock_in_range_lem clock_host_of h small n few date u c e i =
    clock_keeps (λ (x : Clock). clock_in_range x ≡ true) clock_host_of h n date u c e i
    (set_in_range h small (date_taken date c) (date_in_range date c i) n few (of_word u.offset))
