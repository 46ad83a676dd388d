-- An update leaves an entry, takes it down, or stores it with a DELAY under 30,000; a second leaves it, takes it down, or changes its TTL.
-- So a predicate of entries is kept if it is kept there.
use mathlib.Core.Path.{◌≡◌, refl, sym, subst}
use mathlib.Core.Bool.{Bool, true, not, ◌&&◌}
use lib.Dec.{eqb}
use Rattle.lists.proofs.Tests.{either, both}
use Rattle.quantity.specs.declared.Millis.{Millis}
use Rattle.quantity.specs.declared.Seconds.{Seconds}
use Rattle.quantity.specs.declared.Count.{Count}
use Rattle.quantity.specs.Quantity.{add_millis, less_millis, fall_seconds}
use Rattle.calendar.specs.declared.Date.{Date}
use Rattle.clock.specs.declared.Clock.{Clock}
use Rattle.table.specs.declared.Entry.{Entry}
use Rattle.table.specs.declared.Update.{Update}
use Rattle.table.specs.Forms.{Stage, on, end, ◌then◌}
use Rattle.table.specs.Entry.{max_delay, min_delay, hold_down, lives_here, up, taken_down, with_ttl, aged}
use Rattle.table.specs.Update.{line_a, line_b, line_c, lines, line_d, settled, update, left, own_update, self_reported, reported_here}

-- what is stored
abbrev pub stored : Update → Entry → Entry
stored u e = record { delay = u.delay; offset = u.offset; ttl = hold_down; pid = u.pid; here = e.here; time = u.reading }

pub lines_keep : (P : Entry → Type 0) (u : Update) (e : Entry) → P e → P (taken_down e)
    → (less_millis u.delay max_delay ≡ true → P (stored u e)) → P (left (lines u e))
unfolding lines line_a line_b line_c
lines_keep P u e stays down stores =
    either (λ (x : Stage Entry). P (left (x then line_b u then line_c u)))
    (not (eqb u.pid e.pid) && less_millis e.delay (add_millis u.delay min_delay)) _ _ (λ t. stays)
    (λ t.
    either (λ (x : Stage Entry). P (left (x then line_c u))) (up e) _ _
    (λ t₁.
    either (λ (x : Stage Entry). P (left (x then line_c u))) (less_millis u.delay max_delay) _ _ stores (λ v. down))
    (λ t₁.
    either (λ (x : Stage Entry). P (left (x then line_c u))) (less_millis u.delay max_delay && eqb e.ttl.0 0) _ _
    (λ v. stores (both (less_millis u.delay max_delay) (eqb e.ttl.0 0) v).0) (λ v. stays)))

pub self_keeps : (P : Entry → Type 0) (reading : Millis) (e : Entry) → P e → P (taken_down e) → P (stored (own_update reading) e)
    → P (self_reported reading e)
unfolding self_reported
self_keeps P reading e stays down stores = lines_keep P (own_update reading) e stays down (λ _. stores)

-- a self-report, which is of a host that lives here
pub reported_keeps : (P : Entry → Type 0) (reading : Millis) (e : Entry) → P e → P (taken_down e)
    → (lives_here e ≡ true → P (stored (own_update reading) e)) → P (reported_here reading e)
unfolding reported_here
reported_keeps P reading e stays down stores =
    either P (lives_here e) _ _ (λ t. self_keeps P reading e stays down (stores t)) (λ t. stays)

settled_entry : (clock_host_of : Bool) (h : Seconds) (n : Count) (date : Date) (u : Update) (c : Clock) (x : Stage Entry)
    → (settled clock_host_of h n date u c x).entry ≡ left x
settled_entry clock_host_of h n date u c (on e) = refl
settled_entry clock_host_of h n date u c (end e) = refl

pub update_keeps : (P : Entry → Type 0) (clock_host_of : Bool) (h : Seconds) (n : Count) (date : Date) (u : Update) (c : Clock) (e : Entry)
    → P e → P (taken_down e) → (less_millis u.delay max_delay ≡ true → P (stored u e)) → P (update clock_host_of h n date u c e).entry
unfolding update
update_keeps P clock_host_of h n date u c e stays down stores =
    subst P (sym (settled_entry clock_host_of h n date u c (lines u e))) (lines_keep P u e stays down stores)

pub aged_keeps : (P : Entry → Type 0) (e : Entry) → P e → P (taken_down e) → P (with_ttl (fall_seconds e.ttl) e) → P (aged e)
unfolding aged
aged_keeps P e stays down falls =
    either P (eqb e.ttl.0 0) _ _ (λ t. stays)
    (λ t. either P (eqb (fall_seconds e.ttl).0 0 && up e) _ _ (λ v. down) (λ v. falls))

-- the clock is left, or set by line (d)
settled_clock : (P : Clock → Type 0) (clock_host_of : Bool) (h : Seconds) (n : Count) (date : Date) (u : Update) (c : Clock) (x : Stage Entry)
    → P c → P (line_d h n date u.offset c) → P (settled clock_host_of h n date u c x).clock
settled_clock P clock_host_of h n date u c (on e) stays set = either P clock_host_of _ _ (λ t. set) (λ t. stays)
settled_clock P clock_host_of h n date u c (end e) stays set = stays

pub clock_keeps : (P : Clock → Type 0) (clock_host_of : Bool) (h : Seconds) (n : Count) (date : Date) (u : Update) (c : Clock) (e : Entry)
    → P c → P (line_d h n date u.offset c) → P (update clock_host_of h n date u c e).clock
unfolding update
clock_keeps P clock_host_of h n date u c e stays set = settled_clock P clock_host_of h n date u c (lines u e) stays set
