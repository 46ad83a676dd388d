-- TABLE-1: one entry of the host table.
use Rattle.std.specs.Prelude.{Bool, cond, not, ◌&&◌, ℕ, leb, eqb, pos}
use Rattle.quantity.specs.declared.Millis.{Millis}
use Rattle.quantity.specs.declared.Seconds.{Seconds}
use Rattle.quantity.specs.Quantity.{millis, seconds, less_millis, fall_seconds}
use Rattle.quantity.specs.Words.{word}
use Rattle.clock.specs.Midnight.{day_millis}
use Rattle.wire.specs.declared.Report.{Report}
use Rattle.table.specs.declared.Entry.{Entry}
use Rattle.table.specs.declared.marks.Marks.{Marks}
use Rattle.table.specs.Marks.{mark}

-- TABLE-2: MAXDELAY
abbrev pub max_delay : Millis
max_delay = millis (pos 30000)

-- TABLE-2: MINDELAY
abbrev pub min_delay : Millis
min_delay = millis (pos 100)

-- TABLE-2: the hold-down time
abbrev pub hold_down : Seconds
hold_down = seconds 120

-- TABLE-3: down, with zeros and without a mark
unfoldable pub fresh_entry : Entry
fresh_entry = record { delay = max_delay; offset = word (pos 0); ttl = seconds 0; pid = 0; here = 0; time = millis (pos 0) }

-- MARK-1: does the entry's host live here?
abbrev pub lives_here : Entry → Bool
lives_here e = eqb e.here 1

-- MARK-1: an entry with another mark
abbrev pub with_mark : (here : ℕ) → Entry → Entry
with_mark n e = record { delay = e.delay; offset = e.offset; ttl = e.ttl; pid = e.pid; here = n; time = e.time }

-- MARK-3: is the entry's mark the settings' mark of its id?
abbrev pub as_marked : Marks → (id : ℕ) → Entry → Bool
as_marked m id e = eqb e.here (mark m id)

-- TABLE-4: is the entry up: is its DELAY less than 30,000?
abbrev pub up : Entry → Bool
up e = less_millis e.delay max_delay

-- TABLE-5: an entry with another TTL
abbrev pub with_ttl : Seconds → Entry → Entry
with_ttl t e = record { delay = e.delay; offset = e.offset; ttl = t; pid = e.pid; here = e.here; time = e.time }

-- UPDATE-b, TABLE-5: an entry taken down: DELAY 30,000 and TTL 120
abbrev pub taken_down : Entry → Entry
taken_down e = record { delay = max_delay; offset = e.offset; ttl = hold_down; pid = e.pid; here = e.here; time = e.time }

-- TABLE-5: an entry one second later
unfoldable pub aged : Entry → Entry
aged e =
    cond (eqb e.ttl.0 0) e
    (cond (eqb (fall_seconds e.ttl).0 0 && up e) (taken_down e) (with_ttl (fall_seconds e.ttl) e))

-- TABLE-6, SOURCE-2: what a send on a link reports of an entry: 30,000 if the route is over that link
unfoldable pub advertised : (pid : ℕ) → Entry → Report
advertised pid e =
    record { delay = cond (eqb e.pid pid) max_delay e.delay; offset = e.offset }

-- TABLE-7: is a number of milliseconds 0 to a limit?
abbrev pub up_to : Millis → Millis → Bool
up_to most m = not (less_millis m (millis (pos 0))) && not (less_millis most m)

-- TABLE-7: are DELAY, TTL, PID and time in range?
unfoldable pub entry_in_range : Entry → Bool
entry_in_range e =
    up_to max_delay e.delay && leb e.ttl.0 hold_down.0 && leb e.pid 8 && up_to day_millis e.time
