-- UPDATE-a to UPDATE-d: the RFC's UPDATE procedure, each line by itself, and all of them.
use Rattle.std.specs.Prelude.{Bool, cond, not, ◌&&◌, ◌+◌, eqb, pos, negsuc}
use Rattle.quantity.specs.declared.Millis.{Millis}
use Rattle.quantity.specs.declared.Seconds.{Seconds}
use Rattle.quantity.specs.declared.Count.{Count}
use Rattle.quantity.specs.Quantity.{millis, add_millis, less_millis}
use Rattle.quantity.specs.declared.Word.{Word}
use Rattle.quantity.specs.Words.{word, to_word, of_word}
use Rattle.calendar.specs.declared.Date.{Date}
use Rattle.calendar.specs.Date.{real, awaited}
use Rattle.clock.specs.declared.Clock.{Clock}
use Rattle.clock.specs.Clock.{set_by}
use Rattle.wire.specs.declared.Report.{Report}
use Rattle.table.specs.declared.Entry.{Entry}
use Rattle.table.specs.declared.Update.{Update}
use Rattle.table.specs.declared.Updated.{Updated}
use Rattle.table.specs.Forms.{Stage, on, end, ◌then◌}
use Rattle.table.specs.Entry.{max_delay, min_delay, hold_down, lives_here, up, taken_down}

-- UPDATE-1, SLIP-1: an update with a report added: DELAY without wrapping, OFFSET as a 16-bit word
abbrev pub plus_report : Update → Report → Update
plus_report u r =
    record {
      pid = u.pid;
      delay = add_millis u.delay r.delay;
      offset = to_word (add_millis (of_word u.offset) (of_word r.offset));
      reading = u.reading;
    }

-- UPDATE-1: the least measured DELAY, a signed 16-bit word
abbrev pub own_least : Millis
own_least = millis (negsuc 32767)

-- UPDATE-1: the greatest measured DELAY
abbrev pub own_most : Millis
own_most = millis (pos 32767)

-- UPDATE-1: the greatest DELAY with a report's added
abbrev pub most_delay : Millis
most_delay = millis (pos (32767 + 65535))

-- UPDATE-1: is a number of milliseconds between two limits?
abbrev pub between : (least most : Millis) → Millis → Bool
between least most m = not (less_millis m least) && not (less_millis most m)

-- UPDATE-1: is the DELAY one that can be measured?
abbrev pub own_in_range : Update → Bool
own_in_range u = between own_least own_most u.delay

-- UPDATE-1: is the DELAY one that an update can have?
abbrev pub delay_in_range : Update → Bool
delay_in_range u = between own_least most_delay u.delay

-- UPDATE-a, UPDATE-3: ends for another PID if DELAY + 100 is more than the entry's
unfoldable pub line_a : Update → Entry → Stage Entry
line_a u e =
    cond (not (eqb u.pid e.pid) && less_millis e.delay (add_millis u.delay min_delay)) (end e) (on e)

-- UPDATE-b, UPDATE-3, SLIP-3: an entry that is up goes down at 30,000; one that is down is revived only if its TTL is 0
unfoldable pub line_b : Update → Entry → Stage Entry
line_b u e =
    cond (up e) (cond (less_millis u.delay max_delay) (on e) (end (taken_down e)))
    (cond (less_millis u.delay max_delay && eqb e.ttl.0 0) (on e) (end e))

-- UPDATE-c, UPDATE-3: stores DELAY, OFFSET, TTL 120, PID and our reading; the mark stays
unfoldable pub line_c : Update → Entry → Stage Entry
line_c u e =
    on record { delay = u.delay; offset = u.offset; ttl = hold_down; pid = u.pid; here = e.here; time = u.reading }

-- UPDATE-c: lines (a) to (c): stored if they continue; unchanged or taken down if they end
unfoldable pub lines : Update → Entry → Stage Entry
lines u e = line_a u e then line_b u then line_c u

-- UPDATE-d: a real packet date with bit 15 zero becomes DATE
abbrev pub date_taken : Date → Clock → Clock
date_taken date c =
    cond (real date && not (awaited date))
    record { clock = c.clock; delta = c.delta; hold = c.hold; date = date } c

-- UPDATE-d, CLOCK-16: the packet's date, then Set by OFFSET with the reading's count
unfoldable pub line_d : (holdInterval : Seconds) → Count → Date → Word → Clock → Clock
line_d h n date offset c = set_by h n (of_word offset) (date_taken date c)

-- UPDATE-d: the entry, and the clock, which line (d) sets for the clock host after (c)
abbrev pub settled : (clock_host_of : Bool) → Seconds → Count → Date → Update → Clock → Stage Entry → Updated
settled clock_host_of h n date u c (on e) = record { clock = cond clock_host_of (line_d h n date u.offset c) c; entry = e }
settled clock_host_of h n date u c (end e) = record { clock = c; entry = e }

-- UPDATE-d, MARK-4: one entry updated by an arrival
unfoldable pub update : (clock_host_of : Bool) → Seconds → Count → Date → Update → Clock → Entry → Updated
update clock_host_of h n date u c e = settled clock_host_of h n date u c (lines u e)

-- SELF-1: the update of a self-report: PID 0, DELAY 0, OFFSET 0
abbrev pub own_update : (reading : Millis) → Update
own_update reading = record { pid = 0; delay = millis (pos 0); offset = word (pos 0); reading = reading }

-- SELF-1: the entry after the lines
abbrev pub left : Stage Entry → Entry
left (on e) = e
left (end e) = e

-- SELF-1: an entry after a self-report
unfoldable pub self_reported : (reading : Millis) → Entry → Entry
self_reported reading e = left (lines (own_update reading) e)

-- SELF-1: an entry after a self-report, if its host lives here
unfoldable pub reported_here : (reading : Millis) → Entry → Entry
reported_here reading e = cond (lives_here e) (self_reported reading e) e
