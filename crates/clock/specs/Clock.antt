-- CLOCK-1: tick, adjust, set, read, and what a second does to HOLD. Each takes the settings that it needs.
use Rattle.std.specs.Prelude.{Bool, cond, not, ◌&&◌, ℕ, ◌^◌, leb, eqb, pos, negsuc}
use Rattle.quantity.specs.declared.Units.{Units}
use Rattle.quantity.specs.declared.Millis.{Millis}
use Rattle.quantity.specs.declared.Count.{Count}
use Rattle.quantity.specs.declared.Seconds.{Seconds}
use Rattle.quantity.specs.Quantity.{units, millis, seconds, to_units, whole_millis, add_units, sub_units, div_units, less_units, less_millis, fall_seconds}
use Rattle.calendar.specs.declared.Date.{Date}
use Rattle.calendar.specs.Date.{real, await}
use Rattle.clock.specs.declared.Clock.{Clock}
use Rattle.clock.specs.declared.Counter.{Counter}
use Rattle.clock.specs.declared.Reading.{Reading}
use Rattle.clock.specs.Midnight.{day, plus_count, midnight}

-- ---- fresh: the starting time and date

-- CLOCK-11: the starting time and date, bit 15 of DATE one, DELTA and HOLD zero
unfoldable pub fresh_clock : Millis → Date → Clock
fresh_clock time date = record { clock = to_units time; delta = units (pos 0); hold = seconds 0; date = await date }

-- ---- tick

-- CLOCK-2: CLOCK increased by a number of units
abbrev pub moved_on : Units → Clock → Clock
moved_on u c = record { clock = add_units c.clock u; delta = c.delta; hold = c.hold; date = c.date }

-- CLOCK-2, CLOCK-14: CLOCK increased by CLOCK-TICK, then midnight
unfoldable pub tick : (clockTick : Units) (holdInterval : Seconds) → Count → Clock → Clock
tick t h n c = midnight h n (moved_on t c)

-- ---- adjust

-- CLOCK-3: ADJUST-FRACTION
abbrev pub adjust_fraction : ℕ
adjust_fraction = 7

-- CLOCK-3: f: DELTA / 128, rounded down
abbrev pub share : Clock → Units
share c = div_units c.delta (2 ^ adjust_fraction)

-- CLOCK-3, CLOCK-14: f moves from DELTA to CLOCK, then midnight
unfoldable pub adjust : (holdInterval : Seconds) → Count → Clock → Clock
adjust h n c =
    midnight h n
    (record { clock = add_units c.clock (share c); delta = sub_units c.delta (share c); hold = c.hold; date = c.date })

-- ---- set, by a count of ms

-- CLOCK-4: the least correction that slews
abbrev pub slew_least : Millis
slew_least = millis (negsuc 127)

-- CLOCK-4: the greatest correction that slews
abbrev pub slew_most : Millis
slew_most = millis (pos 127)

-- CLOCK-4: does a correction slew?
abbrev pub slews : Millis → Bool
slews m = not (less_millis m slew_least) && not (less_millis slew_most m)

-- CLOCK-4, CLOCK-14: a slew becomes DELTA; a step is added to CLOCK, clears DELTA and loads HOLD; then midnight
unfoldable pub set_by : (holdInterval : Seconds) → Count → Millis → Clock → Clock
set_by h n m c =
    midnight h n
    (cond (slews m) record { clock = c.clock; delta = to_units m; hold = c.hold; date = c.date }
    record { clock = add_units c.clock (to_units m); delta = units (pos 0); hold = h; date = c.date })

-- ---- read

-- CLOCK-8: is the overflow mark set? Any octet except 0 is a mark.
abbrev pub marked : Counter → Bool
marked k = not (eqb k.overflow 0)

-- CLOCK-8: the second count if the mark is set, the first if not
abbrev pub count_used : Counter → Count
count_used k = cond (marked k) k.again k.count

-- CLOCK-8: CLOCK increased by CLOCK-TICK if the mark is set
abbrev pub overflowed : (clockTick : Units) → Counter → Clock → Clock
overflowed t k c = cond (marked k) (moved_on t c) c

-- CLOCK-8, CLOCK-9: the milliseconds of CLOCK plus the count, and the clock after the reading
unfoldable pub reading : (clockTick : Units) (holdInterval : Seconds) → Counter → Clock → Reading
reading t h k c =
    let m : Clock = midnight h (count_used k) (overflowed t k c) in
    record { clock = m; time = whole_millis (plus_count (count_used k) m) }

-- ---- second

-- CLOCK-10: HOLD one second less, unless zero
unfoldable pub hold_second : Clock → Clock
hold_second c = record { clock = c.clock; delta = c.delta; hold = fall_seconds c.hold; date = c.date }

-- ---- ranges of what is set

-- CLOCK-12: is a number of units between two limits, both included?
abbrev pub within : (least most : Units) → Units → Bool
within least most u = not (less_units u least) && not (less_units most u)

-- CLOCK-13: the longest CLOCK-TICK
abbrev pub tick_most : Millis
tick_most = millis (pos 65536)

-- CLOCK-13: is CLOCK-TICK 1 unit to 65,536 ms?
unfoldable pub tick_in_range : Units → Bool
tick_in_range t = within (units (pos 1)) (to_units tick_most) t

-- ---- ranges of the borrowed state

-- CLOCK-9: the least CLOCK: 65,535 ms below zero
abbrev pub clock_least : Millis
clock_least = millis (negsuc 65534)

-- CLOCK-12: are CLOCK, DELTA, HOLD and DATE in range?
unfoldable pub clock_in_range : Clock → Bool
clock_in_range c =
    within (to_units clock_least) day c.clock && within (to_units slew_least) (to_units slew_most) c.delta
    && leb c.hold.0 255 && real c.date
