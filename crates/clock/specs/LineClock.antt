-- CLOCK-14: the clock without a counter. Midnight is tested on CLOCK alone.
use Rattle.std.specs.Prelude.{◌≡◌, Bool, cond, ℕ, pos, nat_abs, ◌≤ℤ◌}
use Rattle.quantity.specs.declared.Units.{Units}
use Rattle.quantity.specs.declared.Millis.{Millis}
use Rattle.quantity.specs.declared.Seconds.{Seconds}
use Rattle.quantity.specs.declared.Count.{Count}
use Rattle.quantity.specs.Quantity.{units, counts, to_units, whole_millis, add_units, sub_units, div_units, less_units}
use Rattle.clock.specs.declared.Clock.{Clock}
use Rattle.clock.specs.declared.Counter.{Counter}
use Rattle.clock.specs.declared.Reading.{Reading}
use Rattle.clock.specs.While.{while}
use Rattle.clock.specs.Midnight.{day, day_on, day_back}
use Rattle.clock.specs.Clock.{moved_on, share, slews, tick, adjust, set_by, reading}
use Rattle.clock.specs.Crystal.{counting}

-- CLOCK-14: the count of a line clock
abbrev pub no_count : Count
no_count = counts 0

-- CLOCK-14: the counter of a line clock
abbrev pub no_counter : Counter
no_counter = counting no_count

-- CLOCK-14: how many days CLOCK is away from its day
abbrev pub clock_days : Clock → ℕ
clock_days c = nat_abs (div_units c.clock (nat_abs day.0)).0

-- CLOCK-5: is CLOCK more than a day?
abbrev pub clock_exceeds : Clock → Bool
clock_exceeds c = less_units day c.clock

-- CLOCK-6: is CLOCK negative?
abbrev pub clock_below : Clock → Bool
clock_below c = less_units c.clock (units (pos 0))

-- CLOCK-5, CLOCK-6: midnight on CLOCK alone
unfoldable pub line_midnight : (holdInterval : Seconds) → Clock → Clock
line_midnight h c = while clock_days clock_below (day_back h) (while clock_days clock_exceeds (day_on h) c)

-- CLOCK-2: tick without a counter
abbrev pub line_tick : (clockTick : Units) (holdInterval : Seconds) → Clock → Clock
line_tick t h c = line_midnight h (moved_on t c)

-- CLOCK-3: adjust without a counter
abbrev pub line_adjust : (holdInterval : Seconds) → Clock → Clock
line_adjust h c =
    line_midnight h
    (record { clock = add_units c.clock (share c); delta = sub_units c.delta (share c); hold = c.hold; date = c.date })

-- CLOCK-4: set without a counter
abbrev pub line_set : (holdInterval : Seconds) → Millis → Clock → Clock
line_set h m c =
    line_midnight h
    (cond (slews m) record { clock = c.clock; delta = to_units m; hold = c.hold; date = c.date }
    record { clock = add_units c.clock (to_units m); delta = units (pos 0); hold = h; date = c.date })

-- CLOCK-8: the milliseconds of CLOCK; nothing changes
abbrev pub line_reading : Clock → Reading
line_reading c = record { clock = c; time = whole_millis c.clock }

-- CLOCK-14: with a count of zero and no mark, the clock is the one without a counter
pub record LineClock : Type 0 where
  pub ticks : (t : Units) (h : Seconds) (c : Clock) → tick t h no_count c ≡ line_tick t h c
  pub adjusts : (h : Seconds) (c : Clock) → adjust h no_count c ≡ line_adjust h c
  pub sets : (h : Seconds) (m : Millis) (c : Clock) → set_by h no_count m c ≡ line_set h m c
  pub reads : (t : Units) (h : Seconds) (c : Clock) → (pos 0) ≤ℤ c.clock.0 → c.clock.0 ≤ℤ day.0
      → reading t h no_counter c ≡ line_reading c
