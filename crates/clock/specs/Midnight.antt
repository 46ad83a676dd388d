-- CLOCK-5, CLOCK-6, CLOCK-7: the midnight rules, on CLOCK plus the count.
use Rattle.std.specs.Prelude.{◌≡◌, Bool, cond, ℕ, pos, nat_abs, ◌≤ℤ◌}
use Rattle.quantity.specs.declared.Units.{Units}
use Rattle.quantity.specs.declared.Count.{Count}
use Rattle.quantity.specs.declared.Millis.{Millis}
use Rattle.quantity.specs.declared.Seconds.{Seconds}
use Rattle.quantity.specs.Quantity.{units, millis, to_units, count_units, add_units, sub_units, div_units, less_units}
use Rattle.calendar.specs.Date.{next, previous, await}
use Rattle.clock.specs.declared.Clock.{Clock}
use Rattle.clock.specs.While.{while}

-- CLOCK-5: the milliseconds of a day
abbrev pub day_millis : Millis
day_millis = millis (pos 86400000)

-- CLOCK-5: a day in units
abbrev pub day : Units
day = to_units day_millis

-- CLOCK-8: CLOCK plus the count
abbrev pub plus_count : Count → Clock → Units
plus_count n c = add_units c.clock (count_units n)

-- CLOCK-5, CLOCK-6: how many days the sum is above or below its own day; each turn brings it a day nearer
abbrev pub days_away : Count → Clock → ℕ
days_away n c = nat_abs (div_units (plus_count n c) (nat_abs day.0)).0

-- CLOCK-5: is the sum more than a day?
abbrev pub exceeds_day : Count → Clock → Bool
exceeds_day n c = less_units day (plus_count n c)

-- CLOCK-5: a day less, DATE one day on with bit 15 one, HOLD loaded
unfoldable pub day_on : (holdInterval : Seconds) → Clock → Clock
day_on h c = record { clock = sub_units c.clock day; delta = c.delta; hold = h; date = await (next c.date) }

-- CLOCK-6: is the sum negative?
abbrev pub below_zero : Count → Clock → Bool
below_zero n c = less_units (plus_count n c) (units (pos 0))

-- CLOCK-6: a day more, DATE one day back with bit 15 one, HOLD loaded
unfoldable pub day_back : (holdInterval : Seconds) → Clock → Clock
day_back h c = record { clock = add_units c.clock day; delta = c.delta; hold = h; date = await (previous c.date) }

-- CLOCK-5: days off as long as the sum is more than a day
unfoldable pub days_on : (holdInterval : Seconds) → Count → Clock → Clock
days_on h n c = while (days_away n) (exceeds_day n) (day_on h) c

-- CLOCK-6: days added as long as the sum is negative
unfoldable pub days_back : (holdInterval : Seconds) → Count → Clock → Clock
days_back h n c = while (days_away n) (below_zero n) (day_back h) c

-- CLOCK-7: both midnight rules
unfoldable pub midnight : (holdInterval : Seconds) → Count → Clock → Clock
midnight h n c = days_back h n (days_on h n c)

-- CLOCK-5, CLOCK-6: each rule is a loop: if its condition is true, one turn and the rule again; if not, nothing
pub record Whiles : Type 0 where
  pub on : (h : Seconds) (n : Count) (c : Clock) → days_on h n c ≡ cond (exceeds_day n c) (days_on h n (day_on h c)) c
  pub back : (h : Seconds) (n : Count) (c : Clock) → days_back h n c ≡ cond (below_zero n c) (days_back h n (day_back h c)) c

-- CLOCK-7: within the day, both ends included, midnight changes nothing
unfoldable pub Rests : Type 0
Rests =
    (h : Seconds) (n : Count) (c : Clock) → (pos 0) ≤ℤ (plus_count n c).0 → (plus_count n c).0 ≤ℤ day.0 → midnight h n c ≡ c
