-- CLOCK-8: properties of a reading with a crystal's counter.
use Rattle.std.specs.Prelude.{◌≡◌, pos, ◌≤ℤ◌}
use Rattle.quantity.specs.declared.Units.{Units}
use Rattle.quantity.specs.declared.Seconds.{Seconds}
use Rattle.quantity.specs.declared.Count.{Count}
use Rattle.quantity.specs.Quantity.{counts}
use Rattle.clock.specs.declared.Clock.{Clock}
use Rattle.clock.specs.declared.Counter.{Counter}
use Rattle.clock.specs.Midnight.{day_millis, day, plus_count}
use Rattle.clock.specs.Clock.{count_used, overflowed, reading}

-- CLOCK-8: a count without a mark
abbrev pub counting : Count → Counter
counting n = record { count = n; overflow = 0; again = counts 0 }

-- CLOCK-7: CLOCK plus the count is within its day
pub record InDay (n : Count) (c : Clock) : Type 0 where
  pub from_0 : (pos 0) ≤ℤ (plus_count n c).0
  pub to_day : (plus_count n c).0 ≤ℤ day.0

-- CLOCK-8: a reading is within the day, and reading again with the same count changes nothing
pub record Crystal : Type 0 where
  -- CLOCK-8: a reading is not negative
  pub from_0 : (t : Units) (h : Seconds) (k : Counter) (c : Clock) → (pos 0) ≤ℤ (reading t h k c).time.0
  -- CLOCK-8: a reading is at most 86,400,000 ms
  pub to_day : (t : Units) (h : Seconds) (k : Counter) (c : Clock) → (reading t h k c).time.0 ≤ℤ day_millis.0
  -- CLOCK-8: reading again with the same count and no mark changes nothing
  pub again : (t : Units) (h : Seconds) (k : Counter) (c : Clock) → reading t h (counting (count_used k)) (reading t h k c).clock ≡ reading t h k c
  -- CLOCK-9: within the day a reading changes nothing except by a marked tick
  pub in_day : (t : Units) (h : Seconds) (k : Counter) (c : Clock) → InDay (count_used k) (overflowed t k c)
      → (reading t h k c).clock ≡ overflowed t k c
