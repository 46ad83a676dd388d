-- CLOCK-15: one adjust of a clock in range moves CLOCK by at most a millisecond, apart from a day at midnight.
use Rattle.std.specs.Prelude.{◌≡◌, true, ◌<◌, ◌^◌, pos, ◌≤ℤ◌}
use Rattle.quantity.specs.declared.Units.{Units}
use Rattle.quantity.specs.declared.Seconds.{Seconds}
use Rattle.quantity.specs.declared.Count.{Count}
use Rattle.quantity.specs.Quantity.{millis, to_units, add_units, sub_units}
use Rattle.clock.specs.declared.Clock.{Clock}
use Rattle.clock.specs.Midnight.{day}
use Rattle.clock.specs.Clock.{adjust, clock_in_range}

-- CLOCK-15: a millisecond in units
abbrev pub one_milli : Units
one_milli = to_units (millis (pos 1))

-- CLOCK-15: b is at most a millisecond away from a
pub record Close (a b : Units) : Type 0 where
  pub back : (sub_units a one_milli).0 ≤ℤ b.0
  pub on : b.0 ≤ℤ (add_units a one_milli).0

-- CLOCK-15: CLOCK was a and is b, in the same day or a day off
pub data Moved (a b : Units) : Type 0 where
  same_day_lem : Close a b → Moved a b
  day_on_lem : Close a (add_units b day) → Moved a b
  day_back_lem : Close a (sub_units b day) → Moved a b

-- CLOCK-15: for every clock in range and every 16-bit count
unfoldable pub OneMilli : Type 0
OneMilli =
    (h : Seconds) (n : Count) (c : Clock) → n.0 < 2 ^ 16 → clock_in_range c ≡ true → Moved c.clock (adjust h n c).clock
