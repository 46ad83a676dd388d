-- The precondition of the midnight rule in the code: CLOCK is so near its day that no sum overflows 64 bits, and DATE is a real date.
use Rattle.std.specs.Prelude.{◌≡◌, true, ◌^◌, pos, neg_ℤ, ◌≤ℤ◌}
use Rattle.calendar.specs.Date.{real}
use Rattle.clock.specs.declared.Clock.{Clock}

pub record Near (c : Clock) : Type 0 where
  pub low : (neg_ℤ (pos (2 ^ 62))) ≤ℤ c.clock.0
  pub high : c.clock.0 ≤ℤ (pos (2 ^ 62))
  pub dated : real c.date ≡ true
