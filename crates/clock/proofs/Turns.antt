-- What the turns of the midnight rule keep: a real DATE, and a CLOCK that is near its day.
use mathlib.Core.Path.{◌≡◌, ◌∙◌}
use mathlib.Core.Bool.{true}
use Prim.Native.Nat.{◌+◌, ◌*◌, ◌≤◌, ◌<◌, ◌^◌}
use native.Mathlib.Omega.{arith}
use lib.IntN.{ℤ, pos}
use mir.Syntax.{w64}
use mir.Val.{SFits}
use Rattle.quantity.specs.declared.Seconds.{Seconds}
use Rattle.quantity.specs.declared.Count.{Count}
use Rattle.quantity.specs.Quantity.{units_per_milli, count_millis, count_units}
use Rattle.quantity.proofs.Ints.{up, dn, one, sum, diff, times, lt_yes, of-≤ℤ, fits}
use Rattle.calendar.specs.declared.Date.{Date}
use Rattle.calendar.specs.Date.{real, await}
use Rattle.calendar.proofs.Days.{real_await}
use Rattle.calendar.proofs.Stepping.{real_next, real_previous}
use Rattle.clock.specs.declared.Clock.{Clock}
use Rattle.clock.specs.Midnight.{day, plus_count, days_away, exceeds_day, day_on, below_zero, day_back}
use Rattle.clock.specs.code.Near.{Near}
use Rattle.clock.proofs.Midnight.{day_on_nearer, day_back_nearer}
use Rattle.clock.proofs.Bounds.{nearby}
use Rattle.clock.proofs.While.{Loop}

-- a CLOCK a day further than one that is near still fits its 64 bits
pub a_day_further : (c : Clock) → Near c → (z : ℤ) → up z ≤ up c.clock.0 + up day.0 → dn z ≤ dn c.clock.0 + up day.0 → SFits w64 z
a_day_further c n z u d = fits w64 z (omega (arith, of-≤ℤ n.low, of-≤ℤ n.high))

pub awaiting : (d : Date) → real d ≡ true → real (await d) ≡ true
awaiting d e = real_await d ∙ e

-- the units of a 16-bit count
pub count_up : (n : Count) → n.0 < 2 ^ 16 → up (count_units n).0 < 2 ^ 32
count_up n e = omega (arith, times (count_millis n).0 units_per_milli)

pub count_not_below : (n : Count) → dn (count_units n).0 ≡ 0
count_not_below n = omega (arith, times (count_millis n).0 units_per_milli)

pub near_on : (h : Seconds) (n : Count) (c : Clock) → n.0 < 2 ^ 16 → exceeds_day n c ≡ true → Near c → Near (day_on h c)
unfolding day_on
near_on h n c small e near =
    let l = lt_yes day.0 (plus_count n c).0 e in
    let k = sum c.clock.0 (count_units n).0 in
    let s = diff c.clock.0 day.0 in
    let t = of-≤ℤ near.high in
    let b = of-≤ℤ near.low in
    nearby (day_on h c) (omega (arith, count_up n small, count_not_below n, one c.clock.0, one (day_on h c).clock.0)) (awaiting _ (real_next c.date near.dated))

pub near_back : (h : Seconds) (n : Count) (c : Clock) → below_zero n c ≡ true → Near c → Near (day_back h c)
unfolding day_back
near_back h n c e near =
    let l = lt_yes (plus_count n c).0 (pos 0) e in
    let k = sum c.clock.0 (count_units n).0 in
    let s = sum c.clock.0 day.0 in
    let t = of-≤ℤ near.low in
    nearby (day_back h c) (omega (arith, count_not_below n, one c.clock.0, one (day_back h c).clock.0)) (awaiting _ (real_previous c.date near.dated))

-- the two loops: the count is one of 16 bits, and the clock near
abbrev pub Turning : Count → Clock → Type 0
Turning n c = (n.0 < 2 ^ 16) × Near c

abbrev pub on : Seconds → Count → Loop Clock
on h n =
    record {
      size = days_away n;
      test = exceeds_day n;
      turn = day_on h;
      falls = day_on_nearer h n;
      P = Turning n;
      kept = λ c e p. (p.0, near_on h n c p.0 e p.1);
    }

abbrev pub back : Seconds → Count → Loop Clock
back h n =
    record {
      size = days_away n;
      test = below_zero n;
      turn = day_back h;
      falls = day_back_nearer h n;
      P = Turning n;
      kept = λ c e p. (p.0, near_back h n c e p.1);
    }
