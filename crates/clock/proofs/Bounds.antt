-- What the range tests say, in the readings that omega takes, and back.
use mathlib.Core.Path.{◌≡◌}
use mathlib.Core.Bool.{true, not}
use mathlib.Core.List.{[], ◌∷◌}
use Prim.Native.Nat.{◌≤◌, ◌^◌}
use native.Mathlib.Omega.{arith}
use borrow.Author.Tests.{leb-true, le-leb}
use lib.Dec.{leb}
use lib.IntN.{ℤ, pos, neg_ℤ, ◌+ℤ◌}
use lib.Signed.{lt_z}
use mir.Syntax.{w64}
use mir.Val.{SFits}
use Rattle.quantity.specs.declared.Units.{Units}
use Rattle.quantity.specs.Quantity.{units, to_units}
use Rattle.quantity.proofs.Ints.{up, dn, sum, Le, lt_no, not_lt, to-≤ℤ, Within, fits}
use Rattle.lists.proofs.Tests.{both, each, is_not}
use Rattle.calendar.specs.Date.{real}
use Rattle.clock.specs.declared.Clock.{Clock}
use Rattle.clock.specs.Midnight.{day}
use Rattle.clock.specs.code.Near.{Near}
use Rattle.clock.specs.Clock.{within, slew_least, slew_most, tick_most, tick_in_range, clock_least, clock_in_range}

-- ---- between a least and a most

record Between (least most u : Units) : Type 0 where
  above : Le least.0 u.0
  below : Le u.0 most.0

between : (least most u : Units) → within least most u ≡ true → Between least most u
between l m u e =
    let b = both (not (lt_z u.0 l.0)) (not (lt_z m.0 u.0)) e in
    record {
      above = lt_no u.0 l.0 (is_not (lt_z u.0 l.0) b.0);
      below = lt_no m.0 u.0 (is_not (lt_z m.0 u.0) b.1);
    }

-- ---- CLOCK-TICK

pub record Tick (t : Units) : Type 0 where
  pub tick_low : dn t.0 ≤ 0
  pub tick_high : up t.0 ≤ up (to_units tick_most).0

pub tick_says : (t : Units) → tick_in_range t ≡ true → Tick t
unfolding tick_in_range
tick_says t e = let b = between (units (pos 1)) (to_units tick_most) t e in omega arith

-- ---- what is lent

-- DELTA, HOLD and DATE
pub record Rest (c : Clock) : Type 0 where
  pub delta_low : dn c.delta.0 ≤ dn (to_units slew_least).0
  pub delta_high : up c.delta.0 ≤ up (to_units slew_most).0
  pub hold_high : c.hold.0 ≤ 255
  pub dated : real c.date ≡ true

pub record Ranged (c : Clock) : Type 0 where
  pub clock_low : dn c.clock.0 ≤ dn (to_units clock_least).0
  pub clock_high : up c.clock.0 ≤ up day.0
  pub rest : Rest c

pub range_says : (c : Clock) → clock_in_range c ≡ true → Ranged c
unfolding clock_in_range
range_says c e =
    let t = each (within (to_units clock_least) day c.clock) (within (to_units slew_least) (to_units slew_most) c.delta ∷ leb c.hold.0 255 ∷ real c.date ∷ []) e in
    let k = between (to_units clock_least) day c.clock t.0 in
    let d = between (to_units slew_least) (to_units slew_most) c.delta t.1.0 in
    record {
      clock_low = omega arith;
      clock_high = omega arith;
      rest = record { delta_low = omega arith; delta_high = omega arith; hold_high = leb-true _ _ t.1.1.0; dated = t.1.1.1.0 };
    }

pub in_range : (c : Clock) → Ranged c → clock_in_range c ≡ true
unfolding clock_in_range
in_range c r =
    rw (
      not_lt c.clock.0 (to_units clock_least).0 (omega arith),
      not_lt day.0 c.clock.0 (omega arith),
      not_lt c.delta.0 (to_units slew_least).0 (omega arith),
      not_lt (to_units slew_most).0 c.delta.0 (omega arith),
      le-leb _ _ r.rest.hold_high,
      r.rest.dated,
    )

-- ---- what the midnight rule asks: a CLOCK that is far off may still be added to

abbrev pub Off : ℤ → Type 0
Off z = Within (2 ^ 62) (2 ^ 62) z

pub off_fits : (z : ℤ) → Off z → SFits w64 z
off_fits z o = fits w64 z (omega arith)

-- CLOCK in range and a tick in range have a sum that fits
pub ticked_off : (c : Clock) (t : Units) → clock_in_range c ≡ true → tick_in_range t ≡ true → Off (c.clock.0 +ℤ t.0)
ticked_off c t e f =
    let r = range_says c e in
    let k = tick_says t f in
    let s = sum c.clock.0 t.0 in
    omega arith

pub nearby : (c : Clock) → Off c.clock.0 → real c.date ≡ true → Near c
nearby c o d =
    record {
      low = to-≤ℤ (neg_ℤ (pos (2 ^ 62))) c.clock.0 (omega arith);
      high = to-≤ℤ c.clock.0 (pos (2 ^ 62)) (omega arith);
      dated = d;
    }

pub in_range_near : (c : Clock) → clock_in_range c ≡ true → Near c
in_range_near c e = let r = range_says c e in nearby c (omega arith) r.rest.dated
