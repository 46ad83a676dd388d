-- What the range tests of milliseconds and entries say, as facts that omega reads.
use mathlib.Core.Path.{◌≡◌}
use mathlib.Core.Bool.{true, not}
use mathlib.Core.List.{[], ◌∷◌}
use Prim.Native.Nat.{ℕ, suc, ◌≤◌}
use native.Mathlib.Omega.{arith}
use borrow.Author.Tests.{not-true, leb-true, le-leb}
use lib.Dec.{leb}
use lib.IntN.{ℤ, pos, negsuc, ◌+ℤ◌}
use lib.Signed.{lt_z}
use mir.Syntax.{w64}
use mir.Val.{SFits}
use Rattle.quantity.specs.declared.Units.{Units}
use Rattle.quantity.specs.declared.Seconds.{Seconds}
use Rattle.quantity.specs.Quantity.{millis}
use Rattle.quantity.proofs.Ints.{Within, lt_no, not_lt, of-≤ℤ, of-<ℤ, sum, fits}
use Rattle.lists.proofs.Tests.{both, each}
use Rattle.clock.specs.declared.Clock.{Clock}
use Rattle.clock.specs.declared.Counter.{Counter}
use Rattle.clock.specs.Midnight.{day_millis}
use Rattle.clock.specs.Clock.{reading}
use Rattle.clock.proofs.Readings.{crystal_holds}
use Rattle.wire.specs.declared.Report.{Report}
use Rattle.wire.specs.code.Ranges.{Two}
use Rattle.table.specs.declared.Entry.{Entry}
use Rattle.table.specs.declared.Update.{Update}
use Rattle.table.specs.Entry.{max_delay, hold_down, up_to, entry_in_range}
use Rattle.table.specs.Update.{own_most, plus_report, between, own_in_range, delay_in_range}

pub within : (n : ℕ) (z : ℤ) → up_to (millis (pos n)) (millis z) ≡ true → Within 0 n z
within n z e =
    let ends = both (not (lt_z z (pos 0))) (not (lt_z (pos n) z)) e in
    omega (arith, lt_no z (pos 0) (not-true _ ends.0), lt_no (pos n) z (not-true _ ends.1))

pub up_to_lem : (n : ℕ) (z : ℤ) → Within 0 n z → up_to (millis (pos n)) (millis z) ≡ true
up_to_lem n z w = rw (not_lt z (pos 0) (omega arith), not_lt (pos n) z (omega arith))

-- an entry within its ranges
pub record Ranged (e : Entry) : Type 0 where
  pub delay : Within 0 30000 e.delay.0
  pub ttl : e.ttl.0 ≤ 120
  pub pid : e.pid ≤ 8
  pub time : Within 0 86400000 e.time.0

pub range_says : (e : Entry) → entry_in_range e ≡ true → Ranged e
unfolding entry_in_range
range_says e h =
    let t = each (up_to max_delay e.delay) (leb e.ttl.0 hold_down.0 ∷ leb e.pid 8 ∷ up_to day_millis e.time ∷ []) h in
    record {
      delay = within 30000 e.delay.0 t.0;
      ttl = leb-true _ _ t.1.0;
      pid = leb-true _ _ t.1.1.0;
      time = within 86400000 e.time.0 t.1.1.1.0;
    }

pub in_range : (e : Entry) → Ranged e → entry_in_range e ≡ true
unfolding entry_in_range
in_range e r =
    rw (up_to_lem 30000 e.delay.0 r.delay, le-leb _ _ r.ttl, le-leb _ _ r.pid, up_to_lem 86400000 e.time.0 r.time)

-- ---- an update's DELAY

pub between_says : (l n : ℕ) (z : ℤ) → between (millis (negsuc l)) (millis (pos n)) (millis z) ≡ true → Within (suc l) n z
between_says l n z e =
    let ends = both (not (lt_z z (negsuc l))) (not (lt_z (pos n) z)) e in
    omega (arith, lt_no z (negsuc l) (not-true _ ends.0), lt_no (pos n) z (not-true _ ends.1))

pub between_is : (l n : ℕ) (z : ℤ) → Within (suc l) n z → between (millis (negsuc l)) (millis (pos n)) (millis z) ≡ true
between_is l n z w = rw (not_lt z (negsuc l) (omega (arith, w)), not_lt (pos n) z (omega (arith, w)))

pub own_in_range_lem : (u : Update) → up_to own_most u.delay ≡ true → own_in_range u ≡ true
own_in_range_lem u h = let w = within 32767 u.delay.0 h in between_is 32767 32767 u.delay.0 (omega arith)

pub delay_in_range_lem : (u : Update) → own_in_range u ≡ true → delay_in_range u ≡ true
delay_in_range_lem u h = let w = between_says 32767 32767 u.delay.0 h in between_is 32767 98302 u.delay.0 (omega arith)

-- a DELAY of our own with a packet's added
module _ (u : Update) (r : Report) (own : own_in_range u ≡ true) (reported : Two r.delay.0) where
  within_sum : Within 32768 98302 (u.delay.0 +ℤ r.delay.0)
  within_sum =
      let w = between_says 32767 32767 u.delay.0 own in
      let low = of-≤ℤ reported.not_below in
      let high = of-<ℤ reported.below in
      let s = sum u.delay.0 r.delay.0 in
      omega arith

  pub sum_fits : SFits w64 (u.delay.0 +ℤ r.delay.0)
  sum_fits = let w = within_sum in fits w64 (u.delay.0 +ℤ r.delay.0) (omega arith)

  pub sum_in_range : delay_in_range (plus_report u r) ≡ true
  sum_in_range = between_is 32767 98302 (u.delay.0 +ℤ r.delay.0) within_sum

-- our reading of a clock
pub reading_in : (t : Units) (h : Seconds) (k : Counter) (c : Clock) → up_to day_millis (reading t h k c).time ≡ true
reading_in t h k c =
    let low = of-≤ℤ (crystal_holds.from_0 t h k c) in
    let high = of-≤ℤ (crystal_holds.to_day t h k c) in
    up_to_lem 86400000 (reading t h k c).time.0 (omega (arith, low, high))
