-- DELTA is at most 128 ms either way and its share a 128th, so CLOCK with its share is at most a millisecond off its day, and one turn brings it back.
use mathlib.Core.Path.{◌≡◌, refl, ap, ◌∙◌}
use mathlib.Core.Bool.{Bool, true, false}
use Prim.Native.Nat.{◌+◌, ◌≤◌, ◌<◌, ◌^◌}
use native.Mathlib.Omega.{arith}
use lib.Dec.{lit<}
use lib.IntN.{pos}
use lib.Signed.{◌≤ℤ◌}
use Rattle.quantity.specs.declared.Units.{Units}
use Rattle.quantity.specs.declared.Seconds.{Seconds}
use Rattle.quantity.specs.declared.Count.{Count}
use Rattle.quantity.specs.Quantity.{count_units, add_units, sub_units}
use Rattle.quantity.proofs.Ints.{up, dn, one, sum, diff, floor, lt_yes, not_lt, to-≤ℤ, Within}
use Rattle.clock.specs.declared.Clock.{Clock}
use Rattle.clock.specs.Midnight.{day, plus_count, exceeds_day, day_on, below_zero, day_back, days_back, midnight, Rests}
use Rattle.clock.specs.Clock.{share, adjust, clock_in_range}
use Rattle.clock.specs.Slew.{one_milli, Close, Moved, same_day_lem, day_on_lem, day_back_lem, OneMilli}
use Rattle.clock.proofs.Bounds.{range_says}
use Rattle.clock.proofs.Midnight.{sum_on, sum_back, at_rest, rests_hold, whiles_hold}
use Rattle.clock.proofs.Turns.{count_up, count_not_below}

-- one turn of either while, where it is enough
pub once_on : (h : Seconds) (n : Count) (c : Clock) → exceeds_day n c ≡ true → (pos 0) ≤ℤ (plus_count n (day_on h c)).0 → (plus_count n (day_on h c)).0 ≤ℤ day.0
    → midnight h n c ≡ day_on h c
unfolding midnight Rests
once_on h n c e low high = ap (days_back h n) (rw e at (whiles_hold.on h n c)) ∙ rests_hold h n (day_on h c) low high

pub once_back : (h : Seconds) (n : Count) (c : Clock) → exceeds_day n c ≡ false → below_zero n c ≡ true → below_zero n (day_back h c) ≡ false
    → midnight h n c ≡ day_back h c
unfolding midnight
once_back h n c e f g = ap (days_back h n) (rw e at (whiles_hold.on h n c)) ∙ rw f at (whiles_hold.back h n c) ∙ rw g at (whiles_hold.back h n (day_back h c))

pub share_small : (c : Clock) → clock_in_range c ≡ true → Within 65536 65536 (share c).0
share_small c e =
    let r = (range_says c e).rest in
    let f = floor c.delta.0 128 (lit< tt) in
    omega (arith, one (share c).0)

close : (a b : Units) → up a.0 + dn b.0 ≤ up b.0 + dn a.0 + 65536 → up b.0 + dn a.0 ≤ up a.0 + dn b.0 + 65536 → Close a b
close a b h k =
    record {
      back = to-≤ℤ _ _ (omega (arith, diff a.0 one_milli.0));
      on = to-≤ℤ _ _ (omega (arith, sum a.0 one_milli.0));
    }

pub one_milli_holds : OneMilli
unfolding OneMilli adjust day_on day_back
one_milli_holds h n c few e = go (exceeds_day n m) (below_zero n m) refl refl
  where
    m : Clock
    m = record { clock = add_units c.clock (share c); delta = sub_units c.delta (share c); hold = c.hold; date = c.date }

    go : (a b : Bool) → exceeds_day n m ≡ a → below_zero n m ≡ b → Moved c.clock (midnight h n m).clock
    go true b x y =
        let r = range_says c e in
        let k = share_small c e in
        let s = sum c.clock.0 (share c).0 in
        let u = sum m.clock.0 (count_units n).0 in
        let v = count_up n few in
        let z = count_not_below n in
        let l = lt_yes day.0 (plus_count n m).0 x in
        let d = diff m.clock.0 day.0 in
        let t = sum (day_on h m).clock.0 day.0 in
        let w = sum (day_on h m).clock.0 (count_units n).0 in
        let low : (pos 0) ≤ℤ (plus_count n (day_on h m)).0 = to-≤ℤ _ _ (omega arith) in
        let high : (plus_count n (day_on h m)).0 ≤ℤ day.0 = to-≤ℤ _ _ (omega arith) in
        rw (once_on h n m x low high) (day_on_lem (close _ _ (omega arith) (omega arith)))
    go false true x y =
        let r = range_says c e in
        let k = share_small c e in
        let s = sum c.clock.0 (share c).0 in
        let u = sum m.clock.0 (count_units n).0 in
        let l = lt_yes (plus_count n m).0 (pos 0) y in
        let d = sum m.clock.0 day.0 in
        let t = diff (day_back h m).clock.0 day.0 in
        let w = sum (day_back h m).clock.0 (count_units n).0 in
        let z : below_zero n (day_back h m) ≡ false = not_lt (plus_count n (day_back h m)).0 (pos 0) (omega (arith, count_not_below n)) in
        rw (once_back h n m x y z) (day_back_lem (close _ _ (omega arith) (omega arith)))
    go false false x y =
        let k = share_small c e in
        let s = sum c.clock.0 (share c).0 in
        rw (at_rest h n m x y) (same_day_lem (close _ _ (omega arith) (omega arith)))
