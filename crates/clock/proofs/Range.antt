-- A clock in range stays in range: the midnight rule brings CLOCK plus the count into its day, however far it is off, and keeps the rest.
use mathlib.Core.Path.{◌≡◌}
use mathlib.Core.Bool.{true, false, not}
use Prim.Native.Nat.{◌≤◌, ◌<◌, ◌^◌}
use native.Mathlib.Omega.{arith}
use lib.Dec.{lit<}
use lib.IntN.{ℤ, pos, ◌-ℤ◌}
use lib.Signed.{lt_z}
use Rattle.quantity.specs.declared.Units.{Units}
use Rattle.quantity.specs.declared.Millis.{Millis}
use Rattle.quantity.specs.declared.Seconds.{Seconds}
use Rattle.quantity.specs.declared.Count.{Count}
use Rattle.quantity.specs.Quantity.{millis, units_per_milli, to_units, count_millis, count_units, less_millis}
use Rattle.quantity.proofs.Ints.{up, dn, one, sum, diff, times, floor, lt_yes, lt_no}
use Rattle.lists.proofs.Tests.{both, is_not, either}
use Rattle.calendar.specs.declared.Date.{Date}
use Rattle.calendar.specs.Date.{real, await}
use Rattle.calendar.proofs.Stepping.{real_next, real_previous}
use Rattle.clock.specs.declared.Clock.{Clock}
use Rattle.clock.specs.declared.Counter.{Counter}
use Rattle.clock.specs.Midnight.{day_millis, day, plus_count, days_away, exceeds_day, day_on, below_zero, day_back, days_on, days_back, midnight}
use Rattle.clock.specs.Clock.{fresh_clock, moved_on, tick, adjust, share, slew_least, slew_most, slews, set_by, marked, count_used, overflowed, reading, hold_second, clock_in_range}
use Rattle.clock.proofs.Midnight.{sum_back, day_on_nearer, day_back_nearer}
use Rattle.clock.proofs.Bounds.{Rest, Ranged, range_says, in_range}
use Rattle.clock.proofs.Turns.{awaiting}
use Rattle.clock.proofs.While as while

-- ---- midnight

-- CLOCK plus the count lies within its day
pub record Summing (z : ℤ) : Type 0 where
  pub sum_low : dn z ≤ 0
  pub sum_high : up z ≤ up day.0

pub record Summed (n : Count) (c : Clock) : Type 0 where
  pub rest : Rest c
  pub within : Summing (plus_count n c).0

module _ (h : Seconds) (n : Count) where
  -- going back, the sum stays at or below a day
  Behind : Clock → Type 0
  Behind c = up (plus_count n c).0 ≤ up day.0

  after_back : (c : Clock) → below_zero n c ≡ true → Behind c → Behind (day_back h c)
  unfolding Behind
  after_back c e b =
      let l = lt_yes (plus_count n c).0 (pos 0) e in
      let s = sum (plus_count n c).0 day.0 in
      rw (sum_back h n c) (omega (arith, one (plus_count n c).0))

  pub midnight_within : (c : Clock) → Summing (plus_count n (midnight h n c)).0
  unfolding midnight days_on days_back Behind
  midnight_within c =
      let d : Clock = days_on h n c in
      let high = lt_no day.0 (plus_count n d).0 (while.ends (days_away n) (exceeds_day n) (day_on h) (day_on_nearer h n) c) in
      let low = lt_no (plus_count n (midnight h n c)).0 (pos 0) (while.ends (days_away n) (below_zero n) (day_back h) (day_back_nearer h n) d) in
      record { sum_low = omega arith; sum_high = while.keeps Behind (days_away n) (below_zero n) (day_back h) after_back d (omega arith) }

-- then CLOCK alone is at most a count below its day
summed_ranged : (n : Count) → n.0 < 2 ^ 16 → (c : Clock) → Summed n c → Ranged c
summed_ranged n few c s =
    let k = sum c.clock.0 (count_units n).0 in
    let t = times (count_millis n).0 units_per_milli in
    record { clock_low = omega (arith, one c.clock.0); clock_high = omega (arith, one c.clock.0); rest = s.rest }

module _ (h : Seconds) (small : h.0 ≤ 255) where
  -- a turn keeps DELTA, and loads HOLD
  turned : {c : Clock} → Rest c → (k : Units) (d : Date) → real d ≡ true → Rest (record { clock = k; delta = c.delta; hold = h; date = await d })
  turned r k d e = record { delta_low = r.delta_low; delta_high = r.delta_high; hold_high = small; dated = awaiting d e }

  rest_on : (n : Count) (c : Clock) → exceeds_day n c ≡ true → Rest c → Rest (day_on h c)
  unfolding day_on
  rest_on n c e r = turned r _ _ (real_next c.date r.dated)

  rest_back : (c : Clock) → Rest c → Rest (day_back h c)
  unfolding day_back
  rest_back c r = turned r _ _ (real_previous c.date r.dated)

  pub midnight_summed : (n : Count) (c : Clock) → Rest c → Summed n (midnight h n c)
  unfolding midnight days_on days_back
  midnight_summed n c r =
      let d = while.keeps Rest (days_away n) (exceeds_day n) (day_on h) (rest_on n) c r in
      record { rest = while.keeps Rest (days_away n) (below_zero n) (day_back h) (λ b _. rest_back b) (days_on h n c) d; within = midnight_within h n c }

  -- ---- the procedures

  module _ (c : Clock) (e : clock_in_range c ≡ true) where
    r : Rest c
    r = (range_says c e).rest

    moved : (t : Units) → Rest (moved_on t c)
    moved t = record { delta_low = r.delta_low; delta_high = r.delta_high; hold_high = r.hold_high; dated = r.dated }

    overflowed_rest : (t : Units) (k : Counter) → Rest (overflowed t k c)
    overflowed_rest t k = either Rest (marked k) _ _ (λ _. moved t) (λ _. r)

    -- what a reading leaves, and reads
    pub reading_summed : (t : Units) (k : Counter) → Summed (count_used k) (reading t h k c).clock
    unfolding reading
    reading_summed t k = midnight_summed (count_used k) (overflowed t k c) (overflowed_rest t k)

    pub reading_in_range_lem : (t : Units) (k : Counter) → (count_used k).0 < 2 ^ 16 → clock_in_range (reading t h k c).clock ≡ true
    reading_in_range_lem t k few = in_range _ (summed_ranged (count_used k) few _ (reading_summed t k))

    module _ (n : Count) (few : n.0 < 2 ^ 16) where
      settled : (d : Clock) → Rest d → clock_in_range (midnight h n d) ≡ true
      settled d s = in_range (midnight h n d) (summed_ranged n few (midnight h n d) (midnight_summed n d s))

      pub tick_in_range_lem : (t : Units) → clock_in_range (tick t h n c) ≡ true
      unfolding tick
      tick_in_range_lem t = settled _ (moved t)

      -- DELTA less its share lies between DELTA and 0
      pub adjust_in_range : clock_in_range (adjust h n c) ≡ true
      unfolding adjust
      adjust_in_range =
          let d = c.delta.0 in
          let f = floor d 128 (lit< tt) in
          let s = diff d (share c).0 in
          let o = one d in
          let low : dn (d -ℤ (share c).0) ≤ dn (to_units slew_least).0 = omega (arith, r) in
          let high : up (d -ℤ (share c).0) ≤ up (to_units slew_most).0 = omega (arith, r) in
          settled _ (record { delta_low = low; delta_high = high; hold_high = r.hold_high; dated = r.dated })

      pub set_in_range : (m : Millis) → clock_in_range (set_by h n m c) ≡ true
      unfolding set_by
      set_in_range m =
          settled _
          (either Rest (slews m) _ _
          (λ s.
          let b = both (not (lt_z m.0 slew_least.0)) (not (lt_z slew_most.0 m.0)) s in
          let l = lt_no m.0 slew_least.0 (is_not _ b.0) in
          let k = lt_no slew_most.0 m.0 (is_not _ b.1) in
          let t = times m.0 units_per_milli in
          record { delta_low = omega arith; delta_high = omega arith; hold_high = r.hold_high; dated = r.dated })
          (λ s. record { delta_low = omega arith; delta_high = omega arith; hold_high = small; dated = r.dated }))

pub second_in_range : (c : Clock) → clock_in_range c ≡ true → clock_in_range (hold_second c) ≡ true
unfolding hold_second
second_in_range c e =
    let k = range_says c e in
    let r = k.rest in
    in_range _
    (record {
      clock_low = k.clock_low;
      clock_high = k.clock_high;
      rest = record { delta_low = r.delta_low; delta_high = r.delta_high; hold_high = omega arith; dated = r.dated };
    })

pub fresh_in_range : (time : Millis) (date : Date) → less_millis time (millis (pos 0)) ≡ false → less_millis time day_millis ≡ true
    → real date ≡ true → clock_in_range (fresh_clock time date) ≡ true
unfolding fresh_clock
fresh_in_range time date low high dated =
    let l = lt_no time.0 (pos 0) low in
    let h = lt_yes time.0 day_millis.0 high in
    let t = times time.0 units_per_milli in
    in_range _
    (record {
      clock_low = omega arith;
      clock_high = omega arith;
      rest = record { delta_low = omega arith; delta_high = omega arith; hold_high = omega arith; dated = awaiting date dated };
    })
