-- The midnight rule leaves CLOCK plus the count within its day, where it then rests; and a count of zero is none.
use mathlib.Core.Path.{◌≡◌, refl, sym, ap, fun_ext, subst, ◌∙◌}
use mathlib.Core.Bool.{Bool, true, false, cond}
use Prim.Native.Nat.{ℕ, ◌+◌, ◌≤◌}
use native.Mathlib.Omega.{arith}
use lib.Dec.{lit<}
use lib.IntN.{ℤ, pos, nat_abs, +ℤ_idr}
use lib.Signed.{◌≤ℤ◌, shr_z}
use Rattle.quantity.specs.declared.Units.{Units}
use Rattle.quantity.specs.declared.Seconds.{Seconds}
use Rattle.quantity.specs.declared.Count.{Count}
use Rattle.quantity.specs.Quantity.{units, units_per_milli, whole_millis, div_units, less_units}
use Rattle.quantity.proofs.Ints.{up, dn, one, floor, lt_no, of-≤ℤ, to-≤ℤ}
use Rattle.clock.specs.declared.Clock.{Clock}
use Rattle.clock.specs.declared.Counter.{Counter}
use Rattle.clock.specs.declared.Reading.{Reading}
use Rattle.clock.specs.While.{while}
use Rattle.clock.specs.Midnight.{day_millis, day, plus_count, days_away, exceeds_day, day_on, below_zero, day_back, days_on, days_back, midnight, Rests}
use Rattle.clock.specs.Clock.{tick, adjust, set_by, count_used, overflowed, reading}
use Rattle.clock.specs.Crystal.{counting, InDay, Crystal}
use Rattle.clock.specs.LineClock.{no_count, no_counter, clock_days, clock_exceeds, clock_below, line_midnight, LineClock}
use Rattle.clock.proofs.Midnight.{rests_hold}
use Rattle.clock.proofs.Range.{midnight_within}

module _ (t : Units) (h : Seconds) (k : Counter) (c : Clock) where
  abbrev n : Count
  n = count_used k

  abbrev m : Clock
  m = midnight h n (overflowed t k c)

  settled : InDay n m
  settled =
      let w = midnight_within h n (overflowed t k c) in
      record { from_0 = to-≤ℤ (pos 0) (plus_count n m).0 (omega (arith, w)); to_day = to-≤ℤ (plus_count n m).0 day.0 (omega (arith, w)) }

  reads_from_0 : (pos 0) ≤ℤ (reading t h k c).time.0
  unfolding reading
  reads_from_0 =
      let f = floor (plus_count n m).0 units_per_milli (lit< tt) in
      let w = of-≤ℤ settled.from_0 in
      to-≤ℤ (pos 0) (whole_millis (plus_count n m)).0 (omega arith)

  reads_to_day : (reading t h k c).time.0 ≤ℤ day_millis.0
  unfolding reading
  reads_to_day =
      let f = floor (plus_count n m).0 units_per_milli (lit< tt) in
      let w = of-≤ℤ settled.to_day in
      to-≤ℤ (whole_millis (plus_count n m)).0 day_millis.0 (omega (arith, one (whole_millis (plus_count n m)).0))

  again : reading t h (counting n) (reading t h k c).clock ≡ reading t h k c
  unfolding reading Rests
  again = ap (λ (d : Clock). record { clock = d; time = whole_millis (plus_count n d) }) (rests_hold h n m settled.from_0 settled.to_day)

  in_day : InDay n (overflowed t k c) → (reading t h k c).clock ≡ overflowed t k c
  unfolding reading Rests
  in_day d = rests_hold h n (overflowed t k c) d.from_0 d.to_day

pub crystal_holds : Crystal
crystal_holds = record { from_0 = reads_from_0; to_day = reads_to_day; again = again; in_day = in_day }

-- ---- a count of zero

pub plus_none : (c : Clock) → plus_count no_count c ≡ c.clock
plus_none c = ap units (+ℤ_idr c.clock.0)

midnight_none : (h : Seconds) (c : Clock) → midnight h no_count c ≡ line_midnight h c
unfolding midnight days_on days_back line_midnight
midnight_none h c =
    λ i.
    let days : Clock → ℕ = fun_ext {f = days_away no_count} {g = clock_days} (λ d. ap (λ (u : Units). nat_abs (div_units u (nat_abs day.0)).0) (plus_none d)) i in
    let exceeds : Clock → Bool = fun_ext {f = exceeds_day no_count} {g = clock_exceeds} (λ d. ap (less_units day) (plus_none d)) i in
    let below : Clock → Bool = fun_ext {f = below_zero no_count} {g = clock_below} (λ d. ap (λ (u : Units). less_units u (units (pos 0))) (plus_none d)) i in
    while days below (day_back h) (while days exceeds (day_on h) c)

pub line_clock_holds : LineClock
unfolding tick adjust set_by reading Rests
line_clock_holds =
    record {
      ticks = λ t h c. midnight_none h _;
      adjusts = λ h c. midnight_none h _;
      sets = λ h m c. midnight_none h _;
      reads = λ t h c low high.
          let rest : midnight h no_count c ≡ c = rests_hold h no_count c (subst (λ z. (pos 0) ≤ℤ z) (sym (+ℤ_idr c.clock.0)) low) (subst (λ z. z ≤ℤ day.0) (sym (+ℤ_idr c.clock.0)) high) in
          ap (λ (d : Clock). record { clock = d; time = whole_millis (plus_count no_count d) }) rest
          ∙ ap (λ (u : Units). record { clock = c; time = whole_millis u }) (plus_none c);
    }
