-- The day after a day, and the day before, is another day. So where DATE stays, the midnight rule did nothing: CLOCK is never two days off.
use mathlib.Core.Path.{◌≡◌, refl, sym, subst, ◌∙◌}
use mathlib.Core.Bool.{Bool, true, false}
use Prim.Native.Nat.{ℕ, ◌+◌, ◌*◌, ◌-◌, ◌/◌, ◌%◌, ◌≤◌, ◌<◌}
use native.Mathlib.Omega.{arith}
use borrow.Author.Tests.{ltb-true, ltb-false, eqb-true}
use lib.Dec.{ltb}
use lib.IntN.{pos}
use Rattle.lists.proofs.Tests.{either}
use Rattle.quantity.specs.declared.Seconds.{Seconds}
use Rattle.quantity.specs.declared.Count.{Count}
use Rattle.quantity.proofs.Ints.{up, dn, sum, diff, lt_yes, not_lt, to-≤ℤ}
use Rattle.calendar.specs.declared.Date.{Date}
use Rattle.calendar.specs.Date.{year, day, month, spare, flag, last_day, last_date, first_date, date_of, real, await, next, previous}
use Rattle.calendar.proofs.Months.{month_length}
use Rattle.calendar.proofs.Days.{Day, day_fits, real_says}
use Rattle.clock.specs.declared.Clock.{Clock}
use Rattle.clock.specs.Midnight.{plus_count, exceeds_day, below_zero, day_on, day_back, midnight}
use Rattle.clock.specs.Midnight as midnight
use Rattle.clock.proofs.Midnight.{sum_on, sum_back, at_rest}
use Rattle.clock.proofs.Slew.{once_on, once_back}
use Rattle.clock_laws.specs.NeverBack.{same_day}

-- ---- dates, bit 15 not looked at

low : (t : Date) → spare t ≡ 0 → t.0 % 32768 ≡ month t * 1024 + day t * 32 + year t
low t s =
    let a : t.0 / 1024 ≡ t.0 / 32 / 32 = omega arith in
    let b : t.0 / 16384 ≡ t.0 / 1024 / 16 = omega arith in
    let c : t.0 / 32768 ≡ t.0 / 16384 / 2 = omega arith in
    omega arith

-- words of fields that fit are alike only where the fields are
packed : (y m d y' m' d' : ℕ) → y ≤ 31 → d ≤ 31 → y' ≤ 31 → d' ≤ 31 → m * 1024 + d * 32 + y ≡ m' * 1024 + d' * 32 + y'
    → (m ≡ m') × (d ≡ d') × (y ≡ y')
packed y m d y' m' d' hy hd hy' hd' e =
    let a : m * 32 + d ≡ m' * 32 + d' = omega arith in
    let b : m ≡ m' = omega arith in
    (b, omega arith, omega arith)

module _ (t : Date) (e : real t ≡ true) where
  abbrev Other : Date → Type 0
  Other u = u.0 % 32768 ≡ t.0 % 32768 → ⊥

  its : Day (flag t) (year t) (month t) (day t)
  its = (real_says t e).its

  apart : (f y m d : ℕ) → y ≤ 31 → m ≤ 12 → d ≤ 31 → (m ≡ month t → d ≡ day t → y ≡ year t → ⊥) → Other (date_of f y m d)
  apart f y m d hy hm hd differs same =
      let w : (date_of f y m d).0 % 32768 ≡ m * 1024 + d * 32 + y = omega arith in
      let p = packed y m d (year t) (month t) (day t) hy hd its.in_word (day_fits its) (sym w ∙ same ∙ low t (real_says t e).spare_zero) in
      differs p.0 p.1 p.2

  next_other : Other (next t)
  unfolding next
  next_other =
      either Other (ltb (day t) (last_day (year t) (month t))) _ _
      (λ y.
      let h : day t < last_day (year t) (month t) = ltb-true _ _ y in
      let l = month_length (year t) (month t) in
      apart (flag t) (year t) (month t) (day t + 1) its.in_word its.to_december (omega arith) (λ p q r. omega arith))
      (λ _.
      either Other (ltb (month t) 12) _ _
      (λ y.
      let h : month t < 12 = ltb-true _ _ y in
      apart (flag t) (year t) (month t + 1) 1 its.in_word (omega arith) (omega arith) (λ p q r. omega arith))
      (λ n.
      let g : 12 ≤ month t = ltb-false _ _ n in
      either Other (ltb (year t) (year last_date)) _ _
      (λ y.
      let h : year t < 31 = ltb-true _ _ y in
      apart (flag t) (year t + 1) 1 1 (omega arith) (omega arith) (omega arith) (λ p q r. omega arith))
      (λ _. apart (flag t) 0 1 1 (omega arith) (omega arith) (omega arith) (λ p q r. omega arith))))

  previous_other : Other (previous t)
  unfolding previous
  previous_other =
      either Other (ltb 1 (day t)) _ _
      (λ y.
      let h : 1 < day t = ltb-true _ _ y in
      apart (flag t) (year t) (month t) (day t - 1) its.in_word its.to_december (omega (arith, day_fits its)) (λ p q r. omega arith))
      (λ _.
      either Other (ltb 1 (month t)) _ _
      (λ y.
      let h : 1 < month t = ltb-true _ _ y in
      apart (flag t) (year t) (month t - 1) (last_day (year t) (month t - 1)) its.in_word (omega (arith, its.to_december)) (month_length (year t) (month t - 1)).few (λ p q r. omega arith))
      (λ n.
      let g : month t ≤ 1 = ltb-false _ _ n in
      either Other (ltb (year first_date) (year t)) _ _
      (λ y. apart (flag t) (year t - 1) 12 (last_day (year t - 1) 12) (omega (arith, its.in_word)) (omega arith) (month_length (year t - 1) 12).few (λ p q r. omega arith))
      (λ _. apart (flag t) 31 12 31 (omega arith) (omega arith) (omega arith) (λ p q r. omega arith))))

-- ---- midnight

-- the sum is less than a day below 0, and no more than a day past its day
pub record Nearby (n : Count) (c : Clock) : Type 0 where
  pub near_low : dn (plus_count n c).0 ≤ up (midnight.day).0
  pub near_high : up (plus_count n c).0 ≤ 2 * up (midnight.day).0

same_low : (a b : Date) → same_day a (await b) ≡ true → b.0 % 32768 ≡ a.0 % 32768
same_low a b e = let h : (await a).0 ≡ (await (await b)).0 = eqb-true _ _ e in omega arith

module _ (h : Seconds) (n : Count) (c : Clock) (e : real c.date ≡ true) (near : Nearby n c) where
  pub no_midnight : same_day c.date (midnight h n c).date ≡ true → midnight h n c ≡ c
  unfolding day_on day_back
  no_midnight same = go (exceeds_day n c) (below_zero n c) refl refl
    where
      at : (d : Clock) → midnight h n c ≡ d → same_day c.date d.date ≡ true
      at d is = subst (λ (b : Clock). same_day c.date b.date ≡ true) is same

      go : (a b : Bool) → exceeds_day n c ≡ a → below_zero n c ≡ b → midnight h n c ≡ c
      go true b x y =
          let l = lt_yes (midnight.day).0 (plus_count n c).0 x in
          let d = diff (plus_count n c).0 (midnight.day).0 in
          let low = to-≤ℤ (pos 0) (plus_count n (day_on h c)).0 (rw (sum_on h n c) (omega arith)) in
          let high = to-≤ℤ (plus_count n (day_on h c)).0 (midnight.day).0 (rw (sum_on h n c) (omega arith)) in
          absurd (next_other c.date e (same_low c.date (next c.date) (at (day_on h c) (once_on h n c x low high))))
      go false true x y =
          let l = lt_yes (plus_count n c).0 (pos 0) y in
          let d = sum (plus_count n c).0 (midnight.day).0 in
          let z : below_zero n (day_back h c) ≡ false = not_lt (plus_count n (day_back h c)).0 (pos 0) (rw (sum_back h n c) (omega arith)) in
          absurd (previous_other c.date e (same_low c.date (previous c.date) (at (day_back h c) (once_back h n c x y z))))
      go false false x y = at_rest h n c x y
