-- Both steps follow one relation between days, `Follows`: `next` goes along it and `previous` against it, and each real day has one real day after it and one before.
use mathlib.Core.Path.{◌≡◌, refl, ap, ◌∙◌}
use mathlib.Core.Bool.{Bool, true, false}
use Prim.Native.Nat.{ℕ, ◌+◌, ◌-◌, ◌≤◌, ◌<◌, ◌^◌}
use native.Mathlib.Omega.{arith}
use borrow.Author.Tests.{ltb-true, ltb-false, lt-ltb, le-ltb}
use lib.Dec.{ltb}
use Rattle.calendar.specs.declared.Date.{Date}
use Rattle.calendar.specs.Date.{year, month, day, flag, date_of, last_day, real, next, previous}
use Rattle.calendar.specs.Steps.{Steps}
use Rattle.calendar.proofs.Months.{month_length, december, last_of_december}
use Rattle.calendar.proofs.Days.{Day, Fields, read, day_fields, word_of_fields, Real, real_says, day_real}

-- the second day follows the first
pub data Follows (y m d y' m' d' : ℕ) : Type 0 where
  new_day : y' ≡ y → m' ≡ m → d' ≡ d + 1 → d < last_day y m → Follows y m d y' m' d'
  new_month : y' ≡ y → m' ≡ m + 1 → d' ≡ 1 → d ≡ last_day y m → m < 12 → Follows y m d y' m' d'
  new_year : y' ≡ y + 1 → m' ≡ 1 → d' ≡ 1 → d ≡ 31 → m ≡ 12 → y < 31 → Follows y m d y' m' d'
  from_the_start : y' ≡ 0 → m' ≡ 1 → d' ≡ 1 → d ≡ 31 → m ≡ 12 → y ≡ 31 → Follows y m d y' m' d'

word : {a b : ℕ} → a ≡ b → ◌≡◌ {A = Date} (record { 0 = a }) (record { 0 = b })
word e = ap (λ (n : ℕ). record { 0 = n }) e

-- ---- along it and against it

module _ {f y m d y' m' d' : ℕ} {t : Date} where
  pub along : Follows y m d y' m' d' → Fields f y m d t → next t ≡ date_of f y' m' d'
  unfolding next
  along (new_day ey em ed h) v =
      rw (v.its_flag, v.its_year, v.its_month, v.its_day, lt-ltb _ _ h) (word (omega arith))
  along (new_month ey em ed l h) v =
      let k : last_day y m ≤ d = omega arith in
      rw (v.its_flag, v.its_year, v.its_month, v.its_day, le-ltb _ _ k, lt-ltb _ _ h) (word (omega arith))
  along (new_year ey em ed l k h) v =
      rw (v.its_flag, v.its_year, v.its_month, v.its_day, l, k, december, lt-ltb _ _ h) (word (omega arith))
  along (from_the_start ey em ed l k h) v =
      rw (v.its_flag, v.its_year, v.its_month, v.its_day, l, k, december, h) (word (omega arith))

  pub against : 1 ≤ d → 1 ≤ m → Follows y m d y' m' d' → Fields f y' m' d' t → previous t ≡ date_of f y m d
  unfolding previous
  against p q (new_day ey em ed h) v =
      rw (v.its_flag, v.its_year, v.its_month, v.its_day, ey, em, ed, lt-ltb 1 (d + 1) (omega arith)) (word (omega arith))
  against p q (new_month ey em ed l h) v =
      let e : m + 1 - 1 ≡ m = omega arith in
      rw (v.its_flag, v.its_year, v.its_month, v.its_day, ey, em, ed, lt-ltb 1 (m + 1) (omega arith), e) (word (omega arith))
  against p q (new_year ey em ed l k h) v =
      rw (v.its_flag, v.its_year, v.its_month, v.its_day, ey, em, ed, lt-ltb 0 (y + 1) (omega arith), december) (word (omega arith))
  against p q (from_the_start ey em ed l k h) v =
      rw (v.its_flag, v.its_year, v.its_month, v.its_day, ey, em, ed) (word (omega arith))

-- ---- each real day has one after it and one before

-- a real day that R relates
record Some (f : ℕ) (R : (y m d : ℕ) → Type 0) : Type 0 where
  y : ℕ
  m : ℕ
  d : ℕ
  follows : R y m d
  its : Day f y m d

abbrev After : (f y m d : ℕ) → Type 0
After f y m d = Some f (λ y' m' d'. Follows y m d y' m' d')

abbrev Before : (f y m d : ℕ) → Type 0
Before f y' m' d' = Some f (λ y m d. Follows y m d y' m' d')

after : {f y m d : ℕ} → Day f y m d → After f y m d
after {f} {y} {m} {d} r = by_day (ltb d (last_day y m)) refl
  where
    by_year : d ≡ 31 → m ≡ 12 → (b : Bool) → ltb y 31 ≡ b → After f y m d
    by_year h k true e =
        let l = month_length (y + 1) 1 in
        let i : y < 31 = ltb-true y 31 e in
        record { y = y + 1; m = 1; d = 1; follows = new_year refl refl refl h k i; its = omega arith }
    by_year h k false e =
        let l = month_length 0 1 in
        let i : y ≡ 31 = omega (arith, ltb-false y 31 e) in
        record { y = 0; m = 1; d = 1; follows = from_the_start refl refl refl h k i; its = omega arith }

    by_month : d ≡ last_day y m → (b : Bool) → ltb m 12 ≡ b → After f y m d
    by_month h true e =
        let k : m < 12 = ltb-true m 12 e in
        let l = month_length y (m + 1) in
        record { y = y; m = m + 1; d = 1; follows = new_month refl refl refl h k; its = omega arith }
    by_month h false e =
        let k : m ≡ 12 = omega (arith, ltb-false m 12 e) in
        by_year (last_of_december y k h) k (ltb y 31) refl

    by_day : (b : Bool) → ltb d (last_day y m) ≡ b → After f y m d
    by_day true e =
        let h : d < last_day y m = ltb-true _ _ e in
        record { y = y; m = m; d = d + 1; follows = new_day refl refl refl h; its = omega arith }
    by_day false e = by_month (omega (arith, ltb-false d (last_day y m) e)) (ltb m 12) refl

before : {f y' m' d' : ℕ} → Day f y' m' d' → Before f y' m' d'
before {f} {y'} {m'} {d'} r = by_day (ltb 1 d') refl
  where
    by_year : d' ≡ 1 → m' ≡ 1 → (b : Bool) → ltb 0 y' ≡ b → Before f y' m' d'
    by_year h k true e =
        let i : 0 < y' = ltb-true 0 y' e in
        let l = december (y' - 1) in
        record { y = y' - 1; m = 12; d = 31; follows = new_year (omega arith) k h refl refl (omega arith); its = omega arith }
    by_year h k false e =
        let i : y' ≡ 0 = omega (arith, ltb-false 0 y' e) in
        let l = december 31 in
        record { y = 31; m = 12; d = 31; follows = from_the_start i k h refl refl refl; its = omega arith }

    by_month : d' ≡ 1 → (b : Bool) → ltb 1 m' ≡ b → Before f y' m' d'
    by_month h true e =
        let k : 1 < m' = ltb-true 1 m' e in
        let l = month_length y' (m' - 1) in
        record {
          y = y';
          m = m' - 1;
          d = last_day y' (m' - 1);
          follows = new_month refl (omega arith) h refl (omega arith);
          its = omega arith;
        }
    by_month h false e = by_year h (omega (arith, ltb-false 1 m' e)) (ltb 0 y') refl

    by_day : (b : Bool) → ltb 1 d' ≡ b → Before f y' m' d'
    by_day true e =
        let h : 1 < d' = ltb-true 1 d' e in
        record { y = y'; m = m'; d = d' - 1; follows = new_day refl refl (omega arith) (omega arith); its = omega arith }
    by_day false e = by_month (omega (arith, ltb-false 1 d' e)) (ltb 1 m') refl

-- ---- the laws

module _ (t : Date) (e : real t ≡ true) where
  r : Real t
  r = real_says t e

  own : Fields (flag t) (year t) (month t) (day t) t
  own = read t e refl refl refl refl

  pub real_next : real (next t) ≡ true
  real_next = let a = after r.its in ap real (along a.follows own) ∙ day_real a.its

  pub real_previous : real (previous t) ≡ true
  real_previous =
      let b = before r.its in
      ap real (against b.its.from_first b.its.from_january b.follows own) ∙ day_real b.its

  module _ (h : t.0 < 2 ^ 16) where
    pub on_and_back : previous (next t) ≡ t
    on_and_back =
        let a = after r.its in
        ap previous (along a.follows own)
        ∙ against r.its.from_first r.its.from_january a.follows (day_fields a.its)
        ∙ word_of_fields t h r.spare_zero

    pub back_and_on : next (previous t) ≡ t
    back_and_on =
        let b = before r.its in
        ap next (against b.its.from_first b.its.from_january b.follows own)
        ∙ along b.follows (day_fields b.its)
        ∙ word_of_fields t h r.spare_zero

pub steps_hold : Steps
unfolding next previous last_day
steps_hold =
    record {
      on_and_back = λ t h e. on_and_back t e h;
      back_and_on = λ t h e. back_and_on t e h;
      after_last = refl;
      before_first = refl;
    }
