-- A real date is the word of its fields, and the word of a real day's fields is a real date.
use mathlib.Core.Path.{◌≡◌, ap, sym, ◌∙◌}
use mathlib.Core.Bool.{true}
use mathlib.Core.List.{[], ◌∷◌}
use Prim.Native.Nat.{ℕ, ◌≤◌, ◌<◌, ◌+◌, ◌*◌, ◌/◌, ◌%◌, ◌^◌}
use native.Mathlib.Nat.{add-mul-div_left, add-mul-mod_self_left, mod-add-div, mul_assoc}
use native.Mathlib.Omega.{arith}
use borrow.Author.Tests.{leb-true, eqb-true, le-leb, eq-eqb}
use lib.Dec.{leb, eqb}
use Rattle.lists.proofs.Tests.{each}
use Rattle.calendar.specs.declared.Date.{Date}
use Rattle.calendar.specs.Date.{year, month, day, spare, flag, date_of, last_day, real, await}
use Rattle.calendar.proofs.Months.{month_length}

-- the fields of a real day
pub record Day (f y m d : ℕ) : Type 0 where
  pub flagged : f ≤ 1
  pub in_word : y ≤ 31
  pub from_january : 1 ≤ m
  pub to_december : m ≤ 12
  pub from_first : 1 ≤ d
  pub to_last : d ≤ last_day y m

-- the fields of a word of fields that fit
pub record Fields (f y m d : ℕ) (t : Date) : Type 0 where
  pub its_flag : flag t ≡ f
  pub its_year : year t ≡ y
  pub its_month : month t ≡ m
  pub its_day : day t ≡ d
  pub its_spare : spare t ≡ 0

fields : (f y m d : ℕ) → f ≤ 1 → y ≤ 31 → m ≤ 12 → d ≤ 31 → Fields f y m d (date_of f y m d)
fields f y m d hf hy hm hd = omega arith

pub day_fits : {f y m d : ℕ} → Day f y m d → d ≤ 31
day_fits {y = y} {m = m} r = omega (arith, month_length y m)

pub day_fields : {f y m d : ℕ} → Day f y m d → Fields f y m d (date_of f y m d)
day_fields {f} {y} {m} {d} r = fields f y m d r.flagged r.in_word r.to_december (day_fits r)

-- a word of 16 bits with bit 14 zero is the word of its fields
pub word_of_fields : (t : Date) → t.0 < 2 ^ 16 → spare t ≡ 0 → date_of (flag t) (year t) (month t) (day t) ≡ t
word_of_fields t h s =
    let a : t.0 / 1024 ≡ t.0 / 32 / 32 = omega arith in
    let b : t.0 / 16384 ≡ t.0 / 1024 / 16 = omega arith in
    let c : t.0 / 32768 ≡ t.0 / 16384 / 2 = omega arith in
    let f : t.0 / 32768 % 2 ≡ t.0 / 32768 = omega arith in
    ap (λ (n : ℕ). record { 0 = n }) (rw f (omega arith))

-- ---- what `real` says

pub record Real (t : Date) : Type 0 where
  pub spare_zero : spare t ≡ 0
  pub its : Day (flag t) (year t) (month t) (day t)

pub real_says : (t : Date) → real t ≡ true → Real t
unfolding real
real_says t e =
    let h = each (eqb (spare t) 0) (leb 1 (month t) ∷ leb (month t) 12 ∷ leb 1 (day t) ∷ leb (day t) (last_day (year t) (month t)) ∷ []) e in
    record {
      spare_zero = eqb-true _ _ h.0;
      its = record {
        flagged = omega arith;
        in_word = omega arith;
        from_january = leb-true _ _ h.1.0;
        to_december = leb-true _ _ h.1.1.0;
        from_first = leb-true _ _ h.1.1.1.0;
        to_last = leb-true _ _ h.1.1.1.1.0;
      };
    }

-- and of the fields as they were read
pub read : (t : Date) → real t ≡ true → {f y m d : ℕ} → f ≡ flag t → y ≡ year t → m ≡ month t → d ≡ day t → Fields f y m d t
read t e hf hy hm hd =
    record { its_flag = sym hf; its_year = sym hy; its_month = sym hm; its_day = sym hd; its_spare = (real_says t e).spare_zero }

pub day_of : {f y m d : ℕ} {t : Date} → Fields f y m d t → real t ≡ true → Day f y m d
day_of {t = t} v e = rw (v.its_flag, v.its_year, v.its_month, v.its_day) at (real_says t e).its

is_real : (t : Date) → Real t → real t ≡ true
unfolding real
is_real t r =
    rw (
      eq-eqb _ _ r.spare_zero,
      le-leb _ _ r.its.from_january,
      le-leb _ _ r.its.to_december,
      le-leb _ _ r.its.from_first,
      le-leb _ _ r.its.to_last,
    )

pub day_real : {f y m d : ℕ} → Day f y m d → real (date_of f y m d) ≡ true
day_real {f} {y} {m} {d} r =
    let v = day_fields r in
    is_real (date_of f y m d)
    (record { spare_zero = v.its_spare; its = rw (v.its_flag, v.its_year, v.its_month, v.its_day) r })

-- bit 15 is not looked at: a field of k at the place c is the same where a multiple of c * k is added
module _ (x c k : ℕ) (h : 0 < c) where
  above : (z : ℕ) → (x + c * (k * z)) / c % k ≡ x / c % k
  above z = rw (add-mul-div_left x (k * z) h, add-mul-mod_self_left (x / c) k z)

field : (n c k j : ℕ) → 0 < c → (n % (c * (k * j)) + c * (k * j)) / c % k ≡ n / c % k
field n c k j h =
    let q : ℕ = n / (c * (k * j)) in
    let e : n % (c * (k * j)) + c * (k * (j * q)) ≡ n = rw (← mul_assoc k j q, ← mul_assoc c (k * j) q) (mod-add-div n (c * (k * j))) in
    above (n % (c * (k * j))) c k h j ∙ sym (above (n % (c * (k * j))) c k h (j * q)) ∙ ap (λ (x : ℕ). x / c % k) e

pub real_await : (t : Date) → real (await t) ≡ real t
unfolding real
real_await t =
    let y : year (await t) ≡ year t = omega arith in
    rw (y, field t.0 1024 16 2 (omega arith), field t.0 32 32 32 (omega arith), field t.0 16384 2 1 (omega arith))
