-- A month has 1 to 31 days, by its rule alone, and the twelve numbers are computed by it.
use mathlib.Core.Path.{◌≡◌, refl, ap, ◌∙◌}
use mathlib.Core.Bool.{Bool, true, false, cond}
use Prim.Native.Nat.{ℕ, ◌+◌, ◌/◌, ◌%◌, ◌≤◌}
use native.Mathlib.Omega.{arith}
use lib.Dec.{eqb}
use Rattle.calendar.specs.Date.{last_day}
use Rattle.calendar.specs.Months.{MonthLengths}

pub record Month (n : ℕ) : Type 0 where
  pub some : 1 ≤ n
  pub few : n ≤ 31

pub month_length : (y m : ℕ) → Month (last_day y m)
unfolding last_day
month_length y m = go (eqb m 2) (eqb (y % 4) 0)
  where
    go : (february leap : Bool) → Month (cond february (cond leap 29 28) (30 + (m + m / 8) % 2))
    go true true = omega arith
    go true false = omega arith
    go false leap = omega arith

pub december : (y : ℕ) → last_day y 12 ≡ 31
unfolding last_day
december y = refl

pub last_of_december : (y : ℕ) {m d : ℕ} → m ≡ 12 → d ≡ last_day y m → d ≡ 31
last_of_december y k l = l ∙ ap (last_day y) k ∙ december y

pub lengths_hold : MonthLengths
unfolding last_day
lengths_hold = record { common = λ y e. rw e; leap = λ y e. rw e }
