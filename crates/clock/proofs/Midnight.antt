-- The two whiles of the midnight rule unroll, since each turn brings CLOCK plus the count a day nearer; and they leave a sum within its day alone.
use mathlib.Core.Path.{◌≡◌, refl, sym, ap, subst, ◌∙◌}
use mathlib.Core.Bool.{Bool, true, false}
use Prim.Native.Nat.{ℕ, suc, ◌≤◌, ◌<◌}
use native.Mathlib.Omega.{arith}
use borrow.Author.Tests.{ltb-true, ltb-false, le-ltb}
use lib.Dec.{ltb}
use lib.IntN.{ℤ, pos, negsuc, nat_abs, ◌+ℤ◌, ◌-ℤ◌}
use lib.Signed.{shr_z}
use Rattle.quantity.specs.declared.Seconds.{Seconds}
use Rattle.quantity.specs.declared.Count.{Count}
use Rattle.quantity.specs.Quantity.{count_units}
use Rattle.quantity.proofs.Ints.{up, dn, same, sum, diff, lt_yes, of-≤ℤ, not_lt}
use Rattle.clock.specs.declared.Clock.{Clock}
use Rattle.clock.specs.While.{while}
use Rattle.clock.specs.Midnight.{day, plus_count, days_away, exceeds_day, day_on, below_zero, day_back, days_on, days_back, midnight, Whiles, Rests}
use Rattle.clock.proofs.While as while

-- a day off CLOCK is a day off the sum, and a day more a day more
module _ (h : Seconds) (n : Count) (c : Clock) where
  abbrev k : ℤ
  k = c.clock.0

  abbrev m : ℤ
  m = (count_units n).0

  pub sum_on : (plus_count n (day_on h c)).0 ≡ (plus_count n c).0 -ℤ day.0
  unfolding day_on
  sum_on =
      same _ _
      (omega (arith, sum (k -ℤ day.0) m, diff k day.0, diff (k +ℤ m) day.0, sum k m))

  pub sum_back : (plus_count n (day_back h c)).0 ≡ (plus_count n c).0 +ℤ day.0
  unfolding day_back
  sum_back =
      same _ _
      (omega (arith, sum (k +ℤ day.0) m, sum k day.0, sum (k +ℤ m) day.0, sum k m))

-- where both tests fail, nothing is done
pub at_rest : (h : Seconds) (n : Count) (c : Clock) → exceeds_day n c ≡ false → below_zero n c ≡ false → midnight h n c ≡ c
unfolding midnight days_on days_back
at_rest h n c e f =
    ap (while (days_away n) (below_zero n) (day_back h)) (while.rests (days_away n) (exceeds_day n) (day_on h) c e)
    ∙ while.rests (days_away n) (below_zero n) (day_back h) c f

pub rests_hold : Rests
unfolding Rests
rests_hold h n c low high =
    at_rest h n c (not_lt day.0 (plus_count n c).0 (omega (arith, of-≤ℤ high))) (not_lt (plus_count n c).0 (pos 0) (omega (arith, of-≤ℤ low)))

-- each turn brings the sum a day nearer
abbrev days : ℤ → ℕ
days z = nat_abs (shr_z z (nat_abs day.0))

down : (z : ℤ) → up day.0 ≤ up z → days (z -ℤ day.0) < days z
down (pos n) h = rw (le-ltb n 5662310400000 (omega arith)) (omega arith)
down (negsuc n) h = absurd (omega arith)

pub day_on_nearer : (h : Seconds) (n : Count) (c : Clock) → exceeds_day n c ≡ true → days_away n (day_on h c) < days_away n c
day_on_nearer h n c e =
    subst (λ z. days z < days_away n c) (sym (sum_on h n c)) (down (plus_count n c).0 (omega (arith, lt_yes day.0 (plus_count n c).0 e)))

rise : (z : ℤ) → 1 ≤ dn z → days (z +ℤ day.0) < days z
rise (pos n) h = absurd (omega arith)
rise (negsuc n) h = go (ltb 5662310400000 (suc n)) refl
  where
    go : (b : Bool) → ltb 5662310400000 (suc n) ≡ b → days (negsuc n +ℤ day.0) < days (negsuc n)
    go true b = let h : 5662310400000 < suc n = ltb-true _ _ b in rw b (omega arith)
    go false b = let h : suc n ≤ 5662310400000 = ltb-false _ _ b in rw b (omega arith)

pub day_back_nearer : (h : Seconds) (n : Count) (c : Clock) → below_zero n c ≡ true → days_away n (day_back h c) < days_away n c
day_back_nearer h n c e =
    subst (λ z. days z < days_away n c) (sym (sum_back h n c)) (rise (plus_count n c).0 (omega (arith, lt_yes (plus_count n c).0 (pos 0) e)))

pub whiles_hold : Whiles
unfolding days_on days_back
whiles_hold =
    record {
      on = λ h n c. while.unrolls (days_away n) (exceeds_day n) (day_on h) (day_on_nearer h n) c;
      back = λ h n c. while.unrolls (days_away n) (below_zero n) (day_back h) (day_back_nearer h n) c;
    }
