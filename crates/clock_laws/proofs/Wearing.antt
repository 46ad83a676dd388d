-- An adjust brings a DELTA that does not rest nearer to 0 by at least a unit, and keeps one that rests. A larger DELTA stays larger, so the two largest sets take longest.
use mathlib.Core.Path.{◌≡◌, refl, sym, ap, ◌∙◌}
use mathlib.Core.Bool.{Bool, true, false, not, true≢false}
use Prim.Native.Nat.{ℕ, zero, suc, ◌≤◌, ◌<◌}
use native.Mathlib.Omega.{arith}
use native.Mathlib.Nat.{le_refl}
use borrow.Author.Tests.{leb-true, le-leb}
use lib.Dec.{leb, leb-zero, leb-suc-zero, leb-suc-suc}
use lib.IntN.{pos, nat_abs}
use lib.Signed.{◌≤ℤ◌, ◌<ℤ◌, lt_z}
use Rattle.lists.proofs.Tests.{both, is_not}
use Rattle.quantity.specs.declared.Units.{Units}
use Rattle.quantity.specs.declared.Millis.{Millis}
use Rattle.quantity.specs.Quantity.{units, units_per_milli, to_units, less_millis}
use Rattle.quantity.proofs.Ints.{up, one, same, times, abs, Within, lt_yes, lt_no, not_lt, of-≤ℤ, of-<ℤ, to-≤ℤ}
use Rattle.clock_laws.specs.Kinds.{adjusts_in}
use Rattle.clock_laws.specs.NeverBack.{set_least, set_most, small}
use Rattle.clock_laws.specs.Slewed.{Slew, SetsOnce, moves_after, delta_remaining}
use Rattle.clock_laws.specs.Lasts.{worn, rest_most, resting, wears, adjusts_to_rest, Lasts}
use Rattle.clock_laws.proofs.Worn.{wear, worn_by, after_worn}
use Rattle.clock_laws.proofs.Slewing.{shrinks_by}

-- ---- resting

rests_says : (d : Units) → resting d ≡ true → Within 0 (up rest_most.0) d.0
rests_says d e =
    let b = both (not (lt_z d.0 (pos 0))) (not (lt_z rest_most.0 d.0)) e in
    let low = lt_no d.0 (pos 0) (is_not _ b.0) in
    let high = lt_no rest_most.0 d.0 (is_not _ b.1) in
    record { low = omega arith; high = omega arith }

is_resting : (d : Units) → Within 0 (up rest_most.0) d.0 → resting d ≡ true
is_resting d w = rw (not_lt d.0 (pos 0) (omega arith), not_lt rest_most.0 d.0 (omega arith))

-- a DELTA that rests stays, by adjust after adjust
stays : (d : Units) → resting d ≡ true → worn d ≡ d
stays d e =
    let r = rests_says d e in
    let w = wear d in
    ap units (same _ _ (omega arith))

stays_by : (n : ℕ) (d : Units) → resting d ≡ true → resting (worn_by n d) ≡ true
stays_by zero d e = e
stays_by (suc n) d e = stays_by n (worn d) (ap resting (stays d e) ∙ e)

-- another is worn
falls : (d : Units) → resting d ≡ false → nat_abs (worn d).0 < nat_abs d.0
falls d e = go (lt_z d.0 (pos 0)) (lt_z rest_most.0 d.0) refl refl
  where
    go : (a b : Bool) → lt_z d.0 (pos 0) ≡ a → lt_z rest_most.0 d.0 ≡ b → nat_abs (worn d).0 < nat_abs d.0
    go true b x y =
        let l = lt_yes d.0 (pos 0) x in
        let w = wear d in
        omega (arith, abs d.0, abs (worn d).0, one d.0, one (worn d).0)
    go false true x y =
        let l = lt_yes rest_most.0 d.0 y in
        let w = wear d in
        omega (arith, abs d.0, abs (worn d).0, one d.0, one (worn d).0)
    go false false x y = let r : resting d ≡ true = rw (x, y) in absurd (true≢false (sym r ∙ e))

-- ---- how many adjusts

rested : (n : ℕ) (d : Units) → resting d ≡ true → wears n d ≡ 0
unfolding wears
rested zero d e = refl
rested (suc n) d e = rw (e, wears)

more : (n : ℕ) (d : Units) → resting d ≡ false → wears (suc n) d ≡ suc (wears n (worn d))
unfolding wears
more n d e = rw (e, wears)

at_rest : (n : ℕ) (d : Units) → resting d ≡ true → (a : ℕ) → resting (worn_by a d) ≡ leb (wears n d) a
at_rest n d e a = stays_by a d e ∙ sym (ap (λ (k : ℕ). leb k a) (rested n d e) ∙ leb-zero a)

exactly : (n : ℕ) (d : Units) → nat_abs d.0 ≤ n → (a : ℕ) → resting (worn_by a d) ≡ leb (wears n d) a
exactly zero d enough a = at_rest zero d (is_resting d (omega (arith, abs d.0))) a
exactly (suc n) d enough a = go (exactly n (worn d)) (resting d) refl a
  where
    go : (nat_abs (worn d).0 ≤ n → (a : ℕ) → resting (worn_by a (worn d)) ≡ leb (wears n (worn d)) a)
        → (b : Bool) → resting d ≡ b → (a : ℕ) → resting (worn_by a d) ≡ leb (wears (suc n) d) a
    go again true e a = at_rest (suc n) d e a
    go again false e zero = e ∙ sym (ap (λ (k : ℕ). leb k 0) (more n d e) ∙ leb-suc-zero (wears n (worn d)))
    go again false e (suc a) =
        again (omega (arith, falls d e)) a ∙ sym (ap (λ (k : ℕ). leb k (suc a)) (more n d e) ∙ leb-suc-suc (wears n (worn d)) a)

lasting : (m : Millis) (a : ℕ) → resting (worn_by a (to_units m)) ≡ leb (adjusts_to_rest m) a
lasting m a = exactly (nat_abs (to_units m).0) (to_units m) (le_refl _) a

-- ---- the rest

-- from 127 units on DELTA stays there
over : (n : ℕ) (d : Units) → rest_most.0 ≤ℤ d.0 → rest_most.0 ≤ℤ (worn_by n d).0
over zero d h = h
over (suc n) d h =
    let l = of-≤ℤ h in
    let w = wear d in
    over n (worn d) (to-≤ℤ _ _ (omega arith))

-- ---- a larger DELTA stays the larger one

ordered : (n : ℕ) (d e : Units) → d.0 ≤ℤ e.0 → (worn_by n d).0 ≤ℤ (worn_by n e).0
ordered zero d e h = h
ordered (suc n) d e h =
    let l = of-≤ℤ h in
    let w = wear d in
    let v = wear e in
    ordered n (worn d) (worn e) (to-≤ℤ _ _ (omega arith))

longest_by : (n : ℕ) → adjusts_to_rest set_least ≤ n → adjusts_to_rest set_most ≤ n → (m : Millis) → small m ≡ true → adjusts_to_rest m ≤ n
longest_by n low high m e =
    let b = both (not (less_millis m set_least)) (not (less_millis set_most m)) e in
    let l = lt_no m.0 set_least.0 (is_not _ b.0) in
    let h = lt_no set_most.0 m.0 (is_not _ b.1) in
    let u = times m.0 units_per_milli in
    let above = of-≤ℤ (ordered n (to_units set_least) (to_units m) (to-≤ℤ _ _ (omega arith))) in
    let below = of-≤ℤ (ordered n (to_units m) (to_units set_most) (to-≤ℤ _ _ (omega arith))) in
    let least = rests_says (worn_by n (to_units set_least)) (lasting set_least n ∙ le-leb _ _ low) in
    let most = rests_says (worn_by n (to_units set_most)) (lasting set_most n ∙ le-leb _ _ high) in
    leb-true _ _ (sym (lasting m n) ∙ is_resting (worn_by n (to_units m)) (omega arith))

-- ---- the law

module _ (y : Slew) (o : SetsOnce y) where
  abbrev n : ℕ
  n = adjusts_in (moves_after y)

  after_rests : resting (delta_remaining y) ≡ true → Within 0 (up rest_most.0) (worn_by n (to_units y.amount)).0
  after_rests e = rests_says _ (sym (ap resting (after_worn y o)) ∙ e)

  used_up : y.amount.0 ≤ℤ (pos 0) → resting (delta_remaining y) ≡ true → delta_remaining y ≡ units (pos 0)
  used_up h e =
      let u = times y.amount.0 units_per_milli in
      let l = of-≤ℤ h in
      let w = after_rests e in
      let g = of-≤ℤ ((shrinks_by n (to_units y.amount)).stays_negative (to-≤ℤ _ _ (omega arith))) in
      after_worn y o ∙ ap units (same _ _ (omega arith))

  remainder : (pos 0) <ℤ y.amount.0 → resting (delta_remaining y) ≡ true → delta_remaining y ≡ rest_most
  remainder h e =
      let u = times y.amount.0 units_per_milli in
      let l = of-<ℤ h in
      let w = after_rests e in
      let g = of-≤ℤ (over n (to_units y.amount) (to-≤ℤ _ _ (omega arith))) in
      after_worn y o ∙ ap units (same _ _ (omega arith))

pub lasts_holds : Lasts
unfolding wears
lasts_holds =
    record {
      exactly = λ y o. ap resting (after_worn y o) ∙ lasting y.amount (adjusts_in (moves_after y));
      used_up = used_up;
      remainder = remainder;
      doubled = refl;
      of_minus_1 = refl;
      of_100 = refl;
      of_most = refl;
      of_least = refl;
      longest = longest_by (adjusts_to_rest set_least) (le_refl _) (leb-true _ _ refl);
    }
