-- BACK-4: how many adjusts a slew takes until DELTA no longer changes.
use Rattle.std.specs.Prelude.{◌≡◌, Bool, true, cond, [], ◌∷◌, map, ℕ, zero, suc, ◌≤◌, ◌^◌, leb, pos, negsuc, nat_abs, ◌≤ℤ◌, ◌<ℤ◌}
use Rattle.quantity.specs.declared.Units.{Units}
use Rattle.quantity.specs.declared.Millis.{Millis}
use Rattle.quantity.specs.Quantity.{units, millis, to_units, sub_units, div_units}
use Rattle.clock.specs.Clock.{adjust_fraction, within}
use Rattle.clock_laws.specs.Kinds.{adjusts_in}
use Rattle.clock_laws.specs.NeverBack.{small, set_least, set_most}
use Rattle.clock_laws.specs.Slewed.{Slew, SetsOnce, moves_after, delta_remaining}

-- BACK-4: DELTA after one adjust
abbrev pub worn : Units → Units
worn d = sub_units d (div_units d (2 ^ adjust_fraction))

-- BACK-4: the greatest DELTA that an adjust does not change
abbrev pub rest_most : Units
rest_most = units (pos 127)

-- BACK-4: does an adjust change DELTA no more?
abbrev pub resting : Units → Bool
resting d = within (units (pos 0)) rest_most d

-- BACK-4: the adjusts until then; each takes at least a unit
unfoldable pub wears : (spend : ℕ) → Units → ℕ
wears zero d = 0
wears (suc n) d = let more : ℕ = suc (wears n (worn d)) in cond (resting d) 0 more

-- BACK-4: the adjusts of a set amount
abbrev pub adjusts_to_rest : Millis → ℕ
adjusts_to_rest m = wears (nat_abs (to_units m).0) (to_units m)

-- BACK-4: how long each slew takes
pub record Lasts : Type 0 where
  -- BACK-4: DELTA rests from that adjust on, and not before
  pub exactly : (y : Slew) → SetsOnce y → resting (delta_remaining y) ≡ leb (adjusts_to_rest y.amount) (adjusts_in (moves_after y))
  -- BACK-4: then it is 0, or just below 128 units
  pub used_up : (y : Slew) → SetsOnce y → y.amount.0 ≤ℤ (pos 0) → resting (delta_remaining y) ≡ true → delta_remaining y ≡ units (pos 0)
  pub remainder : (y : Slew) → SetsOnce y → (pos 0) <ℤ y.amount.0 → resting (delta_remaining y) ≡ true → delta_remaining y ≡ rest_most
  -- BACK-4: twice the amount takes 88 or 89 adjusts more
  pub doubled :
      map (λ (n : ℕ). adjusts_to_rest (millis (pos n))) (1 ∷ 2 ∷ 4 ∷ 8 ∷ 16 ∷ 32 ∷ 64 ∷ [])
      ≡ 869 ∷ 958 ∷ 1046 ∷ 1135 ∷ 1223 ∷ 1311 ∷ 1400 ∷ []
  pub of_minus_1 : adjusts_to_rest (millis (negsuc 0)) ≡ 870
  pub of_100 : adjusts_to_rest (millis (pos 100)) ≡ 1457
  -- BACK-4: +127 and -128; no set takes longer
  pub of_most : adjusts_to_rest set_most ≡ 1487
  pub of_least : adjusts_to_rest set_least ≡ 1488
  pub longest : (m : Millis) → small m ≡ true → adjusts_to_rest m ≤ adjusts_to_rest set_least
