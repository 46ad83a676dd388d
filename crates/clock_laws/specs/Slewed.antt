-- BACK-3, BACK-4: after one set that slews: what adjusts added to CLOCK, plus DELTA, is the amount. Ticks, seconds and readings may come between.
use Rattle.std.specs.Prelude.{◌≡◌, Bool, true, false, cond, List, [], ◌∷◌, ◌++◌, ◌≤◌, ℤ, pos, nat_abs, ◌*ℤ◌, ◌≤ℤ◌}
use Rattle.quantity.specs.declared.Units.{Units}
use Rattle.quantity.specs.declared.Millis.{Millis}
use Rattle.quantity.specs.declared.Count.{Count}
use Rattle.quantity.specs.Quantity.{units, to_units, add_units, sub_units}
use Rattle.clock.specs.declared.Clock.{Clock}
use Rattle.clock.specs.Midnight.{day}
use Rattle.table.specs.Forms.{every}
use Rattle.host.specs.declared.Settings.{Settings}
use Rattle.clock_laws.specs.Moves.{Move, sets, moved}
use Rattle.clock_laws.specs.Kinds.{Setting, none, by, anew, kind}
use Rattle.clock_laws.specs.Turns.{Turn, clock_after, clock_after_all, moves_of, moves_of_all}
use Rattle.clock_laws.specs.NeverBack.{small}

-- BACK-3: no set
abbrev pub setless : Setting → Bool
setless none = true
setless (by m) = false
setless anew = false

-- BACK-3: no move of a list sets
abbrev pub no_set : List Move → Bool
no_set ms = every (λ m. setless (kind m).set) ms

-- BACK-3: what an adjust adds to CLOCK
abbrev pub gain : Settings → Clock → Move → Units
gain s c m = cond (kind m).adjust (sub_units (moved s m c).clock c.clock) (units (pos 0))

-- BACK-3: what all adjusts of a list add
abbrev pub gained : Settings → Clock → List Move → Units
gained s c [] = units (pos 0)
gained s c (m ∷ ms) = add_units (gain s c m) (gained s (moved s m c) ms)

-- BACK-3: a number of days
abbrev pub days : ℤ → Units
days z = units (z *ℤ day.0)

-- BACK-3: equal apart from full days
pub record ButForDays (a b : Units) : Type 0 where
  pub whole_days : ℤ
  pub same : add_units a (days whole_days) ≡ b

-- BACK-4: no larger, and of no other sign
pub record Shrinks (a b : Units) : Type 0 where
  pub smaller : nat_abs b.0 ≤ nat_abs a.0
  pub stays_positive : (pos 0) ≤ℤ a.0 → (pos 0) ≤ℤ b.0
  pub stays_negative : a.0 ≤ℤ (pos 0) → b.0 ≤ℤ (pos 0)

-- BACK-3: a call that sets the clock by an amount, and the calls after it
pub record Slew : Type 0 where
  pub settings : Settings
  pub clock : Clock
  pub first : Turn
  pub amount : Millis
  pub after : List Turn

-- BACK-3: the clock after the set
abbrev pub clock_set : Slew → Clock
clock_set y = clock_after y.settings y.clock y.first

-- BACK-3: the moves after the set
abbrev pub moves_after : Slew → List Move
moves_after y = moves_of_all y.settings (clock_set y) y.after

-- BACK-3: the set is the first call's last move, from -128 to +127 ms, and no other follows
pub record SetsOnce (y : Slew) : Type 0 where
  pub before : List Move
  pub count : Count
  pub its_moves : moves_of y.settings y.clock y.first ≡ before ++ sets count y.amount ∷ []
  pub is_small : small y.amount ≡ true
  pub no_other : no_set (moves_after y) ≡ true

-- BACK-3: what the adjusts added
abbrev pub slewed_by : Slew → Units
slewed_by y = gained y.settings (clock_set y) (moves_after y)

-- BACK-3: DELTA at the end
abbrev pub delta_remaining : Slew → Units
delta_remaining y = (clock_after_all y.settings (clock_set y) y.after).delta

-- BACK-3, BACK-4: for every such list of calls
pub record Slewed : Type 0 where
  pub sum : (y : Slew) → SetsOnce y → ButForDays (add_units (slewed_by y) (delta_remaining y)) (to_units y.amount)
  -- BACK-4: from any point of the list on
  pub shrinks : (s : Settings) (c : Clock) (ts : List Turn) → no_set (moves_of_all s c ts) ≡ true → Shrinks c.delta (clock_after_all s c ts).delta
