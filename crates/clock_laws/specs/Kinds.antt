-- BACK-2: what the theorems use of a move: whether it sets, adjusts or ticks, and its count.
use Rattle.std.specs.Prelude.{Bool, true, false, cond, List, [], ◌∷◌, ℕ, ◌+◌, pos}
use Rattle.quantity.specs.declared.Units.{Units}
use Rattle.quantity.specs.declared.Millis.{Millis}
use Rattle.quantity.specs.declared.Count.{Count}
use Rattle.quantity.specs.Quantity.{units, add_units}
use Rattle.clock.specs.Clock.{marked, count_used}
use Rattle.clock.specs.LineClock.{no_count}
use Rattle.host.specs.declared.Settings.{Settings}
use Rattle.clock_laws.specs.Moves.{Move, reads, ticks, adjusts, sets, dates, second, initialized}

-- BACK-2: no set, a set by an amount, or initialize
pub data Setting : Type 0 where
  none : Setting
  by : Millis → Setting
  anew : Setting

-- BACK-2: set, adjust, tick and count of a move
pub record Kind : Type 0 where
  pub set : Setting
  pub adjust : Bool
  pub tick : Bool
  pub count : Count

-- BACK-2: those of each move; a marked reading has a tick
abbrev pub kind : Move → Kind
kind (reads k) = record { set = none; adjust = false; tick = marked k; count = count_used k }
kind (ticks n) = record { set = none; adjust = false; tick = true; count = n }
kind (adjusts n) = record { set = none; adjust = true; tick = false; count = n }
kind (sets n m) = record { set = by m; adjust = false; tick = false; count = n }
kind (dates d) = record { set = none; adjust = false; tick = false; count = no_count }
kind second = record { set = none; adjust = false; tick = false; count = no_count }
kind initialized = record { set = anew; adjust = false; tick = false; count = no_count }

-- BACK-1: how many adjusts
abbrev pub adjusts_in : List Move → ℕ
adjusts_in [] = 0
adjusts_in (m ∷ ms) = cond (kind m).adjust 1 0 + adjusts_in ms

-- BACK-1: what a move's tick adds to CLOCK
abbrev pub tick_of : Settings → Move → Units
tick_of s m = cond (kind m).tick s.clock_tick (units (pos 0))

-- BACK-1: what all ticks add
abbrev pub ticks_in : Settings → List Move → Units
ticks_in s [] = units (pos 0)
ticks_in s (m ∷ ms) = add_units (tick_of s m) (ticks_in s ms)
