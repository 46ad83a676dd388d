-- BACK-1: between two readings a clock goes back by at most one millisecond, if the conditions below are true. Either reading may be that of any call that reads.
use Rattle.std.specs.Prelude.{◌≡◌, Bool, true, false, not, ◌&&◌, List, [], ◌∷◌, ◌++◌, ℕ, ◌^◌, ltb, leb, eqb, pos, negsuc, take, drop, ◌≤ℤ◌}
use Rattle.quantity.specs.declared.Millis.{Millis}
use Rattle.quantity.specs.Quantity.{millis, count_units, add_units, sub_millis, less_units, less_millis}
use Rattle.calendar.specs.declared.Date.{Date}
use Rattle.calendar.specs.Date.{await}
use Rattle.clock.specs.declared.Clock.{Clock}
use Rattle.clock.specs.declared.Counter.{Counter}
use Rattle.clock.specs.declared.Reading.{Reading}
use Rattle.clock.specs.Clock.{count_used, reading}
use Rattle.table.specs.Forms.{every}
use Rattle.host.specs.declared.Settings.{Settings}
use Rattle.clock_laws.specs.Moves.{Move, reads, moved}
use Rattle.clock_laws.specs.Kinds.{Setting, none, by, anew, kind, adjusts_in, ticks_in}
use Rattle.clock_laws.specs.Turns.{Turn, clock_after, clock_after_all, moves_of, moves_of_all}

-- ---- two readings of a host

-- BACK-1: a call that reads, calls between, and a call that reads again
pub record Readings : Type 0 where
  pub settings : Settings
  pub clock : Clock
  pub first : Turn
  pub counter : Counter
  pub between : List Turn
  pub last : Turn
  pub counter_again : Counter

-- BACK-1: a reading of a clock
abbrev pub read_at : Settings → Counter → Clock → Reading
read_at s k c = reading s.clock_tick s.hold_interval k c

-- BACK-1: the clock before the second reading
abbrev pub clock_at_last : Readings → Clock
clock_at_last y = clock_after_all y.settings (clock_after y.settings y.clock y.first) y.between

-- BACK-1: the first reading
abbrev pub earlier : Readings → Reading
earlier y = read_at y.settings y.counter y.clock

-- BACK-1: the second reading
abbrev pub later : Readings → Reading
later y = read_at y.settings y.counter_again (clock_at_last y)

-- BACK-1: both calls read, with these counters
pub record ReadsTwice (y : Readings) : Type 0 where
  pub once : take 1 (moves_of y.settings y.clock y.first) ≡ reads y.counter ∷ []
  pub again : take 1 (moves_of y.settings (clock_at_last y) y.last) ≡ reads y.counter_again ∷ []

-- BACK-2: the moves after the first reading, with the second reading
abbrev pub since : Readings → List Move
since y =
    drop 1 (moves_of y.settings y.clock y.first)
    ++ (moves_of_all y.settings (clock_after y.settings y.clock y.first) y.between ++ reads y.counter_again ∷ [])

-- ---- what is supposed of them

-- BACK-1: a count has 16 bits
abbrev pub count_fits : Move → Bool
count_fits m = ltb (kind m).count.0 (2 ^ 16)

-- BACK-1: no initialize
abbrev pub not_anew : Setting → Bool
not_anew none = true
not_anew (by m) = true
not_anew anew = false

-- BACK-1: the least set
abbrev pub set_least : Millis
set_least = millis (negsuc 127)

-- BACK-1: the greatest set
abbrev pub set_most : Millis
set_most = millis (pos 127)

-- BACK-1: is a set from -128 to +127 ms?
abbrev pub small : Millis → Bool
small m = not (less_millis m set_least) && not (less_millis set_most m)

-- BACK-1: only such sets, by a call or by line (d)
abbrev pub by_small : Setting → Bool
by_small none = true
by_small (by m) = small m
by_small anew = true

-- BACK-1: at most one adjust
abbrev pub most_adjusts : ℕ
most_adjusts = 1

-- BACK-1: the same day, whatever bit 15 is
abbrev pub same_day : Date → Date → Bool
same_day a b = eqb (await a).0 (await b).0

-- BACK-1: the date never changes
abbrev pub date_stays : Settings → Clock → List Move → Bool
date_stays s c [] = true
date_stays s c (m ∷ ms) = same_day c.date (moved s m c).date && date_stays s (moved s m c) ms

-- BACK-1: ticks and counter together do not decrease
abbrev pub not_falling : Readings → Bool
not_falling y =
    not (less_units (add_units (ticks_in y.settings (since y)) (count_units (count_used y.counter_again))) (count_units (count_used y.counter)))

-- BACK-1: all conditions in order
abbrev pub supposed : Readings → List Bool
supposed y =
    every count_fits (reads y.counter ∷ since y)
    ∷ every (λ m. not_anew (kind m).set) (since y)
    ∷ every (λ m. by_small (kind m).set) (since y)
    ∷ leb (adjusts_in (since y)) most_adjusts
    ∷ date_stays y.settings (earlier y).clock (since y)
    ∷ not_falling y
    ∷ []

-- ---- the law

-- BACK-1: one millisecond
abbrev pub most_back : Millis
most_back = millis (pos 1)

-- BACK-1: for every two such readings
unfoldable pub NeverBack : Type 0
NeverBack =
    (y : Readings) → ReadsTwice y → supposed y ≡ true ∷ true ∷ true ∷ true ∷ true ∷ true ∷ []
    → (sub_millis (earlier y).time most_back).0 ≤ℤ (later y).time.0
