-- BACK-1: the bound is sharp, and each condition is needed, by computing.
use Rattle.std.specs.Prelude.{◌≡◌, Bool, true, false, List, [], ◌∷◌, ◌*◌, ◌-◌, ℤ, pos, negsuc}
use Rattle.quantity.specs.Quantity.{millis, counts, to_units, add_units, sub_units}
use Rattle.clock.specs.Midnight.{day_millis, day}
use Rattle.clock.specs.Crystal.{counting}
use Rattle.clock.specs.LineClock.{no_count, no_counter}
use Rattle.calls.specs.declared.Request.TheVariants.{Initialize, Tick, Read, Second}
use Rattle.clock_laws.specs.NeverBack.{Readings, ReadsTwice, earlier, later, set_least, set_most, supposed}
use Rattle.clock_laws.specs.Slewed.{SetsOnce, slewed_by, delta_remaining}
use Rattle.clock_laws.specs.Examples.{start, asks, set_to, adjust_once, refused_adjust, between_reads, after_arrival, late_slew}

-- BACK-1: the two readings, and which conditions are met
pub record Goes (y : Readings) (met : List Bool) (from to : ℤ) : Type 0 where
  pub reads_twice : ReadsTwice y
  pub meets : supposed y ≡ met
  pub before : (earlier y).time.0 ≡ from
  pub after : (later y).time.0 ≡ to

-- BACK-1: one example for each condition
pub record Sharp : Type 0 where
  -- BACK-1: back by exactly one
  pub by_one :
      Goes (between_reads start no_counter (set_to (negsuc 127) ∷ adjust_once ∷ []) no_counter) (true ∷ true ∷ true ∷ true ∷ true ∷ true ∷ [])
      (pos 3600000) (pos 3599999)
  -- BACK-1: also with a refused adjust, a read and a second between
  pub among_others :
      Goes (between_reads start no_counter (set_to (negsuc 127) ∷ refused_adjust ∷ asks (Read no_counter) ∷ asks Second ∷ adjust_once ∷ []) no_counter)
      (true ∷ true ∷ true ∷ true ∷ true ∷ true ∷ []) (pos 3600000) (pos 3599999)
  -- BACK-2: and if the first reading is an arrival's, whose line (d) sets by -128
  pub arrival_by_one :
      Goes (after_arrival set_least (adjust_once ∷ [])) (true ∷ true ∷ true ∷ true ∷ true ∷ true ∷ []) (pos 3600000) (pos 3599999)
  -- BACK-1: a count that takes the date around through 32 years
  pub wide_count :
      Goes (between_reads start no_counter [] (counting (counts (11688 * 86400000 - 1000)))) (false ∷ true ∷ true ∷ true ∷ true ∷ true ∷ [])
      (pos 3600000) (pos 3599000)
  -- BACK-1: an initialize between
  pub was_initialized :
      Goes (between_reads (millis (pos 3601000)) no_counter (asks Initialize ∷ []) no_counter) (true ∷ false ∷ true ∷ true ∷ true ∷ true ∷ [])
      (pos 3601000) (pos 3600000)
  -- BACK-1: a set of -129, by a call and by line (d)
  pub set_by_129 :
      Goes (between_reads start no_counter (set_to (negsuc 128) ∷ []) no_counter) (true ∷ true ∷ false ∷ true ∷ true ∷ true ∷ [])
      (pos 3600000) (pos 3599871)
  pub arrival_by_129 :
      Goes (after_arrival (millis (negsuc 128)) []) (true ∷ true ∷ false ∷ true ∷ true ∷ true ∷ []) (pos 3600000) (pos 3599871)
  -- BACK-1: two adjusts
  pub two_adjusts :
      Goes (between_reads start no_counter (set_to (negsuc 127) ∷ adjust_once ∷ adjust_once ∷ []) no_counter) (true ∷ true ∷ true ∷ false ∷ true ∷ true ∷ [])
      (pos 3600000) (pos 3599998)
  -- BACK-1: a tick past midnight, and a count past midnight at the second reading
  pub date_changes :
      Goes (between_reads day_millis no_counter (asks (Tick no_count) ∷ []) no_counter) (true ∷ true ∷ true ∷ true ∷ false ∷ true ∷ [])
      (pos 86400000) (pos 1000)
  pub date_changes_last :
      Goes (between_reads day_millis no_counter [] (counting (counts 5))) (true ∷ true ∷ true ∷ true ∷ false ∷ true ∷ []) (pos 86400000) (pos 5)
  -- BACK-1: a counter that falls by two
  pub counter_falls :
      Goes (between_reads start (counting (counts 2)) [] no_counter) (true ∷ true ∷ true ∷ true ∷ true ∷ false ∷ []) (pos 3600002) (pos 3600000)
  -- BACK-3: an adjust past midnight: the sum is a day short
  pub late : SetsOnce late_slew
  pub day_short : add_units (slewed_by late_slew) (delta_remaining late_slew) ≡ sub_units (to_units set_most) day
