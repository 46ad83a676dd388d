-- QTY-1: each quantity is a type. Operations stay within a type; the conversions are at the end of this file and nowhere else.
use Rattle.std.specs.Prelude.{Bool, ℕ, ◌-◌, ℤ, pos, ◌+ℤ◌, ◌-ℤ◌, ◌*ℤ◌}
use Rattle.std.specs.Int.Signed.{lt_z, shr_z}
use Rattle.quantity.specs.declared.Units.{Units}
use Rattle.quantity.specs.declared.Millis.{Millis}
use Rattle.quantity.specs.declared.Count.{Count}
use Rattle.quantity.specs.declared.Seconds.{Seconds}

-- ---- clock units

-- QTY-1: a number of clock units
abbrev pub units : ℤ → Units
units z = record { 0 = z }

-- QTY-1: the sum of two numbers of units
abbrev pub add_units : Units → Units → Units
add_units a b = units (a.0 +ℤ b.0)

-- QTY-1: the difference of two numbers of units
abbrev pub sub_units : Units → Units → Units
sub_units a b = units (a.0 -ℤ b.0)

-- QTY-3: units divided by n, rounded down
abbrev pub div_units : Units → ℕ → Units
div_units a n = units (shr_z a.0 n)

-- QTY-1: is one number of units less than another?
abbrev pub less_units : Units → Units → Bool
less_units a b = lt_z a.0 b.0

-- ---- milliseconds

-- QTY-1: a number of milliseconds
abbrev pub millis : ℤ → Millis
millis z = record { 0 = z }

-- QTY-1: the sum of two numbers of milliseconds
abbrev pub add_millis : Millis → Millis → Millis
add_millis a b = millis (a.0 +ℤ b.0)

-- QTY-1: the difference of two numbers of milliseconds
abbrev pub sub_millis : Millis → Millis → Millis
sub_millis a b = millis (a.0 -ℤ b.0)

-- QTY-3: half of a number of milliseconds, rounded down
abbrev pub half_millis : Millis → Millis
half_millis a = millis (shr_z a.0 2)

-- QTY-1: is one number of milliseconds less than another?
abbrev pub less_millis : Millis → Millis → Bool
less_millis a b = lt_z a.0 b.0

-- QTY-5: a count as a counter shows it
abbrev pub counts : ℕ → Count
counts n = record { 0 = n }

-- ---- seconds

-- QTY-1: a number of seconds
abbrev pub seconds : ℕ → Seconds
seconds n = record { 0 = n }

-- QTY-1: one second less, unless zero
abbrev pub fall_seconds : Seconds → Seconds
fall_seconds s = seconds (s.0 - 1)

-- ---- conversions

-- QTY-2: the units of a millisecond
abbrev pub units_per_milli : ℕ
units_per_milli = 65536

-- QTY-2: milliseconds as units
abbrev pub to_units : Millis → Units
to_units m = units (m.0 *ℤ pos units_per_milli)

-- QTY-5: a count as milliseconds
abbrev pub count_millis : Count → Millis
count_millis n = millis (pos n.0)

-- QTY-5: a count as units
abbrev pub count_units : Count → Units
count_units n = to_units (count_millis n)

-- QTY-2: the milliseconds of a number of units, rounded down
abbrev pub whole_millis : Units → Millis
whole_millis u = millis (shr_z u.0 units_per_milli)
