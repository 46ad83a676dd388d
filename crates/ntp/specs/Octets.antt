-- NTP-1: times and exponents as octets.
use Rattle.std.specs.Prelude.{ℕ, List, ℤ}
use Rattle.octets.specs.Octets.{octet_at, eight_at}
use Rattle.quantity.specs.Words.{low_bits, signed_bits}
use Rattle.ntp.specs.declared.Exponent.{Exponent}
use Rattle.ntp.specs.declared.Timestamp.{Timestamp}

-- NTP-1: a signed exponent
abbrev pub exponent : ℤ → Exponent
exponent z = record { 0 = z }

-- NTP-2: a time of 64 bits
abbrev pub timestamp : ℕ → Timestamp
timestamp n = record { 0 = n }

-- ---- written

-- NTP-1: a signed number as an octet
abbrev pub signed_octet : Exponent → ℕ
signed_octet x = low_bits 8 x.0

-- ---- read

-- NTP-1: the signed number in the octet at place i
abbrev pub signed_at : List ℕ → ℕ → Exponent
signed_at octets i = exponent (signed_bits 8 (octet_at octets i))

-- NTP-1: the time from place i
abbrev pub time_at : List ℕ → ℕ → Timestamp
time_at octets i = timestamp (eight_at octets i)
