-- NTP-2: times of 64 bits, their differences, offset and delay.
use Rattle.std.specs.Prelude.{Bool, ℤ, pos, int_lt}
use Rattle.exchange.specs.Formulas.{difference, ntp_offset, ntp_delay}
use Rattle.ntp.specs.declared.Interval.{Interval}
use Rattle.ntp.specs.declared.Timestamp.{Timestamp}

-- NTP-2: a difference of times
abbrev pub interval : ℤ → Interval
interval z = record { 0 = z }

-- NTP-2: the difference of two times modulo 2^64, signed
abbrev pub since : (later earlier : Timestamp) → ℤ
since later earlier = difference 64 (pos later.0) (pos earlier.0)

-- NTP-4: is one time later: is the signed difference above 0?
abbrev pub later : Timestamp → Timestamp → Bool
later a b = int_lt (pos 0) (since a b)

-- NTP-2: the offset of T1, T2, T3, T4
abbrev pub offset : (origin receive transmit destination : Timestamp) → Interval
offset t1 t2 t3 t4 = interval (ntp_offset 64 (pos t1.0) (pos t2.0) (pos t3.0) (pos t4.0))

-- NTP-2: the delay of T1, T2, T3, T4
abbrev pub delay : (origin receive transmit destination : Timestamp) → Interval
delay t1 t2 t3 t4 = interval (ntp_delay 64 (pos t1.0) (pos t2.0) (pos t3.0) (pos t4.0))
