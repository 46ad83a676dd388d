-- ARRIVE-3, NTP-2: the formulas of an exchange over the word's width w. A sends at T1, B receives at T2 and sends at T3, A receives at T4.
use Rattle.std.specs.Prelude.{ℕ, ℤ, ◌+ℤ◌, ◌-ℤ◌}
use Rattle.std.specs.Int.Signed.{shr_z}
use Rattle.quantity.specs.Words.{wrap}

-- ---- HELLO: B's TSP, the TSP of B's packet, and A's DELAY and OFFSET

-- ARRIVE-3: HELLO: TSP
abbrev pub tsp : (w : ℕ) (time reading : ℤ) → ℤ
tsp w time reading = wrap w (time -ℤ reading)

-- SEND-3: HELLO: the TSP of B's packet
abbrev pub packet_tsp : (w : ℕ) (T1 T2 T3 : ℤ) → ℤ
packet_tsp w T1 T2 T3 = wrap w (tsp w T1 T2 +ℤ T3)

-- ARRIVE-3, NTP-6: HELLO: DELAY
abbrev pub delay : (w : ℕ) (T1 T2 T3 T4 : ℤ) → ℤ
delay w T1 T2 T3 T4 = wrap w (T4 -ℤ packet_tsp w T1 T2 T3)

-- ARRIVE-3, NTP-6: HELLO: OFFSET
abbrev pub offset : (w : ℕ) (T1 T2 T3 T4 : ℤ) → ℤ
offset w T1 T2 T3 T4 = wrap w (tsp w T3 T4 +ℤ shr_z (delay w T1 T2 T3 T4) 2)

-- ---- NTP

-- NTP-2: NTP: a difference modulo 2^w, signed
abbrev pub difference : (w : ℕ) (a b : ℤ) → ℤ
difference w a b = wrap w (a -ℤ b)

-- NTP-2: NTP: the offset, the sum halved with all its bits
abbrev pub ntp_offset : (w : ℕ) (T1 T2 T3 T4 : ℤ) → ℤ
ntp_offset w T1 T2 T3 T4 = shr_z (difference w T2 T1 +ℤ difference w T3 T4) 2

-- NTP-2: NTP: the delay, wrapped again
abbrev pub ntp_delay : (w : ℕ) (T1 T2 T3 T4 : ℤ) → ℤ
ntp_delay w T1 T2 T3 T4 = difference w (difference w T4 T1) (difference w T3 T2)
