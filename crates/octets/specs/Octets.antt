-- PACKET-4, NTP-1, BENCH-2: numbers in octets, the high octet first. Everything is over the width, the number of octets.
use Rattle.std.specs.Prelude.{List, [], ◌∷◌, ◌++◌, ℕ, zero, suc, ◌+◌, ◌*◌, ◌/◌, ◌%◌, ◌<◌, get_or}

-- PACKET-4, NTP-1, TEXT-5: each number is an octet
abbrev pub Octets : List ℕ → Type 0
Octets [] = Unit {0}
Octets (x ∷ xs) = (x < 256) × Octets xs

-- ---- written

-- PACKET-4, NTP-1: a number as n octets
abbrev pub number_octets : (n number : ℕ) → List ℕ
number_octets zero number = []
number_octets (suc n) number = number_octets n (number / 256) ++ (number % 256 ∷ [])

-- PACKET-4: a number as two octets
abbrev pub two : ℕ → List ℕ
two number = number_octets 2 number

-- PACKET-4, NTP-1: a number as four octets
abbrev pub four : ℕ → List ℕ
four number = number_octets 4 number

-- NTP-1: a number as eight octets
abbrev pub eight : ℕ → List ℕ
eight number = number_octets 8 number

-- ---- read

-- PACKET-4, NTP-1, BENCH-2: the octet at a place, 0 after the end
abbrev pub octet_at : List ℕ → (place : ℕ) → ℕ
octet_at octets i = get_or octets i 0

-- PACKET-4, NTP-1, BENCH-2: the number in n octets from a place on
abbrev pub number_at : List ℕ → (place n : ℕ) → ℕ
number_at octets i zero = 0
number_at octets i (suc zero) = octet_at octets i
number_at octets i (suc (suc n)) = number_at octets i (suc n) * 256 + octet_at octets (i + suc n)

-- PACKET-4: the number in two octets from a place on
abbrev pub two_at : List ℕ → (place : ℕ) → ℕ
two_at octets i = number_at octets i 2

-- PACKET-4, NTP-1: the number in four octets from a place on
abbrev pub four_at : List ℕ → (place : ℕ) → ℕ
four_at octets i = number_at octets i 4

-- NTP-1: the number in eight octets from a place on
abbrev pub eight_at : List ℕ → (place : ℕ) → ℕ
eight_at octets i = number_at octets i 8
