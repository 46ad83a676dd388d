-- PACKET-9, NTP-1: reading undoes writing, and writing undoes reading, at every width.
use Rattle.std.specs.Prelude.{◌≡◌, List, ◌++◌, ℕ, ◌+◌, ◌^◌, ◌≤◌, ◌<◌, length}
use Rattle.lists.specs.Lists.{part}
use Rattle.octets.specs.Octets.{Octets, number_octets, number_at}

-- PACKET-9, NTP-1: for every number that fits n octets: it is read back, wherever its octets are
unfoldable pub ReadBack : Type 0
ReadBack =
    (n number : ℕ) (before after : List ℕ) → number < 256 ^ n
    → number_at (before ++ number_octets n number ++ after) (length before) n ≡ number

-- NTP-1: for every n octets that are read as a number: they are that number's octets
unfoldable pub WrittenBack : Type 0
WrittenBack =
    (octets : List ℕ) (i n : ℕ) → Octets octets → i + n ≤ length octets → number_octets n (number_at octets i n) ≡ part i n octets
