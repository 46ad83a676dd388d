-- How the second way computes the folded sum: full words, low octet first, are summed, and the carries are added at the end.
use Rattle.std.specs.Prelude.{ℕ, zero, suc, ◌+◌, ◌*◌, ◌%◌, List, [], ◌∷◌}
use Rattle.checksum.specs.Checksum.{all_ones}

-- a total with its carries added in
unfoldable pub end_around : ℕ → ℕ
end_around zero = 0
end_around (suc n) = n % all_ones + 1

-- the full sum of words, each of which f makes of two octets; an odd last octet is followed by a zero
abbrev pub summed : (ℕ → ℕ → ℕ) → List ℕ → ℕ
summed f [] = 0
summed f (x ∷ []) = f x 0
summed f (x ∷ y ∷ rest) = f x y + summed f rest

-- the sum of the words, high octet first
abbrev pub word_sum : List ℕ → ℕ
word_sum = summed (λ x y. x * 256 + y)

-- the sum of the words, low octet first
abbrev pub low_sum : List ℕ → ℕ
low_sum = summed (λ x y. x + y * 256)

-- the number of four octets, the low one first
abbrev pub low_four : (a b c d : ℕ) → ℕ
low_four a b c d = a + b * 0x100 + c * 0x10000 + d * 0x1000000

-- fewer octets than this are summed by a loop with little setup
abbrev pub short_length : ℕ
short_length = 64

-- this many octets are summed within 32 bits
abbrev pub block_length : ℕ
block_length = 0x40000
