-- CHECKSUM-1: the internet checksum of RFC 1071.
use Rattle.std.specs.Prelude.{ℕ, ◌+◌, ◌-◌, ◌*◌, Bool, cond, List, [], ◌∷◌, ◌==◌, nat_lt}

-- CHECKSUM-2: FFFF hex
abbrev pub all_ones : ℕ
all_ones = 0xffff

-- CHECKSUM-1: two words added in one's complement
unfoldable pub fold : ℕ → ℕ → ℕ
fold a b = cond (nat_lt all_ones (a + b)) (a + b - all_ones) (a + b)

-- CHECKSUM-1, CHECKSUM-4: the sum of a list of octets; a single last octet counts as a high one
unfoldable pub folded : List ℕ → ℕ
folded [] = 0
folded (x ∷ []) = x * 256
folded (x ∷ y ∷ rest) = fold (x * 256 + y) (folded rest)

-- CHECKSUM-2: is the sum over all words FFFF hex?
unfoldable pub checksum_good : List ℕ → Bool
checksum_good octets = folded octets == all_ones

-- CHECKSUM-3: the complement of the sum of the other words
unfoldable pub checksum_of : List ℕ → ℕ
checksum_of others = all_ones - folded others
