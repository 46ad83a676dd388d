-- Lists of octets: each place has one, so each part and each two lists together do.
use Prim.Native.Nat.{ℕ, zero, suc, ◌<◌}
use native.Mathlib.Omega.{arith}
use mathlib.Core.List.{List, [], ◌∷◌, ◌++◌}
use lib.ListN.{get_or}
use Rattle.octets.specs.Octets.{Octets, octet_at}

-- the numbers of a slice of octets
pub of_places : (xs : List ℕ) → ((i : ℕ) → get_or xs i 0 < 256) → Octets xs
of_places [] h = tt
of_places (x ∷ xs) h = (h 0, of_places xs (λ i. h (suc i)))

pub at_place : (xs : List ℕ) → Octets xs → (i : ℕ) → octet_at xs i < 256
at_place [] o i = omega arith
at_place (x ∷ xs) o zero = o.0
at_place (x ∷ xs) o (suc i) = at_place xs o.1 i

pub joined : (xs ys : List ℕ) → Octets xs → Octets ys → Octets (xs ++ ys)
joined [] ys o p = p
joined (x ∷ xs) ys o p = (o.0, joined xs ys o.1 p)

pub first_part : (xs ys : List ℕ) → Octets (xs ++ ys) → Octets xs
first_part [] ys o = tt
first_part (x ∷ xs) ys o = (o.0, first_part xs ys o.1)

pub second_part : (xs ys : List ℕ) → Octets (xs ++ ys) → Octets ys
second_part [] ys o = o
second_part (x ∷ xs) ys o = second_part xs ys o.1
