-- PACKET-4: addresses as octets, the high one first. Numbers as octets are in `octets`.
use Rattle.std.specs.Prelude.{Bool, ◌&&◌, List, [], ◌∷◌, ℕ, ◌+◌, eqb}
pub use Rattle.octets.specs.Octets.{two, four, octet_at, two_at, four_at}
use Rattle.wire.specs.declared.Address.{Address}

-- PACKET-4: an address as octets
abbrev pub address_octets : Address → List ℕ
address_octets a = a.first ∷ a.second ∷ a.third ∷ a.fourth ∷ []

-- PACKET-4: the address from place i
abbrev pub address_at : List ℕ → ℕ → Address
address_at octets i =
    record {
      first = octet_at octets i;
      second = octet_at octets (i + 1);
      third = octet_at octets (i + 2);
      fourth = octet_at octets (i + 3);
    }

-- PACKET-4: the address 0.0.0.0
abbrev pub zero_address : Address
zero_address = record { first = 0; second = 0; third = 0; fourth = 0 }

-- ARRIVE-4, ARRIVE-1: are two addresses the same?
abbrev pub same_address : Address → Address → Bool
same_address a b =
    eqb a.first b.first && eqb a.second b.second && eqb a.third b.third && eqb a.fourth b.fourth
