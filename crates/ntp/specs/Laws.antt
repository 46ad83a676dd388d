-- NTP-1: reading undoes writing, and writing undoes reading.
use Rattle.std.specs.Prelude.{◌≡◌, ℕ, ◌^◌, ◌<◌, List, ℤ, pos, negsuc, Ok}
use Rattle.octets.specs.Octets.{Octets}
use Rattle.ntp.specs.declared.Header.{Header}
use Rattle.ntp.specs.Header.{read, write}

-- NTP-1: a signed octet
abbrev pub SignedOctet : ℤ → Type 0
SignedOctet (pos n) = n < 128
SignedOctet (negsuc n) = n < 128

-- NTP-1: the values that the types of the fields have
pub record HeaderFits (h : Header) : Type 0 where
  pub poll : SignedOctet h.poll.0
  pub precision : SignedOctet h.precision.0
  pub root_delay : h.root_delay < 2 ^ 32
  pub root_dispersion : h.root_dispersion < 2 ^ 32
  pub reference_id : h.reference_id < 2 ^ 32
  pub reference : h.reference.0 < 2 ^ 64
  pub origin : h.origin.0 < 2 ^ 64
  pub receive : h.receive.0 < 2 ^ 64
  pub transmit : h.transmit.0 < 2 ^ 64

-- NTP-1: for every header that is written: it is read back
unfoldable pub ReadBack : Type 0
ReadBack = (h : Header) (octets : List ℕ) → HeaderFits h → write h ≡ Ok octets → read octets ≡ Ok h

-- NTP-1: for every 48 octets that are read: they are written again
unfoldable pub WrittenBack : Type 0
WrittenBack = (octets : List ℕ) (h : Header) → Octets octets → read octets ≡ Ok h → write h ≡ Ok octets
