-- What a packet that passed the inspection is known to have: all octets of its table, and our layout.
use Rattle.std.specs.Prelude.{◌≡◌, false, List, ℕ, eqb, length}
use Rattle.wire.specs.declared.Packet.{Packet}
use Rattle.wire.specs.Packet.{packet_length}
use Rattle.host.specs.declared.Settings.{Settings}

pub record Reported (s : Settings) (p : Packet) (octets : List ℕ) : Type 0 where
  pub whole : packet_length p.nhosts ≡ length octets
  pub ours : eqb p.nhosts 0 ≡ false → p.nhosts ≡ s.layout.nhosts
