-- Which values fit their octets.
use Rattle.std.specs.Prelude.{◌<◌, ◌^◌, List, [], ◌∷◌, ℤ, pos, negsuc, ◌≤ℤ◌, ◌<ℤ◌}
use Rattle.wire.specs.declared.Address.{Address}
use Rattle.wire.specs.declared.Packet.{Packet}
use Rattle.wire.specs.declared.Report.{Report}

-- a number from one on, and below another
pub record Between (low high z : ℤ) : Type 0 where
  pub not_below : low ≤ℤ z
  pub below : z <ℤ high

-- two octets, two octets that are read as signed, and four
abbrev pub Two : ℤ → Type 0
Two z = Between (pos 0) (pos (2 ^ 16)) z

abbrev pub SignedTwo : ℤ → Type 0
SignedTwo z = Between (negsuc 0x7fff) (pos (2 ^ 15)) z

abbrev pub Four : ℤ → Type 0
Four z = Between (pos 0) (pos (2 ^ 32)) z

pub record AddressFits (a : Address) : Type 0 where
  pub first : a.first < 256
  pub second : a.second < 256
  pub third : a.third < 256
  pub fourth : a.fourth < 256

-- what a HELLO has of a packet, except its octets ADDRESS-OFFSET and NHOSTS
pub record PacketFits (p : Packet) : Type 0 where
  pub date : p.date.0 < 2 ^ 16
  pub time : Four p.time.0
  pub tsp : SignedTwo p.tsp.0

pub record ReportFits (r : Report) : Type 0 where
  pub delay : Two r.delay.0
  pub offset : SignedTwo r.offset.0

abbrev pub ReportsFit : List Report → Type 0
ReportsFit [] = Unit {0}
ReportsFit (r ∷ rs) = ReportFits r × ReportsFit rs
