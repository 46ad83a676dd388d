-- PACKET-9: reading what was written gives what was written. So a message is never refused with 3 to 7.
use Rattle.std.specs.Prelude.{◌≡◌, List, ℕ, ◌<◌, length, get_or, Ok}
use Rattle.wire.specs.declared.Address.{Address}
use Rattle.wire.specs.declared.Packet.{Packet}
use Rattle.wire.specs.declared.Report.{Report}
use Rattle.wire.specs.Hello.{report_at}
use Rattle.wire.specs.Packet.{hello_of, parse, message}
use Rattle.wire.specs.code.Ranges.{AddressFits, PacketFits, ReportsFit}

-- PACKET-9: all fields fit their octets, and NHOSTS is the number of reports
pub record MessageFits (destination : Address) (p : Packet) (rs : List Report) : Type 0 where
  pub destination_fits : AddressFits destination
  pub source_fits : AddressFits p.source
  pub packet_fits_lem : PacketFits p
  pub address_offset_fits : p.address_offset < 256
  pub nhosts_fits : p.nhosts < 256
  pub count : p.nhosts ≡ length rs
  pub reports_fit : ReportsFit rs

-- PACKET-9: for every message that fits: its fields are read back
unfoldable pub ReadBack : Type 0
ReadBack =
    (destination : Address) (p : Packet) (rs : List Report) → MessageFits destination p rs
    → parse (message destination p rs) ≡ Ok p

-- PACKET-9: for every report i of such a message: it is read back
unfoldable pub ReportsBack : Type 0
ReportsBack =
    (destination : Address) (p : Packet) (rs : List Report) → ReportsFit rs
    → (i : ℕ) (none : Report) → i < length rs → report_at (hello_of (message destination p rs)) i ≡ get_or rs i none
