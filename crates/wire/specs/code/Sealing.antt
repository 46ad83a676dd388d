-- How a message is written into a borrowed buffer: first each host's report, then the rest around the reports.
use Rattle.std.specs.Prelude.{List, [], ◌∷◌, ◌++◌, ℕ, suc, ◌+◌, ◌*◌, take, drop}
use Rattle.lists.specs.Lists.{over}
use Rattle.checksum.specs.Checksum.{checksum_of}
use Rattle.wire.specs.declared.Address.{Address}
use Rattle.wire.specs.declared.Packet.{Packet}
use Rattle.wire.specs.declared.Report.{Report}
use Rattle.octets.specs.Octets.{two}
use Rattle.wire.specs.Ip.{header_length, header}
use Rattle.wire.specs.Hello.{fixed_length, report_length, report_place, hello_length, report_octets, hello_rest}
use Rattle.wire.specs.Packet.{hello_of, packet_length}

-- ---- the reports

-- host i's report in its place, in a HELLO and in a packet
abbrev pub hello_with_report : (i : ℕ) → Report → List ℕ → List ℕ
hello_with_report i r b = over b (report_place i) (report_octets r)

unfoldable pub with_report : (i : ℕ) → Report → List ℕ → List ℕ
with_report i r b = over b (header_length + report_place i) (report_octets r)

-- reports in the places of the hosts from i on, one after the other
unfoldable pub with_reports : (i : ℕ) → List Report → List ℕ → List ℕ
with_reports i [] b = b
with_reports i (r ∷ rs) b = with_reports (suc i) rs (with_report i r b)

-- ---- the rest

-- the octets after the checksum: the fixed part, filled in, and the reports as they are
abbrev pub sealed_rest : Packet → List ℕ → List ℕ
sealed_rest p b = hello_rest p [] ++ take (report_length * p.nhosts) (drop fixed_length b)

unfoldable pub sealed_hello : Packet → List ℕ → List ℕ
sealed_hello p b = two (checksum_of (sealed_rest p b)) ++ sealed_rest p b ++ drop (hello_length p.nhosts) b

-- SEND-4: the octets after the message stay
unfoldable pub sealed : (destination : Address) → Packet → List ℕ → List ℕ
sealed destination p b =
    header (packet_length p.nhosts) p.source destination ++ sealed_hello p (hello_of b)
