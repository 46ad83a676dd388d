-- PACKET-8: a packet is the IP header and the HELLO after it. Reading it tests for 3 to 7 in this order.
use Rattle.std.specs.Prelude.{cond, not, List, ◌++◌, ℕ, ◌+◌, pos, drop, Result, Ok, Err}
use Rattle.answer.specs.declared.Answer.{Answer}
use Rattle.quantity.specs.Quantity.{millis}
use Rattle.quantity.specs.Words.{word, signed16}
use Rattle.answer.specs.declared.Answer.TheVariants.{IpForm, IpChecksum, Protocol, HelloForm, HelloChecksum}
use Rattle.wire.specs.declared.Address.{Address}
use Rattle.wire.specs.declared.Packet.{Packet}
use Rattle.wire.specs.declared.Report.{Report}
use Rattle.octets.specs.Octets.{octet_at, two_at, four_at}
use Rattle.wire.specs.Octets.{address_at}
use Rattle.wire.specs.Ip.{header_length, source_place, ip_form, ip_checksum, protocol, header}
use Rattle.wire.specs.Hello.{date_place, time_place, tsp_place, address_offset_place, nhosts_place, hello_length, hello_form, hello_checksum, hello}

-- PACKET-5: the HELLO of a packet
abbrev pub hello_of : List ℕ → List ℕ
hello_of octets = drop header_length octets

-- ---- read

-- PACKET-5, PACKET-2: the fields of a packet; nothing else of it is used
unfoldable pub fields : List ℕ → Packet
fields octets =
    record {
      source = address_at octets source_place;
      date = record { 0 = two_at (hello_of octets) date_place };
      time = millis (pos (four_at (hello_of octets) time_place));
      tsp = word (signed16 (two_at (hello_of octets) tsp_place));
      address_offset = octet_at (hello_of octets) address_offset_place;
      nhosts = octet_at (hello_of octets) nhosts_place;
    }

-- PACKET-8: the first test that fails, or the fields
unfoldable pub parse : List ℕ → Result Packet Answer
parse octets =
    cond (not (ip_form octets)) (Err IpForm)
    (cond (not (ip_checksum octets)) (Err IpChecksum)
    (cond (not (protocol octets)) (Err Protocol)
    (cond (not (hello_form (hello_of octets))) (Err HelloForm)
    (cond (not (hello_checksum (hello_of octets))) (Err HelloChecksum)
    (Ok (fields octets))))))

-- ---- written

-- PACKET-6: the octets of a packet whose table has n hosts
abbrev pub packet_length : (nhosts : ℕ) → ℕ
packet_length nhosts = header_length + hello_length nhosts

-- PACKET-3, PACKET-5: a packet as it is sent
unfoldable pub message : (destination : Address) → Packet → List Report → List ℕ
message destination p rs = header (packet_length p.nhosts) p.source destination ++ hello p rs
