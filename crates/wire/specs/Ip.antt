-- PACKET-1, PACKET-3: the IPv4 header, octets 0 to 19 of a packet.
use Rattle.std.specs.Prelude.{Bool, ◌&&◌, List, [], ◌∷◌, ◌++◌, ℕ, ◌%◌, leb, eqb, length, take}
use Rattle.checksum.specs.Checksum.{checksum_good, checksum_of}
use Rattle.wire.specs.declared.Address.{Address}
use Rattle.octets.specs.Octets.{two, octet_at, two_at}
use Rattle.wire.specs.Octets.{address_octets}

-- PACKET-1: the octets of the header
abbrev pub header_length : ℕ
header_length = 20

-- PACKET-1: version 4 in the high half, header length 5 in the low half
abbrev pub version_and_length : ℕ
version_and_length = 0x45

-- PACKET-4: the protocol number of HELLO
abbrev pub hello_protocol : ℕ
hello_protocol = 63

-- ---- the places of the fields that are read

-- PACKET-1: where version and header length are
abbrev pub version_place : ℕ
version_place = 0

-- PACKET-1: where the total length is
abbrev pub total_place : ℕ
total_place = 2

-- PACKET-1: where the fragment word is
abbrev pub fragment_place : ℕ
fragment_place = 6

-- PACKET-4: where the protocol is
abbrev pub protocol_place : ℕ
protocol_place = 9

-- helper: where the checksum is
abbrev pub checksum_place : ℕ
checksum_place = 10

-- PACKET-3: where the source is
abbrev pub source_place : ℕ
source_place = 12

-- ---- read: the tests of answers 3, 4 and 5

-- PACKET-1, ANSWER-3: is the header in form?
unfoldable pub ip_form : List ℕ → Bool
ip_form octets =
    leb header_length (length octets) && eqb (octet_at octets version_place) version_and_length
    && eqb (two_at octets total_place) (length octets)
    && eqb (two_at octets fragment_place % 16384) 0

-- CHECKSUM-2, ANSWER-4: is the header's checksum good?
unfoldable pub ip_checksum : List ℕ → Bool
ip_checksum octets = checksum_good (take header_length octets)

-- PACKET-4, ANSWER-5: is the protocol HELLO's?
unfoldable pub protocol : List ℕ → Bool
protocol octets = eqb (octet_at octets protocol_place) hello_protocol

-- ---- written

-- PACKET-3: the header before its checksum
abbrev pub header_start : (total : ℕ) → List ℕ
header_start total = version_and_length ∷ 0 ∷ [] ++ two total ++ two 0 ++ two 0 ++ 255 ∷ hello_protocol ∷ []

-- PACKET-3: the header after its checksum: source and destination
abbrev pub header_back : (source destination : Address) → List ℕ
header_back source destination = address_octets source ++ address_octets destination

-- PACKET-3, CHECKSUM-3: a header with its checksum
unfoldable pub header : (total : ℕ) (source destination : Address) → List ℕ
header total source destination =
    header_start total ++ two (checksum_of (header_start total ++ header_back source destination)) ++ header_back source destination
