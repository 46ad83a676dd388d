-- PACKET-5: the HELLO, with its fields by their places from its start.
use Rattle.std.specs.Prelude.{Bool, ◌&&◌, List, [], ◌∷◌, ◌++◌, ℕ, ◌+◌, ◌*◌, leb, eqb, pos, nat_abs, length}
use Rattle.quantity.specs.Quantity.{millis}
use Rattle.quantity.specs.Words.{word, bits16, signed16}
use Rattle.checksum.specs.Checksum.{checksum_good, checksum_of}
use Rattle.wire.specs.declared.Packet.{Packet}
use Rattle.wire.specs.declared.Report.{Report}
use Rattle.octets.specs.Octets.{two, four, octet_at, two_at}

-- PACKET-5: the octets before the reports
abbrev pub fixed_length : ℕ
fixed_length = 12

-- PACKET-5: the octets of one host's report
abbrev pub report_length : ℕ
report_length = 4

-- ---- the places of the fields

-- PACKET-5: where DATE is
abbrev pub date_place : ℕ
date_place = 2

-- PACKET-5: where the time is
abbrev pub time_place : ℕ
time_place = 4

-- PACKET-5: where TSP is
abbrev pub tsp_place : ℕ
tsp_place = 8

-- PACKET-5: where ADDRESS-OFFSET is
abbrev pub address_offset_place : ℕ
address_offset_place = 10

-- PACKET-5: where NHOSTS is
abbrev pub nhosts_place : ℕ
nhosts_place = 11

-- PACKET-5: where the report of host i is, DELAY first
abbrev pub report_place : ℕ → ℕ
report_place i = fixed_length + report_length * i

-- ---- read: the tests of answers 6 and 7, and what is reported of a host

-- PACKET-6: the octets of a HELLO with n hosts
abbrev pub hello_length : (nhosts : ℕ) → ℕ
hello_length nhosts = fixed_length + report_length * nhosts

-- PACKET-6, ANSWER-6: does the length fit NHOSTS?
unfoldable pub hello_form : List ℕ → Bool
hello_form hello =
    leb fixed_length (length hello) && eqb (length hello) (hello_length (octet_at hello nhosts_place))

-- PACKET-7, ANSWER-7: is the checksum over all octets good?
unfoldable pub hello_checksum : List ℕ → Bool
hello_checksum hello = checksum_good hello

-- PACKET-5: the report of host i: DELAY unsigned, OFFSET signed
unfoldable pub report_at : List ℕ → ℕ → Report
report_at hello i =
    record {
      delay = millis (pos (two_at hello (report_place i)));
      offset = word (signed16 (two_at hello (report_place i + 2)));
    }

-- ---- written

-- PACKET-5: the octets of a report
abbrev pub report_octets : Report → List ℕ
report_octets r = two (bits16 r.delay.0) ++ two (bits16 r.offset.0)

-- PACKET-5: the octets of a list of reports
abbrev pub reports_octets : List Report → List ℕ
reports_octets [] = []
reports_octets (r ∷ rs) = report_octets r ++ reports_octets rs

-- PACKET-5: everything after the checksum
abbrev pub hello_rest : Packet → List Report → List ℕ
hello_rest p rs =
    two p.date.0 ++ four (nat_abs p.time.0) ++ two (bits16 p.tsp.0)
    ++ p.address_offset ∷ p.nhosts ∷ []
    ++ reports_octets rs

-- PACKET-7, CHECKSUM-3: a HELLO with its checksum
unfoldable pub hello : Packet → List Report → List ℕ
hello p rs = two (checksum_of (hello_rest p rs)) ++ hello_rest p rs
