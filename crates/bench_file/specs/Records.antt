-- BENCH-2, BENCH-4: the records after the header; docs/BENCH.md has their octets.
use Rattle.std.specs.Prelude.{cond, List, ℕ, ◌+◌, ◌*◌, eqb, ℤ}
use Rattle.lists.specs.Lists.{part}
use Rattle.quantity.specs.declared.Count.{Count}
use Rattle.quantity.specs.Words.{signed_bits}
use Rattle.clock.specs.declared.Counter.{Counter}
use Rattle.bench_file.specs.declared.Header.{Header}
use Rattle.bench_file.specs.declared.End.{End}
use Rattle.bench_file.specs.declared.Event.{Event}
use Rattle.bench_file.specs.declared.Event.TheVariants.{Tick, Adjust, Set, Second, SelfReport, Send, Arrival, Unknown}
use Rattle.octets.specs.Octets.{octet_at, number_at}
use Rattle.bench_file.specs.Header.{header_length, host_length, cable_length, event_length}

-- ---- the places of the records; record k is host k, cable k, event k

-- BENCH-2: where the record of host k is
abbrev pub host_place : (host : ℕ) → ℕ
host_place k = header_length + host_length * k

-- BENCH-2: where the record of cable k is
abbrev pub cable_place : Header → (cable : ℕ) → ℕ
cable_place h k = h.cables_start + cable_length * k

-- BENCH-2: where the record of event k is
abbrev pub event_place : Header → (event : ℕ) → ℕ
event_place h k = h.events_start + event_length * k

-- ---- a host's record: of it here only the count of its links

-- BENCH-2: how many links a host has
abbrev pub link_count_at : List ℕ → (host : ℕ) → ℕ
link_count_at file k = octet_at file (host_place k + 24)

-- ---- a cable's record: its two ends, 0 and 1, each a link of a host

-- BENCH-2, BENCH-5: end 0 or 1 of a cable: a link of a host
abbrev pub end_at : List ℕ → Header → (cable end : ℕ) → End
end_at file h k e =
    record {
      host = octet_at file (cable_place h k + 2 * e);
      link = octet_at file (cable_place h k + 2 * e + 1);
    }

-- ---- an event's record

-- BENCH-4: the count of an event
abbrev pub count_of : (octets : List ℕ) → Count
count_of r = record { 0 = number_at r 6 2 }

-- BENCH-4: the counter of an event
abbrev pub counter_of : (octets : List ℕ) → Counter
counter_of r = record { count = count_of r; overflow = octet_at r 5; again = record { 0 = number_at r 8 2 } }

-- BENCH-4: the signed number of milliseconds of a set
abbrev pub amount_of : (octets : List ℕ) → ℤ
amount_of r = signed_bits 32 (number_at r 10 4)

-- BENCH-4: the event of a record, by its kind 1 to 7; unused fields are ignored
unfoldable pub event_of : (octets : List ℕ) → Event
event_of r =
    cond (eqb (octet_at r 0) 1) (Tick (octet_at r 1) (count_of r))
    (cond (eqb (octet_at r 0) 2) (Adjust (octet_at r 1) (count_of r))
    (cond (eqb (octet_at r 0) 3) (Set (octet_at r 1) (amount_of r) (count_of r))
    (cond (eqb (octet_at r 0) 4) (Second (octet_at r 1))
    (cond (eqb (octet_at r 0) 5) (SelfReport (octet_at r 1) (counter_of r))
    (cond (eqb (octet_at r 0) 6) (Send (octet_at r 2) (octet_at r 3) (octet_at r 4) (counter_of r))
    (cond (eqb (octet_at r 0) 7) (Arrival (octet_at r 4) (counter_of r)) Unknown))))))

-- BENCH-4: event k of the file
abbrev pub event_at : List ℕ → Header → (event : ℕ) → Event
event_at file h k = event_of (part (event_place h k) event_length file)
