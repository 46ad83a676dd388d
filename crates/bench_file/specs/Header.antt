-- BENCH-2, BENCH-3: the header of a bench file.
use Rattle.std.specs.Prelude.{Bool, not, ◌&&◌, ◌||◌, List, ℕ, ◌+◌, ◌*◌, ltb, leb, eqb, length}
use Rattle.octets.specs.Octets.{number_at}
use Rattle.bench_file.specs.declared.Header.{Header}

-- ---- the octets of the header, and of each record

-- BENCH-2: the octets of the header
abbrev pub header_length : ℕ
header_length = 20

-- BENCH-2: the octets of a host record
abbrev pub host_length : ℕ
host_length = 321

-- BENCH-2: the octets of a cable record
abbrev pub cable_length : ℕ
cable_length = 4

-- BENCH-2: the octets of an event record
abbrev pub event_length : ℕ
event_length = 14

-- ----

-- BENCH-3: the most hosts
abbrev pub most_hosts : ℕ
most_hosts = 16

-- BENCH-3: the most cables
abbrev pub most_cables : ℕ
most_cables = 32

-- BENCH-3: the most events
abbrev pub most_events : ℕ
most_events = 2048

-- ---- the header's numbers

-- BENCH-2: the five numbers
abbrev pub header_of : List ℕ → Header
header_of file =
    record {
      hosts = number_at file 0 4;
      cables = number_at file 4 4;
      events = number_at file 8 4;
      cables_start = number_at file 12 4;
      events_start = number_at file 16 4;
    }

-- BENCH-2: does each section begin where the one before ends, and the file end with the last?
abbrev pub sections_touch : Header → (length : ℕ) → Bool
sections_touch h n =
    eqb h.cables_start (header_length + host_length * h.hosts)
    && eqb h.events_start (h.cables_start + cable_length * h.cables)
    && eqb n (h.events_start + event_length * h.events)

-- BENCH-2, BENCH-3: are the numbers in range, and do the sections touch?
unfoldable pub header_fits : Header → (length : ℕ) → Bool
header_fits h n =
    leb h.hosts most_hosts && leb h.cables most_cables && leb h.events most_events && sections_touch h n

-- BENCH-8, ANSWER-18: is the header or the length bad?
abbrev pub header_bad : List ℕ → Bool
header_bad file = ltb (length file) header_length || not (header_fits (header_of file) (length file))
