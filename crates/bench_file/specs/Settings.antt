-- BENCH-2, MARK-7: a host record: its settings and marks, without net rows; and their test, 19.
use Rattle.std.specs.Prelude.{Bool, ◌&&◌, List, [], ◌∷◌, map, ℕ, ◌+◌, ◌*◌, min, leb, pos}
use Rattle.lists.specs.Lists.{part}
use Rattle.quantity.specs.declared.Units.{Units}
use Rattle.quantity.specs.Quantity.{units, millis}
use Rattle.wire.specs.Octets.{address_at}
use Rattle.table.specs.declared.marks.Marks.{Marks}
use Rattle.table.specs.Forms.{every, up_from}
use Rattle.net_table.specs.declared.NetTable.{NetTable}
use Rattle.host.specs.declared.LinkSetting.{LinkSetting}
use Rattle.host.specs.declared.Settings.{Settings}
use Rattle.host.specs.Settings.{settings_fit}
use Rattle.bench_file.specs.declared.Header.{Header}
use Rattle.octets.specs.Octets.{octet_at, number_at}
use Rattle.bench_file.specs.Header.{host_length}
use Rattle.bench_file.specs.Records.{host_place}

-- BENCH-2: CLOCK-TICK; all values over the most count as one more
abbrev pub tick_of : ℕ → Units
tick_of n = units (pos (min n 4294967297))

-- BENCH-2: where a link's switch and address are; there are always eight
abbrev pub link_place : (slot : ℕ) → ℕ
link_place i = 25 + 5 * i

-- BENCH-2: a link's switch and address
abbrev pub link_at : (octets : List ℕ) → (slot : ℕ) → LinkSetting
link_at r i = record { broadcast = octet_at r (link_place i); neighbor = address_at r (link_place i + 1) }

-- MARK-7: marks as the bits of a word, the lowest first
abbrev pub word_of : List ℕ → ℕ
word_of [] = 0
word_of (a ∷ rest) = min a 1 + 2 * word_of rest

-- MARK-7: where the marks are
abbrev pub marks_place : ℕ
marks_place = 65

-- MARK-7: a word of marks
abbrev pub mark_word : (octets : List ℕ) → (word : ℕ) → ℕ
mark_word r k = word_of (part (marks_place + 64 * k) 64 r)

-- MARK-7: the marks of ids 0 to 255, an octet each
abbrev pub marks_of : (octets : List ℕ) → Marks
marks_of r = record { words = map (mark_word r) (up_from 0 4) }

-- BENCH-2, NET-12: the settings of a record
unfoldable pub settings_of : (octets : List ℕ) → Settings
settings_of r =
    record {
      address = address_at r 0;
      layout = record { address_offset = octet_at r 4; nhosts = number_at r 6 2 };
      clock_host = octet_at r 5;
      hold_interval = record { 0 = number_at r 8 2 };
      clock_tick = tick_of (number_at r 16 8);
      time = millis (pos (number_at r 12 4));
      date = record { 0 = number_at r 10 2 };
      link_count = octet_at r 24;
      links = map (link_at r) (up_from 0 8);
      marks = marks_of r;
    }

-- BENCH-2: the record of host k
abbrev pub host_record : List ℕ → (host : ℕ) → List ℕ
host_record file k = part (host_place k) host_length file

-- BENCH-2: the settings of host k
abbrev pub settings_at : List ℕ → (host : ℕ) → Settings
settings_at file k = settings_of (host_record file k)

-- ---- 19

-- BENCH-8, MARK-7: is each mark 0 or 1?
unfoldable pub marks_good : (octets : List ℕ) → Bool
marks_good r = every (λ (mark : ℕ). leb mark 1) (part marks_place 256 r)

-- BENCH-8, NET-12: are the marks good, and the settings with the table's NHOSTS?
abbrev pub host_good : NetTable → (octets : List ℕ) → Bool
host_good t r = marks_good r && settings_fit t (settings_of r)

-- BENCH-8, ANSWER-19: are all host records good?
unfoldable pub hosts_good : NetTable → List ℕ → Header → Bool
hosts_good t file h = every (λ (k : ℕ). host_good t (host_record file k)) (up_from 0 h.hosts)
