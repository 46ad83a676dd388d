-- BENCH-8: 18, then 19, then 12. Set-up does not test slots and events done.
use Rattle.std.specs.Prelude.{Bool, true, cond, not, ◌&&◌, List, ℕ, ◌*◌, leb, length}
use Rattle.net_table.specs.declared.NetTable.{NetTable}
use Rattle.net_table.specs.Table.{table_bad}
use Rattle.host.specs.State.{places_per_host}
use Rattle.host.specs.Guard.{longest}
use Rattle.bench_file.specs.declared.Header as declared
use Rattle.bench_file.specs.Header.{header_of, header_bad}
use Rattle.bench_file.specs.Settings.{hosts_good}
use Rattle.bench_file.specs.Absent.{slots, cables_good, events_good}
use Rattle.bench.specs.declared.Lengths.{Lengths}
use Rattle.bench.specs.declared.Answer.{Answer}
use Rattle.bench.specs.declared.Answer.TheVariants.{Done, OutOfRange, Header, Absent}
use Rattle.bench.specs.Answer.{passes}
use Rattle.bench.specs.Bench.{Bench}
use Rattle.bench.specs.Slots.{slot_length, slots_good}

-- BENCH-8, ANSWER-19: are all records good?
unfoldable pub records_good : NetTable → (file : List ℕ) → declared.Header → Bool
records_good t file h = hosts_good t file h && (cables_good file h && events_good file h)

-- BENCH-8: the lengths of a bench's state
abbrev pub lengths_of : Bench → Lengths
lengths_of b =
    record {
      entries = length b.entries;
      hosts = length b.hosts;
      copies = length b.copies;
      slots = length b.slots;
      answers = length b.answers;
    }

-- BENCH-8: is the state large enough for the file?
unfoldable pub lengths_fit : declared.Header → Lengths → Bool
lengths_fit h n =
    leb (places_per_host * h.hosts) n.entries
    && (leb h.hosts n.hosts
    && (leb (longest * h.hosts) n.copies && (leb (slot_length * slots) n.slots && leb h.events n.answers)))

-- BENCH-8: are the slots good, and are no more events done than the file has?
abbrev pub runnable : declared.Header → (slots : List ℕ) → (done : ℕ) → Bool
runnable h o n = slots_good h o && leb n h.events

-- BENCH-8, ANSWER-18, ANSWER-19: 18, then 19
unfoldable pub file_tested : NetTable → (file : List ℕ) → Answer
file_tested t file = cond (header_bad file) Header (cond (not (records_good t file (header_of file))) Absent Done)

-- BENCH-8: 18, 19, then 12
abbrev pub tested : (besides : Bool) → NetTable → (file : List ℕ) → Lengths → Answer
tested besides t file n =
    cond (not (passes (file_tested t file))) (file_tested t file)
    (cond (lengths_fit (header_of file) n && (besides && not (table_bad t))) Done OutOfRange)

-- BENCH-8: the answer of set-up
abbrev pub set_up_guard : NetTable → (file : List ℕ) → Bench → Answer
set_up_guard t file b = tested true t file (lengths_of b)

-- BENCH-8: the answer of a run
abbrev pub run_guard : NetTable → (file : List ℕ) → Bench → Answer
run_guard t file b = tested (runnable (header_of file) b.slots b.done) t file (lengths_of b)
