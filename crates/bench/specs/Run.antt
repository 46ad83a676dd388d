-- BENCH-6: set-up and run.
use Rattle.std.specs.Prelude.{cond, List, ℕ, zero, suc, ◌-◌, ◌*◌, ltb}
use Rattle.net_table.specs.declared.NetTable.{NetTable}
use Rattle.calls.specs.declared.Request.TheVariants.{Initialize}
use Rattle.bench_file.specs.declared.Header.{Header}
use Rattle.bench_file.specs.Header.{header_of}
use Rattle.bench_file.specs.Records.{event_at}
use Rattle.bench_file.specs.Absent.{slots}
use Rattle.bench.specs.declared.Ran.{Ran}
use Rattle.bench.specs.Answer.{passes}
use Rattle.bench.specs.Bench.{Bench}
use Rattle.bench.specs.Slots.{slot_length, zeros}
use Rattle.bench.specs.Guard.{set_up_guard, run_guard}
use Rattle.bench.specs.Event.{asked, carried, kept}

module _ (file : List ℕ) (t : NetTable) where
  -- BENCH-2: the header of the file
  abbrev pub header : Header
  header = header_of file

  -- ---- set-up: each host is initialized from its record, in rising order; slots, answers and events done are zero

  -- BENCH-1: hosts initialized in rising order
  unfoldable pub all_set : (first count : ℕ) → Bench → Bench
  all_set k zero b = b
  all_set k (suc n) b = all_set (suc k) n (asked file t header k Initialize b).bench

  -- BENCH-1: every host initialized; slots, answers and events done are zero
  unfoldable pub set_up : Bench → Bench
  set_up b =
      let c : Bench = all_set 0 header.hosts b in
      record {
        hosts = c.hosts;
        copies = c.copies;
        entries = c.entries;
        slots = zeros (slot_length * slots) c.slots;
        answers = zeros header.events c.answers;
        done = 0;
      }

  -- ---- a run

  -- BENCH-6: the next event
  unfoldable pub next : Bench → Bench
  next b = kept (carried file t header (event_at file header b.done) b)

  -- BENCH-6: the next events, until budget or file ends
  unfoldable pub steps : (allowance : ℕ) → Bench → Bench
  steps zero b = b
  steps (suc n) b = cond (ltb b.done header.events) (steps n (next b)) b

  -- ---- the calls: a refusal changes nothing, and carries out no event

  -- BENCH-1, BENCH-8: the bench after set-up; a refusal changes nothing
  abbrev pub after_set_up : Bench → Bench
  after_set_up b = cond (passes (set_up_guard t file b)) (set_up b) b

  -- BENCH-6, BENCH-8: the bench after a run; a refusal changes nothing
  abbrev pub after_run : (allowance : ℕ) → Bench → Bench
  after_run n b = cond (passes (run_guard t file b)) (steps n b) b

  -- BENCH-6: what a run returns: its answer and how many events it did
  abbrev pub ran : (allowance : ℕ) → Bench → Ran
  ran n b = record { answer = run_guard t file b; count = (after_run n b).done - b.done }
