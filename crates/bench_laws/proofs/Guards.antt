-- After a run that is not refused, no run is refused: no event changes what 12 tests, and file and table are the same.
use mathlib.Core.Path.{◌≡◌}
use mathlib.Core.Bool.{true, false}
use mathlib.Core.List.{List}
use Prim.Native.Nat.{ℕ, ◌≤◌}
use native.Mathlib.Omega.{arith}
use borrow.Author.Tests.{ltb-true, leb-true, le-leb}
use lib.Dec.{ltb, leb}
use lib.ListN.{length-set}
use Rattle.lists.proofs.Tests.{both}
use Rattle.net_table.specs.declared.NetTable.{NetTable}
use Rattle.net_table.specs.Table.{table_bad}
use Rattle.bench_file.specs.declared.Header as declared
use Rattle.bench_file.specs.Header.{header_bad}
use Rattle.bench_file.specs.Records.{event_at}
use Rattle.bench.specs.Bench.{Bench}
use Rattle.bench.specs.Slots.{slots_good}
use Rattle.bench.specs.Guard.{records_good, file_tested, lengths_of, runnable, run_guard}
use Rattle.bench.specs.Answer.{passes}
use Rattle.bench.specs.Run.{header, next}
use Rattle.bench.proofs.Guards.{Long, long_of, of_long, passed_all}
use Rattle.bench.proofs.Runs.{same_done}
use Rattle.bench.proofs.Named.{event_good_lem}
use Rattle.bench_laws.proofs.Events.{carries}

pub record Ready (t : NetTable) (file : List ℕ) (b : Bench) : Type 0 where
  pub header_good : header_bad file ≡ false
  pub records : records_good t file (header file t) ≡ true
  pub long : Long (header file t) (lengths_of b)
  pub slots_good_lem : slots_good (header file t) b.slots ≡ true
  pub done : b.done ≤ (header file t).events
  pub table : table_bad t ≡ false

module _ (t : NetTable) (file : List ℕ) where
  abbrev h : declared.Header
  h = header file t

  pub ready : (b : Bench) → passes (run_guard t file b) ≡ true → Ready t file b
  ready b e =
      let p = passed_all (runnable h b.slots b.done) t file (lengths_of b) e in
      let more = both (slots_good h b.slots) (leb b.done h.events) p.more in
      record {
        header_good = p.header_good;
        records = p.records;
        long = long_of h (lengths_of b) p.call_state;
        slots_good_lem = more.0;
        done = leb-true b.done h.events more.1;
        table = p.table;
      }

  pub passed : (b : Bench) → Ready t file b → passes (run_guard t file b) ≡ true
  unfolding file_tested
  passed b r =
      rw (r.header_good, r.records, of_long h (lengths_of b) r.long, r.slots_good_lem, le-leb b.done h.events r.done, r.table)

  pub next_ready : (b : Bench) → Ready t file b → ltb b.done h.events ≡ true → Ready t file (next file t b)
  unfolding next
  next_ready b r e =
      let more = ltb-true b.done h.events e in
      let same = carries file t h b r.long.slots (event_at file h b.done) (event_good_lem t file h r.records b.done more) in
      let d = same_done file t h (event_at file h b.done) b in
      record {
        header_good = r.header_good;
        records = r.records;
        long = record {
          entries = rw same.entries r.long.entries;
          hosts = rw same.hosts r.long.hosts;
          copies = rw same.copies r.long.copies;
          slots = rw same.slots r.long.slots;
          answers = simp length-set (rw same.answers r.long.answers);
        };
        slots_good_lem = same.good r.slots_good_lem;
        done = rw d (omega arith);
        table = r.table;
      }
