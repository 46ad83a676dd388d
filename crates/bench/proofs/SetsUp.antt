-- What set-up asks of its parts, and that what they leave is what the definition says.
use mathlib.Core.Path.{◌≡◌, sym}
use mathlib.Core.Bool.{true}
use mathlib.Core.List.{List}
use Prim.Native.Nat.{ℕ, ◌*◌, ◌≤◌}
use lib.ListN.{length}
use Rattle.net_table.specs.declared.NetTable.{NetTable}
use Rattle.table.specs.declared.Entry.{Entry}
use Rattle.bench_file.specs.declared.Header.{Header}
use Rattle.bench_file.specs.Header.{header_length, header_of}
use Rattle.bench_file.specs.Absent as file'
use Rattle.bench_file.specs.code.Sections.{Sections}
use Rattle.bench_file.proofs.Fits.{header_there}
use Rattle.bench.specs.declared.HostState.{HostState}
use Rattle.bench.specs.Answer.{passes}
use Rattle.bench.specs.Bench.{Bench, bench}
use Rattle.bench.specs.Slots.{slot_length, zeros}
use Rattle.bench.specs.Guard.{lengths_of, set_up_guard}
use Rattle.bench.specs.Run.{set_up}
use Rattle.bench.specs.code.Sets.{HostsFit, SetsLeave}
use Rattle.bench.proofs.Guards.{Long, long_of, Passed, passed_all}
use Rattle.bench.proofs.Initialized.{beside}

module _ (file : List ℕ) (t : NetTable) (hosts : List HostState) (copies : List ℕ) (entries : List Entry) (slots answers : List ℕ) (done : ℕ) where
  abbrev b : Bench
  b = bench hosts copies entries slots answers done

  abbrev h : Header
  h = header_of file

  -- ---- what the parts ask

  module _ (e : passes (set_up_guard t file b) ≡ true) where
    tests : Passed true t file (lengths_of b)
    tests = passed_all true t file (lengths_of b) e

    pub there : (header_length ≤ length file) × Sections h (length file)
    there = header_there file tests.header_good

    pub long : Long h (lengths_of b)
    long = long_of h (lengths_of b) tests.call_state

    pub hosts_fit : HostsFit file h hosts copies
    hosts_fit = record { sections = there.1; there = long.hosts; copy = long.copies }

  -- ---- what they leave

  pub all_set_up : (hosts' : List HostState) (entries' : List Entry) → SetsLeave file h t hosts copies entries hosts' entries'
      → bench hosts' copies entries' (zeros (slot_length * file'.slots) slots) (zeros h.events answers) 0 ≡ set_up file t b
  unfolding set_up
  all_set_up hosts' entries' l =
      let left = l slots answers done in
      let k = beside file t 0 h.hosts b in
      λ i. record {
        hosts = left.hosts i;
        copies = sym k.copies i;
        entries = left.entries i;
        slots = zeros (slot_length * file'.slots) (sym k.slots i);
        answers = zeros h.events (sym k.answers i);
        done = 0;
      }
