-- What a run asks of its events, and that what they leave is what the definition says.
use mathlib.Core.Path.{◌≡◌, refl, sym, ap, ◌∙◌}
use mathlib.Core.Bool.{true}
use mathlib.Core.List.{List}
use Prim.Native.Nat.{ℕ, ◌+◌, ◌-◌, ◌≤◌, min}
use native.Mathlib.Omega.{arith}
use borrow.Author.Tests.{leb-true}
use lib.Dec.{leb}
use lib.ListN.{length}
use Rattle.lists.proofs.Tests.{both}
use Rattle.net_table.specs.declared.NetTable.{NetTable}
use Rattle.table.specs.declared.Entry.{Entry}
use Rattle.bench_file.specs.declared.Header.{Header}
use Rattle.bench_file.specs.Header.{header_length, header_of}
use Rattle.bench_file.specs.code.Sections.{Sections}
use Rattle.bench_file.proofs.Fits.{header_there}
use Rattle.bench.specs.declared.HostState.{HostState}
use Rattle.bench.specs.Answer.{passes}
use Rattle.bench.specs.Bench.{Bench, bench}
use Rattle.bench.specs.Slots.{slots_good}
use Rattle.bench.specs.Guard.{lengths_of, runnable, run_guard}
use Rattle.bench.specs.Run.{steps}
use Rattle.bench.specs.code.Turns.{TurnsFit, HostAfter}
use Rattle.bench.proofs.Guards.{Passed, passed_all}
use Rattle.bench.proofs.Runs.{how_many, kept_copies, in_file}

module _ (file : List ℕ) (t : NetTable) (hosts : List HostState) (copies : List ℕ) (entries : List Entry) (slots answers : List ℕ) (done allowance : ℕ) where
  abbrev b : Bench
  b = bench hosts copies entries slots answers done

  abbrev h : Header
  h = header_of file

  abbrev count : ℕ
  count = min allowance (h.events - done)

  module _ (e : passes (run_guard t file b) ≡ true) where
    tests : Passed (runnable h slots done) t file (lengths_of b)
    tests = passed_all (runnable h slots done) t file (lengths_of b) e

    pub there : (header_length ≤ length file) × Sections h (length file)
    there = header_there file tests.header_good

    pub some_after : done ≤ h.events
    some_after = leb-true done h.events (both (slots_good h slots) (leb done h.events) tests.more).1

    -- ---- what the events ask

    pub turns_fit : TurnsFit file record { first = done; end = done + count; header = h } t b
    turns_fit = record {
      first = omega arith;
      fits = record {
        header = refl;
        sections = there.1;
        records = tests.records;
        call_state = tests.call_state;
        slots = (both (slots_good h slots) (leb done h.events) tests.more).0;
      };
      there = omega (arith, some_after);
    }

    -- ---- what they leave

    pub counted : count ≡ (steps file t allowance b).done - done
    counted = let many = how_many file t allowance b some_after in omega (arith, many)

    pub all_turned : (hosts' : List HostState) (entries' : List Entry) (slots' answers' : List ℕ)
        → HostAfter (steps file t (done + count - done) b) hosts' entries' slots' answers'
        → bench hosts' copies entries' slots' answers' (done + count) ≡ steps file t allowance b
    all_turned hosts' entries' slots' answers' l =
        let n : done + count - done ≡ count = omega arith in
        let same : steps file t (done + count - done) b ≡ steps file t allowance b = ap (λ (k : ℕ). steps file t k b) n ∙ sym (in_file file t allowance b some_after) in
        let many : (steps file t allowance b).done ≡ done + count = how_many file t allowance b some_after in
        let copies_same : (steps file t allowance b).copies ≡ copies = kept_copies file t allowance b in
        λ i. record {
          hosts = (l.hosts ∙ ap (λ (c : Bench). c.hosts) same) i;
          copies = sym copies_same i;
          entries = (l.entries ∙ ap (λ (c : Bench). c.entries) same) i;
          slots = (l.slots ∙ ap (λ (c : Bench). c.slots) same) i;
          answers = (l.answers ∙ ap (λ (c : Bench). c.answers) same) i;
          done = sym many i;
        }
