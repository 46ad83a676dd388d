-- The events of a run in the code: their precondition, and the state after them.
use Rattle.std.specs.Prelude.{◌≡◌, true, List, ℕ, ◌-◌, ◌≤◌, ◌<◌, length}
use Rattle.net_table.specs.declared.NetTable.{NetTable}
use Rattle.table.specs.declared.Entry.{Entry}
use Rattle.bench_file.specs.declared.Header.{Header}
use Rattle.bench_file.specs.Header.{header_of}
use Rattle.bench_file.specs.code.Sections.{Sections}
use Rattle.bench.specs.declared.HostState.{HostState}
use Rattle.bench.specs.declared.returned.Turns.{Turns}
use Rattle.bench.specs.Bench.{Bench, bench}
use Rattle.bench.specs.Slots.{slots_good}
use Rattle.bench.specs.Run.{next, steps}
use Rattle.bench.specs.Guard.{records_good, lengths_fit, lengths_of}

-- a file that passes, with all that it asks
pub record Fits (file : List ℕ) (h : Header) (t : NetTable) (b : Bench) : Type 0 where
  pub header : h ≡ header_of file
  pub sections : Sections h (length file)
  pub records : records_good t file h ≡ true
  pub call_state : lengths_fit h (lengths_of b) ≡ true
  pub slots : slots_good h b.slots ≡ true

-- the events of a file that passes, from one up to another
pub record TurnsFit (file : List ℕ) (w : Turns) (t : NetTable) (b : Bench) : Type 0 where
  pub first : w.first ≤ w.end
  pub fits : Fits file w.header t b
  pub there : w.end ≤ w.header.events

-- a bench is as another, except for the copies, which no event changes, and the number of events done
pub record HostAfter (b : Bench) (hosts' : List HostState) (entries' : List Entry) (slots' answers' : List ℕ) : Type 0 where
  pub hosts : hosts' ≡ b.hosts
  pub entries : entries' ≡ b.entries
  pub slots : slots' ≡ b.slots
  pub answers : answers' ≡ b.answers

-- ---- the contracts, over the parameters

-- one event may be carried out
abbrev pub NextFits : (file : List ℕ) → Turns → NetTable → List HostState → (copies : List ℕ) → List Entry → (slots answers : List ℕ) → (event : ℕ) → Type 0
NextFits file w nets hosts copies entries slots answers i =
    Fits file w.header nets (bench hosts copies entries slots answers i) × (i < w.header.events)

module _ (file : List ℕ) (nets : NetTable) (hosts : List HostState) (copies : List ℕ) (entries : List Entry) (slots answers : List ℕ) where
  -- the bench at entry
  abbrev pub before : (done : ℕ) → Bench
  before n = bench hosts copies entries slots answers n

  abbrev pub NextLeaves : (event : ℕ) → List HostState → List Entry → (slots' answers' : List ℕ) → Type 0
  NextLeaves i hosts' entries' slots' answers' = HostAfter (next file nets (before i)) hosts' entries' slots' answers'

  abbrev pub TurnsLeave : Turns → List HostState → List Entry → (slots' answers' : List ℕ) → Type 0
  TurnsLeave w hosts' entries' slots' answers' = HostAfter (steps file nets (w.end - w.first) (before w.first)) hosts' entries' slots' answers'
