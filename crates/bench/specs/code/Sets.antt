-- Set-up at the hosts in the code: its precondition, and the state after it.
use Rattle.std.specs.Prelude.{◌≡◌, List, ℕ, ◌*◌, ◌≤◌, ◌<◌, length}
use Rattle.net_table.specs.declared.NetTable.{NetTable}
use Rattle.table.specs.declared.Entry.{Entry}
use Rattle.host.specs.Guard.{longest}
use Rattle.calls.specs.declared.Request.TheVariants.{Initialize}
use Rattle.bench_file.specs.declared.Header.{Header}
use Rattle.bench_file.specs.Header.{header_of}
use Rattle.bench_file.specs.code.Sections.{Sections}
use Rattle.bench.specs.declared.HostState.{HostState}
use Rattle.bench.specs.Bench.{Bench, bench}
use Rattle.bench.specs.Event.{asked}
use Rattle.bench.specs.Run.{all_set}

-- a file with a header, and all state that its hosts borrow
pub record HostsFit (file : List ℕ) (h : Header) (hosts : List HostState) (copies : List ℕ) : Type 0 where
  pub sections : Sections h (length file)
  pub there : h.hosts ≤ length hosts
  pub copy : longest * h.hosts ≤ length copies

-- the hosts and the host table are as a bench has them
pub record HostsAfter (b : Bench) (hosts' : List HostState) (entries' : List Entry) : Type 0 where
  pub hosts : hosts' ≡ b.hosts
  pub entries : entries' ≡ b.entries

-- ---- one host, whatever the slots, the answers and the events done are

abbrev pub SetFits : (file : List ℕ) → Header → List HostState → (copies : List ℕ) → (host : ℕ) → Type 0
SetFits file h hosts copies k = HostsFit file h hosts copies × (k < h.hosts)

abbrev pub SetLeaves : (file : List ℕ) → NetTable → List HostState → (copies : List ℕ) → List Entry → (host : ℕ) → List HostState → List Entry → Type 0
SetLeaves file t hosts copies entries k hosts' entries' = (slots answers : List ℕ) (n : ℕ)
    → HostsAfter (asked file t (header_of file) k Initialize (bench hosts copies entries slots answers n)).bench hosts' entries'

-- the contract, over the parameters
abbrev pub SetsHost : (file : List ℕ) → NetTable → List HostState → (copies : List ℕ) → List Entry → (host : ℕ) → List HostState → List Entry → Type 0
SetsHost file nets hosts copies entries k hosts' entries' = SetLeaves file nets hosts copies entries k hosts' entries'

-- ---- all hosts

abbrev pub SetsLeave : (file : List ℕ) → Header → NetTable → List HostState → (copies : List ℕ) → List Entry → List HostState → List Entry → Type 0
SetsLeave file h t hosts copies entries hosts' entries' = (slots answers : List ℕ) (n : ℕ)
    → HostsAfter (all_set file t 0 h.hosts (bench hosts copies entries slots answers n)) hosts' entries'

-- the contract, over the parameters
abbrev pub SetsHosts : (file : List ℕ) → Header → NetTable → List HostState → (copies : List ℕ) → List Entry → List HostState → List Entry → Type 0
SetsHosts file h nets hosts copies entries hosts' entries' = SetsLeave file h nets hosts copies entries hosts' entries'
