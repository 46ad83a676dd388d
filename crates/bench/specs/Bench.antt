-- BENCH-1, NET-12: the state of a bench: hosts, the copies of their walks' packets, the host table, slots, answers, events done.
use Rattle.std.specs.Prelude.{List, ℕ, ◌*◌, get_or}
use Rattle.lists.specs.Lists.{part}
use Rattle.clock.specs.Clock.{fresh_clock}
use Rattle.net_table.specs.declared.NetTable.{NetTable}
use Rattle.table.specs.declared.Entry.{Entry}
use Rattle.host.specs.State.{fresh_links}
use Rattle.host.specs.Walk.{no_walk}
use Rattle.host.specs.Guard.{longest}
use Rattle.host.specs.CallState.{CallState, call_state}
use Rattle.bench_file.specs.Settings.{settings_at}
use Rattle.bench.specs.declared.HostState.{HostState}

-- BENCH-1: the state of a bench
pub record Bench : Type 0 where
  pub hosts : List HostState
  pub copies : List ℕ
  pub entries : List Entry
  pub slots : List ℕ
  pub answers : List ℕ
  pub done : ℕ

-- BENCH-1: the same of its parts
abbrev pub bench : (hosts : List HostState) (copies : List ℕ) (entries : List Entry) (slots answers : List ℕ) (done : ℕ) → Bench
bench hosts copies entries slots answers n =
    record { hosts = hosts; copies = copies; entries = entries; slots = slots; answers = answers; done = n }

-- BENCH-1: a fresh host of the file, used if the state has none
abbrev pub fresh_host : (file : List ℕ) (host : ℕ) → HostState
fresh_host file k =
    record { clock = fresh_clock (settings_at file k).time (settings_at file k).date; links = fresh_links (settings_at file k); walk = no_walk }

-- WALK-1: the copy of a host's walk
abbrev pub copy_of : (host : ℕ) → List ℕ → List ℕ
copy_of k copies = part (longest * k) longest copies

-- BENCH-1, NET-12: everything that a call at a host takes
abbrev pub state_at : (file : List ℕ) → NetTable → (host : ℕ) → Bench → CallState
state_at file t k b =
    let h : HostState = get_or b.hosts k (fresh_host file k) in
    call_state (settings_at file k) t k h.clock h.links h.walk (copy_of k b.copies) b.entries
