-- ROOM-9: demand 3 on the bench: if hosts and cables of a file form such a network and its events are on time, every live entry is within the bound.
use Rattle.std.specs.Prelude.{◌≡◌, true, cond, List, [], ◌∷◌, ℕ, ◌≤◌, ◌<◌, ℤ, pos, get_or}
use Rattle.net_table.specs.declared.NetTable.{NetTable}
use Rattle.table.specs.declared.Entry.{Entry}
use Rattle.table.specs.Entry.{fresh_entry, up}
use Rattle.bench_file.specs.Settings.{settings_at}
use Rattle.bench.specs.Answer.{passes}
use Rattle.bench.specs.Bench.{Bench}
use Rattle.bench.specs.Guard.{set_up_guard, run_guard}
use Rattle.bench.specs.Run.{header, after_set_up, after_run}
use Rattle.network_laws.specs.History.{places}
use Rattle.network_laws.specs.Network.{Network, End, longest_way, Proper}
use Rattle.network_laws.specs.Demand3.{Right}
pub use Rattle.bench_laws.specs.OnTime.{ReadsAt, LaterThan}
unfoldable pub use Rattle.bench_laws.specs.OnTime.{file_network, Wired, answer_of, since_then, since_all, OnTime, AllOnTime}

-- ---- runs, one after the other

-- BENCH-6: a run: its net table and its budget
pub record Lot : Type 0 where
  pub nets : NetTable
  pub allowance : ℕ

module _ (file : List ℕ) where
  -- BENCH-6: the bench after several runs
  abbrev pub after_runs : List Lot → Bench → Bench
  after_runs [] b = b
  after_runs (x ∷ xs) b = after_runs xs (after_run file x.nets x.allowance b)

  -- ROOM-6: the events of all runs are on time
  abbrev pub RunsOnTime : Network → (ms : ℕ → ℤ) → (since : ℕ → ℤ) → List Lot → Bench → Type 0
  RunsOnTime r ms since [] b = Unit {0}
  RunsOnTime r ms since (x ∷ xs) b =
      (passes (run_guard x.nets file b) ≡ true → AllOnTime file x.nets r ms x.allowance since b)
      × RunsOnTime r ms (cond (passes (run_guard x.nets file b)) (since_all file x.nets ms x.allowance since b) since) xs
      (after_run file x.nets x.allowance b)

-- ---- the claim

-- ROOM-9: the entry of id i of host a
abbrev pub entry_at : Bench → (a i : ℕ) → Entry
entry_at b a i = get_or (places a b.entries) i fresh_entry

-- ROOM-9, NET-10: for every file, network and list of runs: that state and messages are passed on unchanged is a fact of the bench, not a condition
unfoldable pub Bound : Type 0
Bound =
    (file : List ℕ) (t : NetTable) (b : Bench) → passes (set_up_guard t file b) ≡ true
    → (fixed : ℕ → ℤ) (cable : (node link : ℕ) → End) (longest : ℕ) → Proper (file_network file t b fixed cable longest) → longest ≤ longest_way
    → Wired file t cable → (ms : ℕ → ℤ) (runs : List Lot)
    → RunsOnTime file (file_network file t b fixed cable longest) ms (λ (slot : ℕ). pos 0) runs (after_set_up file t b)
    → (a i : ℕ) → a < (header file t).hosts → i < (settings_at file a).layout.nhosts
    → up (entry_at (after_runs file runs (after_set_up file t b)) a i) ≡ true
    → Right (file_network file t b fixed cable longest) a i (entry_at (after_runs file runs (after_set_up file t b)) a i)
