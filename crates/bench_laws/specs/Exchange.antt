-- ROOM-10: a file that meets every condition of demand 3 on the bench: the last packet takes 101 ms, and the entry has DELAY 101 and an error of -51 ms.
use Rattle.std.specs.Prelude.{◌≡◌, true, cond, List, [], ◌∷◌, ◌++◌, ℕ, ◌*◌, ◌≤◌, ltb, ℤ, pos, negsuc, ◌-ℤ◌, take}
use Rattle.quantity.specs.Quantity.{millis}
use Rattle.route.specs.declared.Row.{Row}
use Rattle.net_table.specs.Table.{table_of}
use Rattle.table.specs.declared.Entry.{Entry}
use Rattle.bench.specs.Answer.{passes}
use Rattle.bench.specs.Guard.{set_up_guard}
use Rattle.bench.specs.Run.{after_set_up}
use Rattle.network_laws.specs.Network.{Network, longest_way, Proper}
use Rattle.network_laws.specs.TwoNodes.{wire}
use Rattle.bench_laws.specs.Bound.{file_network, Wired, Lot, after_runs, RunsOnTime, entry_at}
use Rattle.bench_laws.specs.Example as small

-- BENCH-4: an event of cable 0
abbrev pub event : (kind host end slot count : ℕ) → List ℕ
event kind k e s n = kind ∷ k ∷ 0 ∷ e ∷ s ∷ 0 ∷ 0 ∷ n ∷ 0 ∷ 0 ∷ 0 ∷ 0 ∷ 0 ∷ 0 ∷ []

-- BENCH-2: its octets: an exchange between the two hosts
abbrev pub file : List ℕ
file =
    take 666 small.file
    -- host 1 reports itself, and sends; host 0 has it at once, and answers; host 1 has that at once, and answers
    ++ event 5 1 0 0 0
    ++ event 6 0 1 0 0
    ++ event 7 0 0 0 0
    ++ event 6 0 0 1 0
    ++ event 7 0 0 1 0
    ++ event 6 0 1 0 0
    -- 101 ms later host 0 has the answer; then a second
    ++ event 7 0 0 0 101
    ++ event 4 0 0 0 0

-- ROOM-1: its network: host 1 is 500 ms ahead
abbrev pub room : Network
room = file_network file small.class small.first_state (λ (a : ℕ). pos (500 * a)) wire 101

-- ROOM-6: the millisecond of each event
abbrev pub at : (event : ℕ) → ℤ
at k = pos (cond (ltb k 6) 40000 40101)

-- NET-1: a row
abbrev pub net10 : Row
net10 = record { net = record { first = 10; second = 0; third = 0 }; host = 1 }

-- NET-10: two runs, with a row added between
abbrev pub runs : List Lot
runs = record { nets = small.class; allowance = 5 } ∷ record { nets = table_of 2 (net10 ∷ []); allowance = 8 } ∷ []

-- ROOM-9: the entry that host 0 has of host 1
abbrev pub learnt : Entry
learnt = entry_at (after_runs file runs (after_set_up file small.class small.first_state)) 0 1

-- ROOM-10: it meets every condition, and its error is near the bound
pub record Exchange : Type 0 where
  pub passed : passes (set_up_guard small.class file small.first_state) ≡ true
  pub proper : Proper room
  pub ways : 101 ≤ longest_way
  pub wired : Wired file small.class wire
  pub on_time : RunsOnTime file room at (λ (slot : ℕ). pos 0) runs (after_set_up file small.class small.first_state)
  pub delay : learnt.delay ≡ millis (pos 101)
  pub error : learnt.offset.0 -ℤ (room.fixed 1 -ℤ room.fixed 0) ≡ negsuc 50
