-- BENCH-7: two runs equal one with the sum of their budgets, in state, answer and count.
use Rattle.std.specs.Prelude.{◌≡◌, true, List, ℕ, ◌+◌, ◌-◌, min}
use Rattle.net_table.specs.declared.NetTable.{NetTable}
use Rattle.bench.specs.Bench.{Bench}
use Rattle.bench.specs.Guard.{run_guard}
use Rattle.bench.specs.Answer.{passes}
use Rattle.bench.specs.Run.{header, steps, after_run, ran}

-- BENCH-6: after a run that is not refused, another is not refused either; the count is the budget or the number of events that remain
pub record Stayed (file : List ℕ) (t : NetTable) (n : ℕ) (b : Bench) : Type 0 where
  pub passed : passes (run_guard t file (steps file t n b)) ≡ true
  pub count : (ran file t n b).count ≡ min n ((header file t).events - b.done)

-- BENCH-6: for every file, table, budget and bench
unfoldable pub Stays : Type 0
Stays = (file : List ℕ) (t : NetTable) (n : ℕ) (b : Bench) → passes (run_guard t file b) ≡ true → Stayed file t n b

-- BENCH-7: two runs and one
pub record Joined (file : List ℕ) (t : NetTable) (m n : ℕ) (b : Bench) : Type 0 where
  pub bench : after_run file t n (after_run file t m b) ≡ after_run file t (m + n) b
  pub answer : (ran file t n (after_run file t m b)).answer ≡ (ran file t m b).answer
  pub count : (ran file t m b).count + (ran file t n (after_run file t m b)).count ≡ (ran file t (m + n) b).count

-- BENCH-7: for every file, table, two budgets and bench
unfoldable pub Joins : Type 0
Joins = (file : List ℕ) (t : NetTable) (m n : ℕ) (b : Bench) → Joined file t m n b
