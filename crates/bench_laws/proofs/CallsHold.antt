-- Set-up and run are lists of calls, refused ones too, so isolation covers them.
use mathlib.Core.Path.{◌≡◌, refl, sym, subst}
use mathlib.Core.Bool.{Bool, true, false}
use mathlib.Core.List.{List, [], flatten}
use Prim.Native.Nat.{ℕ}
use native.Mathlib.Omega.{arith}
use lib.ListN.{length}
use Rattle.lists.specs.Lists.{over}
use Rattle.lists.proofs.Parts.{over_nothing}
use Rattle.net_table.specs.declared.NetTable.{NetTable}
use Rattle.bench.specs.Answer.{passes}
use Rattle.bench.specs.Bench.{Bench}
use Rattle.bench.specs.Guard.{set_up_guard, run_guard}
use Rattle.bench.specs.Run.{after_set_up, after_run, ran}
use Rattle.network_laws.specs.Isolation.{SharedEvent, Shared, shared_after_all, alone, SharedAlike, Alone}
use Rattle.network_laws.proofs.Demand1.Alone.{alone_holds}
use Rattle.bench_laws.specs.Calls.{shared_of, run_turns, run_calls, set_up_calls, answers_of, Called, Calls}
use Rattle.bench_laws.proofs.Guards.{ready}
use Rattle.bench_laws.proofs.Turns.{turned}
use Rattle.bench_laws.proofs.SetUp.{set_up_calls_lem, was_initialized}

module _ (file : List ℕ) (t : NetTable) (n : ℕ) (b : Bench) where
  record Ran : Type 0 where
    left : shared_of file (after_run file t n b) ≡ shared_after_all (shared_of file b) (run_calls file t n b)
    answers : (after_run file t n b).answers ≡ over b.answers b.done (answers_of (shared_of file b) (run_turns file t n b))
    count : (ran file t n b).count ≡ length (run_turns file t n b)

  run_calls_lem : Ran
  unfolding flatten shared_after_all answers_of
  run_calls_lem = go (passes (run_guard t file b)) refl
    where
      go : (c : Bool) → passes (run_guard t file b) ≡ c → Ran
      go true e =
          let r = turned file t n b (ready t file b e) in
          record { left = rw e r.after_same; answers = rw e r.answers_same; count = rw e (omega (arith, r.count_same)) }
      go false e = record { left = rw e refl; answers = rw e (sym (over_nothing b.done b.answers)); count = rw e (omega arith) }

  sets_up : shared_of file (after_set_up file t b) ≡ shared_after_all (shared_of file b) (set_up_calls file t b)
  unfolding shared_after_all
  sets_up = go (passes (set_up_guard t file b)) refl
    where
      go : (c : Bool) → passes (set_up_guard t file b) ≡ c → shared_of file (after_set_up file t b) ≡ shared_after_all (shared_of file b) (set_up_calls file t b)
      go true e = rw e (set_up_calls_lem file t b e)
      go false e = rw e refl

  own_calls : (k : ℕ) → SharedAlike k (shared_of file (after_run file t n b)) (shared_after_all (shared_of file b) (alone k (run_calls file t n b)))
  unfolding Alone
  own_calls k =
      subst (λ (w : Shared). SharedAlike k w (shared_after_all (shared_of file b) (alone k (run_calls file t n b)))) (sym run_calls_lem.left)
      (alone_holds k (shared_of file b) (run_calls file t n b)).1

  others : (k : ℕ) → alone k (run_calls file t n b) ≡ [] → SharedAlike k (shared_of file (after_run file t n b)) (shared_of file b)
  unfolding shared_after_all
  others k e =
      subst (λ (es : List SharedEvent). SharedAlike k (shared_of file (after_run file t n b)) (shared_after_all (shared_of file b) es)) e (own_calls k)

  called : Called file t n b
  called =
      record { left = run_calls_lem.left; answers = run_calls_lem.answers; count = run_calls_lem.count; set_up_lem = sets_up; initialized = was_initialized file t b; elsewhere = others; own = own_calls }

pub calls_hold : Calls
unfolding Calls
calls_hold = called
