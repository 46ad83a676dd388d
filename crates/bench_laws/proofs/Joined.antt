-- Two runs join: either both are refused and nothing is done, or neither is, and their steps are those of one run.
use mathlib.Core.Path.{◌≡◌, refl, sym, ◌∙◌, ap}
use mathlib.Core.Bool.{Bool, true, false, false≢true}
use mathlib.Core.List.{List}
use Prim.Native.Nat.{ℕ, ◌+◌, ◌-◌, ◌≤◌}
use native.Mathlib.Omega.{arith}
use Rattle.net_table.specs.declared.NetTable.{NetTable}
use Rattle.bench.specs.declared.Answer.{Answer}
use Rattle.bench.specs.declared.Answer.TheVariants.{Done, OutOfRange, Header, Absent}
use Rattle.bench.specs.Bench.{Bench}
use Rattle.bench.specs.Guard.{run_guard}
use Rattle.bench.specs.Answer.{passes}
use Rattle.bench.specs.Run.{steps}
use Rattle.bench_laws.specs.Laws.{Stayed, Stays, Joined, Joins}
use Rattle.bench.proofs.Runs.{in_two, keeps, how_many}
use Rattle.bench_laws.proofs.Guards.{Ready, ready, passed, next_ready}

-- only Done passes
done_alone : (a : Answer) → passes a ≡ true → a ≡ Done
done_alone Done e = refl
done_alone OutOfRange e = absurd (false≢true e)
done_alone Header e = absurd (false≢true e)
done_alone Absent e = absurd (false≢true e)

added : (a b c : ℕ) → a ≤ b → b ≤ c → b - a + (c - b) ≡ c - a
added a b c h l = omega arith

module _ (file : List ℕ) (t : NetTable) where
  steps_ready : (n : ℕ) (b : Bench) → Ready t file b → Ready t file (steps file t n b)
  steps_ready n b r = keeps file t (Ready t file) (λ c p e. next_ready t file c p e) n b r

  stayed : (n : ℕ) (b : Bench) → passes (run_guard t file b) ≡ true → Stayed file t n b
  stayed n b e =
      let r = ready t file b e in
      record {
        passed = passed t file (steps file t n b) (steps_ready n b r);
        count = rw (e, how_many file t n b r.done) (omega arith);
      }

  joined : (m n : ℕ) (b : Bench) → Joined file t m n b
  joined m n b = go (passes (run_guard t file b)) refl
    where
      go : (c : Bool) → passes (run_guard t file b) ≡ c → Joined file t m n b
      go true e =
          let r = ready t file b e in
          let second : Bench = steps file t m b in
          let e' = passed t file second (steps_ready m b r) in
          let up : b.done ≤ second.done = omega (arith, how_many file t m b r.done) in
          let on : second.done ≤ (steps file t n second).done = omega (arith, how_many file t n second (steps_ready m b r).done) in
          record {
            bench = rw (e, e') (in_two file t m n b);
            answer = rw e (done_alone (run_guard t file second) e' ∙ sym (done_alone (run_guard t file b) e));
            count = rw (e, e') (added b.done second.done (steps file t n second).done up on ∙ ap (λ (c : Bench). c.done - b.done) (in_two file t m n b));
          }
      go false e = record { bench = rw (e, e); answer = rw e refl; count = rw (e, e) (omega arith) }

pub stays_hold : Stays
unfolding Stays
stays_hold = stayed

pub joins_hold : Joins
unfolding Joins
joins_hold = joined
