-- Hosts are initialized one after another. None of these calls changes copies, slots, answers or the number of events done.
use mathlib.Core.Path.{◌≡◌, refl, ◌∙◌, ap}
use mathlib.Core.List.{List}
use Prim.Native.Nat.{ℕ, zero, suc, ◌+◌}
use native.Mathlib.Omega.{arith}
use Rattle.net_table.specs.declared.NetTable.{NetTable}
use Rattle.calls.specs.declared.Request.TheVariants.{Initialize}
use Rattle.bench.specs.Bench.{Bench}
use Rattle.bench.specs.Event.{asked}
use Rattle.bench.specs.Run.{header, all_set}

module _ (file : List ℕ) (t : NetTable) where
  abbrev one_set : ℕ → Bench → Bench
  one_set k b = (asked file t (header file t) k Initialize b).bench

  pub one_more_set : (k n : ℕ) (b : Bench) → all_set file t k (suc n) b ≡ one_set (k + n) (all_set file t k n b)
  unfolding all_set
  one_more_set k zero b = let e : k ≡ k + 0 = omega arith in ap (λ (j : ℕ). one_set j b) e
  one_more_set k (suc n) b =
      let e : suc k + n ≡ k + suc n = omega arith in
      one_more_set (suc k) n (one_set k b) ∙ ap (λ (j : ℕ). one_set j (all_set file t (suc k) n (one_set k b))) e

  pub record Beside (b c : Bench) : Type 0 where
    pub copies : c.copies ≡ b.copies
    pub slots : c.slots ≡ b.slots
    pub answers : c.answers ≡ b.answers
    pub done : c.done ≡ b.done

  pub beside : (k n : ℕ) (b : Bench) → Beside b (all_set file t k n b)
  unfolding all_set
  beside k zero b = record { copies = refl; slots = refl; answers = refl; done = refl }
  beside k (suc n) b =
      let rest = beside (suc k) n (one_set k b) in
      record { copies = rest.copies; slots = rest.slots; answers = rest.answers; done = rest.done }
