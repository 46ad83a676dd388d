-- A test of each number from one on, and of one of them.
use mathlib.Core.Path.{◌≡◌, refl}
use mathlib.Core.Bool.{Bool, true, false}
use Prim.Native.Nat.{ℕ, zero, suc, ◌+◌, ◌≤◌, ◌<◌}
use native.Mathlib.Omega.{arith}
use lib.Dec.{eqb}
use borrow.Author.Tests.{eqb-true, eqb-false}
use Rattle.lists.proofs.Tests.{both}
use Rattle.table.specs.Forms.{every, up_from}

module _ (test : ℕ → Bool) where
  pub one_of : (a n i : ℕ) → every test (up_from a n) ≡ true → a ≤ i → i < a + n → test i ≡ true
  one_of a zero i e l h = absurd (omega arith)
  one_of a (suc n) i e l h =
      let ands = both (test a) (every test (up_from (suc a) n)) e in
      go (λ k. one_of (suc a) n i ands.1 k (omega arith)) ands.0 (eqb i a) refl
    where
      go : (suc a ≤ i → test i ≡ true) → test a ≡ true → (b : Bool) → eqb i a ≡ b → test i ≡ true
      go rest here true q = rw (eqb-true i a q) here
      go rest here false q = let other : i ≡ a → ⊥ = eqb-false i a q in rest (omega arith)

  pub all_of : (a n : ℕ) → ((i : ℕ) → a ≤ i → i < a + n → test i ≡ true) → every test (up_from a n) ≡ true
  all_of a zero f = refl
  all_of a (suc n) f = rw (f a (omega arith) (omega arith)) (all_of (suc a) n (λ i l h. f i (omega arith) (omega arith)))
