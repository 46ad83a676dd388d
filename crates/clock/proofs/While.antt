-- A `while` whose size falls with each turn is one turn and then the same again: any count of turns that is not below the size gives the same.
-- It ends where its test fails, and keeps what each turn keeps.
use mathlib.Core.Path.{◌≡◌, refl, sym, ◌∙◌}
use mathlib.Core.Bool.{Bool, true, false, cond}
use Prim.Native.Nat.{ℕ, zero, suc, ◌≤◌, ◌<◌}
use native.Mathlib.Omega.{arith}
use native.Mathlib.Nat.{le_refl}
use Rattle.clock.specs.While.{turns, while}

-- where the test fails, no count of turns changes anything
stays : {A : Type 0} (test : A → Bool) (turn : A → A) (n : ℕ) (a : A) → test a ≡ false → turns n test turn a ≡ a
unfolding turns
stays test turn zero a e = refl
stays test turn (suc n) a e = rw (e, turns)

pub rests : {A : Type 0} (size : A → ℕ) (test : A → Bool) (turn : A → A) (a : A) → test a ≡ false → while size test turn a ≡ a
unfolding while
rests size test turn a e = stays test turn (size a) a e

-- what each turn keeps, the while keeps
module _ {A : Type 0} (P : A → Type 0) (size : A → ℕ) (test : A → Bool) (turn : A → A) (kept : (a : A) → test a ≡ true → P a → P (turn a)) where
  kept_by : (n : ℕ) (a : A) → P a → P (turns n test turn a)
  unfolding turns
  kept_by zero a p = p
  kept_by (suc n) a p = go (kept_by n (turn a)) (test a) refl
    where
      go : (P (turn a) → P (turns n test turn (turn a))) → (b : Bool) → test a ≡ b → P (turns (suc n) test turn a)
      go again true e = rw (e, turns) (again (kept a e p))
      go again false e = rw (e, turns) p

  pub keeps : (a : A) → P a → P (while size test turn a)
  unfolding while
  keeps a p = kept_by (size a) a p

module _ {A : Type 0} (size : A → ℕ) (test : A → Bool) (turn : A → A) (falls : (a : A) → test a ≡ true → size (turn a) < size a) where
  turned : (n : ℕ) (a : A) → test a ≡ true → turns (suc n) test turn a ≡ turns n test turn (turn a)
  unfolding turns
  turned n a e = rw (e, turns)

  enough : (n m : ℕ) (a : A) → size a ≤ n → size a ≤ m → turns n test turn a ≡ turns m test turn a
  enough zero m a h k = go (test a) refl
    where
      go : (b : Bool) → test a ≡ b → turns zero test turn a ≡ turns m test turn a
      go true e = absurd (omega (arith, falls a e))
      go false e = stays test turn zero a e ∙ sym (stays test turn m a e)
  enough (suc n) zero a h k = go (test a) refl
    where
      go : (b : Bool) → test a ≡ b → turns (suc n) test turn a ≡ turns zero test turn a
      go true e = absurd (omega (arith, falls a e))
      go false e = stays test turn (suc n) a e ∙ sym (stays test turn zero a e)
  enough (suc n) (suc m) a h k = go (enough n m (turn a)) (test a) refl
    where
      go : (size (turn a) ≤ n → size (turn a) ≤ m → turns n test turn (turn a) ≡ turns m test turn (turn a))
          → (b : Bool) → test a ≡ b → turns (suc n) test turn a ≡ turns (suc m) test turn a
      go again true e =
          turned n a e ∙ again (omega (arith, falls a e)) (omega (arith, falls a e)) ∙ sym (turned m a e)
      go again false e = stays test turn (suc n) a e ∙ sym (stays test turn (suc m) a e)

  again : (a : A) → test a ≡ true → while size test turn a ≡ while size test turn (turn a)
  unfolding while
  again a e = go (size a) (falls a e) (le_refl _)
    where
      go : (n : ℕ) → size (turn a) < n → size a ≤ n → turns n test turn a ≡ turns (size (turn a)) test turn (turn a)
      go zero h k = absurd (omega arith)
      go (suc n) h k = turned n a e ∙ enough n (size (turn a)) (turn a) (omega arith) (le_refl _)

  pub unrolls : (a : A) → while size test turn a ≡ cond (test a) (while size test turn (turn a)) a
  unrolls a = go (test a) refl
    where
      go : (b : Bool) → test a ≡ b → while size test turn a ≡ cond b (while size test turn (turn a)) a
      go true e = again a e
      go false e = rests size test turn a e

  -- the test fails at the end
  ends_by : (n : ℕ) (a : A) → size a ≤ n → test (turns n test turn a) ≡ false
  unfolding turns
  ends_by zero a h = go (test a) refl
    where
      go : (b : Bool) → test a ≡ b → test a ≡ false
      go true e = absurd (omega (arith, falls a e))
      go false e = e
  ends_by (suc n) a h = go (ends_by n (turn a)) (test a) refl
    where
      go : (size (turn a) ≤ n → test (turns n test turn (turn a)) ≡ false) → (b : Bool) → test a ≡ b → test (turns (suc n) test turn a) ≡ false
      go again true e = rw (e, turns) (again (omega (arith, falls a e)))
      go again false e = rw (e, turns) e

  pub ends : (a : A) → test (while size test turn a) ≡ false
  unfolding while
  ends a = ends_by (size a) a (le_refl _)

-- ---- a loop of code that is such a while, and keeps P

pub record Loop (A : Type 0) : Type 1 where
  pub size : A → ℕ
  pub test : A → Bool
  pub turn : A → A
  pub falls : (a : A) → test a ≡ true → size (turn a) < size a
  pub P : A → Type 0
  pub kept : (a : A) → test a ≡ true → P a → P (turn a)

-- a₀ before it and a now: P holds, and what is left to do is the same
abbrev pub Going : {A : Type 0} → Loop A → (a₀ a : A) → Type 0
Going l a₀ a = l.P a × (while l.size l.test l.turn a ≡ while l.size l.test l.turn a₀)

-- the code's test answered b, and its body made r
module _ {A : Type 0} (l : Loop A) (a₀ a : A) {b : Bool} (answered : b ≡ l.test a) where
  pub turn_falls : {r : A} → b ≡ true → r ≡ l.turn a → l.size r < l.size a
  turn_falls e t = rw t (l.falls a (sym answered ∙ e))

  pub turn_keeps : {r : A} → b ≡ true → r ≡ l.turn a → Going l a₀ a → Going l a₀ r
  turn_keeps e t g =
      let h : l.test a ≡ true = sym answered ∙ e in
      rw t (l.kept a h g.0, sym (again l.size l.test l.turn l.falls a h) ∙ g.1)

  pub loop_ends : b ≡ false → Going l a₀ a → a ≡ while l.size l.test l.turn a₀
  loop_ends e g = sym (rests l.size l.test l.turn a (sym answered ∙ e)) ∙ g.1
