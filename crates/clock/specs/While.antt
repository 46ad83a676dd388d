-- CLOCK-5: a loop with a condition. `size` decreases with each turn, and so bounds their number.
use Rattle.std.specs.Prelude.{Bool, true, false, ℕ, zero, suc}

-- CLOCK-5: at most n turns
unfoldable pub turns : {A : Type 0} → (n : ℕ) (test : A → Bool) (turn : A → A) → A → A
turns zero test turn a = a
turns (suc n) test turn a = elim (test a) [ true ↦ turns n test turn (turn a) | false ↦ a ]

-- CLOCK-5: turns as long as the condition is true
unfoldable pub while : {A : Type 0} → (size : A → ℕ) (test : A → Bool) (turn : A → A) → A → A
while size test turn a = turns (size a) test turn a
