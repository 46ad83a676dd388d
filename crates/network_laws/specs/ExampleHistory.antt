-- ROOM-10: the other calls that demand 3 names, and the entry that they end with.
use Rattle.std.specs.Prelude.{List, [], ◌∷◌, ℕ, pos}
use Rattle.clock.specs.LineClock.{no_counter}
use Rattle.table.specs.declared.Entry.{Entry}
use Rattle.network_laws.specs.Demand3.{steps, Step, World, step, history, entry_of}
use Rattle.network_laws.specs.TwoNodes.{call}
use Rattle.network_laws.specs.ExampleStart.{near, w₀, x₁, x₂, x₃, x₄, x₅, x₆, x₇, x₈, x₉, x₁₀, w₁₀}

-- ROOM-10: call 11
unfoldable pub x₁₁ : Step
x₁₁ = call near w₁₀ 0 (steps no_counter (pos 0))

-- ROOM-10: the network after call 11
unfoldable pub w₁₁ : World
w₁₁ = step near w₁₀ x₁₁

-- ROOM-10: call 12
unfoldable pub x₁₂ : Step
x₁₂ = call near w₁₁ 0 (steps no_counter (pos 0))

-- ROOM-10: the network after call 12
unfoldable pub w₁₂ : World
w₁₂ = step near w₁₁ x₁₂

-- ROOM-10: call 13
unfoldable pub x₁₃ : Step
x₁₃ = call near w₁₂ 0 (steps no_counter (pos 0))

-- ROOM-10: the network after call 13
unfoldable pub w₁₃ : World
w₁₃ = step near w₁₂ x₁₃

-- ROOM-10: call 14
unfoldable pub x₁₄ : Step
x₁₄ = call near w₁₃ 0 (steps no_counter (pos 0))

-- ROOM-10: the network after call 14
unfoldable pub w₁₄ : World
w₁₄ = step near w₁₃ x₁₄

-- ROOM-10: call 15
unfoldable pub x₁₅ : Step
x₁₅ = call near w₁₄ 0 (steps no_counter (pos 0))

-- ROOM-10: the network after call 15
unfoldable pub w₁₅ : World
w₁₅ = step near w₁₄ x₁₅

-- ROOM-10: call 16
unfoldable pub x₁₆ : Step
x₁₆ = call near w₁₅ 0 (steps no_counter (pos 0))

-- ROOM-10: the network after call 16
unfoldable pub w₁₆ : World
w₁₆ = step near w₁₅ x₁₆

-- ROOM-10: call 17
unfoldable pub x₁₇ : Step
x₁₇ = call near w₁₆ 0 (steps no_counter (pos 0))

-- ROOM-10: the network after call 17
unfoldable pub w₁₇ : World
w₁₇ = step near w₁₆ x₁₇

-- ROOM-10: call 18
unfoldable pub x₁₈ : Step
x₁₈ = call near w₁₇ 0 (steps no_counter (pos 0))

-- ROOM-10: the network after call 18
unfoldable pub w₁₈ : World
w₁₈ = step near w₁₇ x₁₈

-- ROOM-10: call 19
unfoldable pub x₁₉ : Step
x₁₉ = call near w₁₈ 0 (steps no_counter (pos 0))

-- ROOM-10: the network after call 19
unfoldable pub w₁₉ : World
w₁₉ = step near w₁₈ x₁₉

-- ROOM-10: call 20
unfoldable pub x₂₀ : Step
x₂₀ = call near w₁₉ 0 (steps no_counter (pos 0))

-- ROOM-10: the network after call 20
unfoldable pub w₂₀ : World
w₂₀ = step near w₁₉ x₂₀

-- ROOM-10: the list of calls
abbrev pub story : List Step
story = x₁ ∷ x₂ ∷ x₃ ∷ x₄ ∷ x₅ ∷ x₆ ∷ x₇ ∷ x₈ ∷ x₉ ∷ x₁₀ ∷ x₁₁ ∷ x₁₂ ∷ x₁₃ ∷ x₁₄ ∷ x₁₅ ∷ x₁₆ ∷ x₁₇ ∷ x₁₈ ∷ x₁₉ ∷ x₂₀ ∷ []

-- ROOM-9: the entry of an id at host 0 at the end
abbrev pub learnt : (id : ℕ) → Entry
learnt id = entry_of near (history near w₀ story) 0 id
