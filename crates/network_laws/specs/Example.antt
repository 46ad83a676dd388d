-- ROOM-10: a history of two hosts that meets every condition and ends with entries of DELAY 101 and an error of -51 ms. Host 1 is 500 ms ahead and carries ids 1 and 2.
-- It has an action, an arrival, an inspection and a walk. During the walk the tutor adds a row, and a tick is refused. A set, an adjust, a read and a lookup follow, for the theorem over all calls.
use Rattle.std.specs.Prelude.{◌≡◌, List, [], ◌∷◌, ◌++◌, ◌*◌, ◌≤◌, ◌<◌, pos, negsuc, ◌-ℤ◌}
use Rattle.answer.specs.declared.Answer.TheVariants.{Done, InWalk}
use Rattle.quantity.specs.Quantity.{millis, counts}
use Rattle.quantity.specs.Words.{word}
use Rattle.clock.specs.Crystal.{counting}
use Rattle.table.specs.declared.Entry.{Entry}
use Rattle.network_laws.specs.Network.{longest_way, Proper}
use Rattle.network_laws.specs.Demand3.{adjusts, sets, clocks, looks, Step, World, result, step, history, AllNamed, Allows, Starts, entry_of}
use Rattle.network_laws.specs.TwoNodes.{call}
unfoldable pub use Rattle.network_laws.specs.ExampleStart.{one_and_two, near, w₀, x₁, w₁, x₂, w₂, x₃, w₃, x₄, w₄, x₅, w₅, x₆, w₆, x₇, w₇, net10, x₈, w₈, x₉, w₉, x₁₀, w₁₀}
unfoldable pub use Rattle.network_laws.specs.ExampleHistory.{x₁₁, w₁₁, x₁₂, w₁₂, x₁₃, w₁₃, x₁₄, w₁₄, x₁₅, w₁₅, x₁₆, w₁₆, x₁₇, w₁₇, x₁₈, w₁₈, x₁₉, w₁₉, x₂₀, w₂₀, story, learnt}

-- ---- four calls that demand 3 does not name

-- ROOM-4: a set that slews
unfoldable pub x₂₁ : Step
x₂₁ = call near w₂₀ 0 (sets (pos 100) (counts 66))

-- ROOM-4: the network after it
unfoldable pub w₂₁ : World
w₂₁ = step near w₂₀ x₂₁

-- ROOM-4: an adjust
unfoldable pub x₂₂ : Step
x₂₂ = call near w₂₁ 0 (adjusts (counts 66))

-- ROOM-4: the network after it
unfoldable pub w₂₂ : World
w₂₂ = step near w₂₁ x₂₂

-- ROOM-4: a read
unfoldable pub x₂₃ : Step
x₂₃ = call near w₂₂ 0 (clocks (counting (counts 66)))

-- ROOM-4: the network after it
unfoldable pub w₂₃ : World
w₂₃ = step near w₂₂ x₂₃

-- ROOM-4: a lookup
unfoldable pub x₂₄ : Step
x₂₄ = call near w₂₃ 0 (looks (near.settings 1).address)

-- helper: the network after it
unfoldable pub w₂₄ : World
w₂₄ = step near w₂₃ x₂₄

-- ROOM-4: all four
abbrev pub four : List Step
four = x₂₁ ∷ x₂₂ ∷ x₂₃ ∷ x₂₄ ∷ []

-- ROOM-10: node 0's entry of id 1 after them
abbrev pub later : Entry
later = entry_of near (history near w₀ (story ++ four)) 0 1

-- ROOM-10: the list meets every condition, and the bound is nearly reached
pub record Example : Type 0 where
  pub proper : Proper near
  pub ways : near.longest ≤ longest_way
  pub starts : Starts near w₀
  pub all_named : AllNamed story
  pub allowed : Allows near w₀ story
  -- WALK-4: a tick between the boxes of the walk gives 16
  pub refused : (result near w₈ x₉).reply.answer ≡ InWalk
  pub delay : (learnt 1).delay ≡ millis (pos 101)
  pub offset : (learnt 1).offset ≡ word (pos 449)
  pub other_delay : (learnt 2).delay ≡ millis (pos 101)
  pub other_offset : (learnt 2).offset ≡ word (pos 449)
  -- ROOM-9: the error is -51, more than half of the delay
  pub error : (learnt 1).offset.0 -ℤ (near.fixed 1 -ℤ near.fixed 0) ≡ negsuc 50
  pub more_than_half : 101 < 2 * 51
  -- ROOM-10: the four calls are done, and the entry is the same after them
  pub also_allowed : Allows near w₀ (story ++ four)
  pub set_done : (result near w₂₀ x₂₁).reply.answer ≡ Done
  pub adjust_done : (result near w₂₁ x₂₂).reply.answer ≡ Done
  pub read_done : (result near w₂₂ x₂₃).reply.answer ≡ Done
  pub lookup_done : (result near w₂₃ x₂₄).reply.answer ≡ Done
  pub same_delay : later.delay ≡ millis (pos 101)
  pub same_offset : later.offset ≡ word (pos 449)
