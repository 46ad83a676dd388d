-- LIVE-3: two hosts and a cable, two rounds of eight calls, by computing.
use Rattle.std.specs.Prelude.{◌≡◌, ℕ, pos, replicate}
use Rattle.quantity.specs.Quantity.{millis}
use Rattle.clock.specs.LineClock.{no_counter}
use Rattle.network_laws.specs.HostAfter.{message_of}
use Rattle.network_laws.specs.Network.{Proper}
use Rattle.network_laws.specs.Slots.{EverySlot}
use Rattle.network_laws.specs.Demand3.{reports, sends, arrives, Step, World, result, step, Starts, entry_of}
use Rattle.network_laws.specs.TwoNodes.{begun, call}
use Rattle.liveness_laws.specs.Seconds.{emptied}
use Rattle.liveness_laws.specs.RoundsExample.{two}
use Rattle.liveness_laws.specs.Order.{OrderedRounds}

-- a round from a world without mail: its eight calls and the state after each; the first message has 32 octets in the first round, and 40 with a table
module _ (w : World) (size : ℕ) where
  -- LIVE-3: call 1
  abbrev pub x₁ : Step
  x₁ = call two w 0 (reports no_counter)

  -- LIVE-3: the network after call 1
  abbrev pub w₁ : World
  w₁ = step two w x₁

  -- LIVE-3: call 2
  abbrev pub x₂ : Step
  x₂ = call two w₁ 0 (sends 1 no_counter (replicate size 0) (pos 1000))

  -- LIVE-3: the network after call 2
  abbrev pub w₂ : World
  w₂ = step two w₁ x₂

  -- LIVE-3: call 3
  abbrev pub x₃ : Step
  x₃ = call two w₂ 1 (arrives 1 no_counter (message_of (result two w₁ x₂)) (pos 1000))

  -- LIVE-3: the network after call 3
  abbrev pub w₃ : World
  w₃ = step two w₂ x₃

  -- LIVE-3: call 4
  abbrev pub x₄ : Step
  x₄ = call two w₃ 1 (reports no_counter)

  -- LIVE-3: the network after call 4
  abbrev pub w₄ : World
  w₄ = step two w₃ x₄

  -- LIVE-3: call 5
  abbrev pub x₅ : Step
  x₅ = call two w₄ 1 (sends 1 no_counter (replicate 40 0) (pos 1000))

  -- LIVE-3: the network after call 5
  abbrev pub w₅ : World
  w₅ = step two w₄ x₅

  -- LIVE-3: call 6
  abbrev pub x₆ : Step
  x₆ = call two w₅ 0 (arrives 1 no_counter (message_of (result two w₄ x₅)) (pos 1000))

  -- LIVE-3: the network after call 6
  abbrev pub w₆ : World
  w₆ = step two w₅ x₆

  -- LIVE-3: call 7
  abbrev pub x₇ : Step
  x₇ = call two w₆ 0 (sends 1 no_counter (replicate 40 0) (pos 1000))

  -- LIVE-3: the network after call 7
  abbrev pub w₇ : World
  w₇ = step two w₆ x₇

  -- LIVE-3: call 8
  abbrev pub x₈ : Step
  x₈ = call two w₇ 1 (arrives 1 no_counter (message_of (result two w₆ x₇)) (pos 1000))

  -- LIVE-3: the network after call 8
  abbrev pub w₈ : World
  w₈ = step two w₇ x₈

-- LIVE-3: the beginning
unfoldable pub start : World
start = begun two

-- LIVE-3: after the first round
unfoldable pub between : World
between = w₈ (emptied start) 32

-- LIVE-3: after the second round
unfoldable pub last : World
last = w₈ (emptied between) 40

-- LIVE-3: it meets every condition, and both hosts have each other
pub record AnyOrderExample : Type 0 where
  pub proper : Proper two
  pub slots : EverySlot two
  pub starts : Starts two start
  pub round : OrderedRounds two start 1 between
  pub sooner : (entry_of two between 1 0).delay ≡ millis (pos 100)
  pub rounds : OrderedRounds two start 2 last
  pub node_0 : (entry_of two last 0 1).delay ≡ millis (pos 100)
  pub node_1 : (entry_of two last 1 0).delay ≡ millis (pos 100)
