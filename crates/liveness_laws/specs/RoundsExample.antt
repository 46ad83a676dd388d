-- LIVE-2: two hosts and a cable, two rounds of six calls, by computing.
use Rattle.std.specs.Prelude.{◌≡◌, [], ℕ, pos, replicate}
use Rattle.quantity.specs.Quantity.{millis, to_units}
use Rattle.clock.specs.LineClock.{no_counter}
use Rattle.table.specs.Marks.{only_mark}
use Rattle.network_laws.specs.HostAfter.{message_of}
use Rattle.network_laws.specs.Network.{Network, Proper}
use Rattle.network_laws.specs.Slots.{EverySlot}
use Rattle.network_laws.specs.Demand3.{reports, sends, arrives, Step, World, result, step, Starts, entry_of}
use Rattle.network_laws.specs.TwoNodes.{Pair, pair, begun, call}
use Rattle.liveness_laws.specs.Numbers.{quick_way}
use Rattle.liveness_laws.specs.Seconds.{emptied}
use Rattle.liveness_laws.specs.Rounds.{Rounds}

-- LIVE-2: two hosts
abbrev pub both : Pair
both = record { tick = to_units (millis (pos 65536)); start = λ a. 1000; longest = quick_way; hosts = 2; marks = only_mark; copy = [] }

-- LIVE-2: their network
abbrev pub two : Network
two = pair both

-- a round from a world without mail: its six calls and the state after each; a message has 32 octets, and 40 with a table
module _ (w : World) (size : ℕ) where
  -- LIVE-2: call 1
  abbrev pub x₁ : Step
  x₁ = call two w 0 (reports no_counter)

  -- LIVE-2: the network after call 1
  abbrev pub w₁ : World
  w₁ = step two w x₁

  -- LIVE-2: call 2
  abbrev pub x₂ : Step
  x₂ = call two w₁ 1 (reports no_counter)

  -- LIVE-2: the network after call 2
  abbrev pub w₂ : World
  w₂ = step two w₁ x₂

  -- LIVE-2: call 3
  abbrev pub x₃ : Step
  x₃ = call two w₂ 0 (sends 1 no_counter (replicate size 0) (pos 1000))

  -- LIVE-2: the network after call 3
  abbrev pub w₃ : World
  w₃ = step two w₂ x₃

  -- LIVE-2: call 4
  abbrev pub x₄ : Step
  x₄ = call two w₃ 1 (sends 1 no_counter (replicate size 0) (pos 1000))

  -- LIVE-2: the network after call 4
  abbrev pub w₄ : World
  w₄ = step two w₃ x₄

  -- LIVE-2: call 1
  abbrev pub y₁ : Step
  y₁ = call two w₄ 0 (arrives 1 no_counter (message_of (result two w₃ x₄)) (pos 1000))

  -- LIVE-2: the network after call 5
  abbrev pub w₅ : World
  w₅ = step two w₄ y₁

  -- LIVE-2: call 2
  abbrev pub y₂ : Step
  y₂ = call two w₅ 1 (arrives 1 no_counter (message_of (result two w₂ x₃)) (pos 1000))

  -- LIVE-2: the network after call 6
  abbrev pub w₆ : World
  w₆ = step two w₅ y₂

-- LIVE-2: the beginning
unfoldable pub start : World
start = begun two

-- LIVE-2: after the first round
unfoldable pub between : World
between = w₆ (emptied start) 32

-- LIVE-2: after the second round
unfoldable pub last : World
last = w₆ (emptied between) 40

-- LIVE-2: it meets every condition, and both hosts have each other
pub record RoundsExample : Type 0 where
  pub proper : Proper two
  pub slots : EverySlot two
  pub starts : Starts two start
  pub rounds : Rounds two start 2 last
  pub node_0 : (entry_of two last 0 1).delay ≡ millis (pos 100)
  pub node_1 : (entry_of two last 1 0).delay ≡ millis (pos 100)
