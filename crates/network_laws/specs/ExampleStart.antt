-- ROOM-10: the first ten calls of the computed history.
use Rattle.std.specs.Prelude.{cond, [], ◌∷◌, ◌*◌, eqb, pos, replicate}
use Rattle.quantity.specs.Quantity.{millis, counts, to_units}
use Rattle.clock.specs.Crystal.{counting}
use Rattle.clock.specs.LineClock.{no_counter}
use Rattle.table.specs.declared.marks.Marks.{Marks}
use Rattle.table.specs.Marks.{only_mark}
use Rattle.network_laws.specs.HostAfter.{message_of}
use Rattle.network_laws.specs.Network.{longest_way, Network}
use Rattle.route.specs.declared.Row.{Row}
use Rattle.net_table.specs.Table.{table_of}
use Rattle.network_laws.specs.Demand3.{reports, sends, arrives, acts, inspects, opens, steps, ticks, Step, World, result, step}
use Rattle.network_laws.specs.TwoNodes.{pair, begun, call, entries_for}

-- MARK-5: ids 1 and 2
abbrev pub one_and_two : Marks
one_and_two = record { words = 6 ∷ 0 ∷ 0 ∷ 0 ∷ [] }

-- ROOM-1: its network: host 0 has a crystal, host 1 a line clock
abbrev pub near : Network
near =
    pair
    record {
      tick = to_units (millis (pos 65536));
      start = λ a. 65500 * a;
      longest = longest_way;
      hosts = 3;
      marks = λ a. cond (eqb a 0) (only_mark 0) one_and_two;
      copy = replicate 1052 0;
    }

-- ---- the history

-- ROOM-10: the beginning
unfoldable pub w₀ : World
w₀ = begun near

-- ROOM-10: host 1 reports its two hosts
unfoldable pub x₁ : Step
x₁ = call near w₀ 1 (reports no_counter)

-- ROOM-10: the network after call 1
unfoldable pub w₁ : World
w₁ = step near w₀ x₁

-- ROOM-10: host 0 sends at millisecond 65,500
unfoldable pub x₂ : Step
x₂ = call near w₁ 0 (sends 1 (counting (counts 65500)) (replicate 32 0) (pos 65500))

-- ROOM-10: the network after call 2
unfoldable pub w₂ : World
w₂ = step near w₁ x₂

-- ROOM-10: node 1 acts on it at once
unfoldable pub x₃ : Step
x₃ = call near w₂ 1 (acts 1 no_counter (message_of (result near w₁ x₂)) (pos 65500))

-- ROOM-10: the network after call 3
unfoldable pub w₃ : World
w₃ = step near w₂ x₃

-- ROOM-10: and answers
unfoldable pub x₄ : Step
x₄ = call near w₃ 1 (sends 1 no_counter (replicate 44 0) (pos 65500))

-- ROOM-10: the network after call 4
unfoldable pub w₄ : World
w₄ = step near w₃ x₄

-- ROOM-10: 101 ms later, as its counter overflows, host 0 has the answer
unfoldable pub x₅ : Step
x₅ = call near w₄ 0 (arrives 1 record { count = counts 65535; overflow = 1; again = counts 65 } (message_of (result near w₃ x₄)) (pos 65601))

-- ROOM-10: the network after call 5
unfoldable pub w₅ : World
w₅ = step near w₄ x₅

-- ROOM-10: node 0 inspects the answer again
unfoldable pub x₆ : Step
x₆ = call near w₅ 0 (inspects 1 (message_of (result near w₃ x₄)))

-- ROOM-10: the network after call 6
unfoldable pub w₆ : World
w₆ = step near w₅ x₆

-- ROOM-10: node 0 opens a walk for it
unfoldable pub x₇ : Step
x₇ = call near w₆ 0 (opens 1 (message_of (result near w₃ x₄)))

-- ROOM-10: the network after call 7
unfoldable pub w₇ : World
w₇ = step near w₆ x₇

-- NET-10: the row that the tutor adds before box 1
abbrev pub net10 : Row
net10 = record { net = record { first = 10; second = 0; third = 0 }; host = 1 }

-- ROOM-10: box 1, 101 ms after the answer was sent
unfoldable pub x₈ : Step
x₈ = record { node = 0; nets = table_of 3 (net10 ∷ []); links = (w₇.state 0).links; copy = (w₇.state 0).copy; entries = entries_for w₇ 0; call = steps (counting (counts 65)) (pos 65601) }

-- ROOM-10: the network after call 8
unfoldable pub w₈ : World
w₈ = step near w₇ x₈

-- ROOM-10: a tick, which is refused
unfoldable pub x₉ : Step
x₉ = call near w₈ 0 (ticks (counts 0))

-- ROOM-10: the network after call 9
unfoldable pub w₉ : World
w₉ = step near w₈ x₉

-- ROOM-10: boxes 2 to 5, and the lines of the ids, to the end of the walk
unfoldable pub x₁₀ : Step
x₁₀ = call near w₉ 0 (steps no_counter (pos 0))

-- ROOM-10: the network after call 10
unfoldable pub w₁₀ : World
w₁₀ = step near w₉ x₁₀
