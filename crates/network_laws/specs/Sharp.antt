-- ROOM-8: 16,383 is the greatest such number: if messages may take 16,384 ms, the claim of demand 3 is false.
use Rattle.std.specs.Prelude.{◌≡◌, List, [], ◌∷◌, ◌++◌, ℕ, ◌+◌, ◌*◌, pos, negsuc, ◌-ℤ◌, replicate}
use Rattle.quantity.specs.Quantity.{units, millis}
use Rattle.clock.specs.LineClock.{no_count, no_counter}
use Rattle.table.specs.declared.Entry.{Entry}
use Rattle.table.specs.Marks.{only_mark}
use Rattle.host.specs.State.{fresh_links}
use Rattle.network_laws.specs.HostAfter.{message_of}
use Rattle.network_laws.specs.Network.{Network, Proper}
use Rattle.network_laws.specs.Demand3.{NetworkCall, ticks, reports, sends, arrives, Step, World, result, step, history, Allows, Starts, entry_of, Demand3Within}
use Rattle.network_laws.specs.TwoNodes.{Pair, settings_for, net_table_for, places_of, pair, begun, call}

-- ROOM-8: 16,384 ms
abbrev pub too_long : ℕ
too_long = 16384

-- ROOM-8: two hosts; 33 ticks are 32,768 ms and some units
abbrev pub lateness : Pair
lateness = record { tick = units (pos 65075263); start = λ a. 40000 + too_long * a; longest = too_long; hosts = 2; marks = only_mark; copy = [] }

-- ROOM-8: their network
abbrev pub late : Network
late = pair lateness

-- ---- the history

-- ROOM-8: a call of host 0 with fresh links and table
abbrev pub early : NetworkCall → Step
early x = record { node = 0; nets = net_table_for lateness; links = fresh_links (settings_for lateness 0); copy = []; entries = places_of 0; call = x }

-- ROOM-8: the beginning
unfoldable pub w₀ : World
w₀ = begun late

-- ROOM-8: host 0 sends at millisecond 40,000
unfoldable pub x₁ : Step
x₁ = early (sends 1 no_counter (replicate 32 0) (pos 40000))

-- ROOM-8: the network after call 1
unfoldable pub w₁ : World
w₁ = step late w₀ x₁

-- ROOM-8: host 1 reports itself
unfoldable pub x₂ : Step
x₂ = call late w₁ 1 (reports no_counter)

-- ROOM-8: the network after call 2
unfoldable pub w₂ : World
w₂ = step late w₁ x₂

-- ROOM-8: gets the message, 16,384 ms after it was sent
unfoldable pub x₃ : Step
x₃ = call late w₂ 1 (arrives 1 no_counter (message_of (result late w₀ x₁)) (pos 56384))

-- ROOM-8: the network after call 3
unfoldable pub w₃ : World
w₃ = step late w₂ x₃

-- ROOM-8: and answers
unfoldable pub x₄ : Step
x₄ = call late w₃ 1 (sends 1 no_counter (replicate 40 0) (pos 56384))

-- ROOM-8: the network after call 4
unfoldable pub w₄ : World
w₄ = step late w₃ x₄

-- ROOM-8: 32,768 ms pass at host 0
abbrev pub wait : List Step
wait = replicate 33 (early (ticks no_count))

-- ROOM-8: the network after call 5
unfoldable pub w₅ : World
w₅ = history late w₄ wait

-- ROOM-8: the answer arrives there, 16,384 ms after it was sent, and once more
unfoldable pub x₆ : Step
x₆ = early (arrives 1 no_counter (message_of (result late w₃ x₄)) (pos 72768))

-- ROOM-8: call 7
unfoldable pub x₇ : World → Step
x₇ w = call late w 0 (arrives 1 no_counter (message_of (result late w₃ x₄)) (pos 72768))

-- ROOM-8: the list of calls
abbrev pub story : List Step
story = x₁ ∷ x₂ ∷ x₃ ∷ x₄ ∷ (wait ++ x₆ ∷ x₇ (step late w₅ x₆) ∷ [])

-- ROOM-8: the entry that host 0 has of host 1 at the end
abbrev pub learnt : Entry
learnt = entry_of late (history late w₀ story) 0 1

-- ROOM-8: the list meets all other conditions, and breaks the bound
pub record Sharp : Type 0 where
  pub proper : Proper late
  pub starts : Starts late w₀
  pub allowed : Allows late w₀ story
  pub delay : learnt.delay ≡ millis (pos 100)
  -- ROOM-8: the error is -32,768
  pub error : learnt.offset.0 -ℤ (late.fixed 1 -ℤ late.fixed 0) ≡ negsuc 32767
  -- ROOM-8: so the claim is false for such messages
  pub false_then : Demand3Within too_long → ⊥
