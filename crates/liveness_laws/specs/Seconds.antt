-- What the laws count and forget: the seconds of one host in a list of calls, and the messages sent before the list.
use Rattle.std.specs.Prelude.{Bool, true, false, cond, ◌&&◌, List, [], ◌∷◌, ℕ, ◌+◌, eqb}
use Rattle.host.specs.Guard.{done}
use Rattle.network_laws.specs.Network.{Network}
use Rattle.network_laws.specs.Demand3.{NetworkCall, ticks, seconds, reports, sends, arrives, acts, inspects, opens, steps, adjusts, sets, clocks, looks, Step, World, result, step}

-- LIVE-2, LIVE-4: all messages sent so far are lost: a message arrives in its epoch or round, or never
abbrev pub emptied : World → World
emptied w = record { state = w.state; mail = [] }

-- LIVE-2, LIVE-4: a second
abbrev pub is_second : NetworkCall → Bool
is_second (ticks n) = false
is_second seconds = true
is_second (reports k) = false
is_second (sends i k buffer t) = false
is_second (arrives i k packet t) = false
is_second (acts i k packet t) = false
is_second (inspects i packet) = false
is_second (opens i packet) = false
is_second (steps k t) = false
is_second (adjusts n) = false
is_second (sets ms n) = false
is_second (clocks κ) = false
is_second (looks d) = false

-- LIVE-2, LIVE-4: 1 if the call is a second of host b with answer 0, else 0
abbrev pub counts : Network → World → (b : ℕ) → Step → ℕ
counts r w b x = cond (eqb x.node b && is_second x.call && done (result r w x).reply.answer) 1 0

-- LIVE-2, LIVE-4: the seconds of host b in a list of calls
unfoldable pub seconds_at : Network → World → (b : ℕ) → List Step → ℕ
seconds_at r w b [] = 0
seconds_at r w b (x ∷ xs) = counts r w b x + seconds_at r (step r w x) b xs
