-- LIVE-3: a round in which hosts report, send and hear in any order, if no message overtakes another on its cable.
use Rattle.std.specs.Prelude.{◌≡◌, cond, ◌&&◌, List, [], ◌∷◌, ◌⊎◌, ℕ, suc, ◌≤◌, ◌<◌, eqb, length}
use Rattle.std.proofs.Common.{inl, inr}
use Rattle.host.specs.Walk.{packet_of}
use Rattle.network_laws.specs.Network.{Network, at}
use Rattle.network_laws.specs.Demand3.{NetworkCall, ticks, seconds, reports, sends, arrives, acts, inspects, opens, steps, adjusts, sets, clocks, looks, Step, Message, World, after_at, step, history, Allows}
use Rattle.liveness_laws.specs.Numbers.{round_seconds}
use Rattle.liveness_laws.specs.Seconds.{emptied, seconds_at}
use Rattle.liveness_laws.specs.Rounds.{NotBox1, NoWalks, Reported, Heard}

-- ---- order

-- LIVE-3: a message is in the mail, after n others of the round: n is its number
unfoldable pub Stands : Message → ℕ → List Message → Type 0
Stands m n [] = ⊥
Stands m n (x ∷ ms) = ((x ≡ m) × (length ms ≡ n)) ⊎ Stands m n ms

-- LIVE-3: an arrival takes a message that is not older than the last one on its cable: none overtakes another
pub record Next (r : Network) (w : World) (last : ℕ → ℕ → ℕ) (b j : ℕ) (packet : List ℕ) : Type 0 where
  pub message : Message
  pub number : ℕ
  pub stands : Stands message number w.mail
  pub other_end : r.cable b j ≡ at message.node message.link
  pub a_copy : packet ≡ message.octets
  pub in_order : last b j ≤ number

-- LIVE-3: each arrival does, and each box 1
abbrev pub Fresh : Network → World → (last : ℕ → ℕ → ℕ) (b : ℕ) → NetworkCall → Type 0
Fresh r w last b (ticks n) = Unit {0}
Fresh r w last b seconds = Unit {0}
Fresh r w last b (reports k) = Unit {0}
Fresh r w last b (sends i k buffer t) = Unit {0}
Fresh r w last b (arrives i k packet t) = Next r w last b i packet
Fresh r w last b (acts i k packet t) = Next r w last b i packet
Fresh r w last b (inspects i packet) = Unit {0}
Fresh r w last b (opens i packet) = Unit {0}
Fresh r w last b (steps k t) = NotBox1 r w b ⊎ Next r w last b (after_at r w b).walk.link (packet_of (after_at r w b).walk (after_at r w b).copy)
Fresh r w last b (adjusts n) = Unit {0}
Fresh r w last b (sets ms n) = Unit {0}
Fresh r w last b (clocks κ) = Unit {0}
Fresh r w last b (looks d) = Unit {0}

-- LIVE-3: the number of the last message that arrived at link j of host b
abbrev pub came : (b j n : ℕ) → (ℕ → ℕ → ℕ) → ℕ → ℕ → ℕ
came b j n last p q = cond (eqb p b && eqb q j) n (last p q)

-- LIVE-3: the same after a call
abbrev pub last_after : (r : Network) (w : World) (last : ℕ → ℕ → ℕ) (b : ℕ) (call : NetworkCall) → Fresh r w last b call → ℕ → ℕ → ℕ
last_after r w last b (ticks n) f = last
last_after r w last b seconds f = last
last_after r w last b (reports k) f = last
last_after r w last b (sends i k buffer t) f = last
last_after r w last b (arrives i k packet t) f = came b i f.number last
last_after r w last b (acts i k packet t) f = came b i f.number last
last_after r w last b (inspects i packet) f = last
last_after r w last b (opens i packet) f = last
last_after r w last b (steps k t) (inl f) = last
last_after r w last b (steps k t) (inr f) = came b (after_at r w b).walk.link f.number last
last_after r w last b (adjusts n) f = last
last_after r w last b (sets ms n) f = last
last_after r w last b (clocks κ) f = last
last_after r w last b (looks d) f = last

-- LIVE-3: each call of a list
unfoldable pub AllFresh : Network → World → (last : ℕ → ℕ → ℕ) → List Step → Type 0
AllFresh r w last [] = Unit {0}
AllFresh r w last (x ∷ xs) = (f : Fresh r w last x.node x.call) × AllFresh r (step r w x) (last_after r w last x.node x.call f) xs

-- LIVE-3: no message yet
abbrev pub nothing_came : ℕ → ℕ → ℕ
nothing_came b j = 0

-- ---- a round, and the beginning of one

-- LIVE-3: a round that has begun
pub record Begun (r : Network) (w : World) (xs : List Step) : Type 0 where
  pub allowed : Allows r (emptied w) xs
  pub fresh : AllFresh r (emptied w) nothing_came xs
  pub short : (b : ℕ) → b < r.nodes → seconds_at r (emptied w) b xs ≤ round_seconds

-- LIVE-3: a round: every host reports itself and hears every cable, and no walk is open at the end
pub record OrderedRound (r : Network) (w : World) (xs : List Step) : Type 0 where
  pub begun : Begun r w xs
  pub reported : (b : ℕ) → b < r.nodes → Reported r (emptied w) b xs
  pub heard : (b j a i : ℕ) → r.cable b j ≡ at a i → Heard r (emptied w) b j xs
  pub over : NoWalks r (history r (emptied w) xs)

-- LIVE-3: `count` rounds, one after another
pub data OrderedRounds (r : Network) (w : World) : (count : ℕ) → World → Type 0 where
  begin : OrderedRounds r w 0 w
  next : {k : ℕ} {v : World} → OrderedRounds r w k v → (xs : List Step) → OrderedRound r v xs → OrderedRounds r w (suc k) (history r (emptied v) xs)
