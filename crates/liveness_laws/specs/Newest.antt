-- LIVE-5: if each arrival gets the newest message of its cable, no message overtakes another.
use Rattle.std.specs.Prelude.{◌≡◌, Bool, cond, ◌&&◌, List, [], ◌∷◌, ◌⊎◌, ℕ, eqb}
use Rattle.host.specs.Walk.{packet_of}
use Rattle.network_laws.specs.Network.{Network, at}
use Rattle.network_laws.specs.Demand3.{NetworkCall, ticks, seconds, reports, sends, arrives, acts, inspects, opens, steps, adjusts, sets, clocks, looks, Step, Message, World, after_at, step}
use Rattle.liveness_laws.specs.Seconds.{emptied}
use Rattle.liveness_laws.specs.Rounds.{NotBox1}
use Rattle.liveness_laws.specs.Order.{nothing_came, AllFresh}

-- LIVE-5: was a message sent on this link?
abbrev pub is_from : (node link : ℕ) → Message → Bool
is_from a i m = eqb m.node a && eqb m.link i

-- LIVE-5: the newest message of a link
unfoldable pub newest_from : (node link : ℕ) → List Message → List Message
newest_from a i [] = []
newest_from a i (m ∷ ms) = cond (is_from a i m) (m ∷ []) (newest_from a i ms)

-- LIVE-5: the packet is a copy of it
pub record Newest (r : Network) (w : World) (b j : ℕ) (packet : List ℕ) : Type 0 where
  pub message : Message
  pub other_end : r.cable b j ≡ at message.node message.link
  pub newest : newest_from message.node message.link w.mail ≡ message ∷ []
  pub a_copy : packet ≡ message.octets

-- LIVE-5: each arrival gets the newest, and each box 1
abbrev pub GivenNewest : Network → World → (b : ℕ) → NetworkCall → Type 0
GivenNewest r w b (ticks n) = Unit {0}
GivenNewest r w b seconds = Unit {0}
GivenNewest r w b (reports k) = Unit {0}
GivenNewest r w b (sends i k buffer t) = Unit {0}
GivenNewest r w b (arrives i k packet t) = Newest r w b i packet
GivenNewest r w b (acts i k packet t) = Newest r w b i packet
GivenNewest r w b (inspects i packet) = Unit {0}
GivenNewest r w b (opens i packet) = Unit {0}
GivenNewest r w b (steps k t) = NotBox1 r w b ⊎ Newest r w b (after_at r w b).walk.link (packet_of (after_at r w b).walk (after_at r w b).copy)
GivenNewest r w b (adjusts n) = Unit {0}
GivenNewest r w b (sets ms n) = Unit {0}
GivenNewest r w b (clocks κ) = Unit {0}
GivenNewest r w b (looks d) = Unit {0}

-- LIVE-5: each call of a list
unfoldable pub AllNewest : Network → World → List Step → Type 0
AllNewest r w [] = Unit {0}
AllNewest r w (x ∷ xs) = GivenNewest r w x.node x.call × AllNewest r (step r w x) xs

-- LIVE-5: for every network and list
unfoldable pub NewestInOrder : Type 0
NewestInOrder = (r : Network) (w : World) (xs : List Step) → AllNewest r (emptied w) xs → AllFresh r (emptied w) nothing_came xs
