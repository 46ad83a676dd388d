-- LIVE-2, LIVE-3: a list that opens no walk meets what rounds ask of walks.
use Rattle.std.specs.Prelude.{List, [], ◌∷◌}
use Rattle.network_laws.specs.Network.{Network, Proper}
use Rattle.network_laws.specs.Demand3.{NetworkCall, ticks, seconds, reports, sends, arrives, acts, inspects, opens, steps, adjusts, sets, clocks, looks, Step, World, step, history, Allows, Starts}
use Rattle.liveness_laws.specs.Rounds.{NotBox1, NoWalks}

-- LIVE-2, LIVE-3: a call does not open a walk
abbrev pub Unopened : NetworkCall → Type 0
Unopened (ticks n) = Unit {0}
Unopened seconds = Unit {0}
Unopened (reports k) = Unit {0}
Unopened (sends i k buffer t) = Unit {0}
Unopened (arrives i k packet t) = Unit {0}
Unopened (acts i k packet t) = Unit {0}
Unopened (inspects i packet) = Unit {0}
Unopened (opens i packet) = ⊥
Unopened (steps k t) = Unit {0}
Unopened (adjusts n) = Unit {0}
Unopened (sets ms n) = Unit {0}
Unopened (clocks κ) = Unit {0}
Unopened (looks d) = Unit {0}

-- LIVE-2, LIVE-3: each call of a list
unfoldable pub AllUnopened : List Step → Type 0
AllUnopened [] = Unit {0}
AllUnopened (x ∷ xs) = Unopened x.call × AllUnopened xs

-- LIVE-2, LIVE-3: no step of a list is box 1
unfoldable pub NeverBox1 : Network → World → List Step → Type 0
NeverBox1 r w [] = Unit {0}
NeverBox1 r w (x ∷ xs) = NotBox1 r w x.node × NeverBox1 r (step r w x) xs

-- LIVE-2, LIVE-3: no walk is open at the start, nor after a list that opens none; and no step of the list is box 1
pub record WithoutWalks : Type 0 where
  pub start : (r : Network) → Proper r → (w : World) → Starts r w → NoWalks r w
  pub box_1 : (r : Network) (w : World) → NoWalks r w → (xs : List Step) → Allows r w xs → AllUnopened xs → NeverBox1 r w xs
  pub over : (r : Network) (w : World) → NoWalks r w → (xs : List Step) → Allows r w xs → AllUnopened xs → NoWalks r (history r w xs)
