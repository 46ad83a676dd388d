-- LIVE-2: a round in which every host reports itself, all hosts send, and then each host hears every cable; an arrival may be a walk.
use Rattle.std.specs.Prelude.{◌≡◌, true, false, List, [], ◌∷◌, ◌⊎◌, ℕ, suc, ◌+◌, ◌≤◌, ◌<◌, Some}
use Rattle.answer.specs.declared.Answer.TheVariants.{Done}
use Rattle.host.specs.declared.walk.Place.TheVariants.{Step1}
use Rattle.host.specs.Walk.{is_open, place_of}
use Rattle.network_laws.specs.Network.{Network, at}
use Rattle.network_laws.specs.Demand3.{NetworkCall, ticks, seconds, reports, sends, arrives, acts, inspects, opens, steps, adjusts, sets, clocks, looks, Step, World, after_at, result, step, history, Allows}
use Rattle.liveness_laws.specs.Numbers.{round_seconds}
use Rattle.liveness_laws.specs.Seconds.{emptied, seconds_at}

-- ---- a round

-- LIVE-2, LIVE-3: a step of host b is not box 1 of a walk: it takes no message
abbrev pub NotBox1 : Network → World → (b : ℕ) → Type 0
NotBox1 r w b = is_open (after_at r w b).walk ≡ true → place_of (after_at r w b).walk ≡ Some Step1 → ⊥

-- LIVE-2, LIVE-3: no host has an open walk
abbrev pub NoWalks : Network → World → Type 0
NoWalks r w = (b : ℕ) → b < r.nodes → is_open (after_at r w b).walk ≡ false

-- LIVE-2: no arrival, and no box 1
abbrev pub Speaks : Network → World → (b : ℕ) → NetworkCall → Type 0
Speaks r w b (ticks n) = Unit {0}
Speaks r w b seconds = Unit {0}
Speaks r w b (reports k) = Unit {0}
Speaks r w b (sends i k buffer t) = Unit {0}
Speaks r w b (arrives i k packet t) = ⊥
Speaks r w b (acts i k packet t) = ⊥
Speaks r w b (inspects i packet) = Unit {0}
Speaks r w b (opens i packet) = Unit {0}
Speaks r w b (steps k t) = NotBox1 r w b
Speaks r w b (adjusts n) = Unit {0}
Speaks r w b (sets ms n) = Unit {0}
Speaks r w b (clocks κ) = Unit {0}
Speaks r w b (looks d) = Unit {0}

-- LIVE-2: no send
abbrev pub Listens : NetworkCall → Type 0
Listens (ticks n) = Unit {0}
Listens seconds = Unit {0}
Listens (reports k) = Unit {0}
Listens (sends i k buffer t) = ⊥
Listens (arrives i k packet t) = Unit {0}
Listens (acts i k packet t) = Unit {0}
Listens (inspects i packet) = Unit {0}
Listens (opens i packet) = Unit {0}
Listens (steps k t) = Unit {0}
Listens (adjusts n) = Unit {0}
Listens (sets ms n) = Unit {0}
Listens (clocks κ) = Unit {0}
Listens (looks d) = Unit {0}

-- LIVE-2: each call of a list
unfoldable pub Speaking : Network → World → List Step → Type 0
Speaking r w [] = Unit {0}
Speaking r w (x ∷ xs) = Speaks r w x.node x.call × Speaking r (step r w x) xs

-- LIVE-2: each call of a list
unfoldable pub Listening : List Step → Type 0
Listening [] = Unit {0}
Listening (x ∷ xs) = Listens x.call × Listening xs

-- LIVE-2: a call is a self-report, answered 0
abbrev pub ReportsNow : Network → World → (b : ℕ) → Step → NetworkCall → Type 0
ReportsNow r w b x (ticks n) = ⊥
ReportsNow r w b x seconds = ⊥
ReportsNow r w b x (reports k) = (x.node ≡ b) × ((result r w x).reply.answer ≡ Done)
ReportsNow r w b x (sends i k buffer t) = ⊥
ReportsNow r w b x (arrives i k packet t) = ⊥
ReportsNow r w b x (acts i k packet t) = ⊥
ReportsNow r w b x (inspects i packet) = ⊥
ReportsNow r w b x (opens i packet) = ⊥
ReportsNow r w b x (steps k t) = ⊥
ReportsNow r w b x (adjusts n) = ⊥
ReportsNow r w b x (sets ms n) = ⊥
ReportsNow r w b x (clocks κ) = ⊥
ReportsNow r w b x (looks d) = ⊥

-- LIVE-2: a call is an arrival on link j, or ends a walk on it, answered 0
abbrev pub HearsNow : Network → World → (b j : ℕ) → Step → NetworkCall → Type 0
HearsNow r w b j x (ticks n) = ⊥
HearsNow r w b j x seconds = ⊥
HearsNow r w b j x (reports k) = ⊥
HearsNow r w b j x (sends i k buffer t) = ⊥
HearsNow r w b j x (arrives i k packet t) = (x.node ≡ b) × (i ≡ j) × ((result r w x).reply.answer ≡ Done)
HearsNow r w b j x (acts i k packet t) = (x.node ≡ b) × (i ≡ j) × ((result r w x).reply.answer ≡ Done)
HearsNow r w b j x (inspects i packet) = ⊥
HearsNow r w b j x (opens i packet) = ⊥
HearsNow r w b j x (steps k t) = (x.node ≡ b) × ((after_at r w b).walk.link ≡ j) × (is_open (result r w x).walk ≡ false) × ((result r w x).reply.answer ≡ Done)
HearsNow r w b j x (adjusts n) = ⊥
HearsNow r w b j x (sets ms n) = ⊥
HearsNow r w b j x (clocks κ) = ⊥
HearsNow r w b j x (looks d) = ⊥

-- LIVE-2: some call of a list is a self-report, answered 0
unfoldable pub Reported : Network → World → (b : ℕ) → List Step → Type 0
Reported r w b [] = ⊥
Reported r w b (x ∷ xs) = ReportsNow r w b x x.call ⊎ Reported r (step r w x) b xs

-- LIVE-2: some call of a list is an arrival on link j, or ends a walk on it, answered 0
unfoldable pub Heard : Network → World → (b j : ℕ) → List Step → Type 0
Heard r w b j [] = ⊥
Heard r w b j (x ∷ xs) = HearsNow r w b j x x.call ⊎ Heard r (step r w x) b j xs

-- LIVE-2: the network after the hosts have sent
abbrev pub spoken : Network → World → List Step → World
spoken r w xs = history r (emptied w) xs

-- LIVE-2: the network after the calls so far of a round that has begun
abbrev pub meanwhile : Network → World → (xs ys : List Step) → World
meanwhile r w xs ys = history r (spoken r w xs) ys

-- LIVE-2: a round that has begun: hosts send, and then hear; xs and ys are the calls so far
pub record Underway (r : Network) (w : World) (xs ys : List Step) : Type 0 where
  pub allowed : Allows r (emptied w) xs
  pub allowed_then : Allows r (spoken r w xs) ys
  pub speak : Speaking r (emptied w) xs
  pub listen : Listening ys
  pub short : (b : ℕ) → b < r.nodes → seconds_at r (emptied w) b xs + seconds_at r (spoken r w xs) b ys ≤ round_seconds

-- LIVE-2: a round: every host reports itself and hears every cable, and no walk is open at the end
pub record Round (r : Network) (w : World) (xs ys : List Step) : Type 0 where
  pub underway : Underway r w xs ys
  pub reported : (b : ℕ) → b < r.nodes → Reported r (emptied w) b xs ⊎ Reported r (spoken r w xs) b ys
  pub heard : (b j a i : ℕ) → r.cable b j ≡ at a i → Heard r (spoken r w xs) b j ys
  pub over : NoWalks r (meanwhile r w xs ys)

-- LIVE-2: `count` rounds, one after another
pub data Rounds (r : Network) (w : World) : (count : ℕ) → World → Type 0 where
  begin : Rounds r w 0 w
  next : {k : ℕ} {v : World} → Rounds r w k v → (xs ys : List Step) → Round r v xs ys → Rounds r w (suc k) (history r (spoken r v xs) ys)
