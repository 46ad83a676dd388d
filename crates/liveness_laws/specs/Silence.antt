-- LIVE-4: silence. If nothing of host c is heard, its ids fade from every other table. Their DELAY there rises by 100 ms in every 120 seconds, until they are down.
use Rattle.std.specs.Prelude.{◌≡◌, true, false, List, [], ◌∷◌, ℕ, suc, ◌*◌, ◌≤◌, ◌<◌, pos, ◌≤ℤ◌, Some}
use Rattle.table.specs.Entry.{up}
use Rattle.host.specs.declared.walk.Place.TheVariants.{Step1}
use Rattle.host.specs.Walk.{is_open, place_of}
use Rattle.network_laws.specs.Network.{longest_way, Network, at, HostAt, Proper}
use Rattle.network_laws.specs.Demand3.{NetworkCall, ticks, seconds, reports, sends, arrives, acts, inspects, opens, steps, adjusts, sets, clocks, looks, Step, World, after_at, step, history, Allows, Starts, entry_of}
use Rattle.liveness_laws.specs.Numbers.{rise, epoch_seconds, gone_epochs}
use Rattle.liveness_laws.specs.Seconds.{emptied, seconds_at}

-- ---- an epoch

-- LIVE-4: the cable of a link does not lead to host c
abbrev pub NotFrom : Network → (c b link : ℕ) → Type 0
NotFrom r c b i = (j : ℕ) → r.cable b i ≡ at c j → ⊥

-- LIVE-4: no arrival, and no box 1 of a walk, takes a message of host c
abbrev pub Unheard : Network → World → (c b : ℕ) → NetworkCall → Type 0
Unheard r w c b (ticks n) = Unit {0}
Unheard r w c b seconds = Unit {0}
Unheard r w c b (reports k) = Unit {0}
Unheard r w c b (sends i k buffer t) = Unit {0}
Unheard r w c b (arrives i k packet t) = NotFrom r c b i
Unheard r w c b (acts i k packet t) = NotFrom r c b i
Unheard r w c b (inspects i packet) = Unit {0}
Unheard r w c b (opens i packet) = Unit {0}
Unheard r w c b (steps k t) = is_open (after_at r w b).walk ≡ true → place_of (after_at r w b).walk ≡ Some Step1 → NotFrom r c b (after_at r w b).walk.link
Unheard r w c b (adjusts n) = Unit {0}
Unheard r w c b (sets ms n) = Unit {0}
Unheard r w c b (clocks κ) = Unit {0}
Unheard r w c b (looks d) = Unit {0}

-- LIVE-4: each call of a list
unfoldable pub NothingOf : Network → World → (c : ℕ) → List Step → Type 0
NothingOf r w c [] = Unit {0}
NothingOf r w c (x ∷ xs) = Unheard r w c x.node x.call × NothingOf r (step r w x) c xs

-- LIVE-4: an epoch: nothing of c is heard, and every other host has its 120 seconds
pub record Epoch (r : Network) (c : ℕ) (w : World) (xs : List Step) : Type 0 where
  pub allowed : Allows r (emptied w) xs
  pub unheard : NothingOf r (emptied w) c xs
  pub long : (b : ℕ) → b < r.nodes → (b ≡ c → ⊥) → epoch_seconds ≤ seconds_at r (emptied w) b xs

-- LIVE-4, LIVE-7: `count` epochs, one after another, from w to the last world; `Each` is the condition on an epoch
pub data Epochs (r : Network) (Each : World → List Step → Type 0) (w : World) : (count : ℕ) → World → Type 0 where
  begin : Epochs r Each w 0 w
  next : {k : ℕ} {v : World} → Epochs r Each w k v → (xs : List Step) → Each v xs → Epochs r Each w (suc k) (history r (emptied v) xs)

-- ---- the claim

-- LIVE-4: after k epochs each id of host c is, in every other table, down or at a DELAY of at least 100 (k + 1) ms
unfoldable pub SilentHostFades : Type 0
SilentHostFades =
    (r : Network) → Proper r → r.longest ≤ longest_way → (w : World) → Starts r w → (xs : List Step) → Allows r w xs
    → (c i : ℕ) → c < r.nodes → HostAt r i c → (k : ℕ) (v : World) → Epochs r (Epoch r c) (history r w xs) k v
    → (b : ℕ) → b < r.nodes → (b ≡ c → ⊥) → i < (r.settings b).layout.nhosts → up (entry_of r v b i) ≡ true
    → pos (rise * suc k) ≤ℤ (entry_of r v b i).delay.0

-- LIVE-4: after 299 epochs it is down
unfoldable pub SilentHostGone : Type 0
SilentHostGone =
    (r : Network) → Proper r → r.longest ≤ longest_way → (w : World) → Starts r w → (xs : List Step) → Allows r w xs
    → (c i : ℕ) → c < r.nodes → HostAt r i c → (k : ℕ) (v : World) → Epochs r (Epoch r c) (history r w xs) k v → gone_epochs ≤ k
    → (b : ℕ) → b < r.nodes → (b ≡ c → ⊥) → i < (r.settings b).layout.nhosts → up (entry_of r v b i) ≡ false
