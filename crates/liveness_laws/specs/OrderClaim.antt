-- LIVE-3: the claim, at every moment after k rounds. A DELAY may be longer at first, and then falls; it never rises.
use Rattle.std.specs.Prelude.{◌≡◌, true, List, [], ◌∷◌, ◌⊎◌, ℕ, suc, ◌*◌, ◌≤◌, ◌<◌, pos, ◌+ℤ◌, ◌≤ℤ◌}
use Rattle.table.specs.Entry.{up}
use Rattle.network_laws.specs.Network.{Network, at, HostAt, Proper}
use Rattle.network_laws.specs.Slots.{EverySlot}
use Rattle.network_laws.specs.Demand3.{Step, World, step, history, Starts, entry_of}
use Rattle.liveness_laws.specs.Numbers.{rise, quick_way, ways_below}
use Rattle.liveness_laws.specs.Seconds.{emptied}
use Rattle.liveness_laws.specs.Hops.{Hops, Shortest}
use Rattle.liveness_laws.specs.TablesFill.{Shown}
use Rattle.liveness_laws.specs.Order.{Begun, OrderedRounds}

-- LIVE-3: a moment of the next round: after the calls xs
abbrev pub moment : Network → World → List Step → World
moment r v xs = history r (emptied v) xs

-- LIVE-3: an entry that is up: its DELAY is exactly 100 ms a cable, of some way to the host that has the id
pub record Measured (r : Network) (v : World) (b i : ℕ) : Type 0 where
  pub node : ℕ
  pub node_in : node < r.nodes
  pub host_there : HostAt r i node
  pub hops : ℕ
  pub way : Hops r node b hops
  pub delay : (entry_of r v b i).delay.0 ≡ pos (rise * hops)

-- LIVE-3: if its PID is not 0, the host at that cable's other end has the entry up too, with a DELAY that is at least 100 ms less
pub record Leads (r : Network) (v : World) (b i : ℕ) : Type 0 where
  pub node : ℕ
  pub link : ℕ
  pub cable : r.cable b (entry_of r v b i).pid ≡ at node link
  pub is_up : up (entry_of r v node i) ≡ true
  pub less : ((entry_of r v node i).delay.0 +ℤ pos rise) ≤ℤ (entry_of r v b i).delay.0

-- LIVE-3: `count` PIDs lead from a host to host c
pub data Follows (r : Network) (v : World) (i c : ℕ) : (node count : ℕ) → Type 0 where
  here : Follows r v i c c 0
  on : {b d l n : ℕ} → up (entry_of r v b i) ≡ true → ((entry_of r v b i).pid ≡ 0 → ⊥) → r.cable b (entry_of r v b i).pid ≡ at d l → Follows r v i c d n → Follows r v i c b (suc n)

-- LIVE-3: they lead to the host that has the id, with at least 100 ms of DELAY for each
pub record Led (r : Network) (v : World) (b i : ℕ) : Type 0 where
  pub node : ℕ
  pub node_in : node < r.nodes
  pub host_there : HostAt r i node
  pub count : ℕ
  pub follows : Follows r v i node b count
  pub few : pos (rise * count) ≤ℤ (entry_of r v b i).delay.0

-- LIVE-3: by one call an entry does not go down, its DELAY does not rise, and its PID changes only if DELAY falls by at least 100 ms
pub record Stays (r : Network) (w v : World) (b i : ℕ) : Type 0 where
  pub is_up : up (entry_of r v b i) ≡ true
  pub no_longer : (entry_of r v b i).delay.0 ≤ℤ (entry_of r w b i).delay.0
  pub turns : ((entry_of r v b i).pid ≡ (entry_of r w b i).pid) ⊎ (((entry_of r v b i).delay.0 +ℤ pos rise) ≤ℤ (entry_of r w b i).delay.0)

-- LIVE-3: .. by each call of a list
unfoldable pub StaysOn : (r : Network) (w : World) (b i : ℕ) → List Step → Type 0
StaysOn r w b i [] = Unit {0}
StaysOn r w b i (x ∷ xs) = (up (entry_of r w b i) ≡ true → Stays r w (step r w x) b i) × StaysOn r (step r w x) b i xs

-- LIVE-3: it has the DELAY of h cables before and after a call, and the same PID
pub record Settled (r : Network) (w v : World) (b i h : ℕ) : Type 0 where
  pub delay : (entry_of r w b i).delay.0 ≡ pos (rise * h)
  pub delay_then : (entry_of r v b i).delay.0 ≡ pos (rise * h)
  pub same_pid : (entry_of r v b i).pid ≡ (entry_of r w b i).pid

-- LIVE-3: at each call of a list
unfoldable pub SettledOn : (r : Network) (w : World) (b i h : ℕ) → List Step → Type 0
SettledOn r w b i h [] = Unit {0}
SettledOn r w b i h (x ∷ xs) = Settled r w (step r w x) b i h × SettledOn r (step r w x) b i h xs

-- LIVE-3: at every moment after k rounds: each host less than k cables away is in the table, with the DELAY of its shortest way.
pub record OrderClaim (r : Network) (k : ℕ) (v : World) (xs : List Step) (b i : ℕ) : Type 0 where
  pub there : (c h : ℕ) → c < r.nodes → HostAt r i c → Hops r c b h → h < k → h < ways_below → Shown r (moment r v xs) b i h
  pub measured : up (entry_of r (moment r v xs) b i) ≡ true → Measured r (moment r v xs) b i
  pub leads : up (entry_of r (moment r v xs) b i) ≡ true → ((entry_of r (moment r v xs) b i).pid ≡ 0 → ⊥) → Leads r (moment r v xs) b i
  pub led : up (entry_of r (moment r v xs) b i) ≡ true → Led r (moment r v xs) b i
  -- PIDs form no loop
  pub no_loop : (n : ℕ) → Follows r (moment r v xs) i b b (suc n) → ⊥
  pub stays : StaysOn r (emptied v) b i xs
  -- the entry of a host less than k cables away changes neither DELAY nor PID any more
  pub settled : (c h : ℕ) → c < r.nodes → HostAt r i c → Hops r c b h → Shortest r c b h → h < k → h < ways_below → SettledOn r (emptied v) b i h xs

-- LIVE-3: for every network with messages of at most 50 ms, every start and all such rounds
unfoldable pub AnyOrder : Type 0
AnyOrder =
    (r : Network) → Proper r → r.longest ≤ quick_way → EverySlot r
    → (w : World) → Starts r w → (k : ℕ) (v : World) → OrderedRounds r w k v → (xs : List Step) → Begun r v xs
    → (b i : ℕ) → b < r.nodes → i < (r.settings b).layout.nhosts → OrderClaim r k v xs b i
