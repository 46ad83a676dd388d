-- LIVE-2: after k + 1 rounds every table has exactly the hosts up to k cables away, with a DELAY of 100 ms a cable and a PID along a shortest way.
use Rattle.std.specs.Prelude.{◌≡◌, true, List, ℕ, suc, ◌*◌, ◌≤◌, ◌<◌, pos, ◌≤ℤ◌}
use Rattle.table.specs.Entry.{up}
use Rattle.network_laws.specs.Network.{Network, HostAt, Proper}
use Rattle.network_laws.specs.Slots.{EverySlot}
use Rattle.network_laws.specs.Demand3.{Step, World, Starts, entry_of}
use Rattle.liveness_laws.specs.Numbers.{rise, quick_way, ways_below}
use Rattle.liveness_laws.specs.Hops.{Hops, Shortest, Via}
use Rattle.liveness_laws.specs.Rounds.{Underway, Rounds, meanwhile}

-- LIVE-2: the entry is up, with a DELAY of at most h cables
pub record Shown (r : Network) (v : World) (b i h : ℕ) : Type 0 where
  pub is_up : up (entry_of r v b i) ≡ true
  pub near : (entry_of r v b i).delay.0 ≤ℤ pos (rise * h)

-- LIVE-2: the entry of id i at host b is right after k + 1 rounds: its DELAY is 100 ms for each cable of a shortest way, along which its PID leads
pub record Exact (r : Network) (v : World) (k b i : ℕ) : Type 0 where
  pub node : ℕ
  pub node_in : node < r.nodes
  pub host_there : HostAt r i node
  pub hops : ℕ
  pub way : Hops r node b hops
  pub shortest : Shortest r node b hops
  pub in_time : hops ≤ k
  pub delay : (entry_of r v b i).delay.0 ≡ pos (rise * hops)
  pub pid : Via r node b (entry_of r v b i).pid hops

-- LIVE-2: after k + 1 rounds, and at every moment of the next: DELAY never changes again, and PID stays along a shortest way
pub record Filled (r : Network) (v : World) (k b i : ℕ) : Type 0 where
  pub complete : (c h : ℕ) → c < r.nodes → HostAt r i c → Hops r c b h → h ≤ k → h < ways_below → Shown r v b i h
  pub exact : up (entry_of r v b i) ≡ true → Exact r v k b i
  pub complete_on : (xs ys : List Step) → Underway r v xs ys → (c h : ℕ) → c < r.nodes → HostAt r i c → Hops r c b h → h ≤ k → h < ways_below → Shown r (meanwhile r v xs ys) b i h
  pub exact_on : (xs ys : List Step) → Underway r v xs ys → up (entry_of r (meanwhile r v xs ys) b i) ≡ true → Exact r (meanwhile r v xs ys) (suc k) b i

-- LIVE-2: for every network with messages of at most 50 ms, every start and all such rounds
unfoldable pub TablesFill : Type 0
TablesFill =
    (r : Network) → Proper r → r.longest ≤ quick_way → EverySlot r → (w : World) → Starts r w → (k : ℕ) (v : World) → Rounds r w (suc k) v
    → (b i : ℕ) → b < r.nodes → i < (r.settings b).layout.nhosts → Filled r v k b i
