-- LIVE-6: total correctness. After one round more than the network is wide every table is right, and stays right.
use Rattle.std.specs.Prelude.{◌≡◌, true, List, ℕ, suc, ◌*◌, ◌≤◌, ◌<◌, pos, ◌-ℤ◌, nat_abs}
use Rattle.table.specs.Entry.{up}
use Rattle.network_laws.specs.Network.{Network, HostAt, Proper}
use Rattle.network_laws.specs.Slots.{EverySlot}
use Rattle.network_laws.specs.Demand3.{Step, World, Starts, entry_of}
use Rattle.liveness_laws.specs.Numbers.{rise, quick_way, ways_below}
use Rattle.liveness_laws.specs.Seconds.{emptied}
use Rattle.liveness_laws.specs.Numbers.{half_millis}
use Rattle.liveness_laws.specs.Hops.{Hops, Shortest, Via, Width}
use Rattle.liveness_laws.specs.Rounds.{Underway, Rounds, meanwhile}
use Rattle.liveness_laws.specs.Order.{Begun, OrderedRounds}
use Rattle.liveness_laws.specs.OrderClaim.{SettledOn, moment}

-- LIVE-6: id i of host c is right in the table of host b: up, with the length of a shortest way, a PID along it, and an OFFSET that is right to 50.5 ms a cable
pub record Listed (r : Network) (v : World) (b i c : ℕ) : Type 0 where
  pub is_up : up (entry_of r v b i) ≡ true
  pub hops : ℕ
  pub way : Hops r c b hops
  pub shortest : Shortest r c b hops
  pub delay : (entry_of r v b i).delay.0 ≡ pos (rise * hops)
  pub pid : Via r c b (entry_of r v b i).pid hops
  pub offset : 2 * nat_abs ((entry_of r v b i).offset.0 -ℤ (r.fixed c -ℤ r.fixed b)) ≤ half_millis * hops

-- LIVE-6: a host of the network that has the id
pub record HostOf (r : Network) (i : ℕ) : Type 0 where
  pub host : ℕ
  pub host_in : host < r.nodes
  pub host_there : HostAt r i host

-- LIVE-6: every table lists exactly the ids of the hosts of the network
pub record Correct (r : Network) (v : World) : Type 0 where
  pub every_host : (b i c : ℕ) → b < r.nodes → c < r.nodes → i < (r.settings b).layout.nhosts → HostAt r i c → Listed r v b i c
  pub no_other : (b i : ℕ) → b < r.nodes → i < (r.settings b).layout.nhosts → up (entry_of r v b i) ≡ true → HostOf r i

-- LIVE-6: rounds in any order: at every moment after more rounds than the network is wide, and neither DELAY nor PID changes again
pub record StaysCorrect (r : Network) (v : World) (xs : List Step) : Type 0 where
  pub correct : Correct r (moment r v xs)
  pub settled : (b i c : ℕ) → b < r.nodes → c < r.nodes → i < (r.settings b).layout.nhosts → HostAt r i c → (h : ℕ) × Hops r c b h × SettledOn r (emptied v) b i h xs

-- LIVE-6: both kinds of rounds
pub record TotalCorrectness : Type 0 where
  pub any_order : (r : Network) → Proper r → r.longest ≤ quick_way → EverySlot r → (d : ℕ) → Width r d → d < ways_below → (w : World) → Starts r w
      → (k : ℕ) (v : World) → OrderedRounds r w k v → d < k → (xs : List Step) → Begun r v xs → StaysCorrect r v xs
  -- rounds in which all hosts send before any host hears: after each of them, and at every moment of the next
  pub in_rounds : (r : Network) → Proper r → r.longest ≤ quick_way → EverySlot r → (d : ℕ) → Width r d → d < ways_below → (w : World) → Starts r w
      → (k : ℕ) (v : World) → Rounds r w (suc k) v → d ≤ k → Correct r v × ((xs ys : List Step) → Underway r v xs ys → Correct r (meanwhile r v xs ys))
