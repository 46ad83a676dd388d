-- LIVE-7: a host that does not report itself. It may be heard, yet its ids fade from every table, its own too.
use Rattle.std.specs.Prelude.{◌≡◌, true, false, List, ℕ, suc, ◌*◌, ◌≤◌, ◌<◌, pos, ◌≤ℤ◌}
use Rattle.table.specs.Entry.{up}
use Rattle.network_laws.specs.Network.{longest_way, Network, HostAt, Proper}
use Rattle.network_laws.specs.Demand3.{Step, World, history, Allows, Starts, entry_of}
use Rattle.liveness_laws.specs.Numbers.{rise, epoch_seconds, gone_epochs}
use Rattle.liveness_laws.specs.Seconds.{emptied, seconds_at}
use Rattle.liveness_laws.specs.Rounds.{Reported}
use Rattle.liveness_laws.specs.Silence.{Epochs}

-- LIVE-7: an epoch: no self-report of host c is answered 0, and every host has its 120 seconds, c too
pub record UnreportedEpoch (r : Network) (c : ℕ) (w : World) (xs : List Step) : Type 0 where
  pub allowed : Allows r (emptied w) xs
  pub unreported : Reported r (emptied w) c xs → ⊥
  pub long : (b : ℕ) → b < r.nodes → epoch_seconds ≤ seconds_at r (emptied w) b xs

-- LIVE-7: after k epochs each id of host c is, in every table, down or at a DELAY of at least 100 k ms
unfoldable pub UnreportedHostFades : Type 0
UnreportedHostFades =
    (r : Network) → Proper r → r.longest ≤ longest_way → (w : World) → Starts r w → (xs : List Step) → Allows r w xs
    → (c i : ℕ) → c < r.nodes → HostAt r i c → (k : ℕ) (v : World) → Epochs r (UnreportedEpoch r c) (history r w xs) k v
    → (b : ℕ) → b < r.nodes → i < (r.settings b).layout.nhosts → up (entry_of r v b i) ≡ true
    → pos (rise * k) ≤ℤ (entry_of r v b i).delay.0

-- LIVE-7: after 300 epochs it is down
unfoldable pub UnreportedHostGone : Type 0
UnreportedHostGone =
    (r : Network) → Proper r → r.longest ≤ longest_way → (w : World) → Starts r w → (xs : List Step) → Allows r w xs
    → (c i : ℕ) → c < r.nodes → HostAt r i c → (k : ℕ) (v : World) → Epochs r (UnreportedEpoch r c) (history r w xs) k v → suc gone_epochs ≤ k
    → (b : ℕ) → b < r.nodes → i < (r.settings b).layout.nhosts → up (entry_of r v b i) ≡ false
