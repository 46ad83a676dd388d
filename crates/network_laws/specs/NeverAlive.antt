-- MARK-5: an id that no host marks is down in every table.
use Rattle.std.specs.Prelude.{◌≡◌, false, List, ℕ, ◌≤◌, ◌<◌}
use Rattle.table.specs.Entry.{up}
use Rattle.network_laws.specs.Network.{longest_way, Network, HostAt, Proper}
use Rattle.network_laws.specs.Demand3.{Step, World, history, Allows, Starts, entry_of}

-- MARK-5: for every network and allowed list
unfoldable pub NeverAlive : Type 0
NeverAlive =
    (r : Network) → Proper r → r.longest ≤ longest_way → (w : World) → Starts r w → (xs : List Step) → Allows r w xs
    → (i : ℕ) → ((a : ℕ) → a < r.nodes → HostAt r i a → ⊥)
    → (b : ℕ) → b < r.nodes → i < (r.settings b).layout.nhosts → up (entry_of r (history r w xs) b i) ≡ false
