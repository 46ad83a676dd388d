-- MARK-5: demand 3 names some host that marks the id of a live entry; it is the only one.
use Rattle.std.specs.Prelude.{◌≡◌, true, List, ℕ, ◌*◌, ◌≤◌, ◌<◌, pos, ◌-ℤ◌, ◌*ℤ◌, nat_abs, ◌≤ℤ◌}
use Rattle.table.specs.declared.Entry.{Entry}
use Rattle.table.specs.Entry.{up}
use Rattle.host.specs.Settings.{own_id}
use Rattle.network_laws.specs.Network.{longest_way, error_parts, delay_parts, Network, HostAt, Proper}
use Rattle.network_laws.specs.Demand3.{Step, World, history, Allows, Starts, entry_of}

-- MARK-5: OFFSET of an entry at host b is right by host a
abbrev pub RightBy : Network → (a b : ℕ) → Entry → Type 0
RightBy r a b e = pos (delay_parts * nat_abs (e.offset.0 -ℤ (r.fixed a -ℤ r.fixed b))) ≤ℤ (e.delay.0 *ℤ pos error_parts)

-- MARK-5: what follows if each id is marked at no more than one host
pub record MarkedOnce : Type 0 where
  -- MARK-5: then the own ids differ
  pub own_ids_differ : (r : Network) → Proper r → (a b : ℕ) → a < r.nodes → b < r.nodes → own_id (r.settings a) ≡ own_id (r.settings b) → a ≡ b
  -- MARK-5, ROOM-9: a live entry is right by the host that marks its id
  pub true_difference :
      (r : Network) → Proper r → r.longest ≤ longest_way → (w : World) → Starts r w → (xs : List Step) → Allows r w xs
      → (a b i : ℕ) → a < r.nodes → b < r.nodes → i < (r.settings b).layout.nhosts → HostAt r i a → up (entry_of r (history r w xs) b i) ≡ true
      → RightBy r a b (entry_of r (history r w xs) b i)
