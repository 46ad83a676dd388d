-- ROOM-10, TABLE-8: demand 3 for one host table that all hosts share.
use Rattle.std.specs.Prelude.{◌≡◌, true, List, [], ◌∷◌, ℕ, suc, ◌≤◌, ◌<◌, get_or}
use Rattle.net_table.specs.declared.NetTable.{NetTable}
use Rattle.table.specs.declared.Entry.{Entry}
use Rattle.table.specs.Entry.{fresh_entry, up}
use Rattle.host.specs.declared.Links.{Links}
use Rattle.network_laws.specs.Locality.{own_links, walk_packet}
use Rattle.network_laws.specs.History.{places}
use Rattle.network_laws.specs.Network.{longest_way, Network, initialized, Proper}
use Rattle.network_laws.specs.Demand3.{NetworkCall, Step, World, after_at, result, step, Timely, Starts, Right}

-- ROOM-4: a call at a host; the host table is the shared one
pub record SharedStep : Type 0 where
  pub node : ℕ
  pub nets : NetTable
  pub links : Links
  pub copy : List ℕ
  pub call : NetworkCall

-- ROOM-5: the network, and the one host table
pub record SharedWorld : Type 0 where
  pub world : World
  pub entries : List Entry

-- ROOM-5: the call with the shared host table
abbrev pub call_state : SharedWorld → SharedStep → Step
call_state w x = record { node = x.node; nets = x.nets; links = x.links; copy = x.copy; entries = w.entries; call = x.call }

-- ROOM-10: the network after a call
unfoldable pub shared_step : Network → SharedWorld → SharedStep → SharedWorld
shared_step r w x = record { world = step r w.world (call_state w x); entries = (result r w.world (call_state w x)).entries }

-- ROOM-10: the network after a list of calls
unfoldable pub shared_history : Network → SharedWorld → List SharedStep → SharedWorld
shared_history r w [] = w
shared_history r w (x ∷ xs) = shared_history r (shared_step r w x) xs

-- ROOM-5: a call that is allowed; that its entries are the host's own is a fact now, not a condition
pub record SharedAllowed (r : Network) (w : SharedWorld) (x : SharedStep) : Type 0 where
  pub node_in : x.node < r.nodes
  pub own_links_lem : own_links (r.settings x.node) x.links ≡ own_links (r.settings x.node) (after_at r w.world x.node).links
  pub own_packet : walk_packet (after_at r w.world x.node).walk x.copy ≡ walk_packet (after_at r w.world x.node).walk (after_at r w.world x.node).copy
  pub timely : Timely r w.world x.node (result r w.world (call_state w x)) x.call

-- ROOM-5: each call of a list is allowed
unfoldable pub SharedAllows : Network → SharedWorld → List SharedStep → Type 0
SharedAllows r w [] = Unit {0}
SharedAllows r w (x ∷ xs) = SharedAllowed r w x × SharedAllows r (shared_step r w x) xs

-- ROOM-1: the hosts are initialized one after another in the one host table
pub record OneTable (r : Network) (w : SharedWorld) : Type 0 where
  pub starts : Starts r w.world
  pub in_turn_lem : (a : ℕ) → suc a < r.nodes → r.entries (suc a) ≡ (initialized r a).entries
  pub last_after_lem : (a : ℕ) → suc a ≡ r.nodes → w.entries ≡ (initialized r a).entries

-- ROOM-9: the entry of id i at host b
abbrev pub shared_entry : Network → SharedWorld → (b i : ℕ) → Entry
shared_entry r w b i = get_or (places (r.number b) w.entries) i fresh_entry

-- ROOM-10, ROOM-9: for every network, start and allowed list
unfoldable pub SharedDemand3 : Type 0
SharedDemand3 =
    (r : Network) → Proper r → r.longest ≤ longest_way → (w : SharedWorld) → OneTable r w → (xs : List SharedStep) → SharedAllows r w xs
    → (b i : ℕ) → b < r.nodes → i < (r.settings b).layout.nhosts → up (shared_entry r (shared_history r w xs) b i) ≡ true
    → Right r b i (shared_entry r (shared_history r w xs) b i)
