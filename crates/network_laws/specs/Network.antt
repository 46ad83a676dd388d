-- ROOM-1 to ROOM-3, ROOM-7: the network of demand 3.
use Rattle.std.specs.Prelude.{◌≡◌, true, false, List, ℕ, ◌≤◌, ◌<◌, ℤ, ◌-ℤ◌, nat_abs}
use Rattle.answer.specs.declared.Answer.TheVariants.{Done}
use Rattle.clock.specs.declared.Clock.{Clock}
use Rattle.route.specs.Find.{same_net}
use Rattle.net_table.specs.declared.NetTable.{NetTable}
use Rattle.table.specs.declared.Entry.{Entry}
use Rattle.table.specs.Marks.{marked}
use Rattle.host.specs.declared.Settings.{Settings}
use Rattle.host.specs.declared.Links.{Links}
use Rattle.host.specs.Settings.{clock_setting_off}
use Rattle.host.specs.declared.walk.Walk.{Walk}
use Rattle.host.specs.State.{broadcast, no_link}
use Rattle.host.specs.CallState.{CallState, call_state}
use Rattle.calls.specs.declared.Request.TheVariants.{Initialize}
use Rattle.calls.specs.Perform.{ask, Outcome, perform}

-- ROOM-3: the other end of a link's cable: none, or a link of a host
pub data End : Type 0 where
  loose : End
  at : (node link : ℕ) → End

-- ---- the demand's numbers

-- ROOM-7: the most that two fixed numbers differ
abbrev pub clock_spread : ℕ
clock_spread = 16384

-- ROOM-8: the longest time of a message
abbrev pub longest_way : ℕ
longest_way = 16383

-- ROOM-9: the bound is 101 ..
abbrev pub error_parts : ℕ
error_parts = 101

-- ROOM-9: .. of 200 parts of DELAY
abbrev pub delay_parts : ℕ
delay_parts = 200

-- ---- the network

-- ROOM-1, ROOM-3: hosts with numbers, settings and fixed numbers, cables, and the state before initialize. `cable` has one other end for each link.
pub record Network : Type 0 where
  pub nodes : ℕ
  pub number : ℕ → ℕ
  pub settings : ℕ → Settings
  pub fixed : ℕ → ℤ
  pub cable : (node link : ℕ) → End
  pub longest : ℕ
  -- ROOM-1: everything that initialize of each host took
  pub nets : ℕ → NetTable
  pub clock : ℕ → Clock
  pub links : ℕ → Links
  pub walk : ℕ → Walk
  pub copy : ℕ → List ℕ
  pub entries : ℕ → List Entry

-- ROOM-5: everything that a call at a host takes
abbrev pub state_at : Network → (node : ℕ) → NetTable → Clock → Links → Walk → (copy : List ℕ) → List Entry → CallState
state_at r a nets c l walk copy entries = call_state (r.settings a) nets (r.number a) c l walk copy entries

-- ROOM-1: the initialize of a host
abbrev pub initialized : Network → ℕ → Outcome
initialized r a = perform (ask Initialize) (state_at r a (r.nets a) (r.clock a) (r.links a) (r.walk a) (r.copy a) (r.entries a))

-- MARK-5, ROOM-2: an id's host is at the host that marks it
abbrev pub HostAt : Network → (id node : ℕ) → Type 0
HostAt r i a = marked (r.settings a).marks i ≡ true

-- ROOM-3: a cable joins point-to-point links of two different hosts
pub record Cabled (r : Network) (a i b j : ℕ) : Type 0 where
  pub node_in : a < r.nodes
  pub link_in : no_link (r.settings a) i ≡ false
  pub point_to_point : broadcast (r.settings a) i ≡ false
  pub two_nodes : a ≡ b → ⊥
  pub other_end : r.cable b j ≡ at a i

-- ROOM-1, ROOM-2, ROOM-3, ROOM-7: the conditions on a network
pub record Proper (r : Network) : Type 0 where
  -- ROOM-1: up to sixteen hosts with different numbers, each initialized with answer 0
  pub sixteen : r.nodes ≤ 16
  pub numbers_differ : (a b : ℕ) → a < r.nodes → b < r.nodes → r.number a ≡ r.number b → a ≡ b
  pub was_initialized : (a : ℕ) → a < r.nodes → (initialized r a).reply.answer ≡ Done
  -- ROOM-2: all LOCAL-ADDRESSes are on one net
  pub one_net : (a b : ℕ) → a < r.nodes → b < r.nodes → same_net (r.settings a).address (r.settings b).address ≡ true
  -- ROOM-2, MARK-5: no id is marked at two hosts
  pub marked_once : (a b id : ℕ) → a < r.nodes → b < r.nodes → HostAt r id a → HostAt r id b → a ≡ b
  -- ROOM-2: ADDRESS-OFFSET and NHOSTS are the same at all
  pub one_layout : (a b : ℕ) → a < r.nodes → b < r.nodes → (r.settings a).layout ≡ (r.settings b).layout
  -- ROOM-1: clock setting is off
  pub setting_off : (a : ℕ) → a < r.nodes → (r.settings a).clock_host ≡ clock_setting_off
  -- ROOM-7: the fixed numbers are near each other
  pub fixed_near : (a b : ℕ) → a < r.nodes → b < r.nodes → nat_abs (r.fixed a -ℤ r.fixed b) ≤ clock_spread
  -- ROOM-3: each cable joins two links
  pub cables : (a i b j : ℕ) → r.cable a i ≡ at b j → Cabled r a i b j
