-- An arrival at a host, as an event makes it: its precondition, and the state after it.
use Rattle.std.specs.Prelude.{◌≡◌, List, ℕ, ◌+◌, ◌*◌, ◌≤◌, ◌<◌, length, get_or, set}
use Rattle.lists.specs.Lists.{part}
use Rattle.net_table.specs.declared.NetTable.{NetTable}
use Rattle.table.specs.declared.Entry.{Entry}
use Rattle.host.specs.declared.Reply.{Reply}
use Rattle.host.specs.Guard.{longest}
use Rattle.host.specs.CallState.{CallState, call_state}
use Rattle.calls.specs.Perform.{Outcome, inspect, act, perform, in_turn}
use Rattle.bench_file.specs.Absent as file
use Rattle.bench.specs.declared.HostState.{HostState}
use Rattle.bench.specs.declared.takes.Taking.{Taking}
use Rattle.bench.specs.Slots.{slot_length, room_place}

pub record TakeFits (w : Taking) (hosts : List HostState) (copies slots : List ℕ) : Type 0 where
  pub host : w.host ≤ 15
  pub there : w.host < length hosts
  pub copy : longest * w.host + longest ≤ length copies
  pub slot : w.slot < file.slots
  pub size : w.size ≤ longest
  pub room : slot_length * file.slots ≤ length slots

module _ (w : Taking) (t : NetTable) (hosts : List HostState) (copies : List ℕ) (entries : List Entry) (slots : List ℕ) (d : HostState) where
  -- the default state of the host
  abbrev pub state_of : HostState
  state_of = get_or hosts w.host d

  -- the host, and the packet of the slot
  abbrev pub host_of : CallState
  host_of = call_state w.settings t w.host state_of.clock state_of.links state_of.walk (part (longest * w.host) longest copies) entries

  abbrev pub packet : List ℕ
  packet = part (room_place w.slot) w.size slots

-- ---- the action

module _ (w : Taking) (o : Outcome) (hosts hosts' : List HostState) (entries' : List Entry) (r : Reply) where
  -- what is written and returned is an outcome's
  pub record TakeDone : Type 0 where
    pub states : hosts' ≡ set hosts w.host record { clock = o.clock; links = o.links; walk = o.walk }
    pub own_entries : entries' ≡ o.entries
    pub reply : r ≡ o.reply

-- ---- for every default state of an absent host

abbrev pub LookLeaves : Taking → NetTable → List HostState → (copies : List ℕ) → List Entry → (slots : List ℕ) → Reply → Type 0
LookLeaves w t hosts copies entries slots r =
    (d : HostState) → r ≡ (perform (inspect w.link (packet w t hosts copies entries slots d)) (host_of w t hosts copies entries slots d)).reply

abbrev pub ActLeaves : Taking → NetTable → List HostState → (copies : List ℕ) → List Entry → (slots : List ℕ) → List HostState → List Entry → Reply → Type 0
ActLeaves w t hosts copies entries slots hosts' entries' r =
    (d : HostState) → TakeDone w (perform (act w.link w.counter (packet w t hosts copies entries slots d)) (host_of w t hosts copies entries slots d)) hosts hosts' entries' r

-- the inspection and then the action
abbrev pub TakeLeaves : Taking → NetTable → List HostState → (copies : List ℕ) → List Entry → (slots : List ℕ) → List HostState → List Entry → Reply → Type 0
TakeLeaves w t hosts copies entries slots hosts' entries' r =
    (d : HostState) → TakeDone w (in_turn w.link w.counter (packet w t hosts copies entries slots d) (host_of w t hosts copies entries slots d)) hosts hosts' entries' r

-- ---- the contracts, over the parameters

module _ (w : Taking) (nets : NetTable) (hosts : List HostState) (copies : List ℕ) (entries : List Entry) (slots : List ℕ) where
  abbrev pub DoesLook : Reply → Type 0
  DoesLook r = LookLeaves w nets hosts copies entries slots r

  abbrev pub DoesAct : Reply → List HostState → List Entry → Type 0
  DoesAct r hosts' entries' = ActLeaves w nets hosts copies entries slots hosts' entries' r

  abbrev pub DoesTake : Reply → List HostState → List Entry → Type 0
  DoesTake r hosts' entries' = TakeLeaves w nets hosts copies entries slots hosts' entries' r
