-- A send at a host, as an event makes it: its precondition, and the state after it.
use Rattle.std.specs.Prelude.{◌≡◌, cond, List, ℕ, ◌+◌, ◌*◌, ◌≤◌, ◌<◌, length, get_or, set}
use Rattle.lists.specs.Lists.{part}
use Rattle.net_table.specs.declared.NetTable.{NetTable}
use Rattle.table.specs.declared.Entry.{Entry}
use Rattle.host.specs.declared.Reply.{Reply}
use Rattle.host.specs.Guard.{longest, done}
use Rattle.host.specs.CallState.{call_state}
use Rattle.calls.specs.Perform.{Outcome, send, perform}
use Rattle.bench_file.specs.Header.{most_cables}
use Rattle.bench_file.specs.Absent as file
use Rattle.bench.specs.declared.HostState.{HostState}
use Rattle.bench.specs.declared.sends.Sending.{Sending}
use Rattle.bench.specs.Slots.{slot_length, room_of, with_room, with_label}

pub record SendFits (w : Sending) (hosts : List HostState) (copies slots : List ℕ) : Type 0 where
  pub host : w.host ≤ 15
  pub there : w.host < length hosts
  pub copy : longest * w.host + longest ≤ length copies
  pub cable : w.cable < most_cables
  pub side : w.side ≤ 1
  pub slot : w.slot < file.slots
  pub room : slot_length * file.slots ≤ length slots

-- the label of what was sent; a refused send keeps the old one
abbrev pub labelled : Sending → Reply → List ℕ → List ℕ
labelled w r octets = cond (done r.answer) (with_label w.slot r.length w.cable w.side octets) octets

module _ (w : Sending) (t : NetTable) (hosts : List HostState) (copies : List ℕ) (entries : List Entry) (slots : List ℕ) (d : HostState) where
  -- the default state of the host
  abbrev pub state_of : HostState
  state_of = get_or hosts w.host d

  abbrev pub outcome_of : Outcome
  outcome_of =
      perform (send w.link w.counter (room_of w.slot slots))
      (call_state w.settings t w.host state_of.clock state_of.links state_of.walk (part (longest * w.host) longest copies) entries)

  -- the message in its slot, and its label where it was sent
  abbrev pub slots_of : List ℕ
  slots_of =
      labelled w outcome_of.reply (with_room w.slot outcome_of.buffer slots)

pub record SendDone (w : Sending) (t : NetTable) (hosts : List HostState) (copies : List ℕ) (entries : List Entry) (before : List ℕ) (hosts' : List HostState) (slots' : List ℕ) (r : Reply) (d : HostState) : Type 0 where
  pub states : hosts' ≡ set hosts w.host record { clock = (outcome_of w t hosts copies entries before d).clock; links = (outcome_of w t hosts copies entries before d).links; walk = (outcome_of w t hosts copies entries before d).walk }
  pub slots : slots' ≡ slots_of w t hosts copies entries before d
  pub reply : r ≡ (outcome_of w t hosts copies entries before d).reply

-- for every default state of an absent host
abbrev pub SendLeaves : Sending → NetTable → List HostState → (copies : List ℕ) → List Entry → (slots : List ℕ) → List HostState → (slots' : List ℕ) → Reply → Type 0
SendLeaves w t hosts copies entries slots hosts' slots' r = (d : HostState) → SendDone w t hosts copies entries slots hosts' slots' r d

-- the contract, over the parameters
abbrev pub DoesSend : Sending → NetTable → List HostState → (copies : List ℕ) → List Entry → (slots : List ℕ) → Reply → List HostState → (slots' : List ℕ) → Type 0
DoesSend w nets hosts copies entries slots r hosts' slots' = SendLeaves w nets hosts copies entries slots hosts' slots' r
