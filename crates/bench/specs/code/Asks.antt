-- A request at a host, as an event makes it: its precondition, and the state after it.
use Rattle.std.specs.Prelude.{◌≡◌, List, ℕ, ◌+◌, ◌*◌, ◌≤◌, ◌<◌, length, get_or, set}
use Rattle.lists.specs.Lists.{part}
use Rattle.net_table.specs.declared.NetTable.{NetTable}
use Rattle.table.specs.declared.Entry.{Entry}
use Rattle.host.specs.declared.Reply.{Reply}
use Rattle.host.specs.Guard.{longest}
use Rattle.host.specs.CallState.{call_state}
use Rattle.calls.specs.Perform.{Outcome, ask, perform}
use Rattle.bench.specs.declared.HostState.{HostState}
use Rattle.bench.specs.declared.requests.Ask.{Ask}

pub record AskFits (w : Ask) (hosts : List HostState) (copies : List ℕ) : Type 0 where
  pub host : w.host ≤ 15
  pub there : w.host < length hosts
  pub copy : longest * w.host + longest ≤ length copies

module _ (w : Ask) (t : NetTable) (hosts : List HostState) (copies : List ℕ) (entries : List Entry) (d : HostState) where
  -- the default state of the host
  abbrev pub state_of : HostState
  state_of = get_or hosts w.host d

  abbrev pub outcome_of : Outcome
  outcome_of =
      perform (ask w.request)
      (call_state w.settings t w.host state_of.clock state_of.links state_of.walk (part (longest * w.host) longest copies) entries)

pub record AskDone (w : Ask) (t : NetTable) (hosts : List HostState) (copies : List ℕ) (entries : List Entry) (hosts' : List HostState) (entries' : List Entry) (r : Reply) (d : HostState) : Type 0 where
  pub states : hosts' ≡ set hosts w.host record { clock = (outcome_of w t hosts copies entries d).clock; links = (outcome_of w t hosts copies entries d).links; walk = (outcome_of w t hosts copies entries d).walk }
  pub own_entries : entries' ≡ (outcome_of w t hosts copies entries d).entries
  pub reply : r ≡ (outcome_of w t hosts copies entries d).reply

-- for every default state of an absent host
abbrev pub AskLeaves : Ask → NetTable → List HostState → (copies : List ℕ) → List Entry → List HostState → List Entry → Reply → Type 0
AskLeaves w t hosts copies entries hosts' entries' r = (d : HostState) → AskDone w t hosts copies entries hosts' entries' r d

-- the contract, over the parameters
abbrev pub DoesAsk : Ask → NetTable → List HostState → (copies : List ℕ) → List Entry → Reply → List HostState → List Entry → Type 0
DoesAsk w nets hosts copies entries r hosts' entries' = AskLeaves w nets hosts copies entries hosts' entries' r
