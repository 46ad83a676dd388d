-- NET-10: demand 1 for a class: the calls of its hosts and the tutor's in one list.
use Rattle.std.specs.Prelude.{◌≡◌, cond, List, [], ◌∷◌, ℕ, eqb, length}
use Rattle.clock.specs.declared.Clock.{Clock}
use Rattle.route.specs.declared.Net.{Net}
use Rattle.net_table.specs.declared.NetTable.{NetTable}
use Rattle.net_table.specs.Tutor.{initialize_table, add, remove, change}
use Rattle.table.specs.declared.Entry.{Entry}
use Rattle.host.specs.declared.Settings.{Settings}
use Rattle.host.specs.declared.Links.{Links}
use Rattle.host.specs.declared.walk.Walk.{Walk}
use Rattle.host.specs.CallState.{call_state}
use Rattle.calls.specs.Perform.{Call}
use Rattle.network_laws.specs.HostAfter.{Returned, returned}
use Rattle.network_laws.specs.Locality.{SameInput}
use Rattle.network_laws.specs.History.{Event, State, ContinuesFully, outcome, after}

-- ---- what happens in a class

-- NET-2, NET-3, NET-4, NET-5: a call of the tutor's
pub data TutorCall : Type 0 where
  initialized : (nhosts : ℕ) → TutorCall
  adds : Net → (id : ℕ) → TutorCall
  removes : (row : ℕ) → TutorCall
  changes : (row id : ℕ) → TutorCall

-- NET-10: the table after it
abbrev pub turned : TutorCall → NetTable → NetTable
turned (initialized n) t = (initialize_table n t).table
turned (adds m id) t = (add m id t).table
turned (removes k) t = (remove k t).table
turned (changes k id) t = (change k id t).table

-- NET-10: a host's call with everything that it takes except the table
pub record NodeCall : Type 0 where
  pub call : Call
  pub settings : Settings
  pub number : ℕ
  pub clock : Clock
  pub links : Links
  pub walk : Walk
  pub copy : List ℕ
  pub entries : List Entry

-- NET-10: a call of a host or of the tutor
pub data ClassEvent : Type 0 where
  node : NodeCall → ClassEvent
  tutor : TutorCall → ClassEvent

-- NET-10: the call with the table as it is
abbrev pub given : NetTable → NodeCall → Event
given t e =
    record { call = e.call; call_state = call_state e.settings t e.number e.clock e.links e.walk e.copy e.entries }

-- ---- the class afterwards: its net table, and the state at each host number

-- NET-10: the table, and the state at each number
pub record Class : Type 0 where
  pub table : NetTable
  pub left : State

-- NET-10: the class after a call
unfoldable pub class_after : Class → ClassEvent → Class
class_after w (node e) = record { table = w.table; left = after w.left (given w.table e) }
class_after w (tutor c) = record { table = turned c w.table; left = w.left }

-- NET-10: the class after a list of calls
unfoldable pub class_after_all : Class → List ClassEvent → Class
class_after_all w [] = w
class_after_all w (e ∷ es) = class_after_all (class_after w e) es

-- ISOLATION-3: a call of host k gets the state after host k's last call; other hosts' calls are free
abbrev pub ContinuesIn : (number : ℕ) → Class → ClassEvent → Type 0
ContinuesIn k w (node e) = e.number ≡ k → ContinuesFully (w.left k) (given w.table e).call_state
ContinuesIn k w (tutor c) = Unit {0}

-- ISOLATION-3: each of a host's calls does
unfoldable pub AllContinueIn : (number : ℕ) → Class → List ClassEvent → Type 0
AllContinueIn k w [] = Unit {0}
AllContinueIn k w (e ∷ es) = ContinuesIn k w e × AllContinueIn k (class_after w e) es

-- NET-10: what is returned at number k, call by call
unfoldable pub class_returned : (number : ℕ) → Class → List ClassEvent → List Returned
class_returned k w [] = []
class_returned k w (node e ∷ es) =
    let rest : List Returned = class_returned k (class_after w (node e)) es in
    cond (eqb e.number k) (returned (outcome (given w.table e)) ∷ rest) rest
class_returned k w (tutor c ∷ es) = class_returned k (class_after w (tutor c)) es

-- ---- one host's own calls and the tutor's

-- NET-10: the list without the calls of other hosts
abbrev pub own_and_tutors : (number : ℕ) → List ClassEvent → List ClassEvent
own_and_tutors k [] = []
own_and_tutors k (node e ∷ es) = cond (eqb e.number k) (node e ∷ own_and_tutors k es) (own_and_tutors k es)
own_and_tutors k (tutor c ∷ es) = tutor c ∷ own_and_tutors k es

-- NET-10: two calls that agree in settings, input and lengths
pub record SameCall (e f : NodeCall) : Type 0 where
  pub settings_same : e.settings ≡ f.settings
  pub input_same : SameInput e.call f.call
  pub length_same : length e.entries ≡ length f.entries
  pub room_same : length e.copy ≡ length f.copy

-- NET-10: two lists that agree, with the tutor's calls in the same places
pub data SameCalls : List ClassEvent → List ClassEvent → Type 0 where
  no_more : SameCalls [] []
  own_call : {e f : NodeCall} {es fs : List ClassEvent} → SameCall e f → SameCalls es fs → SameCalls (node e ∷ es) (node f ∷ fs)
  tutors_call : {c : TutorCall} {es fs : List ClassEvent} → SameCalls es fs → SameCalls (tutor c ∷ es) (tutor c ∷ fs)

-- ---- the laws

-- NET-10: at number k the same is returned, the state is the same, and so is the table
pub record SameAt (k : ℕ) (w v : Class) (es fs : List ClassEvent) : Type 0 where
  pub told_same : class_returned k w es ≡ class_returned k v fs
  pub after_same : (class_after_all w es).left k ≡ (class_after_all v fs).left k
  pub table_same : (class_after_all w es).table ≡ (class_after_all v fs).table

-- NET-10, NET-1: a host depends on its own calls and the tutor's alone
pub record ClassIsolation : Type 0 where
  -- NET-1: no host's call changes the table
  pub table_stays : (w : Class) (e : NodeCall) → (class_after w (node e)).table ≡ w.table
  -- NET-1: no tutor's call changes a host's state
  pub nodes_stay : (w : Class) (c : TutorCall) → (class_after w (tutor c)).left ≡ w.left
  -- NET-10: for every two lists that agree in k's own calls and the tutor's
  pub isolated :
      (k : ℕ) (w v : Class) (es fs : List ClassEvent) → AllContinueIn k w es → AllContinueIn k v fs
      → SameCalls (own_and_tutors k es) (own_and_tutors k fs) → w.table ≡ v.table → w.left k ≡ v.left k → SameAt k w v es fs
  -- NET-10: without the calls of other hosts everything at k is the same
  pub alone : (k : ℕ) (w : Class) (es : List ClassEvent) → AllContinueIn k w es → SameAt k w w es (own_and_tutors k es)
