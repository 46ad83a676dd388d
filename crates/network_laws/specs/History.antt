-- ISOLATION-3: lists of calls at any numbers: what each takes, and the state after them.
use Rattle.std.specs.Prelude.{◌≡◌, cond, List, [], ◌∷◌, ℕ, ◌+◌, ◌≤◌, ltb, eqb, length, take, drop}
use Rattle.clock.specs.declared.Clock.{Clock}
use Rattle.table.specs.declared.Entry.{Entry}
use Rattle.host.specs.declared.Links.{Links}
use Rattle.host.specs.declared.walk.Walk.{Walk}
use Rattle.host.specs.State.{places_per_host, first_place, host_count}
use Rattle.host.specs.CallState.{CallState, entries_of}
use Rattle.calls.specs.Perform.{Call, Outcome, perform}
use Rattle.network_laws.specs.Locality.{own_links, walk_packet}

-- ISOLATION-3: a call with everything that it takes
pub record Event : Type 0 where
  pub call : Call
  pub call_state : CallState

-- ISOLATION-3: the host's number
abbrev pub number_of : Event → ℕ
number_of e = e.call_state.number

-- ISOLATION-3: what the call results in
abbrev pub outcome : Event → Outcome
outcome e = perform e.call e.call_state

-- ISOLATION-3: the state after a host's last call: clock, links, walk with its copy, and 255 places
pub record HostAfter : Type 0 where
  pub clock : Clock
  pub links : Links
  pub walk : Walk
  pub copy : List ℕ
  pub places : List Entry

-- ISOLATION-3: that of every number
abbrev pub State : Type 0
State = ℕ → HostAfter

-- TABLE-8: the 255 places of a number
abbrev pub places : (number : ℕ) → List Entry → List Entry
places k entries = take places_per_host (drop (first_place k) entries)

-- TABLE-8: all places of a number are in a host table
abbrev pub Holds : (number : ℕ) → List Entry → Type 0
Holds k entries = first_place k + places_per_host ≤ length entries

-- ISOLATION-3, ROOM-5: a call gets what its settings count: clock, walk, links up to the count, the walk's packet, the first NHOSTS entries
pub record Continues (was : HostAfter) (x : CallState) : Type 0 where
  pub own_clock : x.host.clock ≡ was.clock
  pub own_links_lem : own_links x.host.settings x.host.links ≡ own_links x.host.settings was.links
  pub own_walk : x.walk ≡ was.walk
  pub own_packet : walk_packet x.walk x.copy ≡ walk_packet was.walk was.copy
  pub own_entries_lem : Holds x.number x.entries → entries_of x ≡ take (host_count x.host.settings) was.places

-- ISOLATION-3: a call gets all of it: eight links, the complete copy, 255 places
pub record ContinuesFully (was : HostAfter) (x : CallState) : Type 0 where
  pub own_clock : x.host.clock ≡ was.clock
  pub all_links : x.host.links ≡ was.links
  pub own_walk : x.walk ≡ was.walk
  pub all_copy : x.copy ≡ was.copy
  pub all_places : Holds x.number x.entries → places x.number x.entries ≡ was.places

-- ISOLATION-3: the state after an outcome
abbrev pub after_outcome : (number : ℕ) → List Entry → Outcome → HostAfter
after_outcome k were o =
    record {
      clock = o.clock;
      links = o.links;
      walk = o.walk;
      copy = o.copy;
      places = cond (ltb (length o.entries) (first_place k + places_per_host)) were (places k o.entries);
    }

-- ISOLATION-3: a function with another value at one number
abbrev pub put : {A : Type 0} → ℕ → A → (ℕ → A) → (ℕ → A)
put k a f = λ j. cond (eqb j k) a (f j)

-- ISOLATION-3: the state after a call
unfoldable pub after : State → Event → State
after w e = put (number_of e) (after_outcome (number_of e) (w (number_of e)).places (outcome e)) w

-- ISOLATION-3: the state after a list of calls
unfoldable pub after_all : State → List Event → State
after_all w [] = w
after_all w (e ∷ es) = after_all (after w e) es

-- ISOLATION-3: each event of host k gets the state after host k's last one; other hosts' events are free
unfoldable pub ContinuesAll : (number : ℕ) → (HostAfter → CallState → Type 0) → State → List Event → Type 0
ContinuesAll k L w [] = Unit {0}
ContinuesAll k L w (e ∷ es) = (number_of e ≡ k → L (w k) e.call_state) × ContinuesAll k L (after w e) es
