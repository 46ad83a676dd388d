-- ISOLATION-3: the answers of a host depend on its own calls and what they take, and on the net table.
use Rattle.std.specs.Prelude.{◌≡◌, cond, List, [], ◌∷◌, map, ℕ, eqb, length, take}
use Rattle.answer.specs.declared.Answer.TheVariants.{Done}
use Rattle.host.specs.declared.Settings.{Settings}
use Rattle.host.specs.State.{host_count}
use Rattle.calls.specs.declared.Request.TheVariants.{Initialize}
use Rattle.calls.specs.Perform.{ask}
use Rattle.network_laws.specs.HostAfter.{Returned, returned}
use Rattle.network_laws.specs.Locality.{SameInput, own_links, walk_packet}
use Rattle.network_laws.specs.History.{Event, State, HostAfter, number_of, Continues, ContinuesFully, outcome, places, after_all, ContinuesAll}
pub use Rattle.network_laws.specs.SharedCalls.{SharedEvent, Shared}
unfoldable pub use Rattle.network_laws.specs.SharedCalls.{shared_state, shared_outcome, shared_after, shared_after_all, shared_returned}

-- ---- a host's own calls

-- ISOLATION-3: the calls at number k
abbrev pub own : (number : ℕ) → List Event → List Event
own k [] = []
own k (e ∷ es) = cond (eqb (number_of e) k) (e ∷ own k es) (own k es)

-- ISOLATION-3: what is returned at number k, call by call
abbrev pub returned_at : (number : ℕ) → List Event → List Returned
returned_at k es = map (λ (e : Event). returned (outcome e)) (own k es)

-- ISOLATION-3: the settings of a call
abbrev pub settings_of : Event → Settings
settings_of e = e.call_state.host.settings

-- ISOLATION-3: two calls that agree in settings, table, input and lengths
pub record Agree (e f : Event) : Type 0 where
  pub settings_same : settings_of e ≡ settings_of f
  pub net_table_same : e.call_state.nets ≡ f.call_state.nets
  pub input_same : SameInput e.call f.call
  pub length_same : length e.call_state.entries ≡ length f.call_state.entries
  pub room_same : length e.call_state.copy ≡ length f.call_state.copy

-- ISOLATION-3: two lists that agree call by call
unfoldable pub Pairwise : List Event → List Event → Type 0
Pairwise [] [] = Unit {0}
Pairwise [] (f ∷ fs) = ⊥
Pairwise (e ∷ es) [] = ⊥
Pairwise (e ∷ es) (f ∷ fs) = Agree e f × Pairwise es fs

-- ---- isolation

-- ISOLATION-3: for every two lists that agree at k, from the same state: the same is returned, and the state is the same
unfoldable pub Isolation : Type 0
Isolation =
    (k : ℕ) (w v : State) (es fs : List Event) → ContinuesAll k ContinuesFully w es → ContinuesAll k ContinuesFully v fs → Pairwise (own k es) (own k fs)
    → w k ≡ v k → (returned_at k es ≡ returned_at k fs) × (after_all w es k ≡ after_all v fs k)

-- ---- isolation from an initialization on

-- ISOLATION-3, HOST-7: a call is initialize, answered 0
pub record Initializes (e : Event) : Type 0 where
  pub call_is : e.call ≡ ask Initialize
  pub answered : (outcome e).reply.answer ≡ Done

-- ISOLATION-3: the settings stay until the next initialize that is answered 0
pub data Steady : Settings → List Event → Settings → Type 0 where
  stays : {s : Settings} → Steady s [] s
  goes_on : {s t : Settings} {e : Event} {es : List Event} → settings_of e ≡ s → Steady s es t → Steady s (e ∷ es) t
  begins_anew : {s t : Settings} {e : Event} {es : List Event} → Initializes e → Steady (settings_of e) es t → Steady s (e ∷ es) t

-- ISOLATION-3: the first call is initialize, and the settings stay from there
pub data FromInitialize : List Event → Settings → Type 0 where
  begins : {t : Settings} {e : Event} {es : List Event} → Initializes e → Steady (settings_of e) es t → FromInitialize (e ∷ es) t

-- ISOLATION-3: the state agrees in what the settings count
pub record AfterAlike (s : Settings) (x y : HostAfter) : Type 0 where
  pub clock_same : x.clock ≡ y.clock
  pub links_same : own_links s x.links ≡ own_links s y.links
  pub walk_same : x.walk ≡ y.walk
  pub packet_same : walk_packet x.walk x.copy ≡ walk_packet y.walk y.copy
  pub entries_same : take (host_count s) x.places ≡ take (host_count s) y.places

-- ISOLATION-3: from initialize on, for every two lists that agree at k, from any state
unfoldable pub IsolationFromInitialize : Type 0
IsolationFromInitialize =
    (k : ℕ) (w v : State) (es fs : List Event) (t : Settings) → ContinuesAll k Continues w es → ContinuesAll k Continues v fs
    → Pairwise (own k es) (own k fs) → FromInitialize (own k es) t
    → (returned_at k es ≡ returned_at k fs) × AfterAlike t (after_all w es k) (after_all v fs k)

-- ISOLATION-3: the list without the calls of other hosts
abbrev pub alone : (number : ℕ) → List SharedEvent → List SharedEvent
alone k [] = []
alone k (e ∷ es) = cond (eqb e.number k) (e ∷ alone k es) (alone k es)

-- ISOLATION-3: the state at number k agrees
pub record SharedAlike (k : ℕ) (w v : Shared) : Type 0 where
  pub clock_same : w.clock k ≡ v.clock k
  pub links_same : w.links k ≡ v.links k
  pub walk_same : w.walk k ≡ v.walk k
  pub copy_same : w.copy k ≡ v.copy k
  pub places_same : places k w.entries ≡ places k v.entries

-- ISOLATION-3: for every list over one shared host table: without the calls of other hosts everything at k is the same
unfoldable pub Alone : Type 0
Alone =
    (k : ℕ) (w : Shared) (es : List SharedEvent)
    → (shared_returned k w es ≡ shared_returned k w (alone k es)) × SharedAlike k (shared_after_all w es) (shared_after_all w (alone k es))
