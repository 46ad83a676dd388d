-- ISOLATION-3: one call: it depends only on number, settings, net table, own state, input, and lengths.
use Rattle.std.specs.Prelude.{◌≡◌, cond, List, [], ℕ, length, take}
use Rattle.clock.specs.declared.Counter.{Counter}
use Rattle.host.specs.declared.Settings.{Settings}
use Rattle.host.specs.declared.Link.{Link}
use Rattle.host.specs.declared.Links.{Links}
use Rattle.host.specs.declared.walk.Walk.{Walk}
use Rattle.host.specs.Settings.{link_count_of}
use Rattle.host.specs.Walk.{is_open, packet_of}
use Rattle.host.specs.CallState.{CallState, entries_of}
use Rattle.calls.specs.Perform.{Call, send, perform, left}
use Rattle.network_laws.specs.HostAfter.{returned}

-- ISOLATION-3: the same input; for sends, buffers of the same length
pub data SameInput : Call → Call → Type 0 where
  same : {c : Call} → SameInput c c
  same_send : {i : ℕ} {k : Counter} {b d : List ℕ} → length b ≡ length d → SameInput (send i k b) (send i k d)

-- HOST-2: the host's links up to its count
abbrev pub own_links : Settings → Links → List Link
own_links s l = take (link_count_of s) l.all

-- WALK-2: the walk's packet, if a walk is open
abbrev pub walk_packet : Walk → (copy : List ℕ) → List ℕ
walk_packet w copy = cond (is_open w) (packet_of w copy) []

-- ISOLATION-3: two states that agree in everything that a call uses
pub record Alike (x y : CallState) : Type 0 where
  pub settings_same : x.host.settings ≡ y.host.settings
  pub net_table_same : x.nets ≡ y.nets
  pub number_same : x.number ≡ y.number
  pub clock_same : x.host.clock ≡ y.host.clock
  pub links_same : own_links x.host.settings x.host.links ≡ own_links y.host.settings y.host.links
  pub walk_same : x.walk ≡ y.walk
  pub room_same : length x.copy ≡ length y.copy
  pub packet_same : walk_packet x.walk x.copy ≡ walk_packet y.walk y.copy
  pub length_same : length x.entries ≡ length y.entries
  pub entries_same : entries_of x ≡ entries_of y

-- ISOLATION-3: the same is returned, and the states agree again
pub record Local (c d : Call) (x y : CallState) : Type 0 where
  pub told_same : returned (perform c x) ≡ returned (perform d y)
  pub after_alike : Alike (left x (perform c x)) (left y (perform d y))
  pub all_links : x.host.links ≡ y.host.links → (perform c x).links ≡ (perform d y).links
  pub all_copy : x.copy ≡ y.copy → (perform c x).copy ≡ (perform d y).copy

-- ISOLATION-3: for every two calls that agree
unfoldable pub Locality : Type 0
Locality = (c d : Call) (x y : CallState) → SameInput c d → Alike x y → Local c d x y
