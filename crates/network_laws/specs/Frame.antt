-- ISOLATION-2, TABLE-9: what each call keeps: every place except the host's first NHOSTS, links after the count, the net table, and the walk and its copy.
use Rattle.std.specs.Prelude.{◌≡◌, List, ℕ, ◌+◌, ◌≤◌, ◌<◌, length, get_or, drop}
use Rattle.table.specs.declared.Entry.{Entry}
use Rattle.host.specs.declared.Settings.{Settings}
use Rattle.host.specs.declared.Link.{Link}
use Rattle.host.specs.declared.Links.{Links}
use Rattle.host.specs.Settings.{link_count_of}
use Rattle.host.specs.State.{first_place, host_count}
use Rattle.host.specs.CallState.{CallState}
use Rattle.calls.specs.declared.Request.TheVariants.{Initialize, Step}
use Rattle.clock.specs.declared.Counter.{Counter}
use Rattle.calls.specs.Perform.{Call, ask, open_walk, Outcome, perform}

-- ISOLATION-2, TABLE-9: all places before and after the host's own are the same
pub record Kept (s : Settings) (k : ℕ) (before after : List Entry) : Type 0 where
  pub same_length : length after ≡ length before
  pub before_places : (i : ℕ) (d : Entry) → i < first_place k → get_or after i d ≡ get_or before i d
  pub behind : (i : ℕ) (d : Entry) → first_place k + host_count s ≤ i → get_or after i d ≡ get_or before i d

-- ISOLATION-2: the link slots after the host's count
abbrev pub spare_links : Settings → Links → List Link
spare_links s l = drop (link_count_of s) l.all

-- WALK-4: a call other than initialize, opening and step
pub record Elsewhere (c : Call) : Type 0 where
  pub not_initialize : c ≡ ask Initialize → ⊥
  pub not_opening : (i : ℕ) (packet : List ℕ) → c ≡ open_walk i packet → ⊥
  pub not_step : (k : Counter) → c ≡ ask (Step k) → ⊥

-- ISOLATION-2: what a call keeps
pub record Framed (c : Call) (x : CallState) (o : Outcome) : Type 0 where
  pub places : Kept x.host.settings x.number x.entries o.entries
  pub copy : ((i : ℕ) (packet : List ℕ) → c ≡ open_walk i packet → ⊥) → o.copy ≡ x.copy
  pub copy_length : length o.copy ≡ length x.copy
  pub walk : Elsewhere c → o.walk ≡ x.walk
  pub spare : (c ≡ ask Initialize → ⊥) → spare_links x.host.settings o.links ≡ spare_links x.host.settings x.host.links

-- ISOLATION-2: for every call and everything that it takes
unfoldable pub Frame : Type 0
Frame = (c : Call) (x : CallState) → Framed c x (perform c x)
