-- The guard in the code: what is tested before the entries, which places are then scanned, and what is judged after that.
use Rattle.std.specs.Prelude.{Bool, true, cond, not, ◌&&◌, ◌||◌, List, ℕ, ◌+◌, ltb, leb, eqb, length, take, Option, Some, None}
use Rattle.answer.specs.declared.Answer.{Answer}
use Rattle.answer.specs.declared.Answer.TheVariants.{Done, Setting, OutOfRange, InWalk}
use Rattle.clock.specs.declared.Clock.{Clock}
use Rattle.clock.specs.Clock.{clock_in_range}
use Rattle.net_table.specs.declared.NetTable.{NetTable}
use Rattle.net_table.specs.Table.{table_bad}
use Rattle.table.specs.declared.marks.Marks.{Marks}
use Rattle.table.specs.declared.entries.Scan.{Scan}
use Rattle.table.specs.Forms.{every}
use Rattle.table.specs.Marks.{no_marks}
use Rattle.host.specs.declared.Settings.{Settings}
use Rattle.host.specs.declared.Host.{Host}
use Rattle.host.specs.declared.guard.Scope.{Scope}
use Rattle.host.specs.declared.guard.Scope.TheVariants.{Places, All, OnLink, Opening, Walking}
use Rattle.host.specs.declared.Links.{Links}
use Rattle.host.specs.declared.walk.Walk.{Walk}
use Rattle.host.specs.Settings.{link_count_of, settings_fit}
use Rattle.host.specs.State.{places_per_host, first_place, host_count, link_in_range}
use Rattle.host.specs.Walk.{walk_in_range}
use Rattle.host.specs.Guard.{longest, in_walk}
use Rattle.host.specs.code.Returned.{initialized}

-- the places of a host number among n entries
abbrev pub places_missing : (number n : ℕ) → Bool
places_missing k n = ltb 15 k || ltb n (first_place k + places_per_host)

-- no place to look at
abbrev pub nowhere : Scan
nowhere = record { first = 0; end = 0; marks = no_marks }

-- a link of a host with n links
abbrev pub is_link : (count link : ℕ) → Bool
is_link n i = not (eqb i 0 || ltb n i)

-- the link that a call names, if any, exists; if a walk is opened, there is room for a packet of n octets
abbrev pub names_link : (count octets : ℕ) → Scope → Bool
names_link n m Places = true
names_link n m All = true
names_link n m (OnLink i) = is_link n i
names_link n m (Opening i) = leb longest m && is_link n i
names_link n m Walking = true

-- the first n entries and their marks, if the clock, the host's links and the walk are within their ranges
abbrev pub full_scan : (number own_entries : ℕ) → Clock → Links → (links : ℕ) → (walk : Bool) → Marks → Option Scan
full_scan k m c l n walk marks =
    cond (clock_in_range c && every link_in_range (take n l.all) && walk)
    (Some record { first = first_place k; end = first_place k + m; marks = marks })
    None

-- the places to look at, if all that is tested before them is good
abbrev pub held : Scope → NetTable → (number : ℕ) → Host → Walk → (copy : List ℕ) → (n : ℕ) → Option Scan
held a t k h w copy n =
    cond (table_bad t || places_missing k n) None
    (cond (initialized a) (Some nowhere)
    (cond (not (names_link (link_count_of h.settings) (length copy) a)) None
    (full_scan k (host_count h.settings) h.clock h.links (link_count_of h.settings) (walk_in_range h.settings w copy) h.settings.marks)))

-- after them
abbrev pub judged : Settings → NetTable → Walk → Scope → Answer
judged s t w a = cond (in_walk a w) InWalk (cond (not (settings_fit t s)) Setting Done)

-- where no more than the table, numbers and places are looked at
abbrev pub judged_initialize : Settings → NetTable → (number n : ℕ) → Answer
judged_initialize s t k n =
    cond (table_bad t || places_missing k n) OutOfRange (cond (not (settings_fit t s)) Setting Done)
