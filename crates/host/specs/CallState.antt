-- CALL-4, HOST-6: everything that a call takes: settings, clock and links, the net table, the host's number, its walk with the packet's copy, and the host table.
use Rattle.std.specs.Prelude.{Bool, ◌&&◌, List, ℕ, take}
use Rattle.clock.specs.declared.Clock.{Clock}
use Rattle.clock.specs.declared.Counter.{Counter}
use Rattle.clock.specs.declared.Reading.{Reading}
use Rattle.clock.specs.Clock.{reading, clock_in_range}
use Rattle.net_table.specs.declared.NetTable.{NetTable}
use Rattle.table.specs.declared.Entry.{Entry}
use Rattle.table.specs.Forms.{every, every_from}
use Rattle.table.specs.Entry.{as_marked, entry_in_range}
use Rattle.host.specs.declared.Host.{Host}
use Rattle.host.specs.declared.Settings.{Settings}
use Rattle.host.specs.declared.Links.{Links}
use Rattle.host.specs.declared.walk.Walk.{Walk}
use Rattle.host.specs.Settings.{link_count_of}
use Rattle.host.specs.State.{link_in_range, own_entries}
use Rattle.host.specs.Walk.{walk_in_range}

-- HOST-3: a host of its parts
abbrev pub host : Settings → Clock → Links → Host
host s c l = record { settings = s; clock = c; links = l }

-- CLOCK-8: our reading: CLOCK plus the count
abbrev pub our_reading : Counter → Host → Reading
our_reading k h = reading h.settings.clock_tick h.settings.hold_interval k h.clock

-- CALL-4, NET-1: everything that a call takes
pub record CallState : Type 0 where
  pub host : Host
  pub nets : NetTable
  pub number : ℕ
  pub walk : Walk
  pub copy : List ℕ
  pub entries : List Entry

-- CALL-4: the same of its parts
abbrev pub call_state : Settings → NetTable → (number : ℕ) → Clock → Links → Walk → (copy : List ℕ) → List Entry → CallState
call_state s t k c l w copy entries = record { host = host s c l; nets = t; number = k; walk = w; copy = copy; entries = entries }

-- TABLE-8: the host's own entries
abbrev pub entries_of : CallState → List Entry
entries_of x = own_entries x.host.settings x.number x.entries

-- HOST-6: are the clock and the host's links in range?
abbrev pub host_in_range : Host → Bool
host_in_range h = clock_in_range h.clock && every link_in_range (take (link_count_of h.settings) h.links.all)

-- HOST-6, WALK-9: is the walk in range?
abbrev pub own_walk_in_range : CallState → Bool
own_walk_in_range x = walk_in_range x.host.settings x.walk x.copy

-- MARK-3: is the mark of each entry the settings' mark?
abbrev pub marks_as_set : CallState → Bool
marks_as_set x = every_from 0 (as_marked x.host.settings.marks) (entries_of x)

-- HOST-6: is the caller's state in range?
unfoldable pub state_in_range : CallState → Bool
state_in_range x = host_in_range x.host && own_walk_in_range x && every entry_in_range (entries_of x) && marks_as_set x
