-- ROOM-10: two hosts with one cable, for histories that are computed. Host 1 is 500 ms ahead.
use Rattle.std.specs.Prelude.{cond, List, [], ◌++◌, ℕ, ◌+◌, ◌*◌, eqb, pos, set, replicate}
use Rattle.quantity.specs.declared.Units.{Units}
use Rattle.quantity.specs.Quantity.{millis, seconds}
use Rattle.calendar.specs.Date.{first_date}
use Rattle.clock.specs.Clock.{fresh_clock}
use Rattle.wire.specs.declared.Address.{Address}
use Rattle.net_table.specs.declared.NetTable.{NetTable}
use Rattle.net_table.specs.Table.{table_of}
use Rattle.table.specs.declared.Entry.{Entry}
use Rattle.table.specs.declared.marks.Marks.{Marks}
use Rattle.table.specs.Entry.{fresh_entry, with_mark}
use Rattle.host.specs.declared.Settings.{Settings}
use Rattle.host.specs.Settings.{clock_setting_off}
use Rattle.host.specs.Walk.{no_walk}
use Rattle.host.specs.State.{unset, fresh_links, places_per_host}
use Rattle.network_laws.specs.History.{after_outcome}
use Rattle.network_laws.specs.Network.{Network, End, loose, at, initialized}
use Rattle.network_laws.specs.Demand3.{NetworkCall, Step, World}

-- ROOM-10: what such networks differ in
pub record Pair : Type 0 where
  pub tick : Units
  pub start : ℕ → ℕ
  pub longest : ℕ
  pub hosts : ℕ
  pub marks : ℕ → Marks
  pub copy : List ℕ

-- ROOM-10: an address
abbrev pub host_at : (octet : ℕ) → Address
host_at n = record { first = 192; second = 0; third = 2; fourth = n }

-- ROOM-10: the settings of a host
abbrev pub settings_for : Pair → (node : ℕ) → Settings
settings_for p a =
    record {
      address = host_at (a + 1);
      layout = record { address_offset = 1; nhosts = p.hosts };
      clock_host = clock_setting_off;
      hold_interval = seconds 1;
      clock_tick = p.tick;
      time = millis (pos (p.start a + 500 * a));
      date = first_date;
      link_count = 1;
      links = replicate 8 unset;
      marks = p.marks a;
    }

-- ROOM-10: the net table, without rows
abbrev pub net_table_for : Pair → NetTable
net_table_for p = table_of p.hosts []

-- ROOM-10: the fresh places of a host that marks its own id alone
abbrev pub places_of : (own : ℕ) → List Entry
places_of own = set (replicate places_per_host fresh_entry) own (with_mark 1 fresh_entry)

-- ROOM-3: the cable
abbrev pub wire : (node link : ℕ) → End
wire a i = cond (eqb i 1) (cond (eqb a 0) (at 1 1) (cond (eqb a 1) (at 0 1) loose)) loose

-- ROOM-10: the network
abbrev pub pair : Pair → Network
pair p =
    record {
      nodes = 2;
      number = λ a. a;
      settings = settings_for p;
      fixed = λ a. pos (500 * a);
      cable = wire;
      longest = p.longest;
      nets = λ a. net_table_for p;
      clock = λ a. fresh_clock (millis (pos 0)) first_date;
      links = λ a. fresh_links (settings_for p a);
      walk = λ a. no_walk;
      copy = λ a. p.copy;
      entries = λ a. replicate (2 * places_per_host) fresh_entry;
    }

-- ROOM-1: both hosts initialized, and nothing sent
abbrev pub begun : Network → World
begun r = record { state = λ n. after_outcome n [] (initialized r n); mail = [] }

-- ROOM-5: a host table with the host's places
abbrev pub entries_for : World → ℕ → List Entry
entries_for w a = replicate (places_per_host * a) fresh_entry ++ (w.state a).places

-- ROOM-5: a call with the state after the last one
abbrev pub call : Network → World → ℕ → NetworkCall → Step
call r w a x = record { node = a; nets = r.nets a; links = (w.state a).links; copy = (w.state a).copy; entries = entries_for w a; call = x }
