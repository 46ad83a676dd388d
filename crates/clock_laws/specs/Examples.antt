-- BACK-1: a host for computed examples: 192.0.2.1, whose clock host is 192.0.2.2. CLOCK-TICK is 1,000 ms.
use Rattle.std.specs.Prelude.{List, [], ◌∷◌, ℕ, ℤ, pos, replicate}
use Rattle.quantity.specs.declared.Millis.{Millis}
use Rattle.quantity.specs.Quantity.{millis, seconds, to_units, add_millis, sub_millis}
use Rattle.quantity.specs.Words.{word, to_word}
use Rattle.calendar.specs.Date.{first_date}
use Rattle.clock.specs.declared.Counter.{Counter}
use Rattle.clock.specs.Midnight.{day_millis}
use Rattle.clock.specs.Clock.{fresh_clock}
use Rattle.clock.specs.LineClock.{no_count, no_counter}
use Rattle.wire.specs.Packet.{message}
use Rattle.net_table.specs.declared.NetTable.{NetTable}
use Rattle.net_table.specs.Table.{table_of}
use Rattle.table.specs.Marks.{only_mark}
use Rattle.table.specs.Entry.{min_delay}
use Rattle.host.specs.declared.Settings.{Settings}
use Rattle.host.specs.Walk.{no_walk}
use Rattle.host.specs.State.{unset, fresh_links, with_link}
use Rattle.calls.specs.declared.Request.{Request}
use Rattle.calls.specs.declared.Request.TheVariants.{Adjust, Set, Read}
use Rattle.calls.specs.Perform.{Call, ask, receive}
use Rattle.network_laws.specs.TwoNodes.{host_at, places_of}
use Rattle.clock_laws.specs.Turns.{Turn}
use Rattle.clock_laws.specs.NeverBack.{set_most, Readings}
use Rattle.clock_laws.specs.Slewed.{Slew}

-- BACK-1: its starting time
abbrev pub start : Millis
start = millis (pos 3600000)

-- BACK-1: its settings
abbrev pub node : Settings
node =
    record {
      address = host_at 1;
      layout = record { address_offset = 1; nhosts = 2 };
      clock_host = 1;
      hold_interval = seconds 1;
      clock_tick = to_units (millis (pos 1000));
      time = start;
      date = first_date;
      link_count = 1;
      links = replicate 8 unset;
      marks = only_mark 0;
    }

-- BACK-1: the net table, without rows
abbrev pub nets : NetTable
nets = table_of 2 []

-- ---- calls

-- BACK-1: a call with fresh state
abbrev pub turn : Call → Turn
turn c =
    record {
      call = c;
      nets = nets;
      number = 0;
      links = with_link 1 record { neighbor = host_at 2; keep_alive = 0; tsp = word (pos 0) } (fresh_links node);
      walk = no_walk;
      copy = [];
      entries = places_of 0;
    }

-- BACK-1: a request
abbrev pub asks : Request → Turn
asks q = turn (ask q)

-- BACK-1: a set
abbrev pub set_to : (ms : ℤ) → Turn
set_to ms = asks (Set ms no_count)

-- BACK-1: an adjust
abbrev pub adjust_once : Turn
adjust_once = asks (Adjust no_count)

-- BACK-1: an adjust that gives 12
abbrev pub refused_adjust : Turn
refused_adjust = record { call = ask (Adjust no_count); nets = nets; number = 16; links = adjust_once.links; walk = adjust_once.walk; copy = adjust_once.copy; entries = adjust_once.entries }

-- BACK-2: the clock host's packet with this OFFSET
abbrev pub packet_of : (offset : Millis) → List ℕ
packet_of offset =
    message (host_at 1)
    record {
      source = host_at 2;
      date = first_date;
      time = sub_millis (add_millis start offset) (millis (pos 50));
      tsp = to_word (sub_millis start min_delay);
      address_offset = 0;
      nhosts = 0;
    }
    []

-- BACK-2: its arrival
abbrev pub arrives : (offset : Millis) → Turn
arrives offset = turn (receive 1 no_counter (packet_of offset))

-- ---- lists of calls

-- BACK-1: a read, these calls, and a read again
abbrev pub between_reads : Millis → Counter → List Turn → Counter → Readings
between_reads time k between j =
    record {
      settings = node;
      clock = fresh_clock time first_date;
      first = asks (Read k);
      counter = k;
      between = between;
      last = asks (Read j);
      counter_again = j;
    }

-- BACK-3: a set of +127 at the end of the day, and an adjust past midnight
abbrev pub late_slew : Slew
late_slew = record { settings = node; clock = fresh_clock day_millis first_date; first = set_to (pos 127); amount = set_most; after = adjust_once ∷ [] }

-- BACK-2: the arrival of that packet, these calls, and a read
abbrev pub after_arrival : (offset : Millis) → List Turn → Readings
after_arrival offset between =
    record {
      settings = node;
      clock = fresh_clock start first_date;
      first = arrives offset;
      counter = no_counter;
      between = between;
      last = asks (Read no_counter);
      counter_again = no_counter;
    }
