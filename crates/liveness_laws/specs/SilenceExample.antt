-- LIVE-4: three hosts in a line. Host 2 falls silent, and after an epoch its entry at host 1 is still up with the least DELAY of the law. By computing.
use Rattle.std.specs.Prelude.{◌≡◌, cond, List, [], ◌∷◌, ◌++◌, ℕ, ◌+◌, ◌*◌, ◌≤◌, ◌<◌, eqb, pos, replicate}
use Rattle.quantity.specs.Quantity.{millis, seconds, to_units}
use Rattle.calendar.specs.Date.{first_date}
use Rattle.clock.specs.Clock.{fresh_clock}
use Rattle.clock.specs.LineClock.{no_counter}
use Rattle.net_table.specs.Table.{table_of}
use Rattle.table.specs.Marks.{only_mark}
use Rattle.table.specs.Entry.{fresh_entry}
use Rattle.host.specs.declared.Settings.{Settings}
use Rattle.host.specs.Settings.{clock_setting_off}
use Rattle.host.specs.Walk.{no_walk}
use Rattle.host.specs.State.{unset, fresh_links, places_per_host}
use Rattle.network_laws.specs.Network.{longest_way, Network, End, loose, at, HostAt, Proper}
use Rattle.network_laws.specs.Demand3.{reports, sends, arrives, Step, Message, World, step, history, Allows, Starts, entry_of}
use Rattle.network_laws.specs.Demand3 as calls
use Rattle.network_laws.specs.TwoNodes.{host_at, begun, call}
use Rattle.liveness_laws.specs.Numbers.{rise, epoch_seconds}
use Rattle.liveness_laws.specs.Seconds.{emptied}
use Rattle.liveness_laws.specs.Silence.{Epoch, Epochs}

-- ---- the network

-- LIVE-4: the settings of a host: two links, and its own id marked
abbrev pub settings_for : (node : ℕ) → Settings
settings_for a =
    record {
      address = host_at (a + 1);
      layout = record { address_offset = 1; nhosts = 3 };
      clock_host = clock_setting_off;
      hold_interval = seconds 1;
      clock_tick = to_units (millis (pos 65536));
      time = millis (pos 1000);
      date = first_date;
      link_count = 2;
      links = replicate 8 unset;
      marks = only_mark a;
    }

-- LIVE-4: link 1 of host 0 leads to host 1, and link 2 to host 2
abbrev pub wires : (node link : ℕ) → End
wires a i =
    cond (eqb a 0) (cond (eqb i 1) (at 1 1) (cond (eqb i 2) (at 2 1) loose))
    (cond (eqb i 1) (cond (eqb a 1) (at 0 1) (cond (eqb a 2) (at 0 2) loose)) loose)

-- LIVE-4: the network
abbrev pub line : Network
line =
    record {
      nodes = 3;
      number = λ a. a;
      settings = settings_for;
      fixed = λ a. pos 0;
      cable = wires;
      longest = longest_way;
      nets = λ a. table_of 3 [];
      clock = λ a. fresh_clock (millis (pos 0)) first_date;
      links = λ a. fresh_links (settings_for a);
      walk = λ a. no_walk;
      copy = λ a. [];
      entries = λ a. replicate (3 * places_per_host) fresh_entry;
    }

-- ---- its calls, each with the state after the last one

-- LIVE-4: a second of a host
abbrev pub a_second : (node : ℕ) → World → Step
a_second a w = call line w a calls.seconds

-- LIVE-4: a self-report of a host
abbrev pub a_report : (node : ℕ) → World → Step
a_report a w = call line w a (reports no_counter)

-- LIVE-4: a send on a link
abbrev pub a_send : (node link : ℕ) → World → Step
a_send a i w = call line w a (sends i no_counter (replicate 44 0) (pos 1000))

-- LIVE-4: the octets of the newest message
abbrev pub newest : List Message → List ℕ
newest [] = []
newest (m ∷ mail) = m.octets

-- LIVE-4: the newest message arrives on a link
abbrev pub an_arrival : (node link : ℕ) → World → Step
an_arrival a i w = call line w a (arrives i no_counter (newest w.mail) (pos 1000))

-- LIVE-4: calls in turn, each in the network after the one before
abbrev pub in_turn : World → List (World → Step) → List Step
in_turn w [] = []
in_turn w (f ∷ rest) = f w ∷ in_turn (step line w (f w)) rest

-- ---- the calls

-- LIVE-4: the beginning
unfoldable pub start : World
start = begun line

-- LIVE-4: host 0 hears the table of host 2, then hosts 0 and 1 learn each other's address
unfoldable pub past : List Step
past =
    in_turn start
    (a_send 2 1 ∷ an_arrival 0 2 ∷ a_send 0 2 ∷ an_arrival 2 1 ∷ a_report 2 ∷ a_send 2 1 ∷ an_arrival 0 2 ∷ a_send 1 1 ∷ an_arrival 0 1 ∷ a_send 0 1 ∷ an_arrival 1 1 ∷ [])

-- LIVE-4: host 2 falls silent
unfoldable pub falls_silent : World
falls_silent = history line start past

-- LIVE-4: the epoch: 120 seconds of host 1, a message of host 0 to host 1, 120 seconds of host 0
unfoldable pub silence : List Step
silence = in_turn (emptied falls_silent) (replicate epoch_seconds (a_second 1) ++ a_send 0 1 ∷ an_arrival 1 1 ∷ replicate epoch_seconds (a_second 0))

-- LIVE-4: after the epoch
unfoldable pub last : World
last = history line (emptied falls_silent) silence

-- LIVE-4: it meets every condition of the law; the entry of host 2 is up at host 1, at 200 ms, and down at host 0
pub record SilenceExample : Type 0 where
  pub proper : Proper line
  pub ways : line.longest ≤ longest_way
  pub starts : Starts line start
  pub allowed : Allows line start past
  pub silent_in : 2 < line.nodes
  pub host_there : HostAt line 2 2
  pub epochs : Epochs line (Epoch line 2) (history line start past) 1 last
  pub still_up : (entry_of line last 1 2).delay ≡ millis (pos (rise * 2))
  pub gone : (entry_of line last 0 2).delay ≡ millis (pos 30000)
