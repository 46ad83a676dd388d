-- PROGRAM-1: the host of the packet programs, and the number that they print.
use Rattle.std.specs.Prelude.{List, [], ℕ, pos, replicate}
use Rattle.quantity.specs.Quantity.{units, millis, seconds}
use Rattle.calendar.specs.Date.{first_date}
use Rattle.answer.specs.Answer.{number}
use Rattle.clock.specs.Clock.{fresh_clock}
use Rattle.clock.specs.LineClock.{no_counter}
use Rattle.net_table.specs.declared.NetTable.{NetTable}
use Rattle.net_table.specs.Table.{table_of}
use Rattle.table.specs.Marks.{only_mark}
use Rattle.table.specs.Entry.{fresh_entry}
use Rattle.host.specs.declared.Settings.{Settings}
use Rattle.host.specs.Settings.{clock_setting_off}
use Rattle.host.specs.State.{unset, fresh_links, places_per_host}
use Rattle.host.specs.declared.Reply.{Reply}
use Rattle.host.specs.Walk.{no_walk}
use Rattle.host.specs.CallState.{CallState, call_state}
use Rattle.calls.specs.declared.Request.TheVariants.{Initialize}
use Rattle.calls.specs.Perform.{Outcome, ask, inspect, perform, in_turn}

-- PROGRAM-1: its settings
abbrev pub program_settings : Settings
program_settings =
    record {
      address = record { first = 192; second = 0; third = 2; fourth = 1 };
      layout = record { address_offset = 1; nhosts = 4 };
      clock_host = clock_setting_off;
      hold_interval = seconds 1;
      clock_tick = units (pos 1);
      time = millis (pos 0);
      date = first_date;
      link_count = 1;
      links = replicate 8 unset;
      marks = only_mark 0;
    }

-- PROGRAM-1: its net table, without rows
abbrev pub program_table : NetTable
program_table = table_of 4 []

-- PROGRAM-1: the host after initialize
unfoldable pub program_host : (packet : List ℕ) → Outcome
program_host octets =
    perform (ask Initialize)
    (call_state program_settings program_table 0 (fresh_clock (millis (pos 0)) first_date) (fresh_links program_settings) no_walk octets (replicate places_per_host fresh_entry))

-- PROGRAM-1: everything that its calls take
abbrev pub program_state : (packet : List ℕ) → CallState
program_state octets =
    let o : Outcome = program_host octets in
    call_state program_settings program_table 0 o.clock o.links o.walk octets o.entries

-- PROGRAM-1: the number of the answer: inspected, then acted on, with a line clock
unfoldable pub program_answer : (packet : List ℕ) → ℕ
program_answer octets = number (in_turn 1 no_counter octets (program_state octets)).reply.answer

-- PROGRAM-1: what an inspection returns
unfoldable pub program_inspection : (packet : List ℕ) → Reply
program_inspection octets = (perform (inspect 1 octets) (program_state octets)).reply
