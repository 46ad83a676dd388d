-- BENCH-2: a small file and its run: two hosts, a cable, eight events, the fifth from an empty slot.
use Rattle.std.specs.Prelude.{◌≡◌, false, List, [], ◌∷◌, ◌++◌, map, ℕ, negsuc, replicate}
use Rattle.quantity.specs.declared.Count.{Count}
use Rattle.clock.specs.declared.Counter.{Counter}
use Rattle.net_table.specs.declared.NetTable.{NetTable}
use Rattle.net_table.specs.Table.{table_of}
use Rattle.table.specs.Forms.{up_from}
use Rattle.table.specs.Entry.{fresh_entry}
use Rattle.bench_file.specs.declared.Event.{Event}
use Rattle.bench_file.specs.declared.Event.TheVariants.{Tick, Adjust, Set, Second, SelfReport, Send, Arrival}
use Rattle.bench_file.specs.Header.{header_of, header_bad}
use Rattle.bench_file.specs.Records.{event_at}
use Rattle.bench.specs.declared.Answer.TheVariants.{Done}
use Rattle.bench.specs.Bench.{Bench, fresh_host}
use Rattle.bench.specs.Run.{after_set_up, after_run, ran}

-- BENCH-2: its octets
abbrev pub file : List ℕ
file =
    (0 ∷ 0 ∷ 0 ∷ 2 ∷ 0 ∷ 0 ∷ 0 ∷ 1 ∷ 0 ∷ 0 ∷ 0 ∷ 8 ∷ 0 ∷ 0 ∷ 2 ∷ 150 ∷ 0 ∷ 0 ∷ 2 ∷ 154 ∷ 192 ∷ 0 ∷ 2 ∷ 1 ∷ 1 ∷ 255 ∷ 0 ∷ 2 ∷ 0 ∷ 1 ∷ 4 ∷ 32 ∷ 0 ∷ 0 ∷ 156 ∷ 64 ∷ 0 ∷ 0 ∷ 0 ∷ 0 ∷ 0 ∷ 1 ∷ 0 ∷ 0 ∷ 1 ∷ 0 ∷ 0 ∷ 0 ∷ 0 ∷ 0 ∷ [])
    ++ replicate 35 0
    ++ (1 ∷ 0 ∷ [])
    ++ replicate 254 0
    ++ (192 ∷ 0 ∷ 2 ∷ 2 ∷ 1 ∷ 255 ∷ 0 ∷ 2 ∷ 0 ∷ 1 ∷ 4 ∷ 32 ∷ 0 ∷ 0 ∷ 158 ∷ 52 ∷ 0 ∷ 0 ∷ 0 ∷ 0 ∷ 0 ∷ 1 ∷ 0 ∷ 0 ∷ 1 ∷ 0 ∷ 0 ∷ 0 ∷ 0 ∷ 0 ∷ [])
    ++ replicate 35 0
    ++ (0 ∷ 1 ∷ [])
    ++ replicate 254 0
    ++ (0 ∷ 1 ∷ 1 ∷ 1 ∷ 5 ∷ 0 ∷ 0 ∷ 0 ∷ 0 ∷ 0 ∷ 0 ∷ 0 ∷ 0 ∷ 0 ∷ 0 ∷ 0 ∷ 0 ∷ 0 ∷ 1 ∷ 0 ∷ 0 ∷ 0 ∷ 0 ∷ 0 ∷ 0 ∷ 0 ∷ 0 ∷ 0 ∷ 0 ∷ 0 ∷ 0 ∷ 0 ∷ 6 ∷ 0 ∷ 0 ∷ 0 ∷ 0 ∷ 0 ∷ 0 ∷ 0 ∷ 0 ∷ 0 ∷ 0 ∷ 0 ∷ 0 ∷ 0 ∷ 7 ∷ 0 ∷ 0 ∷ 0 ∷ 0 ∷ 0 ∷ 0 ∷ 0 ∷ 0 ∷ 0 ∷ 0 ∷ 0 ∷ 0 ∷ 0 ∷ 7 ∷ 0 ∷ 0 ∷ 0 ∷ 5 ∷ 0 ∷ 0 ∷ 0 ∷ 0 ∷ 0 ∷ 0 ∷ 0 ∷ 0 ∷ 0 ∷ 4 ∷ 1 ∷ 0 ∷ 0 ∷ 0 ∷ 0 ∷ 0 ∷ 0 ∷ 0 ∷ 0 ∷ 0 ∷ 0 ∷ 0 ∷ 0 ∷ 2 ∷ 1 ∷ 0 ∷ 0 ∷ 0 ∷ 0 ∷ 0 ∷ 0 ∷ 0 ∷ 0 ∷ 0 ∷ 0 ∷ 0 ∷ 0 ∷ 3 ∷ 0 ∷ 0 ∷ 0 ∷ 0 ∷ 0 ∷ 0 ∷ 0 ∷ 0 ∷ 0 ∷ 255 ∷ 255 ∷ 255 ∷ 156 ∷ [])

-- NET-1: a class of two hosts without rows
abbrev pub class : NetTable
class = table_of 2 []

-- CLOCK-14: the count of a line clock
abbrev pub no_count : Count
no_count = record { 0 = 0 }

-- CLOCK-14: the counter of a line clock
abbrev pub no_counter : Counter
no_counter = record { count = no_count; overflow = 0; again = no_count }

-- BENCH-4: its events
abbrev pub events : List Event
events =
    SelfReport 0 no_counter
    ∷ Tick 0 no_count
    ∷ Send 0 0 0 no_counter
    ∷ Arrival 0 no_counter
    ∷ Arrival 5 no_counter
    ∷ Second 1
    ∷ Adjust 1 no_count
    ∷ Set 0 (negsuc 99) no_count
    ∷ []

-- BENCH-1: the state before
abbrev pub first_state : Bench
first_state =
    record {
      hosts = fresh_host file 0 ∷ fresh_host file 1 ∷ [];
      copies = replicate 2104 0;
      entries = replicate 510 fresh_entry;
      slots = replicate 33792 0;
      answers = replicate 8 255;
      done = 0;
    }

-- BENCH-1: the state after set-up
abbrev pub ready : Bench
ready = after_set_up file class first_state

-- BENCH-6: what the run results in
pub record Example : Type 0 where
  pub good : header_bad file ≡ false
  pub read : map (event_at file (header_of file)) (up_from 0 8) ≡ events
  -- BENCH-6: an answer for each event
  pub answers : (after_run file class 8 ready).answers ≡ 0 ∷ 0 ∷ 0 ∷ 0 ∷ 3 ∷ 0 ∷ 0 ∷ 0 ∷ []
  -- BENCH-6: a budget of more events than the file has
  pub all : ran file class 10 ready ≡ record { answer = Done; count = 8 }
