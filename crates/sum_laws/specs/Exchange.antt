-- SUM-6: the exchange over the octets that a send writes and an arrival reads: A has id 0 at 192.0.2.1, B has id 1 at 192.0.2.2.
use Rattle.std.specs.Prelude.{List, [], ℕ, pos, get_or, replicate}
use Rattle.quantity.specs.Quantity.{units, millis}
use Rattle.quantity.specs.Words.{word}
use Rattle.calendar.specs.Date.{first_date}
use Rattle.clock.specs.declared.Clock.{Clock}
use Rattle.clock.specs.Clock.{fresh_clock}
use Rattle.clock.specs.LineClock.{no_counter}
use Rattle.table.specs.declared.Entry.{Entry}
use Rattle.table.specs.Marks.{only_mark}
use Rattle.table.specs.Entry.{fresh_entry}
use Rattle.host.specs.declared.Settings.{Settings}
use Rattle.host.specs.declared.Links.{Links}
use Rattle.host.specs.State.{fresh_links, with_link}
use Rattle.host.specs.Walk.{no_walk}
use Rattle.host.specs.CallState.{CallState, call_state}
use Rattle.calls.specs.declared.Request.TheVariants.{SelfReport}
use Rattle.calls.specs.Perform.{ask, send, receive, Outcome, perform}
use Rattle.network_laws.specs.TwoNodes.{Pair, host_at, settings_for, net_table_for, places_of}

-- SUM-6: host 0 is A, host 1 is B
abbrev pub nodes : Pair
nodes = record { tick = units (pos 1); start = λ a. 0; longest = 0; hosts = 2; marks = only_mark; copy = [] }

-- SUM-6: their settings
abbrev pub settings_of : (node : ℕ) → Settings
settings_of = settings_for nodes

-- SUM-6: a clock with a given reading
abbrev pub clock_at : ℕ → Clock
clock_at ms = fresh_clock (millis (pos ms)) first_date

-- SUM-6: everything that a call takes, each host with its own host table
abbrev pub state_at : (node ms : ℕ) → Links → List Entry → CallState
state_at a ms l entries = call_state (settings_of a) (net_table_for nodes) 0 (clock_at ms) l no_walk [] entries

-- SUM-6: a buffer
abbrev pub room : List ℕ
room = replicate 40 0

-- SUM-6: A knows its neighbour already
abbrev pub links_a : Links
links_a = with_link 1 record { neighbor = host_at 2; keep_alive = 0; tsp = word (pos 0) } (fresh_links (settings_of 0))

-- SUM-6: B's entries after a self-report
abbrev pub entries_b : List Entry
entries_b = (perform (ask (SelfReport no_counter)) (state_at 1 40500 (fresh_links (settings_of 1)) (places_of 1))).entries

-- SUM-6: A sends
unfoldable pub a_sends : Outcome
a_sends = perform (send 1 no_counter room) (state_at 0 40000 links_a (places_of 0))

-- SUM-6: B receives it
unfoldable pub b_gets : Outcome
b_gets = perform (receive 1 no_counter a_sends.buffer) (state_at 1 40530 (fresh_links (settings_of 1)) entries_b)

-- SUM-6: B answers
unfoldable pub b_answers : Outcome
b_answers = perform (send 1 no_counter room) (state_at 1 45530 b_gets.links b_gets.entries)

-- SUM-6: A receives the answer
unfoldable pub a_gets : Outcome
a_gets = perform (receive 1 no_counter b_answers.buffer) (state_at 0 45081 a_sends.links a_sends.entries)

-- SUM-6: the entry that A has of B
unfoldable pub learnt : Entry
learnt = get_or a_gets.entries 1 fresh_entry
