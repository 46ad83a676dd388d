-- NET-11: a walk in whose middle the tutor changes a row, computed. It ends as the arrival with the table of step 5.
use Rattle.std.specs.Prelude.{◌≡◌, List, [], ◌∷◌, ◌++◌, ℕ, pos, get_or, replicate}
use Rattle.quantity.specs.declared.Millis.{Millis}
use Rattle.quantity.specs.Quantity.{units, millis, sub_millis}
use Rattle.quantity.specs.Words.{word, to_word}
use Rattle.calendar.specs.Date.{first_date}
use Rattle.answer.specs.declared.Answer.TheVariants.{Done, Setting}
use Rattle.clock.specs.Clock.{fresh_clock}
use Rattle.clock.specs.LineClock.{no_counter}
use Rattle.wire.specs.declared.Address.{Address}
use Rattle.wire.specs.Packet.{message}
use Rattle.net_table.specs.declared.NetTable.{NetTable}
use Rattle.net_table.specs.declared.Answer.TheVariants as tutor
use Rattle.net_table.specs.Table.{table_of}
use Rattle.net_table.specs.Tutor.{initialize_table, add, change}
use Rattle.table.specs.Marks.{only_mark}
use Rattle.table.specs.Entry.{fresh_entry, max_delay}
use Rattle.host.specs.declared.Settings.{Settings}
use Rattle.host.specs.Walk.{no_walk}
use Rattle.host.specs.State.{fresh_links, with_link}
use Rattle.host.specs.CallState.{CallState, call_state}
use Rattle.host.specs.Guard.{longest}
use Rattle.calls.specs.Perform.{Outcome, receive, perform, left}
use Rattle.network_laws.specs.Range.{under}
use Rattle.network_laws.specs.TwoNodes.{host_at, settings_for, places_of}
use Rattle.network_laws.specs.WalkEnds.{Box, boxed, walk_on, boxes_on, with_table, opening, Ends}

-- ---- the tutor's table, of three ids and one row

-- NET-11: the table with a row to id 1
unfoldable pub before : NetTable
before = (add record { first = 10; second = 0; third = 0 } 1 (table_of 3 [])).table

-- NET-11: the row leads to id 2
unfoldable pub after : NetTable
after = (change 1 2 before).table

-- NET-9: a table of four ids
unfoldable pub unlike : NetTable
unlike = (initialize_table 4 before).table

-- ---- the host, 192.0.2.1, and its neighbour

-- NET-11: an address on another net
abbrev pub far : Address
far = record { first = 10; second = 0; third = 0; fourth = 5 }

-- NET-11: the host's settings
abbrev pub settings : Settings
settings = settings_for record { tick = units (pos 1); start = λ a. 0; longest = 0; hosts = 3; marks = only_mark; copy = [] } 0

-- NET-11: the time
abbrev pub now : Millis
now = millis (pos 3600000)

-- NET-11: the host, which knows its neighbour already
abbrev pub node : CallState
node =
    call_state settings before 0 (fresh_clock now first_date) (with_link 1 record { neighbor = far; keep_alive = 0; tsp = word (pos 0) } (fresh_links settings)) no_walk
    (replicate longest 0) (places_of 0)

-- NET-11: a packet without a table, with a DELAY of 120 ms
abbrev pub packet : List ℕ
packet =
    message (host_at 1)
    record { source = far; date = first_date; time = now; tsp = to_word (sub_millis now (millis (pos 120))); address_offset = 0; nhosts = 0 } []

-- ---- the walk and the arrivals

-- NET-11: the state after opening
unfoldable pub opened : CallState
opened = left node (opening 1 packet node)

-- NET-11: three boxes with the first table
abbrev pub three : List Box
three = with_table before (replicate 3 no_counter)

-- NET-9: a box with a table of another NHOSTS, which is refused
abbrev pub other : Box
other = record { counter = no_counter; nets = unlike }

-- NET-11: the walk to its end, with the changed table from box 4 on
unfoldable pub walked : Outcome
walked = walk_on (three ++ (other ∷ with_table after (replicate 5 no_counter))) opened

-- NET-11: the arrival with a table
abbrev pub arrived : NetTable → Outcome
arrived t = perform (receive 1 no_counter packet) (under t node)

-- NET-11: the DELAY of an id's entry
abbrev pub delay_of : Outcome → (id : ℕ) → Millis
delay_of o id = (get_or o.entries id fresh_entry).delay

-- NET-11: it ends as with the changed table, and not as with the first one
pub record MidWalk : Type 0 where
  pub opens : (opening 1 packet node).reply.answer ≡ Done
  pub is_changed : (change 1 2 before).answer ≡ tutor.Done
  -- NET-9: the table of another NHOSTS
  pub refused : (boxed other (boxes_on three opened)).reply.answer ≡ Setting
  -- NET-11: as with the changed table
  pub ends : Ends walked (arrived after)
  pub for_2 : delay_of walked 2 ≡ millis (pos 120)
  pub not_for_1 : delay_of walked 1 ≡ max_delay
  -- NET-11: and not as with the table of its opening
  pub otherwise_for_1 : delay_of (arrived before) 1 ≡ millis (pos 120)
  pub otherwise_not_for_2 : delay_of (arrived before) 2 ≡ max_delay
  pub unlike_then : Ends walked (arrived before) → ⊥
