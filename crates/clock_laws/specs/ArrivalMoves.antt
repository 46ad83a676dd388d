-- BACK-1: the moves of a clock, and those of an arrival.
use Rattle.std.specs.Prelude.{Bool, cond, List, [], ◌∷◌, ◌++◌, ℕ, suc, ◌-◌, eqb, Result, Ok, Err}
use Rattle.answer.specs.declared.Answer.{Answer}
use Rattle.wire.specs.declared.Packet.{Packet}
use Rattle.lists.specs.Lists.{part}
use Rattle.quantity.specs.declared.Millis.{Millis}
use Rattle.quantity.specs.declared.Count.{Count}
use Rattle.quantity.specs.Words.{of_word}
use Rattle.calendar.specs.declared.Date.{Date}
use Rattle.clock.specs.declared.Clock.{Clock}
use Rattle.clock.specs.declared.Counter.{Counter}
use Rattle.clock.specs.Clock.{fresh_clock, tick, adjust, set_by, reading, hold_second}
use Rattle.table.specs.declared.Entry.{Entry}
use Rattle.table.specs.declared.Update.{Update}
use Rattle.table.specs.declared.entries.Updates.{Updates}
use Rattle.table.specs.Forms.{Stage, on, end}
use Rattle.table.specs.Update.{lines, date_taken}
use Rattle.table.specs.Runs.{update_at}
use Rattle.host.specs.declared.Settings.{Settings}
use Rattle.host.specs.CallState.{CallState, entries_of}
use Rattle.arrival.specs.declared.Delivery.{Delivery}
use Rattle.arrival.specs.declared.Delivery.TheVariants.{Inspect, Act, Receive}
use Rattle.host.specs.Inspection.{inspect}
use Rattle.arrival.specs.Arrival.{action}

-- ---- moves

-- BACK-2: a move; `dates` is the date of line (d), `second` what a second does to HOLD
pub data Move : Type 0 where
  reads : Counter → Move
  ticks : Count → Move
  adjusts : Count → Move
  sets : Count → Millis → Move
  dates : Date → Move
  second : Move
  initialized : Move

-- BACK-2: the clock after a move
abbrev pub moved : Settings → Move → Clock → Clock
moved s (reads k) c = (reading s.clock_tick s.hold_interval k c).clock
moved s (ticks n) c = tick s.clock_tick s.hold_interval n c
moved s (adjusts n) c = adjust s.hold_interval n c
moved s (sets n m) c = set_by s.hold_interval n m c
moved s (dates d) c = date_taken d c
moved s second c = hold_second c
moved s initialized c = fresh_clock s.time s.date

-- BACK-2: the clock after a list of moves
abbrev pub moved_by : Settings → List Move → Clock → Clock
moved_by s [] c = c
moved_by s (m ∷ ms) c = moved_by s ms (moved s m c)

-- ---- the moves of an arrival

-- BACK-2, UPDATE-d: line (d), for the clock host after (c)
abbrev pub line_d_moves : (clock_host_of : Bool) → Updates → Update → Stage Entry → List Move
line_d_moves clock_host_of w u (on e) = cond clock_host_of (dates w.date ∷ sets w.count (of_word u.offset) ∷ []) []
line_d_moves clock_host_of w u (end e) = []

-- BACK-2: the updates of the ids from i on
abbrev pub sweep_moves : (i : ℕ) → Updates → (packet : List ℕ) → List Entry → List Move
sweep_moves i w packet [] = []
sweep_moves i w packet (e ∷ es) =
    line_d_moves (eqb (i - w.base) w.clock_host) w (update_at w (i - w.base) packet) (lines (update_at w (i - w.base) packet) e)
    ++ sweep_moves (suc i) w packet es

-- BACK-2: all updates of an arrival
abbrev pub update_moves : Updates → (packet : List ℕ) → List Entry → List Move
update_moves w packet es = sweep_moves w.first w packet (part w.first (w.end - w.first) es)

-- BACK-2, CLOCK-16: an action; a packet refused with 3 to 9 reads no clock
abbrev pub action_moves : (link : ℕ) → Counter → (packet : List ℕ) → CallState → Result Packet Answer → List Move
action_moves i k packet x (Err a) = []
action_moves i k packet x (Ok p) = reads k ∷ update_moves (action k x.nets x.host i p).work packet (entries_of x)

-- BACK-2: one of the three calls
abbrev pub delivery_moves : Delivery → (packet : List ℕ) → CallState → List Move
delivery_moves (Inspect i) packet x = []
delivery_moves (Act i k) packet x = action_moves i k packet x (inspect x.host.settings i packet)
delivery_moves (Receive i k) packet x = action_moves i k packet x (inspect x.host.settings i packet)
