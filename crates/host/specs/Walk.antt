-- WALK-2, WALK-9: a walk, its places, and when it is in range.
use Rattle.std.specs.Prelude.{Bool, true, false, cond, not, ◌&&◌, ◌||◌, List, ℕ, ltb, leb, eqb, pos, length, take, Option, Some, None, Result, Ok, Err}
use Rattle.answer.specs.declared.Answer.{Answer}
use Rattle.quantity.specs.Quantity.{millis, counts, less_millis}
use Rattle.quantity.specs.Words.{word, of_word}
use Rattle.clock.specs.Midnight.{day_millis}
use Rattle.wire.specs.declared.Packet.{Packet}
use Rattle.wire.specs.Hello.{report_at}
use Rattle.wire.specs.Packet.{hello_of}
use Rattle.table.specs.declared.Update.{Update}
use Rattle.table.specs.Entry.{max_delay, min_delay, up_to}
use Rattle.table.specs.Update.{plus_report}
use Rattle.host.specs.declared.Settings.{Settings}
use Rattle.host.specs.declared.walk.Walk.{Walk}
use Rattle.host.specs.declared.walk.Place.{Place}
use Rattle.host.specs.declared.walk.Place.TheVariants.{Step1, Step2, Step3, Step4, Step5, LineA, LineB, LineC, LineD}
use Rattle.host.specs.State.{no_link}
use Rattle.host.specs.Inspection.{inspect}

-- WALK-2: is a walk open? Any mark except 0 says so.
abbrev pub is_open : Walk → Bool
is_open w = not (eqb w.opened 0)

-- WALK-2: a closed walk: zeros
abbrev pub no_walk : Walk
no_walk =
    record {
      opened = 0;
      link = 0;
      step = 0;
      line = 0;
      id = 0;
      length = 0;
      count = counts 0;
      reading = millis (pos 0);
      delay = word (pos 0);
      offset = word (pos 0);
    }

-- ---- places: a step from 1 to 5, or in step 5 a line from 1 to 4, for (a) to (d)

-- WALK-2: the place of a step from 1 to 5
abbrev pub step_place : ℕ → Option Place
step_place n =
    cond (eqb n 1) (Some Step1)
    (cond (eqb n 2) (Some Step2)
    (cond (eqb n 3) (Some Step3)
    (cond (eqb n 4) (Some Step4)
    (cond (eqb n 5) (Some Step5) None))))

-- WALK-2: the place of a line from 1 to 4, for (a) to (d)
abbrev pub line_place : ℕ → Option Place
line_place m =
    cond (eqb m 1) (Some LineA)
    (cond (eqb m 2) (Some LineB)
    (cond (eqb m 3) (Some LineC)
    (cond (eqb m 4) (Some LineD) None)))

-- WALK-2: the place of a step and a line
abbrev pub place_in : (step line : ℕ) → Option Place
place_in n m = cond (eqb m 0) (step_place n) (cond (eqb n 5) (line_place m) None)

-- WALK-2: the next place of a walk
unfoldable pub place_of : Walk → Option Place
place_of w = place_in w.step w.line

-- ----

-- WALK-1: the walk's packet, at the start of its copy
abbrev pub packet_of : Walk → (copy : List ℕ) → List ℕ
packet_of w copy = take w.length copy

-- ---- the update of an id by its lines: the walk's DELAY and OFFSET, with the packet's report if it has a table

-- WALK-2: the update with the walk's DELAY, OFFSET and reading
abbrev pub walk_update : Walk → Update
walk_update w = record { pid = w.link; delay = of_word w.delay; offset = w.offset; reading = w.reading }

-- WALK-3, UPDATE-1: the update of the walk's id: with its report if the packet has a table
abbrev pub line_update : Walk → Packet → (packet : List ℕ) → Update
line_update w p octets =
    cond (eqb p.nhosts 0) (walk_update w) (plus_report (walk_update w) (report_at (hello_of octets) w.id))

-- ---- 12

-- WALK-9: is the walk's reading at most a day?
abbrev pub reading_in_range : Walk → Bool
reading_in_range w = up_to day_millis w.reading

-- WALK-9: is the walk's host id below NHOSTS?
abbrev pub id_in_range : Settings → Walk → Bool
id_in_range s w = ltb w.id s.layout.nhosts

-- WALK-9: would line (c) store a DELAY of 100 to 29,999?
abbrev pub storable : Update → Bool
storable u = not (less_millis u.delay min_delay) && less_millis u.delay max_delay

-- WALK-9: is everything in range that the walk's place uses?
abbrev pub walk_fields_at : Option Place → Settings → Walk → Packet → (packet : List ℕ) → Bool
walk_fields_at None s w p octets = false
walk_fields_at (Some Step1) s w p octets = true
walk_fields_at (Some Step2) s w p octets = reading_in_range w
walk_fields_at (Some Step3) s w p octets = reading_in_range w
walk_fields_at (Some Step4) s w p octets = reading_in_range w
walk_fields_at (Some Step5) s w p octets = reading_in_range w
walk_fields_at (Some LineA) s w p octets = reading_in_range w && id_in_range s w
walk_fields_at (Some LineB) s w p octets = reading_in_range w && id_in_range s w
walk_fields_at (Some LineC) s w p octets = reading_in_range w && id_in_range s w && storable (line_update w p octets)
walk_fields_at (Some LineD) s w p octets = reading_in_range w && id_in_range s w

-- WALK-9: does the walk's packet pass the tests for 3 to 9, and is its place in range?
abbrev pub packet_fits : Settings → Walk → (packet : List ℕ) → Result Packet Answer → Bool
packet_fits s w octets (Err a) = false
packet_fits s w octets (Ok p) = walk_fields_at (place_of w) s w p octets

-- WALK-9: is a walk closed, or in range with the settings of the call?
unfoldable pub walk_in_range : Settings → Walk → (copy : List ℕ) → Bool
walk_in_range s w copy =
    not (is_open w)
    || (not (no_link s w.link) && leb w.length (length copy)
    && packet_fits s w (packet_of w copy) (inspect s w.link (packet_of w copy)))
