-- WALK-3: the boxes of a walk. Each makes the changes of its step or line, and no others.
use Rattle.std.specs.Prelude.{cond, not, ◌&&◌, List, ℕ, eqb, Option, Some, None, Result, Ok, Err}
use Rattle.answer.specs.declared.Answer.{Answer}
use Rattle.answer.specs.declared.Answer.TheVariants.{DelayNotValid, NoHost, OutOfRange, NoWalk}
use Rattle.clock.specs.declared.Counter.{Counter}
use Rattle.clock.specs.declared.Reading.{Reading}
use Rattle.clock.specs.Clock.{count_used}
use Rattle.wire.specs.declared.Packet.{Packet}
use Rattle.table.specs.declared.Entry.{Entry}
use Rattle.table.specs.Forms.{Stage, on, end}
use Rattle.host.specs.declared.Effect.{Effect}
use Rattle.host.specs.declared.walk.Walk.{Walk}
use Rattle.host.specs.declared.walk.Place.{Place}
use Rattle.host.specs.declared.walk.Place.TheVariants.{Step1, Step2, Step3, Step4, Step5, LineA, LineB, LineC, LineD}
use Rattle.net_table.specs.declared.NetTable.{NetTable}
use Rattle.host.specs.Settings.{found_for}
use Rattle.host.specs.State.{broadcast, link_of}
use Rattle.host.specs.declared.Host.{Host}
use Rattle.host.specs.CallState.{our_reading}
use Rattle.host.specs.Reply.{plainly}
use Rattle.host.specs.Inspection.{inspect}
use Rattle.host.specs.Walk.{is_open, place_of, packet_of}
use Rattle.host.specs.Effect.{nothing, answers}
use Rattle.arrival.specs.declared.Flight.{Flight}
use Rattle.arrival.specs.Steps.{step2, step3, step4}
unfoldable pub use Rattle.walk.specs.WalkPlaces.{in_flight, storing, holding_reading, holding, raised, at, at_step, at_line, onward, ended}
unfoldable pub use Rattle.walk.specs.LineBoxes.{next_id, put, after_a, box_a, after_b, box_b, is_clock_host, after_c, box_c, clock_set, box_d}

-- ---- steps 1 to 5

-- WALK-3, WALK-6: step 1: the one reading, with all that it changes
unfoldable pub box1 : Counter → Host → Walk → Effect
box1 k h w =
    let r : Reading = our_reading k h in
    onward (at_step 2 (holding_reading (count_used k) r.time w)) r.clock h.links nothing

-- WALK-3: step 2: KEEP-ALIVE
unfoldable pub box2 : Host → Walk → Effect
box2 h w = onward (at_step 3 w) h.clock (storing (step2 (in_flight h.links w)) w h.links) nothing

-- WALK-3: step 3: TSP; DELAY and OFFSET are stored in the walk
unfoldable pub box3 : Packet → Host → Walk → Effect
box3 p h w =
    let f : Flight = step3 (broadcast h.settings w.link) p (in_flight h.links w) in
    onward (at_step 4 (holding f w)) h.clock (storing f w h.links) nothing

-- WALK-3, WALK-7: 10 ends the walk; if not, step 5 is next
abbrev pub fourth : Host → Walk → Stage Flight → Effect
fourth h w (end f) = ended DelayNotValid h.clock (storing f w h.links) nothing
fourth h w (on f) = onward (at_step 5 (holding f w)) h.clock (storing f w h.links) nothing

-- WALK-3, WALK-7: step 4: a new neighbour, or 10
unfoldable pub box4 : Packet → Host → Walk → Effect
box4 p h w = fourth h w (step4 (broadcast h.settings w.link) h.clock.hold p (in_flight h.links w))

-- WALK-7: 11 ends the walk; if not, line (a) of the id is next
abbrev pub to_neighbor : Host → Walk → Option ℕ → Effect
to_neighbor h w None = ended NoHost h.clock h.links nothing
to_neighbor h w (Some id) = onward (at_line 1 id w) h.clock h.links nothing

-- WALK-3, WALK-7, NET-11: step 5: DELAY at least 100; without a table the id is looked up in the table of this box
unfoldable pub box5 : Packet → NetTable → Host → Walk → Effect
box5 p t h w =
    cond (eqb p.nhosts 0) (to_neighbor h (raised w) (found_for t h.settings (link_of h.links w.link).neighbor))
    (onward (at_line 1 0 (raised w)) h.clock h.links nothing)

-- ---- a step

-- WALK-3: the id whose entry a line uses
abbrev pub at_hand : Walk → Option ℕ
at_hand w = cond (is_open w && not (eqb w.line 0)) (Some w.id) None

-- WALK-3: the box of a place; a place that does not exist is 12 before
abbrev pub box_at : Option Place → Counter → Packet → (packet : List ℕ) → NetTable → Host → Walk → Entry → Effect
box_at None k p octets t h w e = answers (plainly OutOfRange) h.clock h.links w
box_at (Some Step1) k p octets t h w e = box1 k h w
box_at (Some Step2) k p octets t h w e = box2 h w
box_at (Some Step3) k p octets t h w e = box3 p h w
box_at (Some Step4) k p octets t h w e = box4 p h w
box_at (Some Step5) k p octets t h w e = box5 p t h w
box_at (Some LineA) k p octets t h w e = box_a p octets h w e
box_at (Some LineB) k p octets t h w e = box_b p octets h w e
box_at (Some LineC) k p octets t h w e = box_c p octets h w e
box_at (Some LineD) k p octets t h w e = box_d p octets h w

-- WALK-3: the box of a packet that passes; another is 12 before
abbrev pub box_of : Counter → (packet : List ℕ) → NetTable → Host → Walk → Entry → Result Packet Answer → Effect
box_of k octets t h w e (Err a) = answers (plainly OutOfRange) h.clock h.links w
box_of k octets t h w e (Ok p) = box_at (place_of w) k p octets t h w e

-- WALK-3, WALK-8, ANSWER-17: one box; 17 without an open walk
unfoldable pub step : Counter → NetTable → Host → Walk → (copy : List ℕ) → Entry → Effect
step k t h w copy e =
    cond (not (is_open w)) (answers (plainly NoWalk) h.clock h.links w)
    (box_of k (packet_of w copy) t h w e (inspect h.settings w.link (packet_of w copy)))
