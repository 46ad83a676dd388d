-- BACK-2: what a call does to the clock, as a list of moves, each one of the clock's own procedures.
use Rattle.std.specs.Prelude.{◌≡◌, cond, not, List, [], ◌∷◌, ℕ, ltb, length, Result, Ok, Err, Option, Some, None}
use Rattle.answer.specs.declared.Answer.{Answer}
use Rattle.quantity.specs.Quantity.{millis}
use Rattle.quantity.specs.Words.{of_word}
use Rattle.answer.specs.declared.Answer.TheVariants.{Done}
use Rattle.clock.specs.declared.Counter.{Counter}
use Rattle.wire.specs.declared.Packet.{Packet}
use Rattle.wire.specs.Packet.{packet_length}
use Rattle.host.specs.declared.walk.Walk.{Walk}
use Rattle.host.specs.declared.walk.Place.{Place}
use Rattle.host.specs.declared.walk.Place.TheVariants.{Step1, Step2, Step3, Step4, Step5, LineA, LineB, LineC, LineD}
use Rattle.host.specs.State.{link_of}
use Rattle.host.specs.Walk.{is_open, place_of, packet_of, line_update}
use Rattle.host.specs.declared.Host.{Host}
use Rattle.host.specs.CallState.{CallState, our_reading}
use Rattle.walk.specs.Boxes.{is_clock_host}
use Rattle.host.specs.Guard.{guard, done}
use Rattle.sending.specs.Send.{report_count}
use Rattle.host.specs.Inspection.{inspect}
use Rattle.calls.specs.declared.Request.{Request}
use Rattle.calls.specs.declared.Request.TheVariants.{Initialize, Tick, Adjust, Set, Read, Second, SelfReport, Lookup, Step}
use Rattle.calls.specs.Perform.{Call, ask, send, deliver, open_walk, scope_of_call, perform}
pub use Rattle.clock_laws.specs.ArrivalMoves.{Move, reads, ticks, adjusts, sets, dates, second, initialized}
unfoldable pub use Rattle.clock_laws.specs.ArrivalMoves.{moved, moved_by, line_d_moves, sweep_moves, update_moves, action_moves, delivery_moves}

-- ---- the moves of a box: the first reads, and line (d) sets, for the clock host

-- BACK-2, WALK-6: a box: the first reads, and line (d) sets
abbrev pub box_moves : Option Place → Counter → Packet → (packet : List ℕ) → Host → Walk → List Move
box_moves None k p packet h w = []
box_moves (Some Step1) k p packet h w = reads k ∷ []
box_moves (Some Step2) k p packet h w = []
box_moves (Some Step3) k p packet h w = []
box_moves (Some Step4) k p packet h w = []
box_moves (Some Step5) k p packet h w = []
box_moves (Some LineA) k p packet h w = []
box_moves (Some LineB) k p packet h w = []
box_moves (Some LineC) k p packet h w = []
box_moves (Some LineD) k p packet h w =
    cond (is_clock_host h w) (dates p.date ∷ sets w.count (of_word (line_update w p packet).offset) ∷ []) []

-- BACK-2: the walk's next box
abbrev pub walk_moves : Counter → CallState → Result Packet Answer → List Move
walk_moves k x (Err a) = []
walk_moves k x (Ok p) = box_moves (place_of x.walk) k p (packet_of x.walk x.copy) x.host x.walk

-- BACK-2: a step
abbrev pub step_moves : Counter → CallState → List Move
step_moves k x = cond (not (is_open x.walk)) [] (walk_moves k x (inspect x.host.settings x.walk.link (packet_of x.walk x.copy)))

-- ---- the moves of a call

-- BACK-2: a request
abbrev pub request_moves : Request → CallState → List Move
request_moves Initialize x = initialized ∷ []
request_moves (Tick n) x = ticks n ∷ []
request_moves (Adjust n) x = adjusts n ∷ []
request_moves (Set ms n) x = sets n (millis ms) ∷ []
request_moves (Read k) x = reads k ∷ []
request_moves Second x = second ∷ []
request_moves (SelfReport k) x = reads k ∷ []
request_moves (Lookup a) x = []
request_moves (Step k) x = step_moves k x

-- BACK-2: a call after its guard
abbrev pub work_moves : Call → CallState → List Move
work_moves (ask q) x = request_moves q x
work_moves (send i k buffer) x =
    cond (ltb (length buffer) (packet_length (report_count x.host.settings (link_of x.host.links i)))) [] (reads k ∷ [])
work_moves (deliver d packet) x = delivery_moves d packet x
work_moves (open_walk i packet) x = []

-- BACK-2: a call
unfoldable pub moves : Call → CallState → List Move
moves c x = cond (not (done (guard (scope_of_call c) x))) [] (work_moves c x)

-- ---- the law

-- BACK-2: for every call
pub record ClockMoves : Type 0 where
  -- BACK-2: it makes its moves, and nothing else changes the clock
  pub clock : (c : Call) (x : CallState) → (perform c x).clock ≡ moved_by x.host.settings (moves c x) x.host.clock
  -- CLOCK-8: what a read returns is its reading
  pub returned : (k : Counter) (x : CallState) → (perform (ask (Read k)) x).reply.answer ≡ Done
      → (perform (ask (Read k)) x).reply.time ≡ (our_reading k x.host).time
