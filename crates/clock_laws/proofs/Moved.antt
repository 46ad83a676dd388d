-- Each work alters the clock by the clock's own procedures alone, and line (d) does so for the clock host; so the clock afterwards is that of the moves in turn.
use Rattle.std.specs.Prelude.{Option, Some, None, Result, Ok, Err}
use Rattle.answer.specs.declared.Answer.{Answer}
use mathlib.Core.Path.{◌≡◌, refl, sym, ap, ◌∙◌}
use mathlib.Core.Bool.{Bool, true, false, cond, not, true≢false, ◌||◌}
use mathlib.Core.List.{List, [], ◌∷◌, ◌++◌}
use Prim.Native.Nat.{ℕ, suc, ◌+◌, ◌-◌}
use lib.Dec.{ltb, eqb}
use lib.ListN.{length}
use Rattle.lists.specs.Lists.{part}
use Rattle.lists.proofs.Tests.{either}
use Rattle.quantity.specs.Words.{of_word}
use Rattle.answer.specs.declared.Answer.TheVariants.{Done, ShortBuffer, NoWalk}
use Rattle.clock.specs.declared.Clock.{Clock}
use Rattle.clock.specs.declared.Counter.{Counter}
use Rattle.clock.specs.Clock.{count_used}
use Rattle.quantity.specs.declared.Count.{Count}
use Rattle.wire.specs.declared.Packet.{Packet}
use Rattle.wire.specs.Packet.{packet_length}
use Rattle.net_table.specs.declared.NetTable.{NetTable}
use Rattle.table.specs.declared.Entry.{Entry}
use Rattle.table.specs.declared.Update.{Update}
use Rattle.table.specs.declared.entries.Changes.{Changes}
use Rattle.table.specs.declared.entries.Updates.{Updates}
use Rattle.table.specs.Forms.{Stage, on, end}
use Rattle.table.specs.Update.{line_a, line_b, line_c, lines, line_d, settled, update}
use Rattle.table.specs.Sweep.{sweep}
use Rattle.table.specs.Runs.{update_at, updated_at, updates}
use Rattle.host.specs.declared.Settings.{Settings}
use Rattle.host.specs.declared.Links.{Links}
use Rattle.host.specs.declared.walk.Walk.{Walk}
use Rattle.host.specs.declared.walk.Place.{Place}
use Rattle.host.specs.declared.walk.Place.TheVariants.{Step1, Step2, Step3, Step4, Step5, LineA, LineB, LineC, LineD}
use Rattle.host.specs.declared.Effect.{Effect}
use Rattle.host.specs.Settings.{found_for}
use Rattle.host.specs.State.{host_count, broadcast, link_of, with_link}
use Rattle.host.specs.CallState.{CallState, host, entries_of, our_reading}
use Rattle.host.specs.Guard.{done}
use Rattle.host.specs.Reply.{plainly}
use Rattle.host.specs.Walk.{is_open, place_of, packet_of, line_update}
use Rattle.host.specs.Effect.{nothing, answers}
use Rattle.walk.specs.Boxes.{in_flight, raised, fourth, to_neighbor, next_id, put, onward, at_line, is_clock_host, clock_set, after_a, after_b, after_c, box1, box2, box3, box4, box5, box_a, box_b, box_c, box_d, box_at, box_of, step}
use Rattle.sending.specs.Send.{report_count, unsent, sends}
use Rattle.arrival.specs.declared.Arrived.{Arrived}
use Rattle.arrival.specs.declared.Delivery.TheVariants.{Inspect, Act, Receive}
use Rattle.arrival.specs.declared.Flight.{Flight}
use Rattle.host.specs.Inspection.{inspect}
use Rattle.arrival.specs.Steps.{step4, steps2to4}
use Rattle.arrival.specs.Arrival.{no_table, with_table, concluded, inspected}
use Rattle.arrival.proofs.Pair.{one_piece}
use Rattle.calls.specs.declared.Request.{Request}
use Rattle.calls.specs.declared.Request.TheVariants.{Initialize, Tick, Adjust, Set, Read, Second, SelfReport, Lookup, Step}
use Rattle.calls.specs.Effects.{initialize, tick, adjust, set_by, read, second, self_report, lookup, effect}
use Rattle.calls.specs.Perform.{Call, ask, send, deliver, open_walk, Outcome, refused, work, perform}
use Rattle.network_laws.proofs.Performs.{guard_of, performs}
use Rattle.clock_laws.specs.Moves.{Move, reads, sets, dates, moved_by, line_d_moves, sweep_moves, update_moves, action_moves, box_moves, walk_moves, step_moves, work_moves, moves, ClockMoves}
use Rattle.clock_laws.specs.Turns.{Turn, state_for, clock_after, clock_after_all, moves_of, moves_of_all}

pub moved_on : (s : Settings) (ms ns : List Move) (c : Clock) → moved_by s (ms ++ ns) c ≡ moved_by s ns (moved_by s ms c)
moved_on s [] ns c = refl
moved_on s (m ∷ ms) ns c = moved_on s ms ns _

-- ---- the updates of an arrival

module _ (s : Settings) (w : Updates) (same : w.hold_interval ≡ s.hold_interval) (packet : List ℕ) where
  line_d_moved : (host : Bool) (u : Update) (c : Clock) (x : Stage Entry)
      → (settled host w.hold_interval w.count w.date u c x).clock ≡ moved_by s (line_d_moves host w u x) c
  unfolding line_d
  line_d_moved true u c (on e) = rw same
  line_d_moved false u c (on e) = refl
  line_d_moved true u c (end e) = refl
  line_d_moved false u c (end e) = refl

  sweep_moved : (i : ℕ) (c : Clock) (es : List Entry) → (sweep i (updated_at w packet) c es).clock ≡ moved_by s (sweep_moves i w packet es) c
  unfolding sweep update
  sweep_moved i c [] = refl
  sweep_moved i c (e ∷ es) =
      let u : Update = update_at w (i - w.base) packet in
      let m : List Move = line_d_moves (eqb (i - w.base) w.clock_host) w u (lines u e) in
      sweep_moved (suc i) (updated_at w packet i c e).clock es
      ∙ ap (moved_by s (sweep_moves (suc i) w packet es)) (line_d_moved (eqb (i - w.base) w.clock_host) u c (lines u e))
      ∙ sym (moved_on s m (sweep_moves (suc i) w packet es) c)

-- the result of an arrival after its reading, with this clock
module _ (s : Settings) (packet : List ℕ) (es : List Entry) (c : Clock) where
  abbrev Ends : Arrived → Type 0
  Ends a = (updates a.work packet es).clock ≡ moved_by s (update_moves a.work packet es) c

  swept : (a : Arrived) → a.work.hold_interval ≡ s.hold_interval → a.work.clock ≡ c → Ends a
  unfolding updates
  swept a same from =
      let w : Updates = a.work in
      sweep_moved s w same packet w.first w.clock (part w.first (w.end - w.first) es) ∙ ap (moved_by s (update_moves w packet es)) from

  fifth : (l : Links) (i : ℕ) (n : Count) (p : Packet) (f : Flight) (b : Bool) (x : Option ℕ)
      → Ends (cond b (no_table (host s c l) i n p f x) (with_table (host s c l) i n p f))
  unfolding updates sweep
  fifth l i n p f true None = refl
  fifth l i n p f true (Some id) = swept (no_table (host s c l) i n p f (Some id)) refl refl
  fifth l i n p f false x = swept (with_table (host s c l) i n p f) refl refl

  ended : (t : NetTable) (l : Links) (i : ℕ) (n : Count) (p : Packet) (g : Stage Flight) → Ends (concluded t (host s c l) i n p g)
  unfolding updates sweep
  ended t l i n p (end f) = refl
  ended t l i n p (on f) = fifth (with_link i f.link l) i n p f (eqb p.nhosts 0) (found_for t s f.link.neighbor)

module _ (x : CallState) where
  abbrev s : Settings
  s = x.host.settings

  abbrev Moved : Outcome → List Move → Type 0
  Moved o ms = o.clock ≡ moved_by s ms x.host.clock

  -- a box
  module _ (k : Counter) (e : Entry) (p : Packet) (packet : List ℕ) where
    abbrev w : Walk
    w = x.walk

    abbrev At : Clock → Effect → Type 0
    At d y = y.clock ≡ d

    next : (d : Clock) (done : Changes) → At d (next_id p (host s d x.host.links) w done)
    next d done = either (At d) (eqb p.nhosts 0 || not (ltb (w.id + 1) (host_count s))) _ _ (λ _. refl) (λ _. refl)

    four : (q : Stage Flight) → At x.host.clock (fourth x.host w q)
    four (end f) = refl
    four (on f) = refl

    found : (f : Option ℕ) → At x.host.clock (to_neighbor x.host (raised w) f)
    found None = refl
    found (Some id) = refl

    a_moved : (q : Stage Entry) → At x.host.clock (after_a p x.host w q)
    a_moved (end y) = next x.host.clock nothing
    a_moved (on y) = refl

    b_moved : (q : Stage Entry) → At x.host.clock (after_b p x.host w q)
    b_moved (end y) = next x.host.clock (put w y)
    b_moved (on y) = refl

    c_moved : (q : Stage Entry) → At x.host.clock (after_c p x.host w q)
    c_moved (end y) = next x.host.clock (put w y)
    c_moved (on y) = either (At x.host.clock) (is_clock_host x.host w) _ _ (λ _. refl) (λ _. next x.host.clock (put w y))

    box_moved : (q : Option Place) → (box_at q k p packet x.nets x.host w e).clock ≡ moved_by s (box_moves q k p packet x.host w) x.host.clock
    unfolding box1 box2 box3 box4 box5 box_a box_b box_c box_d line_d
    box_moved None = refl
    box_moved (Some Step1) = refl
    box_moved (Some Step2) = refl
    box_moved (Some Step3) = refl
    box_moved (Some Step4) = four (step4 (broadcast s w.link) x.host.clock.hold p (in_flight x.host.links w))
    box_moved (Some Step5) =
        either (At x.host.clock) (eqb p.nhosts 0) (to_neighbor x.host (raised w) (found_for x.nets s (link_of x.host.links w.link).neighbor)) (onward (at_line 1 0 (raised w)) x.host.clock x.host.links nothing)
        (λ _. found (found_for x.nets s (link_of x.host.links w.link).neighbor)) (λ _. refl)
    box_moved (Some LineA) = a_moved (line_a (line_update w p packet) e)
    box_moved (Some LineB) = b_moved (line_b (line_update w p packet) e)
    box_moved (Some LineC) = c_moved (line_c (line_update w p packet) e)
    box_moved (Some LineD) = next (clock_set p packet x.host w) nothing ∙ go (is_clock_host x.host w)
      where
        go : (b : Bool)
            → cond b (line_d s.hold_interval w.count p.date (line_update w p packet).offset x.host.clock) x.host.clock
            ≡ moved_by s (cond b (dates p.date ∷ sets w.count (of_word (line_update w p packet).offset) ∷ []) []) x.host.clock
        go true = refl
        go false = refl

  stepped : (k : Counter) (e : Entry) → (step k x.nets x.host x.walk x.copy e).clock ≡ moved_by s (step_moves k x) x.host.clock
  unfolding step
  stepped k e = go (not (is_open x.walk)) (inspect s x.walk.link (packet_of x.walk x.copy))
    where
      go : (b : Bool) (q : Result Packet Answer)
          → (cond b (answers (plainly NoWalk) x.host.clock x.host.links x.walk) (box_of k (packet_of x.walk x.copy) x.nets x.host x.walk e q)).clock
          ≡ moved_by s (cond b [] (walk_moves k x q)) x.host.clock
      go true q = refl
      go false (Err a) = refl
      go false (Ok p) = box_moved k e p (packet_of x.walk x.copy) (place_of x.walk)

  requested : (q : Request) (e : Entry) → (effect q x.nets x.host x.walk x.copy e).clock ≡ moved_by s (work_moves (ask q) x) x.host.clock
  unfolding initialize tick adjust set_by read second self_report lookup
  requested Initialize e = refl
  requested (Tick n) e = refl
  requested (Adjust n) e = refl
  requested (Set ms n) e = refl
  requested (Read k) e = refl
  requested Second e = refl
  requested (SelfReport k) e = refl
  requested (Lookup a) e = refl
  requested (Step k) e = stepped k e

  acted : (i : ℕ) (k : Counter) (packet : List ℕ) (q : Result Packet Answer)
      → (updates (inspected k x.nets x.host i q).work packet (entries_of x)).clock ≡ moved_by s (action_moves i k packet x q) x.host.clock
  unfolding updates sweep
  acted i k packet (Err a) = refl
  acted i k packet (Ok p) =
      ended s packet (entries_of x) (our_reading k x.host).clock x.nets x.host.links i (count_used k) p
      (steps2to4 (broadcast s i) (our_reading k x.host).clock.hold p (our_reading k x.host).time (link_of x.host.links i))

  worked : (c : Call) → Moved (work c x) (work_moves c x)
  unfolding updates sweep
  worked (ask q) = requested q _
  worked (send i k buffer) = sent (ltb (length buffer) (packet_length (report_count s (link_of x.host.links i))))
    where
      sent : (b : Bool) → (cond b (unsent ShortBuffer x.host) (sends i k x.host)).clock ≡ moved_by s (cond b [] (reads k ∷ [])) x.host.clock
      sent true = refl
      sent false = refl
  worked (open_walk i packet) = refl
  worked (deliver (Inspect i) packet) = refl
  worked (deliver (Act i k) packet) = acted i k packet (inspect s i packet)
  worked (deliver (Receive i k) packet) =
      ap (λ (a : Arrived). (updates a.work packet (entries_of x)).clock) (one_piece i k packet x.nets x.host) ∙ acted i k packet (inspect s i packet)

  performed : (c : Call) → Moved (perform c x) (moves c x)
  unfolding perform moves
  performed c = go (not (done (guard_of c x)))
    where
      go : (b : Bool) → Moved (cond b (refused (guard_of c x) c x) (work c x)) (cond b [] (work_moves c x))
      go true = refl
      go false = worked c

  returned : (k : Counter) → (perform (ask (Read k)) x).reply.answer ≡ Done → (perform (ask (Read k)) x).reply.time ≡ (our_reading k x.host).time
  unfolding read
  returned k =
      performs (ask (Read k)) x (λ o. o.reply.answer ≡ Done → o.reply.time ≡ (our_reading k x.host).time)
      (λ refuses is. absurd (true≢false (sym (ap done is) ∙ refuses))) (λ _ _. refl)

pub clock_moves_hold : ClockMoves
clock_moves_hold = record { clock = λ c x. performed x c; returned = λ k x. returned x k }

-- and so is the clock of a list of calls
pub turns_moved : (s : Settings) (c : Clock) (ts : List Turn) → clock_after_all s c ts ≡ moved_by s (moves_of_all s c ts) c
turns_moved s c [] = refl
turns_moved s c (t ∷ ts) =
    turns_moved s (clock_after s c t) ts
    ∙ ap (moved_by s (moves_of_all s (clock_after s c t) ts)) (performed (state_for s c t) t.call)
    ∙ sym (moved_on s (moves_of s c t) (moves_of_all s (clock_after s c t) ts) c)
