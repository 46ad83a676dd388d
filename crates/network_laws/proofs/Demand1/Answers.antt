-- The tests of each call are in its definition in their order: those of the guard, and then those of its work.
use Rattle.std.specs.Prelude.{Option, Some, None, Result, Ok, Err, is_some}
use mathlib.Core.Path.{◌≡◌, refl, ap, ◌∙◌}
use mathlib.Core.Bool.{Bool, true, false, false≢true, cond, not, ◌&&◌, ◌||◌}
use mathlib.Core.List.{List}
use Prim.Native.Nat.{ℕ, ◌+◌}
use borrow.Author.Tests.{eqb-true}
use lib.Dec.{ltb, eqb}
use lib.ListN.{length}
use Rattle.lists.proofs.Tests.{either}
use Rattle.answer.specs.declared.Answer.{Answer}
use Rattle.answer.specs.declared.Answer.TheVariants.{Done, Setting, ShortBuffer, IpForm, IpChecksum, Protocol, HelloForm, HelloChecksum, OtherLayout, LoopedLine, DelayNotValid, NoHost, OutOfRange, HostDown, InWalk, NoWalk}
use Rattle.quantity.specs.declared.Count.{Count}
use Rattle.quantity.specs.Words.{zero_word}
use Rattle.clock.specs.declared.Counter.{Counter}
use Rattle.clock.specs.Clock.{count_used}
use Rattle.wire.specs.declared.Packet.{Packet}
use Rattle.wire.specs.Octets.{same_address}
use Rattle.wire.specs.Ip.{ip_form, ip_checksum, protocol}
use Rattle.wire.specs.Hello.{hello_form, hello_checksum}
use Rattle.wire.specs.Packet.{hello_of, fields, parse, packet_length}
use Rattle.net_table.specs.declared.NetTable.{NetTable}
use Rattle.table.specs.declared.Entry.{Entry}
use Rattle.table.specs.declared.entries.Changes.{Changes}
use Rattle.table.specs.Forms.{Stage, on, end}
use Rattle.table.specs.Entry.{up}
use Rattle.table.specs.Update.{line_a, line_b, line_c}
use Rattle.host.specs.declared.Effect.{Effect}
use Rattle.host.specs.declared.walk.Walk.{Walk}
use Rattle.host.specs.declared.walk.Place.{Place}
use Rattle.host.specs.declared.walk.Place.TheVariants.{LineD}
use Rattle.host.specs.declared.guard.Scope.TheVariants.{Walking}
use Rattle.host.specs.Settings.{settings_fit, found_for}
use Rattle.host.specs.State.{broadcast, link_of, with_link, host_count}
use Rattle.host.specs.declared.Host.{Host}
use Rattle.host.specs.CallState.{CallState, entries_of, host, our_reading, own_walk_in_range}
use Rattle.host.specs.Guard.{out_of_range, in_walk, guard, done}
use Rattle.host.specs.Walk.{is_open, packet_of, place_of, step_place, line_place, line_update, walk_fields_at, packet_fits}
use Rattle.host.specs.Effect.{nothing, answers}
use Rattle.host.proofs.Guarded.{passed, walk_state}
use Rattle.host.proofs.Walks.{opened_says}
use Rattle.host.specs.Reply.{plainly, returns_route}
use Rattle.sending.specs.Send.{report_count, unsent, sends}
use Rattle.arrival.specs.declared.Flight.{Flight}
use Rattle.arrival.specs.declared.Arrived.{Arrived}
use Rattle.arrival.specs.declared.Delivery.{Delivery}
use Rattle.arrival.specs.declared.Delivery.TheVariants.{Inspect, Act, Receive}
use Rattle.host.specs.Inspection.{other_layout, looped, inspect, tells}
use Rattle.host.specs.Inspection as inspecting
use Rattle.arrival.specs.Steps.{step2, step3, step4, measured, new_neighbor}
use Rattle.arrival.specs.Arrival.{no_table, with_table, step5, concluded, action, inspected, inspection, act, delivered}
use Rattle.arrival.proofs.Flights.{steps_cases}
use Rattle.arrival.proofs.Pair.{one_piece}
use Rattle.walk.specs.Opening.{opening, opened_by}
use Rattle.walk.specs.Boxes.{in_flight, raised, at_line, onward, fourth, to_neighbor, next_id, put, is_clock_host, clock_set, after_a, after_b, after_c, box1, box2, box3, box4, box5, box_a, box_b, box_c, box_d, at_hand, box_at, box_of, step}
use Rattle.calls.specs.declared.Request.{Request}
use Rattle.calls.specs.declared.Request.TheVariants.{Initialize, Tick, Adjust, Set, Read, Second, SelfReport, Lookup, Step}
use Rattle.calls.specs.Effects.{initialize, tick, adjust, set_by, read, second, self_report, lookup, looked}
use Rattle.calls.specs.Perform.{Call, ask, send, deliver, open_walk, scope_of_call, entry_at, work, perform}
use Rattle.network_laws.specs.Answers.{Answers, first_of, delay_invalid_in, delay_invalid, neighbor_unknown, host_down, request_tests, inspection_tests, action_tests, delivery_tests, own_tests}
use Rattle.network_laws.proofs.Performs.{guard_of, performs}
use Rattle.network_laws.proofs.Arrivals.{same_address_lem}
use Rattle.network_laws.proofs.Walking.{inspect_cases}

-- 12, 16 and 1
abbrev first : (a b c : Bool) → Answer → Answer
first a b c r = cond a OutOfRange (cond b InWalk (cond c Setting r))

-- and then what the work answers
guarded : (a b c : Bool) {w r : Answer} → (done (first a b c Done) ≡ true → w ≡ r)
    → cond (not (done (first a b c Done))) (first a b c Done) w ≡ first a b c r
guarded true b c e = refl
guarded false true c e = refl
guarded false false true e = refl
guarded false false false e = e refl

-- ---- lookup

looked-answer : (x : CallState) (f : Option ℕ) → (looked f (entry_at f x)).answer ≡ cond (not (is_some f)) NoHost (cond (host_down (entries_of x) f) HostDown Done)
looked-answer x None = refl
looked-answer x (Some id) = go (up (entry_at (Some id) x))
  where
    go : (b : Bool) → (cond (not b) (plainly HostDown) (returns_route id (entry_at (Some id) x).pid)).answer ≡ cond (not b) HostDown Done
    go true = refl
    go false = refl

module _ (h : Host) (i : ℕ) where
  -- ---- send

  sent-answer : (k : Counter) (b : Bool) → (cond b (unsent ShortBuffer h) (sends i k h)).reply.answer ≡ cond b ShortBuffer Done
  sent-answer k true = refl
  sent-answer k false = refl

  -- ---- arrival

  -- step 5 gives 11 where the packet has no table and its neighbour has no id
  step5-answer : (n : Count) (t : NetTable) (g : Host) (p : Packet) (f : Flight)
      → (step5 t g i n p f).reply.answer ≡ cond (eqb p.nhosts 0 && not (is_some (found_for t g.settings f.link.neighbor))) NoHost Done
  step5-answer n t g p f = go (eqb p.nhosts 0) (found_for t g.settings f.link.neighbor)
    where
      go : (b : Bool) (x : Option ℕ) → (cond b (no_table g i n p f x) (with_table g i n p f)).reply.answer ≡ cond (b && not (is_some x)) NoHost Done
      go true None = refl
      go true (Some id) = refl
      go false x = refl

  -- the answer of steps 2 to 5
  abbrev acted : Counter → NetTable → Packet → Answer
  acted k t p = cond (delay_invalid k h i p) DelayNotValid (cond (neighbor_unknown t h i p) NoHost Done)

  action-answer : (k : Counter) (t : NetTable) (p : Packet) → (action k t h i p).reply.answer ≡ acted k t p
  unfolding step3 step2
  action-answer k t p =
      let r = our_reading k h in
      let after : Flight → Host = λ f. host h.settings r.clock (with_link i f.link h.links) in
      let f : Flight = measured (broadcast h.settings i) p r.time (link_of h.links i) in
      steps_cases (λ g. (concluded t (host h.settings r.clock h.links) i (count_used k) p g).reply.answer ≡ acted k t p)
      (broadcast h.settings i) r.clock.hold p r.time (link_of h.links i)
      (λ b. step5-answer (count_used k) t (after f) p f ∙ rw b)
      (λ b n. step5-answer (count_used k) t (after (new_neighbor p f)) p (new_neighbor p f) ∙ rw (b, n))
      (λ b n z. rw (b, n, z))
      (λ b n z. step5-answer (count_used k) t (after f) p f ∙ rw (b, n, z, same_address_lem p.source (link_of h.links i).neighbor n))

  -- 3 to 9 in turn, and then what comes of a packet that passes
  module _ (answers : Result Packet Answer → Answer) (refuses : (a : Answer) → answers (Err a) ≡ a) (p : Packet) where
    ours_answer : (y z : Bool)
        → answers (cond y (Err OtherLayout) (cond z (Err LoopedLine) (Ok p))) ≡ cond y OtherLayout (cond z LoopedLine (answers (Ok p)))
    ours_answer true z = refuses OtherLayout
    ours_answer false true = refuses LoopedLine
    ours_answer false false = refl

    inspected-answer : (t u v w x : Bool)
        → answers
        (inspecting.inspected h.settings i
        (cond t (Err IpForm)
        (cond u (Err IpChecksum) (cond v (Err Protocol) (cond w (Err HelloForm) (cond x (Err HelloChecksum) (Ok p)))))))
        ≡ cond t IpForm
        (cond u IpChecksum
        (cond v Protocol
        (cond w HelloForm
        (cond x HelloChecksum (cond (other_layout h.settings p) OtherLayout (cond (looped h.settings i p) LoopedLine (answers (Ok p))))))))
    inspected-answer true u v w x = refuses IpForm
    inspected-answer false true v w x = refuses IpChecksum
    inspected-answer false false true w x = refuses Protocol
    inspected-answer false false false true x = refuses HelloForm
    inspected-answer false false false false true = refuses HelloChecksum
    inspected-answer false false false false false = ours_answer (other_layout h.settings p) (looped h.settings i p)

  module _ (octets : List ℕ) where
    answered : (answers : Result Packet Answer → Answer) → ((a : Answer) → answers (Err a) ≡ a) → answers (inspect h.settings i octets)
        ≡ cond (not (ip_form octets)) IpForm
        (cond (not (ip_checksum octets)) IpChecksum
        (cond (not (protocol octets)) Protocol
        (cond (not (hello_form (hello_of octets))) HelloForm
        (cond (not (hello_checksum (hello_of octets))) HelloChecksum
        (cond (other_layout h.settings (fields octets)) OtherLayout
        (cond (looped h.settings i (fields octets)) LoopedLine (answers (Ok (fields octets)))))))))
    unfolding inspect parse
    answered answers refuses =
        inspected-answer answers refuses (fields octets) (not (ip_form octets)) (not (ip_checksum octets)) (not (protocol octets))
        (not (hello_form (hello_of octets))) (not (hello_checksum (hello_of octets)))

    looked-at : (inspection i octets h).reply.answer ≡ first_of (inspection_tests i octets h)
    looked-at = answered (λ q. (tells q).answer) (λ a. refl)

    acted-on : (k : Counter) (t : NetTable) → (act i k octets t h).reply.answer ≡ first_of (action_tests i k octets t h)
    acted-on k t = answered (λ q. (inspected k t h i q).reply.answer) (λ a. refl) ∙ rw (action-answer k t (fields octets))

    opened : (w : Walk) → (opening i octets h.settings w).reply.answer ≡ first_of (inspection_tests i octets h)
    unfolding opening
    opened w = answered (λ q. (opened_by i octets w q).reply.answer) (λ a. refl)

-- ---- a step

module _ (k : Counter) (x : CallState) (e : Entry) where
  abbrev h : Host
  h = x.host

  abbrev t : NetTable
  t = x.nets

  abbrev w : Walk
  w = x.walk

  abbrev octets : List ℕ
  octets = packet_of w x.copy

  abbrev p : Packet
  p = fields octets

  -- at step 4, and at step 5
  abbrev invalid : Bool
  invalid = delay_invalid_in h.clock.hold h w.link p

  abbrev unknown : Bool
  unknown = eqb p.nhosts 0 && not (is_some (found_for t h.settings (link_of h.links w.link).neighbor))

  abbrev Box : (four five : Bool) → Option Place → Type 0
  Box four five q =
      walk_fields_at q h.settings w p octets ≡ true
      → (box_at q k p octets t h w e).reply.answer ≡ cond (four && invalid) DelayNotValid (cond (five && unknown) NoHost Done)

  fourth-answer : (box4 p h w).reply.answer ≡ cond invalid DelayNotValid Done
  unfolding box4 step4
  fourth-answer = go (broadcast h.settings w.link) (same_address p.source (link_of h.links w.link).neighbor) (zero_word p.tsp || not (eqb h.clock.hold.0 0))
    where
      f : Flight
      f = in_flight h.links w

      go : (a b c : Bool) → (fourth h w (cond a (on f) (cond (not b) (on (new_neighbor p f)) (cond c (end f) (on f))))).reply.answer ≡ cond (not a && b && c) DelayNotValid Done
      go true b c = refl
      go false true true = refl
      go false true false = refl
      go false false c = refl

  fifth-answer : (box5 p t h w).reply.answer ≡ cond unknown NoHost Done
  unfolding box5
  fifth-answer = go (eqb p.nhosts 0) (found_for t h.settings (link_of h.links w.link).neighbor)
    where
      go : (b : Bool) (f : Option ℕ) → (cond b (to_neighbor h (raised w) f) (onward (at_line 1 0 (raised w)) h.clock h.links nothing)).reply.answer ≡ cond (b && not (is_some f)) NoHost Done
      go true None = refl
      go true (Some id) = refl
      go false f = refl

  step-n : (n : ℕ) → Box (eqb n 4) (eqb n 5) (step_place n)
  unfolding box1 box2 box3
  step-n n =
      either (Box (eqb n 4) (eqb n 5)) (eqb n 1) _ _ (λ is held. rw (eqb-true n 1 is))
      (λ _. either (Box (eqb n 4) (eqb n 5)) (eqb n 2) _ _ (λ is held. rw (eqb-true n 2 is))
      (λ _. either (Box (eqb n 4) (eqb n 5)) (eqb n 3) _ _ (λ is held. rw (eqb-true n 3 is))
      (λ _. either (Box (eqb n 4) (eqb n 5)) (eqb n 4) _ _ (λ is held. rw (eqb-true n 4 is) fourth-answer)
      (λ _. either (Box (eqb n 4) (eqb n 5)) (eqb n 5) _ _ (λ is held. rw (eqb-true n 5 is) fifth-answer) (λ _ held. absurd (false≢true held))))))

  next-answer : (g : Host) (work : Changes) → (next_id p g w work).reply.answer ≡ Done
  next-answer g work = either (λ (y : Effect). y.reply.answer ≡ Done) (eqb p.nhosts 0 || not (ltb (w.id + 1) (host_count g.settings))) _ _ (λ _. refl) (λ _. refl)

  a-answer : (s : Stage Entry) → (after_a p h w s).reply.answer ≡ Done
  a-answer (end y) = next-answer h nothing
  a-answer (on y) = refl

  b-answer : (s : Stage Entry) → (after_b p h w s).reply.answer ≡ Done
  b-answer (end y) = next-answer h (put w y)
  b-answer (on y) = refl

  c-answer : (s : Stage Entry) → (after_c p h w s).reply.answer ≡ Done
  c-answer (end y) = next-answer h (put w y)
  c-answer (on y) = either (λ (z : Effect). z.reply.answer ≡ Done) (is_clock_host h w) _ _ (λ _. refl) (λ _. next-answer h (put w y))

  line-m : (m : ℕ) → Box false false (line_place m)
  unfolding box_a box_b box_c box_d
  line-m m =
      either (Box false false) (eqb m 1) _ _ (λ _ held. a-answer (line_a (line_update w p octets) e))
      (λ _. either (Box false false) (eqb m 2) _ _ (λ _ held. b-answer (line_b (line_update w p octets) e))
      (λ _. either (Box false false) (eqb m 3) _ _ (λ _ held. c-answer (line_c (line_update w p octets) e))
      (λ _. either (Box false false) (eqb m 4) (Some LineD) None (λ _ held. next-answer (host h.settings (clock_set p octets h w) h.links) nothing) (λ _ held. absurd (false≢true held)))))

  placed : (b : Bool) → eqb w.line 0 ≡ b → Box (b && eqb w.step 4) (b && eqb w.step 5) (place_of w)
  unfolding place_of
  placed true is = rw is (step-n w.step)
  placed false is = rw is (either (Box false false) (eqb w.step 5) (line_place w.line) None (λ _. line-m w.line) (λ _ held. absurd (false≢true held)))

  step-answer : own_walk_in_range x ≡ true → (step k t h w x.copy e).reply.answer ≡ first_of (request_tests (Step k) x)
  unfolding step
  step-answer in-range = go (is_open w) refl
    where
      go : (b : Bool) → is_open w ≡ b
          → (cond (not b) (answers (plainly NoWalk) h.clock h.links w) (box_of k octets t h w e (inspect h.settings w.link octets))).reply.answer
          ≡ cond (b && eqb w.line 0 && eqb w.step 4 && invalid) DelayNotValid
          (cond (b && eqb w.line 0 && eqb w.step 5 && unknown) NoHost (cond (not b) NoWalk Done))
      go false f = refl
      go true f =
          inspect_cases
          (λ (q : Result Packet Answer). packet_fits h.settings w octets q ≡ true → (box_of k octets t h w e q).reply.answer
          ≡ cond (eqb w.line 0 && eqb w.step 4 && invalid) DelayNotValid (cond (eqb w.line 0 && eqb w.step 5 && unknown) NoHost Done))
          h.settings w.link octets (λ a held. absurd (false≢true held)) (placed (eqb w.line 0) refl)
          (opened_says h.settings w x.copy in-range f).held

-- ---- every call

module _ (x : CallState) where
  asked-answer : (q : Request) → done (guard_of (ask q) x) ≡ true → (work (ask q) x).reply.answer ≡ first_of (own_tests (ask q) x)
  unfolding initialize tick adjust set_by read second self_report lookup
  asked-answer Initialize ok = refl
  asked-answer (Tick n) ok = refl
  asked-answer (Adjust n) ok = refl
  asked-answer (Set ms n) ok = refl
  asked-answer (Read k) ok = refl
  asked-answer Second ok = refl
  asked-answer (SelfReport k) ok = refl
  asked-answer (Lookup a) ok = looked-answer x (found_for x.nets x.host.settings a)
  asked-answer (Step k) ok = step-answer k x (entry_at (at_hand x.walk) x) (walk_state x ((passed Walking x ok).call_state refl))

  delivered-answer : (d : Delivery) (octets : List ℕ) → (delivered d octets x.nets x.host).reply.answer ≡ first_of (delivery_tests d octets x.nets x.host)
  delivered-answer (Inspect i) octets = looked-at x.host i octets
  delivered-answer (Act i k) octets = acted-on x.host i octets k x.nets
  delivered-answer (Receive i k) octets = ap (λ (a : Arrived). a.reply.answer) (one_piece i k octets x.nets x.host) ∙ acted-on x.host i octets k x.nets

  work-answer : (c : Call) → done (guard_of c x) ≡ true → (work c x).reply.answer ≡ first_of (own_tests c x)
  work-answer (ask q) ok = asked-answer q ok
  work-answer (send i k buffer) ok = sent-answer x.host i k (ltb (length buffer) (packet_length (report_count x.host.settings (link_of x.host.links i))))
  work-answer (deliver d octets) ok = delivered-answer d octets
  work-answer (open_walk i packet) ok = opened x.host i packet x.walk

  -- the guard's answer, or else that of the work
  call-answer : (c : Call) → (perform c x).reply.answer ≡ cond (not (done (guard_of c x))) (guard_of c x) (work c x).reply.answer
  call-answer c = performs c x (λ o. o.reply.answer ≡ cond (not (done (guard_of c x))) (guard_of c x) (work c x).reply.answer) (λ e. rw e) (λ e. rw e)

pub answers-hold : Answers
unfolding Answers guard
answers-hold c x = call-answer x c ∙ guarded (out_of_range (scope_of_call c) x) (in_walk (scope_of_call c) x.walk) (not (settings_fit x.nets x.host.settings)) (work-answer x c)
