-- Each rule reads and alters CLOCK by the clock's own procedures, and those without a count are the line clock's; so is line (d)'s Set.
use Rattle.std.specs.Prelude.{Result, Ok, Err}
use Rattle.answer.specs.declared.Answer.{Answer}
use mathlib.Core.Path.{◌≡◌, refl, ap, subst, fun_ext, sym, ◌∙◌}
use mathlib.Core.Bool.{Bool, true, cond, not}
use mathlib.Core.List.{List, []}
use Prim.Native.Nat.{ℕ, ◌-◌}
use native.Mathlib.Omega.{arith}
use lib.Dec.{ltb, eqb}
use lib.IntN.{pos}
use lib.ListN.{length}
use lib.Signed.{◌≤ℤ◌}
use Rattle.std.proofs.Common.{Option, Some, None}
use Rattle.lists.specs.Lists.{part, over}
use Rattle.lists.proofs.Tests.{either, both, is_not}
use Rattle.quantity.specs.declared.Units.{Units}
use Rattle.quantity.specs.declared.Count.{Count}
use Rattle.quantity.specs.declared.Seconds.{Seconds}
use Rattle.quantity.specs.Quantity.{millis, units_per_milli, less_millis}
use Rattle.quantity.specs.Words.{of_word}
use Rattle.quantity.proofs.Ints.{to-≤ℤ, times, lt_yes, lt_no}
use Rattle.answer.specs.declared.Answer.TheVariants.{Done, ShortBuffer, NoWalk}
use Rattle.clock.specs.declared.Clock.{Clock}
use Rattle.clock.specs.declared.Counter.{Counter}
use Rattle.clock.specs.declared.Reading.{Reading}
use Rattle.clock.specs.Midnight.{day_millis, day, midnight}
use Rattle.clock.specs.Clock.{fresh_clock, count_used, reading, hold_second}
use Rattle.clock.specs.Clock as clock
use Rattle.clock.specs.LineClock.{no_count, no_counter, line_reading}
use Rattle.clock.proofs.Readings.{plus_none, line_clock_holds}
use Rattle.clock.proofs.Range.{midnight_within}
use Rattle.wire.specs.declared.Packet.{Packet}
use Rattle.wire.specs.Packet.{packet_length}
use Rattle.table.specs.declared.entries.Change.TheVariants.{Reported}
use Rattle.table.specs.declared.Entry.{Entry}
use Rattle.table.specs.declared.Update.{Update}
use Rattle.table.specs.declared.Updated.{Updated}
use Rattle.table.specs.declared.entries.Updates.{Updates}
use Rattle.table.specs.Forms.{Stage, on, end}
use Rattle.table.specs.Update.{lines, date_taken, line_d, settled, update}
use Rattle.table.specs.Sweep.{Swept, sweep}
use Rattle.table.specs.Runs.{update_at, updates}
use Rattle.table.proofs.Cases.{clock_keeps}
use Rattle.host.specs.declared.Effect.{Effect}
use Rattle.host.specs.declared.walk.Walk.{Walk}
use Rattle.host.specs.declared.walk.Place.{Place}
use Rattle.host.specs.declared.walk.Place.TheVariants.{Step1, Step2, Step3, Step4, Step5, LineA, LineB, LineC, LineD}
use Rattle.host.specs.declared.guard.Scope.TheVariants.{Places, Walking}
use Rattle.host.specs.Walk.{is_open, place_of, packet_of, line_update}
use Rattle.host.specs.State.{link_of, with_entries}
use Rattle.host.specs.Effect.{nothing, each, answers}
use Rattle.host.specs.declared.Host.{Host}
use Rattle.host.specs.CallState.{CallState, host, entries_of, our_reading, own_walk_in_range}
use Rattle.host.specs.Guard.{guard, done}
use Rattle.host.specs.Reply.{plainly, returns_time}
use Rattle.host.proofs.Guarded.{passed, walk_state}
use Rattle.host.proofs.Sound.{sound}
use Rattle.sending.specs.declared.Sending.{Sending}
use Rattle.sending.specs.Send.{report_count, unsent, sent_at, send_in}
use Rattle.arrival.specs.declared.Arrived.{Arrived}
use Rattle.arrival.specs.declared.Delivery.{Delivery}
use Rattle.arrival.specs.declared.Delivery.TheVariants.{Inspect, Act, Receive}
use Rattle.host.specs.Inspection.{inspect}
use Rattle.arrival.specs.Arrival.{action_at, inspected, act, delivered}
use Rattle.arrival.proofs.Pair.{one_piece}
use Rattle.walk.specs.declared.Opening.{Opening}
use Rattle.walk.specs.Boxes.{holding_reading, at_step, onward, next_id, is_clock_host, clock_set, box1, box_d, box_at, box_of, step}
use Rattle.calls.specs.declared.Request.{Request}
use Rattle.calls.specs.declared.Request.TheVariants.{Initialize, Tick, Adjust, Set, Read, Second, SelfReport, Lookup, Step}
use Rattle.calls.specs.Effects.{initialize, tick, adjust, set_by, read, second, self_report, lookup, effect, wanted}
use Rattle.calls.specs.Perform.{Call, ask, send, deliver, open_walk, scope_of_call, refused, entry_at, carried_out, sent_by, updated_by, opened_by, work, perform}
use Rattle.network_laws.specs.Range.{count_by}
use Rattle.network_laws.specs.LineCalls.{line_clock_set, line_box_at, line_box_of, line_step, line_effect, line_send, line_inspected, line_delivered, line_settled, line_updates, line_updated_by, line_work, line_perform, NoCount, LineTime, LineCalls}
use Rattle.network_laws.proofs.Performs.{guard_of, performs}
use Rattle.network_laws.proofs.Arrivals.{read_by, delivery_ways}
use Rattle.network_laws.proofs.Swept.{updates_clock}
use Rattle.network_laws.proofs.Walking.{Timed, as_was, set_by_lem, step_ways}
use Rattle.network_laws.proofs.Openings.{opening_ways}

-- ---- the updates

settled_same : (w : Updates) → w.count ≡ no_count → (host : Bool) (u : Update) (c : Clock) (s : Stage Entry)
    → settled host w.hold_interval w.count w.date u c s ≡ line_settled host w.hold_interval w.date u c s
unfolding line_d
settled_same w is host u c (on e) =
    ap (λ (d : Clock). record { clock = cond host d c; entry = e })
    (ap (λ (n : Count). clock.set_by w.hold_interval n (of_word u.offset) (date_taken w.date c)) is
    ∙ line_clock_holds.sets w.hold_interval (of_word u.offset) (date_taken w.date c))
settled_same w is host u c (end e) = refl

updates_same : (w : Updates) → w.count ≡ no_count → (octets : List ℕ) (es : List Entry) → updates w octets es ≡ line_updates w octets es
unfolding updates line_updates update
updates_same w is octets es =
    ap (λ (f : ℕ → Clock → Entry → Updated). after (sweep w.first f w.clock (part w.first (w.end - w.first) es)))
    (fun_ext λ i. fun_ext λ c. fun_ext λ e.
    settled_same w is (eqb (i - w.base) w.clock_host) (update_at w (i - w.base) octets) c (lines (update_at w (i - w.base) octets) e))
  where
    after : Swept → Swept
    after s = record { clock = s.clock; own_entries = over es w.first s.own_entries }

-- ---- the calls

module _ (x : CallState) (t : LineTime x.host.clock) where
  abbrev h : Host
  h = x.host

  reading_same : our_reading no_counter h ≡ line_reading h.clock
  reading_same = line_clock_holds.reads h.settings.clock_tick h.settings.hold_interval h.clock t.from_0 t.to_day

  -- ---- a step

  abbrev w : Walk
  w = x.walk

  module _ (p : Packet) (octets : List ℕ) (e : Entry) (no_count_lem : w.count ≡ no_count) where
    clock_same : clock_set p octets h w ≡ line_clock_set p octets h w
    unfolding line_d
    clock_same =
        ap (λ (c : Clock). cond (is_clock_host h w) c h.clock)
        (ap (λ (n : Count). clock.set_by h.settings.hold_interval n (of_word (line_update w p octets).offset) (date_taken p.date h.clock)) no_count_lem
        ∙ line_clock_holds.sets h.settings.hold_interval (of_word (line_update w p octets).offset) (date_taken p.date h.clock))

    box_same : (q : Option Place) → box_at q no_counter p octets x.nets h w e ≡ line_box_at q no_counter p octets x.nets h w e
    unfolding box1 box_d
    box_same None = refl
    box_same (Some Step1) = ap (λ (r : Reading). onward (at_step 2 (holding_reading no_count r.time w)) r.clock h.links nothing) reading_same
    box_same (Some Step2) = refl
    box_same (Some Step3) = refl
    box_same (Some Step4) = refl
    box_same (Some Step5) = refl
    box_same (Some LineA) = refl
    box_same (Some LineB) = refl
    box_same (Some LineC) = refl
    box_same (Some LineD) = ap (λ (c : Clock). next_id p (host h.settings c h.links) w nothing) clock_same

  step_same : (k : Counter) (copy : List ℕ) (e : Entry) → k ≡ no_counter → w.count ≡ no_count → step k x.nets h w copy e ≡ line_step k x.nets h w copy e
  unfolding step
  step_same k copy e is held = subst (λ (m : Counter). step m x.nets h w copy e ≡ line_step m x.nets h w copy e) (sym is) here
    where
      go : (q : Result Packet Answer) → box_of no_counter (packet_of w copy) x.nets h w e q ≡ line_box_of no_counter (packet_of w copy) x.nets h w e q
      go (Err a) = refl
      go (Ok p) = box_same p (packet_of w copy) e held (place_of w)

      here : step no_counter x.nets h w copy e ≡ line_step no_counter x.nets h w copy e
      here = ap (λ (y : Effect). cond (not (is_open w)) (answers (plainly NoWalk) h.clock h.links w) y) (go (inspect h.settings w.link (packet_of w copy)))

  -- ---- requests

  effect_same : (q : Request) (e : Entry) → NoCount (ask q) x.walk → effect q x.nets h w x.copy e ≡ line_effect q x.nets h w x.copy e
  unfolding tick adjust set_by read self_report
  effect_same Initialize e is = refl
  effect_same (Tick n) e is =
      ap (λ (m : Count). tick m h w) is
      ∙ ap (λ (c : Clock). answers (plainly Done) c h.links w) (line_clock_holds.ticks h.settings.clock_tick h.settings.hold_interval h.clock)
  effect_same (Adjust n) e is =
      ap (λ (m : Count). adjust m h w) is
      ∙ ap (λ (c : Clock). answers (plainly Done) c h.links w) (line_clock_holds.adjusts h.settings.hold_interval h.clock)
  effect_same (Set ms n) e is =
      ap (λ (m : Count). set_by (millis ms) m h w) is
      ∙ ap (λ (c : Clock). answers (plainly Done) c h.links w) (line_clock_holds.sets h.settings.hold_interval (millis ms) h.clock)
  effect_same (Read k) e is =
      ap (λ (m : Counter). read m h w) is
      ∙ ap (λ (r : Reading). answers (returns_time r.time r.clock.date) r.clock h.links w) reading_same
  effect_same Second e is = refl
  effect_same (SelfReport k) e is =
      ap (λ (m : Counter). self_report m h w) is
      ∙ ap (λ (r : Reading). record { reply = plainly Done; clock = r.clock; links = h.links; walk = w; work = each h.settings (Reported r.time) }) reading_same
  effect_same (Lookup a) e is = refl
  effect_same (Step k) e is = step_same k x.copy e is.0 is.1

  send_same : (i : ℕ) (k : Counter) (room : ℕ) → k ≡ no_counter → send_in i k room h ≡ line_send i room h
  send_same i k room is =
      ap (λ (m : Counter). send_in i m room h) is
      ∙ ap (λ (r : Reading). cond (ltb room (packet_length (report_count h.settings (link_of h.links i)))) (unsent ShortBuffer h) (sent_at r i h)) reading_same

  act_same : (i : ℕ) (k : Counter) (octets : List ℕ) → k ≡ no_counter → act i k octets x.nets h ≡ line_inspected x.nets h i (inspect h.settings i octets)
  act_same i k octets is = ap (λ (m : Counter). act i m octets x.nets h) is ∙ go (inspect h.settings i octets)
    where
      go : (q : Result Packet Answer) → inspected no_counter x.nets h i q ≡ line_inspected x.nets h i q
      go (Err a) = refl
      go (Ok p) = ap (λ (r : Reading). action_at r no_count x.nets h i p) reading_same

  delivered_same : (d : Delivery) (octets : List ℕ) → NoCount (deliver d octets) x.walk → delivered d octets x.nets h ≡ line_delivered d octets x.nets h
  delivered_same (Inspect i) octets is = refl
  delivered_same (Act i k) octets is = act_same i k octets is
  delivered_same (Receive i k) octets is = one_piece i k octets x.nets h ∙ act_same i k octets is

  none : (d : Delivery) (octets : List ℕ) → NoCount (deliver d octets) x.walk → count_by d ≡ no_count
  none (Inspect i) octets is = refl
  none (Act i k) octets is = ap count_used is
  none (Receive i k) octets is = ap count_used is

  count_none : (d : Delivery) (octets : List ℕ) → NoCount (deliver d octets) x.walk → (delivered d octets x.nets h).work.count ≡ no_count
  count_none d octets is =
      delivery_ways d x.nets h (λ (a : Arrived). a.work.count ≡ no_count)
      record {
        refuses = λ a few. refl;
        looks = λ p. refl;
        ended = λ f g n. refl;
        unknown = λ f g. refl;
        one = λ p f id g. none d octets is;
        all = λ p f g. none d octets is;
      }
      octets

  work_same : (c : Call) → NoCount c x.walk → work c x ≡ line_work c x
  work_same (ask q) is = ap (λ e. carried_out e x) (effect_same q (entry_at (wanted q x.nets h.settings w) x) is)
  work_same (send i k buffer) is = ap (λ p. sent_by p buffer x) (send_same i k (length buffer) is)
  work_same (deliver d octets) is =
      ap (λ (w : Swept). record { reply = (delivered d octets x.nets h).reply; clock = w.clock; links = (delivered d octets x.nets h).links; walk = x.walk; copy = x.copy; entries = with_entries x.number w.own_entries x.entries; buffer = [] })
      (updates_same (delivered d octets x.nets h).work (count_none d octets is) octets (entries_of x))
      ∙ ap (λ (a : Arrived). line_updated_by a octets x) (delivered_same d octets is)
  work_same (open_walk i packet) is = refl

  same : (c : Call) → NoCount c x.walk → perform c x ≡ line_perform c x
  unfolding perform line_perform
  same c is = ap (λ o. cond (not (done (guard (scope_of_call c) x))) (refused (guard (scope_of_call c) x) c x) o) (work_same c is)

-- ---- CLOCK stays within its day

midnight_line : (s : Seconds) (n : Count) (c : Clock) → n ≡ no_count → LineTime (midnight s n c)
midnight_line s n c is = subst (λ (m : Count). LineTime (midnight s m c)) (sym is) here
  where
    here : LineTime (midnight s no_count c)
    here =
        let w = midnight_within s no_count c in
        let u = plus_none (midnight s no_count c) in
        record {
          from_0 = subst (λ (v : Units). (pos 0) ≤ℤ v.0) u (to-≤ℤ (pos 0) _ (omega (arith, w)));
          to_day = subst (λ (v : Units). v.0 ≤ℤ day.0) u (to-≤ℤ _ day.0 (omega (arith, w)));
        }

module _ (x : CallState) (t : LineTime x.host.clock) where
  abbrev s : Seconds
  s = x.host.settings.hold_interval

  read_line : (k : Counter) → count_used k ≡ no_count → LineTime (our_reading k x.host).clock
  unfolding reading
  read_line k is = midnight_line s (count_used k) _ is

  -- a step
  timed : x.walk.count ≡ no_count → (c : Clock) → Timed x.host x.walk c → LineTime c
  unfolding line_d clock.set_by
  timed held c as_was = t
  timed held c (set_by_lem date offset) = midnight_line s x.walk.count _ held

  stepped : (k : Counter) (e : Entry) → k ≡ no_counter → x.walk.count ≡ no_count → own_walk_in_range x ≡ true → LineTime (step k x.nets x.host x.walk x.copy e).clock
  stepped k e is held in_range =
      step_ways k x.nets x.host x.walk x.copy e (λ (y : Effect). LineTime y.clock)
      record {
        none = t;
        reads = λ v c. read_line k (ap count_used is);
        delays = λ has. t;
        unknown = t;
        goes = λ r z v h c d l g work m. timed held c d;
      }
      in_range

  asked : (q : Request) (e : Entry) → NoCount (ask q) x.walk → done (guard_of (ask q) x) ≡ true → LineTime (effect q x.nets x.host x.walk x.copy e).clock
  unfolding initialize fresh_clock tick clock.tick adjust clock.adjust set_by clock.set_by read second hold_second self_report lookup
  asked Initialize e is ok =
      let good = (passed Places x ok).settings in
      let time = x.host.settings.time in
      let b = both (not (less_millis time (millis (pos 0)))) (less_millis time day_millis) (sound x.host.settings good).time in
      let low = lt_no time.0 (pos 0) (is_not _ b.0) in
      let high = lt_yes time.0 day_millis.0 b.1 in
      let u = times time.0 units_per_milli in
      record { from_0 = to-≤ℤ (pos 0) _ (omega arith); to_day = to-≤ℤ _ day.0 (omega arith) }
  asked (Tick n) e is ok = midnight_line s n _ is
  asked (Adjust n) e is ok = midnight_line s n _ is
  asked (Set ms n) e is ok = midnight_line s n _ is
  asked (Read k) e is ok = read_line k (ap count_used is)
  asked Second e is ok = record { from_0 = t.from_0; to_day = t.to_day }
  asked (SelfReport k) e is ok = read_line k (ap count_used is)
  asked (Lookup a) e is ok = t
  asked (Step k) e is ok = stepped k e is.0 is.1 (walk_state x ((passed Walking x ok).call_state refl))

  swept : (w : Updates) (octets : List ℕ) → w.count ≡ no_count → LineTime w.clock → LineTime (updates w octets (entries_of x)).clock
  unfolding line_d clock.set_by
  swept w octets none from =
      updates_clock w octets (entries_of x) LineTime
      (λ id c e h. clock_keeps LineTime _ w.hold_interval w.count w.date _ c e h (midnight_line w.hold_interval w.count _ none)) from

  arrived : (d : Delivery) (octets : List ℕ) → NoCount (deliver d octets) x.walk → LineTime (updated_by (delivered d octets x.nets x.host) octets x).clock
  arrived d octets is =
      delivery_ways d x.nets x.host (λ (a : Arrived). LineTime (updated_by a octets x).clock)
      record {
        refuses = λ a few. swept _ octets refl t;
        looks = λ p. swept _ octets refl t;
        ended = λ f g n. swept _ octets refl (now d is);
        unknown = λ f g. swept _ octets refl (now d is);
        one = λ p f id g. swept _ octets (none x t d octets is) (now d is);
        all = λ p f g. swept _ octets (none x t d octets is) (now d is);
      }
      octets
    where
      now : (d : Delivery) → NoCount (deliver d octets) x.walk → LineTime (read_by d x.host).clock
      now (Inspect i) is = t
      now (Act i k) is = read_line k (ap count_used is)
      now (Receive i k) is = read_line k (ap count_used is)

  works : (c : Call) → NoCount c x.walk → done (guard_of c x) ≡ true → LineTime (work c x).clock
  works (ask q) is e = asked q (entry_at (wanted q x.nets x.host.settings x.walk) x) is e
  works (send i k buffer) is e =
      either (λ (p : Sending). LineTime (sent_by p buffer x).clock)
      (ltb (length buffer) (packet_length (report_count x.host.settings (link_of x.host.links i)))) _ _ (λ _. t) (λ _. read_line k (ap count_used is))
  works (deliver d octets) is e = arrived d octets is
  works (open_walk i packet) is e = t

-- ---- a walk holds no count

module _ (x : CallState) (held : x.walk.count ≡ no_count) where
  abbrev HoldsNone : Walk → Type 0
  HoldsNone v = v.count ≡ no_count

  counts : (q : Request) (e : Entry) → NoCount (ask q) x.walk → done (guard_of (ask q) x) ≡ true → HoldsNone (effect q x.nets x.host x.walk x.copy e).walk
  unfolding initialize tick adjust set_by read second self_report lookup
  counts Initialize e is ok = refl
  counts (Tick n) e is ok = held
  counts (Adjust n) e is ok = held
  counts (Set ms n) e is ok = held
  counts (Read k) e is ok = held
  counts Second e is ok = held
  counts (SelfReport k) e is ok = held
  counts (Lookup a) e is ok = held
  counts (Step k) e is ok =
      step_ways k x.nets x.host x.walk x.copy e (λ (y : Effect). HoldsNone y.walk)
      record {
        none = held;
        reads = λ v c. c ∙ ap count_used is.0;
        delays = λ has. refl;
        unknown = refl;
        goes = λ r z v h c d l g work m. h held;
      }
      (walk_state x ((passed Walking x ok).call_state refl))

  holds_none : (c : Call) → NoCount c x.walk → done (guard_of c x) ≡ true → HoldsNone (work c x).walk
  holds_none (ask q) is ok = counts q (entry_at (wanted q x.nets x.host.settings x.walk) x) is ok
  holds_none (send i k buffer) is ok = held
  holds_none (deliver d octets) is ok = held
  holds_none (open_walk i packet) is ok =
      opening_ways i packet x.host.settings x.walk (λ (o : Opening). HoldsNone (opened_by o packet x).walk) (λ a few. held) (λ p is fits. refl)

pub line_calls_hold : LineCalls
line_calls_hold =
    record {
      same = λ c x is t. same x t c is;
      stays = λ c x is t. performs c x (λ o. LineTime o.clock) (λ _. t) (works x t c is);
      holds_none = λ c x is held. performs c x (λ o. o.walk.count ≡ no_count) (λ _. held) (holds_none x held c is);
    }
