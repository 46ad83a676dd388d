-- Opening a walk and each of its boxes keep it, because an open walk blocks every other call: a message of the last epoch is stored before the host's first second of this one.
use Rattle.std.specs.Prelude.{Option, Some, None, Result}
use mathlib.Core.Path.{◌≡◌, refl, sym, ap, subst, ◌∙◌}
use mathlib.Core.Bool.{Bool, true, false, true≢false, false≢true, cond, not, ◌&&◌, ◌||◌}
use mathlib.Core.List.{List}
use Prim.Native.Nat.{ℕ, ◌+◌, ◌-◌, ◌≤◌, ◌<◌}
use native.Mathlib.Omega.{arith}
use lib.Dec.{ltb, eqb}
use lib.ListN.{length, get_or}
use Rattle.lists.proofs.Tests.{either, both, is_so}
use Rattle.quantity.specs.declared.Millis.{Millis}
use Rattle.quantity.specs.Quantity.{less_millis}
use Rattle.quantity.specs.Words.{of_word}
use lib.IntN.{pos, ◌+ℤ◌}
use Rattle.quantity.proofs.Ints.{up, dn, sum, lt_yes, is_lt}
use Rattle.answer.specs.declared.Answer.{Answer}
use Rattle.answer.specs.declared.Answer.TheVariants.{Done, DelayNotValid, NoHost, NoWalk}
use Rattle.clock.specs.declared.Clock.{Clock}
use Rattle.clock.specs.declared.Counter.{Counter}
use Rattle.wire.specs.declared.Packet.{Packet}
use Rattle.wire.specs.declared.Report.{Report}
use Rattle.wire.specs.Hello.{report_at}
use Rattle.wire.specs.Packet.{hello_of, fields}
use Rattle.table.specs.declared.Entry.{Entry}
use Rattle.table.specs.declared.Update.{Update}
use Rattle.table.specs.declared.entries.Changes.{Changes}
use Rattle.table.specs.Forms.{Stage, on, end}
use Rattle.table.specs.Entry.{max_delay, min_delay, fresh_entry, taken_down}
use Rattle.table.specs.Entry as entry
use Rattle.table.specs.Update.{plus_report, line_a, line_b, line_c}
use Rattle.table.specs.Runs.{changed, changes}
use Rattle.table.proofs.Cases.{stored}
use Rattle.net_table.specs.declared.NetTable.{NetTable}
use Rattle.host.specs.declared.Settings.{Settings}
use Rattle.host.specs.declared.Links.{Links}
use Rattle.host.specs.declared.Effect.{Effect}
use Rattle.host.specs.declared.walk.Walk.{Walk}
use Rattle.host.specs.declared.walk.Place.{Place}
use Rattle.host.specs.declared.walk.Place.TheVariants.{Step1, Step2, Step3, Step4, Step5, LineA, LineB, LineC, LineD}
use Rattle.host.specs.declared.guard.Scope.TheVariants.{Opening, Walking}
use Rattle.host.specs.Settings.{found_for}
use Rattle.host.specs.State.{host_count, broadcast, link_of}
use Rattle.host.specs.declared.Host.{Host}
use Rattle.host.specs.CallState.{CallState, host, entries_of}
use Rattle.host.specs.Reply.{plainly}
use Rattle.host.specs.Walk.{is_open, place_of, packet_of, walk_update, line_update, reading_in_range, id_in_range, storable, walk_fields_at, packet_fits}
use Rattle.host.specs.Effect.{nothing, answers}
use Rattle.host.proofs.Places.{Holds}
use Rattle.host.proofs.Guarded.{passed, holds, walk_state}
use Rattle.host.proofs.Walks.{opened_says}
use Rattle.arrival.specs.declared.Flight.{Flight}
use Rattle.arrival.specs.Steps.{step4}
use Rattle.walk.specs.declared.Opening as declared
use Rattle.walk.specs.Boxes.{in_flight, onward, ended, fourth, to_neighbor, raised, next_id, put, is_clock_host, clock_set, after_a, after_b, box1, box2, box3, box4, box5, box_a, box_b, box_c, box_d, at_hand, box_at, box_of}
use Rattle.walk.specs.Boxes as boxes
use Rattle.calls.specs.declared.Request.TheVariants as request
use Rattle.calls.specs.Perform.{ask, open_walk, Outcome, entry_at, carried_out, opened_by, perform}
use Rattle.network_laws.specs.Network.{Network, state_at}
use Rattle.network_laws.proofs.Lists.{all_at}
use Rattle.network_laws.proofs.Performs.{performs}
use Rattle.network_laws.proofs.Openings.{opening_ways}
use Rattle.network_laws.proofs.Ranges.{raised_low}
use Rattle.network_laws.proofs.Swept.{changes_length}
use Rattle.network_laws.proofs.Written.{answered, written_kept}
use Rattle.network_laws.proofs.Demand3.Invariant.{Lined, RightAt}
use Rattle.network_laws.proofs.Demand3.Outcomes.{NodeState}
use Rattle.network_laws.proofs.Demand3.Arrival.{inspect_cases}
use Rattle.liveness_laws.proofs.Silence.Entry.{Fading, fresh_fades, down_fades}
use Rattle.liveness_laws.proofs.Silence.Invariant.{begun, Arriving, report_stored, FadeWalk, Ours, FadeState, FadeAfter}
use Rattle.liveness_laws.proofs.Silence.Calls.{carried_table}
use Rattle.liveness_laws.proofs.Silence.Tables.{Far, TabledAt, TabledHost}

module _ (r : Network) (i n b s : ℕ)
    (nets : NetTable) (cl : Clock) (l : Links) (w : Walk) (copy : List ℕ) (entries : List Entry) (call_state : FadeState r i n b s w copy entries) where
  abbrev x : CallState
  x = state_at r b nets cl l w copy entries

  abbrev set : Settings
  set = r.settings b

  abbrev octets : List ℕ
  octets = packet_of w copy

  abbrev p : Packet
  p = fields octets

  -- ---- opening: its packet has not arrived before box 1

  pub open_fades : (link : ℕ) (packet : List ℕ) → FadeAfter r i n b s entries (perform (open_walk link packet) x)
  unfolding place_of
  open_fades link packet =
      performs (open_walk link packet) x (FadeAfter r i n b s entries) (λ _. record { walk = call_state.walk; table = call_state.table; same_length = refl })
      (λ e.
      let shut : is_open w ≡ false = (passed (Opening link) x e).closed in
      opening_ways link packet set w (λ (o : declared.Opening). FadeAfter r i n b s entries (opened_by o packet x))
      (λ a few. record { walk = λ opened. absurd (true≢false (sym opened ∙ shut)); table = call_state.table; same_length = refl })
      (λ q is fits. record { walk = λ _ on. absurd (false≢true on); table = call_state.table; same_length = refl }))

  -- ---- a box

  module _ (k : Counter) where
    abbrev h : Host
    h = x.host

    Good : Effect → Type 0
    Good e = FadeAfter r i n b s entries (carried_out e x)

    module _ (held : Holds (r.number b) entries) (opened : is_open w ≡ true) (e : Entry) (ours : Ours r i n s w.id e) where
      abbrev Keeps : Changes → Type 0
      Keeps now =
          (id : ℕ) (z : Entry) → now.first ≤ id → id < now.end → z ≡ get_or (entries_of x) id fresh_entry → Ours r i n s id z
          → Ours r i n s id (changed now.marks now.change (id - now.first) z)

      carried : (y : Effect) → FadeWalk r i n s y.walk copy → Keeps y.work → Good y
      unfolding Good
      carried y walk keeps =
          record {
            walk = walk;
            table = λ _. carried_table r i n b s nets cl l w copy entries call_state held y keeps;
            same_length = kept y;
          }
        where
          kept : (y : Effect) → length (carried_out y x).entries ≡ length entries
          kept y = (written_kept x (changes y.work (entries_of x)) held (changes_length y.work (entries_of x))).same_length

      goes : (v : Walk) (d : Clock) (m : Links) (now : Changes) → FadeWalk r i n s v copy → Keeps now → Good (onward v d m now)
      goes v d m now walk keeps = carried (onward v d m now) walk keeps

      stops : (a : Answer) (d : Clock) (m : Links) (now : Changes) → Keeps now → Good (ended a d m now)
      stops a d m now keeps = carried (ended a d m now) (λ z. absurd (false≢true z)) keeps

      none : Keeps nothing
      none id z low high is f = absurd (omega arith)

      -- ---- steps

      first : Arriving i n s octets → Good (box1 k h w)
      unfolding box1
      first now = goes _ _ l nothing (λ _ _. now) none

      module _ (now : Arriving i n s octets) where
        second : Good (box2 h w)
        unfolding box2
        second = goes _ cl _ nothing (λ _ _. now) none

        third : Good (box3 p h w)
        unfolding box3
        third = goes _ cl _ nothing (λ _ _. now) none

        at_4 : (g : Stage Flight) → Good (fourth h w g)
        at_4 (end f) = stops DelayNotValid cl _ nothing none
        at_4 (on f) = goes _ cl _ nothing (λ _ _. now) none

        at_5 : (f : Option ℕ) → Good (to_neighbor h (raised w) f)
        at_5 None = stops NoHost cl l nothing none
        at_5 (Some id) = goes _ cl l nothing (λ _ _. now) none

        fifth : Good (box5 p nets h w)
        unfolding box5
        fifth = either Good (eqb p.nhosts 0) _ _ (λ _. at_5 (found_for nets set (link_of l w.link).neighbor)) (λ _. goes _ cl l nothing (λ _ _. now) none)

        -- ---- lines

        puts : (y : Entry) → Ours r i n s w.id y → Keeps (put w y)
        puts y good id z low high _ _ = let same : w.id ≡ id = omega arith in rw (← same) good

        next : (d : Clock) (work : Changes) → Keeps work → Good (next_id p (host set d l) w work)
        next d work keeps =
            either Good (eqb p.nhosts 0 || not (ltb (w.id + 1) (host_count set))) _ _ (λ _. stops Done d l work keeps) (λ _. goes _ d l work (λ _ _. now) keeps)

        at_a : (g : Stage Entry) → Good (after_a p h w g)
        at_a (end y) = next cl nothing none
        at_a (on y) = goes _ cl l nothing (λ _ _. now) none

        line_b_lem : Good (box_b p octets h w e)
        unfolding box_b line_b
        line_b_lem =
            either Q (entry.up e) _ _ (λ _. either Q (less_millis (line_update w p octets).delay max_delay) _ _ (λ _. goes_on) (λ _. next cl (put w (taken_down e)) (puts (taken_down e) (λ _. down_fades n s e))))
            (λ _. either Q (less_millis (line_update w p octets).delay max_delay && eqb e.ttl.0 0) _ _ (λ _. goes_on) (λ _. next cl (put w e) (puts e ours)))
          where
            Q : Stage Entry → Type 0
            Q g = Good (after_b p h w g)

            goes_on : Good (after_b p h w (on e))
            goes_on = goes _ cl l nothing (λ _ _. now) none

        -- what line (c) stores
        module _ (t : Lined r b w octets) (far : Far w octets) (fits : storable (line_update w p octets) ≡ true) where
          raised_is : (dn (of_word w.delay).0 ≤ 0) × (100 ≤ up (of_word w.delay).0)
          raised_is = subst (λ (d : Millis). (dn d.0 ≤ 0) × (100 ≤ up d.0)) t.raised (raised_low (of_word w.delay))

          stores : Ours r i n s w.id (stored (line_update w p octets) e)
          stores same = go (eqb p.nhosts 0) refl (both (not (less_millis (line_update w p octets).delay min_delay)) _ fits).1
            where
              report : Report
              report = report_at (hello_of octets) w.id

              small : less_millis (plus_report (walk_update w) report).delay max_delay ≡ true → less_millis report.delay max_delay ≡ true
              small low = is_lt report.delay.0 (pos 30000) (omega (arith, lt_yes ((of_word w.delay).0 +ℤ report.delay.0) (pos 30000) low, raised_is, sum (of_word w.delay).0 report.delay.0))

              go : (q : Bool) → eqb p.nhosts 0 ≡ q → less_millis (cond q (walk_update w) (plus_report (walk_update w) report)).delay max_delay ≡ true
                  → Fading n s (stored (cond q (walk_update w) (plus_report (walk_update w) report)) e)
              go true z low = absurd (false≢true (rw (far z) at low))
              go false z low =
                  report_stored now (plus_report (walk_update w) report) e z (rw (← same) (small low))
                  (rw (← same) (omega (arith, raised_is, sum (of_word w.delay).0 report.delay.0)))

          line_c_lem : Good (box_c p octets h w e)
          unfolding box_c line_c
          line_c_lem =
              let u : Update = line_update w p octets in
              either Good (is_clock_host h w) _ _ (λ _. goes _ cl l (put w (stored u e)) (λ _ _. now) (puts (stored u e) stores)) (λ _. next cl (put w (stored u e)) (puts (stored u e) stores))

      box_fades : (q : Option Place) → place_of w ≡ q → (place_of w ≡ Some Step1 → Arriving i n s octets) → RightAt r b w octets l q → TabledAt w octets q → walk_fields_at q set w p octets ≡ true
          → Good (box_at q k p octets nets h w e)
      unfolding box4 box_a box_d
      box_fades None is time right tabled fits = absurd (false≢true fits)
      box_fades (Some Step1) is time right tabled fits = first (time is)
      box_fades (Some Step2) is time right tabled fits = second (call_state.walk opened (ap begun is))
      box_fades (Some Step3) is time right tabled fits = third (call_state.walk opened (ap begun is))
      box_fades (Some Step4) is time right tabled fits = at_4 (call_state.walk opened (ap begun is)) (step4 (broadcast set w.link) cl.hold p (in_flight l w))
      box_fades (Some Step5) is time right tabled fits = fifth (call_state.walk opened (ap begun is))
      box_fades (Some LineA) is time right tabled fits = at_a (call_state.walk opened (ap begun is)) (line_a (line_update w p octets) e)
      box_fades (Some LineB) is time right tabled fits = line_b_lem (call_state.walk opened (ap begun is))
      box_fades (Some LineC) is time right tabled fits = line_c_lem (call_state.walk opened (ap begun is)) right tabled (both (reading_in_range w && id_in_range set w) _ fits).1
      box_fades (Some LineD) is time right tabled fits = next (call_state.walk opened (ap begun is)) (clock_set p octets h w) nothing none

  -- ---- the step

  hand_ours : Holds (r.number b) entries → Ours r i n s w.id (entry_at (at_hand w) x)
  hand_ours held =
      either (λ (f : Option ℕ). Ours r i n s w.id (entry_at f x)) (is_open w && not (eqb w.line 0)) (Some w.id) None
      (λ _. all_at (Ours r i n s) fresh_entry (λ j _. fresh_fades n s) (entries_of x) (call_state.table held) w.id) (λ _ _. fresh_fades n s)

  -- of a host that is right; box 1 takes a message
  pub step_fades : NodeState r b w copy l entries → TabledHost set w copy l → (k : Counter)
      → (is_open w ≡ true → place_of w ≡ Some Step1 → Arriving i n s octets)
      → FadeAfter r i n b s entries (perform (ask (request.Step k)) x)
  unfolding boxes.step Good
  step_fades right tabled k time =
      performs (ask (request.Step k)) x Kept (λ _. record { walk = call_state.walk; table = call_state.table; same_length = refl })
      (λ e.
      let ok = passed Walking x e in
      let held = holds (r.number b) entries ok.places in
      either (λ (y : Effect). Kept (carried_out y x)) (not (is_open w)) _ _ (λ shut. closed held)
      (λ f.
      let o = opened_says set w copy (walk_state x (ok.call_state refl)) (is_so _ f) in
      inspect_cases (λ (q : Result Packet Answer). packet_fits set w octets q ≡ true → Kept (carried_out (box_of k octets nets x.host w (entry_at (at_hand w) x) q) x)) set w.link octets
      (λ a z. absurd (false≢true z))
      (λ _ z. box_fades k held (is_so _ f) (entry_at (at_hand w) x) (hand_ours held) (place_of w) refl (λ is. time (is_so _ f) is) (right.walk (is_so _ f)) (tabled.walk (is_so _ f)) z) o.held))
    where
      Kept : Outcome → Type 0
      Kept o = FadeAfter r i n b s entries o

      closed : Holds (r.number b) entries → Kept (carried_out (answers (plainly NoWalk) cl l w) x)
      closed held = subst Kept (sym (answered x held (plainly NoWalk) cl l w)) record { walk = call_state.walk; table = call_state.table; same_length = refl }
