-- Opening a walk and each box of it keep a node right: the walk has what the arrival has after the same step, and the lines store what it stores.
use Rattle.std.specs.Prelude.{Option, Some, None, Result}
use mathlib.Core.Path.{◌≡◌, refl, sym, ap, subst, subst₂, ◌∙◌}
use mathlib.Core.Bool.{Bool, true, false, true≢false, false≢true, cond, not, and-false, ◌&&◌, ◌||◌}
use mathlib.Core.List.{List}
use Prim.Native.Nat.{ℕ, suc, ◌+◌, ◌-◌, ◌≤◌, ◌<◌}
use native.Mathlib.Omega.{arith}
use borrow.Author.Tests.{eq-eqb, ne_eqb, ltb-true}
use lib.Dec.{T, ltb, eqb}
use lib.IntN.{ℤ, pos}
use lib.ListN.{length, get_or}
use Rattle.lists.proofs.Tests.{either, both, neither, is_so, is_not}
use Rattle.quantity.specs.declared.Millis.{Millis}
use Rattle.quantity.specs.declared.Word.{Word}
use Rattle.quantity.specs.Quantity.{millis, add_millis, sub_millis, less_millis}
use Rattle.quantity.specs.Words.{wrap, to_word, of_word, zero_word}
use Rattle.quantity.proofs.Ints.{up, dn}
use Rattle.quantity.proofs.Wrap.{wrap_range, wrap_fits}
use Rattle.answer.specs.declared.Answer.{Answer}
use Rattle.answer.specs.declared.Answer.TheVariants.{Done, DelayNotValid, NoHost, NoWalk}
use Rattle.clock.specs.declared.Clock.{Clock}
use Rattle.clock.specs.declared.Counter.{Counter}
use Rattle.clock.specs.Clock.{count_used}
use Rattle.wire.specs.declared.Address.{Address}
use Rattle.wire.specs.declared.Packet.{Packet}
use Rattle.wire.specs.declared.Report.{Report}
use Rattle.wire.specs.Octets.{same_address}
use Rattle.wire.specs.Hello.{report_at}
use Rattle.wire.specs.Packet.{hello_of, fields}
use Rattle.route.specs.declared.Layout.{Layout}
use Rattle.route.specs.Find.{local_id}
use Rattle.table.specs.declared.Entry.{Entry}
use Rattle.table.specs.declared.Update.{Update}
use Rattle.table.specs.declared.entries.Changes.{Changes}
use Rattle.table.specs.Forms.{Stage, on, end}
use Rattle.table.specs.Entry.{max_delay, min_delay, fresh_entry, taken_down}
use Rattle.table.specs.Entry as entry
use Rattle.table.specs.Update.{plus_report, line_a, line_b, line_c}
use Rattle.table.specs.Runs.{changed, changes}
use Rattle.table.proofs.Cases.{stored}
use Rattle.net_table.specs.declared.NetTable.{NetTable}
use Rattle.host.specs.declared.Settings.{Settings}
use Rattle.host.specs.declared.Link.{Link}
use Rattle.host.specs.declared.Links.{Links}
use Rattle.host.specs.declared.Effect.{Effect}
use Rattle.host.specs.declared.walk.Walk.{Walk}
use Rattle.host.specs.declared.walk.Place.{Place}
use Rattle.host.specs.declared.walk.Place.TheVariants.{Step1, Step2, Step3, Step4, Step5, LineA, LineB, LineC, LineD}
use Rattle.host.specs.declared.guard.Scope.TheVariants.{Opening, Walking}
use Rattle.host.specs.Settings.{found_for}
use Rattle.host.specs.State.{unset, fresh_link, host_count, broadcast, link_of, with_link, no_link}
use Rattle.host.specs.declared.Host.{Host}
use Rattle.host.specs.CallState.{CallState, host, entries_of, our_reading}
use Rattle.host.specs.Reply.{plainly}
use Rattle.host.specs.Inspection.{other_layout}
use Rattle.host.specs.Walk.{is_open, no_walk, place_of, packet_of, walk_update, line_update, reading_in_range, id_in_range, storable, walk_fields_at, packet_fits}
use Rattle.host.specs.Effect.{nothing, answers}
use Rattle.host.proofs.Places.{Holds}
use Rattle.host.proofs.Guarded.{passed, holds, walk_state}
use Rattle.host.proofs.Sound.{sound}
use Rattle.host.proofs.Walks.{opened_says}
use Rattle.arrival.specs.declared.Flight.{Flight}
use Rattle.arrival.specs.Steps.{step3, step4, new_neighbor, tsp_of, delay_of, offset_of, at_least_min}
use Rattle.walk.specs.declared.Opening as declared
use Rattle.walk.specs.Opening.{opened_on}
use Rattle.walk.specs.Boxes.{in_flight, holding_reading, holding, raised, at_step, at_line, onward, ended, fourth, to_neighbor, next_id, put, is_clock_host, clock_set, after_a, after_b, box1, box2, box3, box4, box5, box_a, box_b, box_c, box_d, at_hand, box_at, box_of}
use Rattle.walk.specs.Boxes as boxes
use Rattle.calls.specs.declared.Request.TheVariants as request
use Rattle.calls.specs.Perform.{ask, open_walk, Outcome, entry_at, carried_out, opened_by, perform}
use Rattle.network_laws.specs.Network.{longest_way, Network, state_at, HostAt, Proper}
use Rattle.network_laws.specs.Demand3.{Message, reading_at, timed}
use Rattle.network_laws.proofs.Lists.{set_same, All, all_at, all_set, all_put, all_weaken}
use Rattle.network_laws.proofs.Performs.{guard_of, performs}
use Rattle.network_laws.proofs.Arrivals.{same_address_lem}
use Rattle.network_laws.proofs.Swept.{changes_length, changes_keep}
use Rattle.network_laws.proofs.Written.{written_kept, written_back, answered}
use Rattle.network_laws.proofs.Openings.{opening_ways}
use Rattle.network_laws.proofs.Demand3.Near.{Fits16, Near}
use Rattle.network_laws.proofs.Demand3.Invariant.{RightEntry, RightReport, RightLink, RightLinks, Direct, Taken, Timed, Aimed, Lined, RightAt, RightWalk, at_third, between, LinksIn}
use Rattle.network_laws.proofs.Demand3.Outcomes.{NodeState, NodeAfter, any_walk, no_walk_lem, refused_right}
use Rattle.network_laws.proofs.Demand3.Nodes.{fresh_right, down_right, own_host}
use Rattle.network_laws.proofs.Demand3.Sending.{link_from_1}
use Rattle.network_laws.proofs.Demand3.Measured.{found_own}
use Rattle.network_laws.proofs.Demand3.Measured as measured
use Rattle.network_laws.proofs.Demand3.Arrival.{inspect_cases, neighbor_right, report_right}

-- ---- DELAY as a walk holds it, a 16-bit number

-- kept once, it stays
kept_twice : (z : ℤ) → of_word (to_word (millis (wrap 16 z))) ≡ millis (wrap 16 z)
kept_twice z = let w = wrap_range 16 (omega arith) z in ap millis (wrap_fits 16 (omega arith) (wrap 16 z) w.0 w.1)

-- raised to 100, once and again
raised_fits : (d : Word) → up d.0 < 32768 → dn d.0 ≤ 32768 → of_word (to_word (at_least_min (of_word d))) ≡ at_least_min (of_word d)
raised_fits d high low =
    either (λ (m : Millis). of_word (to_word m) ≡ m) (less_millis (of_word d) min_delay) min_delay (of_word d)
    (λ _. ap millis (wrap_fits 16 (omega arith) (pos 100) (omega arith) (omega arith))) (λ _. ap millis (wrap_fits 16 (omega arith) d.0 high low))

raised_twice : (m : Millis) → at_least_min (at_least_min m) ≡ at_least_min m
raised_twice m = go (less_millis m min_delay) refl
  where
    go : (b : Bool) → less_millis m min_delay ≡ b → at_least_min (cond b min_delay m) ≡ cond b min_delay m
    go true e = refl
    go false e = rw e

module _ (r : Network) (proper : Proper r) (ways : r.longest ≤ longest_way) (a : ℕ) (inside : a < r.nodes)
    (nets : NetTable) (c : Clock) (l : Links) (w : Walk) (copy : List ℕ) (entries : List Entry) (call_state : NodeState r a w copy l entries) where
  abbrev x : CallState
  x = state_at r a nets c l w copy entries

  abbrev s : Settings
  s = r.settings a

  abbrev octets : List ℕ
  octets = packet_of w copy

  abbrev p : Packet
  p = fields octets

  -- ---- opening

  pub open_right : (i : ℕ) (packet : List ℕ) → NodeAfter r a entries (perform (open_walk i packet) x)
  unfolding place_of
  open_right i packet =
      performs (open_walk i packet) x (NodeAfter r a entries) (λ _. refused_right r a nets c l w copy entries call_state (open_walk i packet) (guard_of (open_walk i packet) x))
      (λ e.
      let shut : is_open w ≡ false = (passed (Opening i) x e).closed in
      let links = no_walk_lem r a w l.all shut call_state.links in
      opening_ways i packet s w (λ (o : declared.Opening). NodeAfter r a entries (opened_by o packet x))
      (λ b few.
      record { links = call_state.links; walk = λ opened. absurd (true≢false (sym opened ∙ shut)); table = call_state.table; same_length = refl })
      (λ q is fits.
      record { links = any_walk r a (opened_on i (length packet)) l.all links; walk = λ _. tt; table = call_state.table; same_length = refl }))

  -- ---- a step

  module _ (k : Counter) where
    abbrev h : Host
    h = x.host

    -- what an effect of a step has to show
    Good : Effect → Type 0
    Good e = NodeAfter r a entries (carried_out e x)

    module _ (held : Holds (r.number a) entries) (opened : is_open w ≡ true) (has : no_link s w.link ≡ false) (e : Entry) (right : RightEntry r a w.id e) where
      carried : (y : Effect) → LinksIn r a y.walk y.links.all → RightWalk r a y.walk copy y.links
          → ((id : ℕ) (z : Entry) → y.work.first ≤ id → id < y.work.end → z ≡ get_or (entries_of x) id fresh_entry → RightEntry r a id z
          → RightEntry r a id (changed y.work.marks y.work.change (id - y.work.first) z)) → Good y
      unfolding Good
      carried y links walk keeps =
          let n = changes_length y.work (entries_of x) in
          record {
            links = links;
            walk = walk;
            table = λ _. subst (All (RightEntry r a)) (sym (written_back x (changes y.work (entries_of x)) held n)) (changes_keep y.work (entries_of x) (RightEntry r a) keeps (call_state.table held));
            same_length = (written_kept x (changes y.work (entries_of x)) held n).same_length;
          }

      abbrev Keeps : Changes → Type 0
      Keeps now =
          (id : ℕ) (z : Entry) → now.first ≤ id → id < now.end → z ≡ get_or (entries_of x) id fresh_entry → RightEntry r a id z
          → RightEntry r a id (changed now.marks now.change (id - now.first) z)

      -- a box that goes on, and one that ends the walk
      goes : (v : Walk) (d : Clock) (m : Links) (now : Changes) → LinksIn r a v m.all → RightWalk r a v copy m → Keeps now → Good (onward v d m now)
      goes v d m now links walk keeps = carried (onward v d m now) links walk keeps

      ends : (b : Answer) (d : Clock) (m : Links) (now : Changes) → LinksIn r a no_walk m.all → Keeps now → Good (ended b d m now)
      ends b d m now links keeps = carried (ended b d m now) links (λ z. absurd (false≢true z)) keeps

      numbered : suc (w.link - 1) ≡ w.link
      numbered = link_from_1 s w.link has

      none : Keeps nothing
      none id z low high is h = absurd (omega arith)

      -- the link, stored as it is
      there_still : link_of (with_link w.link (link_of l w.link) l) w.link ≡ link_of l w.link
      there_still = ap (λ (ys : List Link). get_or ys (w.link - 1) (fresh_link unset)) (set_same (fresh_link unset) l.all (w.link - 1))

      -- but at step 3 all links are right
      all_right : at_third (place_of w) ≡ false → RightLinks r a l.all
      all_right third =
          all_weaken (λ (j : ℕ) (y : Link). between w (suc j) ≡ false → RightLink r a (suc j) y) (λ (j : ℕ). RightLink r a (suc j)) (λ j y f. f (rw (opened, third))) l.all call_state.links

      -- with one stored
      one_right : (v : Walk) (z : Link) → RightLinks r a l.all → RightLink r a w.link z → LinksIn r a v (with_link w.link z l).all
      one_right v z old new = any_walk r a v (with_link w.link z l).all (all_set (λ (j : ℕ). RightLink r a (suc j)) (w.link - 1) z (rw numbered new) l.all old)

      -- ---- steps

      first : place_of w ≡ Some Step1 → Taken r a w.link (our_reading k h).time octets → Good (box1 k h w)
      unfolding box1 place_of
      first is taken =
          let v : Walk = at_step 2 (holding_reading (count_used k) (our_reading k h).time w) in
          goes v (our_reading k h).clock l nothing (any_walk r a v l.all (all_right (ap at_third is))) (λ _. taken) none

      second : place_of w ≡ (Some Step2) → Taken r a w.link w.reading octets → Good (box2 h w)
      unfolding box2 place_of
      second is taken =
          goes (at_step 3 w) c _ nothing
          (all_set (λ (j : ℕ) (y : Link). between (at_step 3 w) (suc j) ≡ false → RightLink r a (suc j) y) (w.link - 1) _
          (λ off. absurd (true≢false (sym here ∙ off))) l.all (any_walk r a (at_step 3 w) l.all (all_right (ap at_third is)))) (λ _. taken) none
        where
          here : between (at_step 3 w) (suc (w.link - 1)) ≡ true
          here = rw (opened, eq-eqb w.link (suc (w.link - 1)) (sym numbered))

      module _ (taken : Taken r a w.link w.reading octets) where
        abbrev m : Message
        m = taken.message

        point : broadcast s w.link ≡ false
        point = (proper.cables a w.link m.node m.link taken.cable).point_to_point

        same_fields : p ≡ fields m.octets
        same_fields = ap fields taken.octets_are

        tied : (z : Link) → z.tsp ≡ tsp_of p.time w.reading → RightLink r a w.link z
        tied z is b j cable alive =
            rw (is, same_fields) (measured.tied r proper ways a w.link inside m taken.cable taken.right w.reading taken.way taken.short taken.clock b j cable)

        abbrev after3 : Flight
        after3 = step3 (broadcast s w.link) p (in_flight l w)

        abbrev walk4 : Walk
        walk4 = at_step 4 (holding after3 w)

        timed_now : Timed r a walk4 octets
        unfolding step3
        timed_now = record { taken = taken; delay = rw point (kept_twice (sub_millis w.reading (of_word p.tsp)).0); offset = rw point }

        links_now : RightLinks r a (with_link w.link after3.link l).all
        unfolding step3
        links_now =
            all_put (λ (j : ℕ). RightLink r a (suc j)) (w.link - 1) after3.link (rw numbered (tied after3.link refl)) l.all
            (all_weaken (λ (j : ℕ) (y : Link). between w (suc j) ≡ false → RightLink r a (suc j) y) (λ (j : ℕ) (y : Link). (j ≡ w.link - 1 → ⊥) → RightLink r a (suc j) y)
            (λ j y f not. f (rw (ne_eqb w.link (suc j) (λ z. not (omega arith))) (and-false (is_open w && at_third (place_of w))))) l.all call_state.links)

        third : Good (box3 p h w)
        unfolding box3 place_of
        third = goes walk4 c (with_link w.link after3.link l) nothing (any_walk r a walk4 (with_link w.link after3.link l).all links_now) (λ _. timed_now) none

      module _ (is : place_of w ≡ (Some Step4)) (t : Timed r a w octets) where
        abbrev sent : Message
        sent = t.taken.message

        old_right : RightLinks r a l.all
        old_right = all_right (ap at_third is)

        link_is : RightLink r a w.link (link_of l w.link)
        link_is =
            subst (λ (n : ℕ). RightLink r a n (link_of l w.link)) numbered
            (all_at (λ (j : ℕ). RightLink r a (suc j)) (fresh_link unset) (λ j b n cable alive. absurd (true≢false alive)) l.all old_right (w.link - 1))

        source_is : p.source ≡ (r.settings sent.node).address
        source_is =
            ap (λ (o : List ℕ). (fields o).source) t.taken.octets_are
            ∙ measured.source_is r proper ways a w.link inside sent t.taken.cable t.taken.right w.reading t.taken.way t.taken.short t.taken.clock

        again : of_word (to_word (of_word w.delay)) ≡ of_word w.delay
        again = ap (λ (d : Millis). of_word (to_word d)) t.delay ∙ kept_twice (sub_millis w.reading (of_word p.tsp)).0 ∙ sym t.delay

        fits_again : (d : Word) → of_word d ≡ millis (wrap 16 (sub_millis w.reading (of_word p.tsp)).0) → Fits16 d.0
        fits_again d same =
            let z = wrap_range 16 (omega arith) (sub_millis w.reading (of_word p.tsp)).0 in
            let here : d.0 ≡ wrap 16 (sub_millis w.reading (of_word p.tsp)).0 = ap (λ (n : Millis). n.0) same in
            rw here record { high = z.0; low = z.1 }

        abbrev f : Flight
        f = in_flight l w

        abbrev f' : Flight
        f' = new_neighbor p f

        -- 30,000 is a 16-bit number
        kept_whole : max_delay ≡ of_word (to_word max_delay)
        kept_whole = sym (ap millis (wrap_fits 16 (omega arith) (pos 30000) (omega arith) (omega arith)))

        new_direct : Direct r a sent.node max_delay (offset_of (tsp_of p.time w.reading) (delay_of w.reading p.tsp))
        new_direct =
            subst (λ (y : Packet). Direct r a sent.node max_delay (offset_of (tsp_of y.time w.reading) (delay_of w.reading y.tsp))) (sym (same_fields t.taken))
            (measured.new_right r proper ways a w.link inside sent t.taken.cable t.taken.right w.reading t.taken.way t.taken.short t.taken.clock
            (delay_of w.reading (fields sent.octets).tsp))

        new_aimed : Aimed r a (at_step 5 (holding f' w)) octets (with_link w.link f'.link l)
        new_aimed =
            record {
              taken = t.taken;
              fits = omega arith;
              direct = subst₂ (λ (d : Millis) (o : Word). Direct r a sent.node d o) kept_whole (sym t.offset) new_direct;
              neighbor = λ low. absurd (false≢true (subst (λ (d : Millis). less_millis (at_least_min d) max_delay ≡ true) (sym kept_whole) low));
            }

        new : Good (fourth h w (on f'))
        unfolding place_of
        new = goes (at_step 5 (holding f' w)) c (with_link w.link f'.link l) nothing (one_right (at_step 5 (holding f' w)) f'.link old_right link_is) (λ _. new_aimed) none

        known_direct : zero_word p.tsp ≡ false → Direct r a sent.node (delay_of w.reading p.tsp) (offset_of (tsp_of p.time w.reading) (delay_of w.reading p.tsp))
        known_direct =
            subst (λ (y : Packet). zero_word y.tsp ≡ false → Direct r a sent.node (delay_of w.reading y.tsp) (offset_of (tsp_of y.time w.reading) (delay_of w.reading y.tsp))) (sym (same_fields t.taken))
            (measured.direct_right r proper ways a w.link inside sent t.taken.cable t.taken.right w.reading t.taken.way t.taken.short t.taken.clock)

        known_aimed : same_address p.source (link_of l w.link).neighbor ≡ true → zero_word p.tsp ≡ false → Aimed r a (at_step 5 (holding f w)) octets (with_link w.link f.link l)
        known_aimed same some =
            record {
              taken = t.taken;
              fits = fits_again (to_word (of_word w.delay)) (again ∙ t.delay);
              direct = subst₂ (λ (d : Millis) (o : Word). Direct r a sent.node d o) (sym (again ∙ t.delay)) (sym t.offset) (known_direct some);
              neighbor = λ _. ap (λ (y : Link). y.neighbor) there_still ∙ sym (same_address_lem p.source (link_of l w.link).neighbor same) ∙ source_is;
            }

        known : same_address p.source (link_of l w.link).neighbor ≡ true → zero_word p.tsp ≡ false → Good (fourth h w (on f))
        unfolding place_of
        known same some =
            goes (at_step 5 (holding f w)) c (with_link w.link f.link l) nothing (one_right (at_step 5 (holding f w)) f.link old_right link_is) (λ _. known_aimed same some) none

        stops : Good (fourth h w (end f))
        stops = ends DelayNotValid c (with_link w.link f.link l) nothing (one_right no_walk f.link old_right link_is) none

        fourth_right : Good (box4 p h w)
        unfolding box4 step4
        fourth_right =
            rw (point t.taken)
            (either (λ (g : Stage Flight). Good (fourth h w g)) (not (same_address p.source (link_of l w.link).neighbor)) _ _ (λ _. new)
            (λ y. either (λ (g : Stage Flight). Good (fourth h w g)) (zero_word p.tsp || not (eqb c.hold.0 0)) _ _ (λ _. stops)
            (λ u. known (is_so _ y) (neither (zero_word p.tsp) _ u).0)))

      module _ (is : place_of w ≡ (Some Step5)) (t : Aimed r a w octets l) where
        abbrev from : ℕ
        from = t.taken.message.node

        fine : RightLinks r a l.all
        fine = all_right (ap at_third is)

        raised_is : of_word (to_word (at_least_min (of_word w.delay))) ≡ at_least_min (of_word w.delay)
        raised_is = raised_fits w.delay t.fits.high t.fits.low

        twice : Direct r a from (at_least_min (of_word w.delay)) w.offset
        twice =
            record {
              fits = t.direct.fits;
              near =
                  subst (λ (d : Millis). less_millis d max_delay ≡ true → Near w.offset.0 (r.fixed from) (r.fixed a) d.0) (sym (raised_twice (of_word w.delay))) t.direct.near;
            }

        lined : (id : ℕ) → (less_millis (at_least_min (of_word w.delay)) max_delay ≡ true → eqb p.nhosts 0 ≡ true → HostAt r id from) → Lined r a (at_line 1 id (raised w)) octets
        lined id host =
            record {
              taken = t.taken;
              direct = subst (λ (d : Millis). Direct r a from d w.offset) (sym raised_is) twice;
              raised = subst (λ (d : Millis). at_least_min d ≡ d) (sym raised_is) (raised_twice (of_word w.delay));
              host_there = λ low. host (subst (λ (d : Millis). less_millis d max_delay ≡ true) raised_is low);
            }

        found : (f : Option ℕ) → found_for nets s (link_of l w.link).neighbor ≡ f → Good (to_neighbor h (raised w) f)
        unfolding place_of
        found None same = ends NoHost c l nothing (any_walk r a no_walk l.all fine) none
        found (Some id) same =
            let there = t.taken.right.node_in in
            let host : less_millis (at_least_min (of_word w.delay)) max_delay ≡ true → HostAt r id from =
            λ low.
            own_host r from proper there id
            (ap (λ (y : Layout). local_id y (r.settings from).address) (proper.one_layout from a there inside)
            ∙ found_own s.address (r.settings from).address s nets id (proper.one_net a from inside there) (ap (λ (y : Address). found_for nets s y) (sym (t.neighbor low)) ∙ same)) in
            goes (at_line 1 id (raised w)) c l nothing (any_walk r a (at_line 1 id (raised w)) l.all fine) (λ _. lined id (λ low _. host low)) none

        fifth : Good (box5 p nets h w)
        unfolding box5 place_of
        fifth =
            either Good (eqb p.nhosts 0) _ _ (λ _. found (found_for nets s (link_of l w.link).neighbor) refl)
            (λ some. goes (at_line 1 0 (raised w)) c l nothing (any_walk r a (at_line 1 0 (raised w)) l.all fine) (λ _. lined 0 (λ _ z. absurd (true≢false (sym z ∙ some)))) none)

      -- ---- lines

      module _ (off : at_third (place_of w) ≡ false) (t : Lined r a w octets) where
        abbrev sender : ℕ
        sender = t.taken.message.node

        good_links : (v : Walk) → LinksIn r a v l.all
        good_links v = any_walk r a v l.all (all_right off)

        puts : (y : Entry) → RightEntry r a w.id y → (id : ℕ) (z : Entry) → w.id ≤ id → id < w.id + 1 → z ≡ get_or (entries_of x) id fresh_entry → RightEntry r a id z → RightEntry r a id y
        puts y good id z low high _ _ = let same : w.id ≡ id = omega arith in rw (← same) good

        -- at another line of the same id
        same_id : Lined r a w octets → (n : ℕ) → Lined r a (at_line n w.id w) octets
        same_id t n = record { taken = t.taken; direct = t.direct; raised = t.raised; host_there = t.host_there }

        next_id_lem : eqb p.nhosts 0 ≡ false → Lined r a (at_line 1 (w.id + 1) w) octets
        next_id_lem some = record { taken = t.taken; direct = t.direct; raised = t.raised; host_there = λ _ z. absurd (true≢false (sym z ∙ some)) }

        next : (d : Clock) (now : Changes) → Keeps now → Good (next_id p (host s d l) w now)
        unfolding place_of
        next d now keeps =
            either Good (eqb p.nhosts 0 || not (ltb (w.id + 1) (host_count s))) _ _
            (λ _. ends Done d l now (good_links no_walk) keeps)
            (λ u. goes (at_line 1 (w.id + 1) w) d l now (good_links (at_line 1 (w.id + 1) w)) (λ _. next_id_lem (neither (eqb p.nhosts 0) _ u).0) keeps)

        at_a : (g : Stage Entry) → Good (after_a p h w g)
        unfolding place_of
        at_a (end y) = next c nothing none
        at_a (on y) = goes (at_line 2 w.id w) c l nothing (good_links (at_line 2 w.id w)) (λ _. same_id t 2) none

        line_b_lem : Good (box_b p octets h w e)
        unfolding box_b line_b place_of
        line_b_lem =
            either Q (entry.up e) _ _ (λ _. either Q (less_millis (line_update w p octets).delay max_delay) _ _ (λ _. goes_on) (λ _. next c (put w (taken_down e)) (puts (taken_down e) (down_right r a w.id e right))))
            (λ _. either Q (less_millis (line_update w p octets).delay max_delay && eqb e.ttl.0 0) _ _ (λ _. goes_on) (λ _. next c (put w e) (puts e right)))
          where
            Q : Stage Entry → Type 0
            Q g = Good (after_b p h w g)

            goes_on : Good (after_b p h w (on e))
            goes_on = goes (at_line 3 w.id w) c l nothing (good_links (at_line 3 w.id w)) (λ _. same_id t 3) none

        -- the flight of the walk
        abbrev flight : Flight
        flight = record { reading = w.reading; link = link_of l w.link; delay = of_word w.delay; offset = w.offset }

        stores : other_layout s p ≡ false → id_in_range s w ≡ true → (s.layout.nhosts ≤ 255) → storable (line_update w p octets) ≡ true → RightEntry r a w.id (stored (line_update w p octets) e)
        stores ours id few fits = go (eqb p.nhosts 0) refl (both (not (less_millis (line_update w p octets).delay min_delay)) _ fits).1
          where
            there : sender < r.nodes
            there = t.taken.right.node_in

            go : (b : Bool) → eqb p.nhosts 0 ≡ b
                → less_millis (cond b (walk_update w) (plus_report (walk_update w) (report_at (hello_of octets) w.id))).delay max_delay ≡ true
                → RightEntry r a w.id (stored (cond b (walk_update w) (plus_report (walk_update w) (report_at (hello_of octets) w.id))) e)
            go true z small =
                subst (λ (d : Millis). less_millis d max_delay ≡ true → RightEntry r a w.id record { delay = d; offset = w.offset; ttl = entry.hold_down; pid = w.link; here = e.here; time = w.reading }) t.raised
                (λ low. neighbor_right r proper a sender inside there w.link w.id flight t.direct (t.host_there small z) low e) small
            go false z low =
                subst (λ (d : Millis). less_millis (add_millis d report.delay) max_delay ≡ true
                → RightEntry r a w.id (stored (plus_report record { pid = w.link; delay = d; offset = w.offset; reading = w.reading } report) e)) t.raised
                (λ low. report_right r proper a sender inside there w.link w.id flight t.direct report good low e) low
              where
                report : Report
                report = report_at (hello_of octets) w.id

                good : RightReport r sender w.id report
                good =
                    rw t.taken.octets_are
                    (measured.reports_read r proper ways a w.link inside t.taken.message t.taken.cable t.taken.right w.reading t.taken.way t.taken.short t.taken.clock
                    (rw (← same_fields t.taken) ours) (rw (← same_fields t.taken) z) w.id (omega (arith, ltb-true w.id s.layout.nhosts id, few)))

        line_c_lem : other_layout s p ≡ false → id_in_range s w ≡ true → (s.layout.nhosts ≤ 255) → storable (line_update w p octets) ≡ true → Good (box_c p octets h w e)
        unfolding box_c line_c place_of
        line_c_lem ours id few fits =
            let u : Update = line_update w p octets in
            let y = stores ours id few fits in
            either Good (is_clock_host h w) _ _ (λ _. goes (at_line 4 w.id w) c l (put w (stored u e)) (good_links (at_line 4 w.id w)) (λ _. same_id t 4) (puts (stored u e) y)) (λ _. next c (put w (stored u e)) (puts (stored u e) y))

      -- ---- the box of a place

      box_right : other_layout s p ≡ false → (s.layout.nhosts ≤ 255) → (q : Option Place) → place_of w ≡ q → (place_of w ≡ Some Step1 → Taken r a w.link (our_reading k h).time octets)
          → RightAt r a w octets l q → walk_fields_at q s w p octets ≡ true → Good (box_at q k p octets nets h w e)
      unfolding box_a box_d
      box_right ours few None is time now held = absurd (false≢true held)
      box_right ours few (Some Step1) is time now held = first is (time is)
      box_right ours few (Some Step2) is time now held = second is now
      box_right ours few (Some Step3) is time now held = third now
      box_right ours few (Some Step4) is time now held = fourth_right is now
      box_right ours few (Some Step5) is time now held = fifth is now
      box_right ours few (Some LineA) is time now held = at_a (ap at_third is) now (line_a (line_update w p octets) e)
      box_right ours few (Some LineB) is time now held = line_b_lem (ap at_third is) now
      box_right ours few (Some LineC) is time now held =
          let u = both (reading_in_range w && id_in_range s w) _ held in
          line_c_lem (ap at_third is) now ours (both (reading_in_range w) _ u.0).1 few u.1
      box_right ours few (Some LineD) is time now held = next (ap at_third is) now (clock_set p octets h w) nothing none

  -- ---- the complete step

  -- the entry at hand
  hand_right : Holds (r.number a) entries → RightEntry r a w.id (entry_at (at_hand w) x)
  hand_right held =
      either (λ (f : Option ℕ). RightEntry r a w.id (entry_at f x)) (is_open w && not (eqb w.line 0)) (Some w.id) None
      (λ _. all_at (RightEntry r a) fresh_entry (fresh_right r a) (entries_of x) (call_state.table held) w.id) (λ _. fresh_right r a w.id)

  pub step_right : (k : Counter)
      → (T (timed (perform (ask (request.Step k)) x).reply.answer) → is_open w ≡ true → place_of w ≡ Some Step1 → Taken r a w.link (reading_at r a c k).time octets)
      → NodeAfter r a entries (perform (ask (request.Step k)) x)
  unfolding boxes.step Good box1
  step_right k =
      performs (ask (request.Step k)) x Kept (λ _ _. refused_right r a nets c l w copy entries call_state (ask (request.Step k)) (guard_of (ask (request.Step k)) x))
      (λ e.
      let ok = passed Walking x e in
      let held = holds (r.number a) entries ok.places in
      let few = (sound s ok.settings).hosts_to in
      either (λ (y : Effect). Kept (carried_out y x)) (not (is_open w)) _ _ (λ shut _. closed held (is_not _ shut))
      (λ f.
      let o = opened_says s w copy (walk_state x (ok.call_state refl)) (is_so _ f) in
      inspect_cases (λ (q : Result Packet Answer). packet_fits s w octets q ≡ true → Kept (carried_out (box_of k octets nets x.host w (entry_at (at_hand w) x) q) x)) s w.link octets
      (λ b z. absurd (false≢true z)) (λ ours z time. box held (is_so _ f) o.link ours few z time) o.held))
    where
      Kept : Outcome → Type 0
      Kept o = (T (timed o.reply.answer) → is_open w ≡ true → place_of w ≡ Some Step1 → Taken r a w.link (reading_at r a c k).time octets) → NodeAfter r a entries o

      closed : Holds (r.number a) entries → is_open w ≡ false → NodeAfter r a entries (carried_out (answers (plainly NoWalk) c l w) x)
      closed held shut =
          subst (NodeAfter r a entries) (sym (answered x held (plainly NoWalk) c l w))
          record { links = call_state.links; walk = call_state.walk; table = call_state.table; same_length = refl }

      box : Holds (r.number a) entries → (opened : is_open w ≡ true) → no_link s w.link ≡ false → other_layout s p ≡ false → s.layout.nhosts ≤ 255 → walk_fields_at (place_of w) s w p octets ≡ true
          → (T (timed (carried_out (box_at (place_of w) k p octets nets x.host w (entry_at (at_hand w) x)) x).reply.answer) → is_open w ≡ true → place_of w ≡ Some Step1 → Taken r a w.link (reading_at r a c k).time octets)
          → NodeAfter r a entries (carried_out (box_at (place_of w) k p octets nets x.host w (entry_at (at_hand w) x)) x)
      box held opened has ours few z time =
          box_right k held opened has (entry_at (at_hand w) x) (hand_right held) ours few (place_of w) refl
          (λ is. time (rw is tt) opened is) (call_state.walk opened) z
