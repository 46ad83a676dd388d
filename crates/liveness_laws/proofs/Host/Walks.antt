-- Each box of a walk keeps the invariant, because an open walk blocks every other call: what a line finds is what the line before it left.
use Rattle.std.specs.Prelude.{Option, Some, None, Result}
use mathlib.Core.Path.{◌≡◌, refl, sym, ap, subst, ◌∙◌}
use mathlib.Core.Bool.{Bool, true, false, true≢false, false≢true, cond, not, and-false, ◌&&◌, ◌||◌}
use mathlib.Core.List.{List}
use mathlib.Core.Logic.{◌⊎◌, inl, inr}
use Prim.Native.Nat.{ℕ, suc, ◌+◌, ◌-◌, ◌≤◌, ◌<◌}
use native.Mathlib.Omega.{arith}
use borrow.Author.Tests.{eqb-true, eqb-false, eq-eqb, ne_eqb, ltb-true, ltb-false}
use lib.Dec.{ltb, eqb}
use lib.IntN.{pos, ◌+ℤ◌}
use lib.ListN.{length}
use lib.Seq.{get_or-set_same}
use Rattle.lists.proofs.Tests.{either, is_so, is_not, neither}
use Rattle.quantity.specs.declared.Millis.{Millis}
use Rattle.quantity.specs.Quantity.{millis, sub_millis, less_millis}
use Rattle.quantity.specs.Words.{wrap, to_word, of_word, zero_word}
use Rattle.quantity.proofs.Ints.{not_lt}
use Rattle.quantity.proofs.Wrap.{wrap_range, wrap_fits}
use Rattle.answer.specs.declared.Answer.{Answer}
use Rattle.answer.specs.declared.Answer.TheVariants.{Done, DelayNotValid, NoHost, NoWalk}
use Rattle.clock.specs.declared.Clock.{Clock}
use Rattle.clock.specs.declared.Counter.{Counter}
use Rattle.clock.specs.Clock.{count_used}
use Rattle.wire.specs.declared.Packet.{Packet}
use Rattle.wire.specs.Octets.{same_address}
use Rattle.wire.specs.Hello.{report_at}
use Rattle.wire.specs.Packet.{hello_of, fields}
use Rattle.table.specs.declared.Entry.{Entry}
use Rattle.table.specs.declared.Update.{Update}
use Rattle.table.specs.declared.entries.Changes.{Changes}
use Rattle.table.specs.Forms.{Stage, on, end, ◌then◌}
use Rattle.table.specs.Entry.{max_delay, fresh_entry, taken_down}
use Rattle.table.specs.Entry as entry
use Rattle.table.specs.Update.{line_a, line_b, line_c, lines, left}
use Rattle.table.specs.Runs.{changes}
use Rattle.table.proofs.Cases.{stored}
use Rattle.net_table.specs.declared.NetTable.{NetTable}
use Rattle.host.specs.declared.Settings.{Settings}
use Rattle.host.specs.declared.Link.{Link}
use Rattle.host.specs.declared.Links.{Links}
use Rattle.host.specs.declared.Effect.{Effect}
use Rattle.host.specs.declared.walk.Walk.{Walk}
use Rattle.host.specs.declared.walk.Place.{Place}
use Rattle.host.specs.declared.walk.Place.TheVariants.{Step1, Step2, Step3, Step4, Step5, LineA, LineB, LineC, LineD}
use Rattle.host.specs.declared.guard.Scope.TheVariants.{Walking}
use Rattle.host.specs.Guard.{done}
use Rattle.host.specs.Settings.{found_for, link_count_of}
use Rattle.host.specs.State.{host_count, own_entries, broadcast, link_of, with_link, fresh_link, unset, no_link}
use Rattle.host.specs.declared.Host.{Host}
use Rattle.host.specs.CallState.{CallState, host, entries_of, our_reading}
use Rattle.host.specs.Reply.{plainly}
use Rattle.host.specs.Walk.{is_open, no_walk, step_place, place_of, packet_of, line_update, walk_fields_at, packet_fits}
use Rattle.host.specs.Effect.{nothing, answers}
use Rattle.host.proofs.Places.{Holds, entries_length}
use Rattle.host.proofs.Guarded.{passed, holds, counted, walk_state}
use Rattle.host.proofs.Walks.{opened_says}
use Rattle.arrival.specs.declared.Flight.{Flight}
use Rattle.arrival.specs.Steps.{step2, step3, step4, new_neighbor, delay_of, at_least_min}
use Rattle.walk.specs.Boxes.{in_flight, holding_reading, holding, raised, at_step, at_line, onward, ended, fourth, to_neighbor, next_id, put, is_clock_host, clock_set, after_a, after_b, box1, box2, box3, box4, box5, box_a, box_b, box_c, box_d, at_hand, box_at, box_of}
use Rattle.walk.specs.Boxes as boxes
use Rattle.calls.specs.declared.Request.TheVariants as request
use Rattle.calls.specs.Perform.{ask, Outcome, entry_at, carried_out, perform}
use Rattle.network_laws.specs.Network.{Network, at, state_at, Proper}
use Rattle.network_laws.specs.Demand3.{Message}
use Rattle.network_laws.proofs.Arrivals.{same_address_lem}
use Rattle.network_laws.proofs.Lists.{All, all_there, all_weaken}
use Rattle.network_laws.proofs.Performs.{performs}
use Rattle.network_laws.proofs.Swept.{changes_length, changes_keep}
use Rattle.network_laws.proofs.Written.{answered, written_back, written_kept}
use Rattle.network_laws.proofs.Demand3.Invariant.{Timed, RightAt, RightWalk}
use Rattle.network_laws.proofs.Demand3.Arrival.{inspect_cases}
use Rattle.liveness_laws.specs.Numbers.{rise, quick_way}
use Rattle.liveness_laws.proofs.Lines.{stays, line_a_ends, line_a_goes, far_off, lines_from}
use Rattle.liveness_laws.proofs.Links.{LinkOk, LinksOk, learns, learns_at, relinked, same_room}
use Rattle.liveness_laws.proofs.Measured.{returned, Worded}
use Rattle.liveness_laws.proofs.Measured as measured
use Rattle.liveness_laws.proofs.Rounds.Entry.{hearing}
use Rattle.liveness_laws.proofs.Rounds.Heard.{Mine, mine_deaf, mine_fewer}
use Rattle.liveness_laws.proofs.Rounds.Tables.{put_turn}
use Rattle.liveness_laws.proofs.Host.State.{Course, is_new, is_over, is_ahead, Aim, WalkAt, Believes, Good, Before, After, unchanged}
use Rattle.liveness_laws.proofs.Host.Arrivals.{stranger}

-- a line's number is not 0
abbrev is_line : Option Place → Bool
is_line None = false
is_line (Some Step1) = false
is_line (Some Step2) = false
is_line (Some Step3) = false
is_line (Some Step4) = false
is_line (Some Step5) = false
is_line (Some LineA) = true
is_line (Some LineB) = true
is_line (Some LineC) = true
is_line (Some LineD) = true

on_line : (w : Walk) → is_line (place_of w) ≡ true → eqb w.line 0 ≡ false
unfolding place_of
on_line w is = go (eqb w.line 0) refl
  where
    no_line : (n : ℕ) → is_line (step_place n) ≡ false
    no_line n =
        either Q (eqb n 1) _ _ (λ _. refl)
        (λ _. either Q (eqb n 2) _ _ (λ _. refl) (λ _. either Q (eqb n 3) _ _ (λ _. refl) (λ _. either Q (eqb n 4) _ _ (λ _. refl) (λ _. either Q (eqb n 5) _ _ (λ _. refl) (λ _. refl)))))
      where
        Q : Option Place → Type 0
        Q q = is_line q ≡ false

    go : (t : Bool) → eqb w.line 0 ≡ t → t ≡ false
    go false z = refl
    go true z = absurd (true≢false (sym (rw z at is) ∙ no_line w.step))

module _ (r : Network) (proper : Proper r) (quick : r.longest ≤ quick_way) (c i k m b : ℕ) (Sent : Entry → (link : ℕ) → (octets : List ℕ) → Type 0) (Rest : Entry → Type 0) (s : ℕ) (heard : ℕ → Bool)
    (few : i < host_count (r.settings b)) (nets : NetTable) (cl : Clock) (l : Links) (w : Walk) (copy : List ℕ) (entries : List Entry) (e : Entry)
    (was : Before r c i k m b false Sent Rest s heard w copy l entries e) (believes : Believes r c i k m b s heard Sent Rest e) where
  abbrev x : CallState
  x = state_at r b nets cl l w copy entries

  abbrev set : Settings
  set = r.settings b

  abbrev octets : List ℕ
  octets = packet_of w copy

  abbrev p : Packet
  p = fields octets

  abbrev j : ℕ
  j = w.link

  abbrev u : Update
  u = line_update w p octets

  abbrev on_now : ℕ → Bool
  on_now = hearing r c b j heard

  abbrev Good-so : (heard : ℕ → Bool) → Walk → Links → Entry → Type 0
  Good-so flags v = Good r c i k m b false Sent Rest s flags v copy

  -- a link is heard when its walk ends with answer 0
  abbrev pub heard_by : Answer → Walk → ℕ → Bool
  heard_by a v = cond (done a && not (is_open v)) on_now heard

  abbrev Fine : Effect → Type 0
  Fine y = After r c i k m b false Sent Rest s (heard_by y.reply.answer y.walk) entries y.walk copy y.links (carried_out y x).entries

  less_on : (q : ℕ) → (q ≡ j → ⊥) → on_now q ≡ true → heard q ≡ true
  less_on q other = either (λ (t : Bool). t ≡ true → heard q ≡ true) (eqb q j) _ _ (λ z _. absurd (other (eqb-true q j z))) (λ _ z. z)

  more_on : (q : ℕ) → heard q ≡ true → on_now q ≡ true
  more_on q z = either (λ (t : Bool). t ≡ true) (eqb q j) _ _ (λ _. refl) (λ _. z)

  module _ (κ : Counter) (held : Holds (r.number b) entries) (opened : is_open w ≡ true) (has : no_link set j ≡ false) where
    abbrev h : Host
    h = x.host

    from_1 : 1 ≤ j
    from_1 = (counted set j has).from_one

    -- ---- what a box makes of the entry

    abbrev Gives : Changes → Entry → Type 0
    Gives now f = All (λ (id : ℕ) (z : Entry). id ≡ i → z ≡ f) (changes now (entries_of x))

    none : Gives nothing e
    none = changes_keep nothing (entries_of x) (λ (id : ℕ) (z : Entry). id ≡ i → z ≡ e) (λ id z low high is f. absurd (omega arith)) (was.table held)

    -- the entry of id i, if the walk's is replaced
    abbrev picked : Entry → Entry
    picked y = cond (eqb w.id i) y e

    picked_here : (y : Entry) → w.id ≡ i → picked y ≡ y
    picked_here y same = rw (eq-eqb w.id i same)

    picked_other : (y : Entry) → (w.id ≡ i → ⊥) → picked y ≡ e
    picked_other y other = rw (ne_eqb w.id i other)

    puts : (y : Entry) → Gives (put w y) (picked y)
    puts y =
        put_turn (λ (id : ℕ) (z : Entry). id ≡ i → z ≡ e) (λ (id : ℕ) (z : Entry). id ≡ i → z ≡ picked y) w.id y
        (λ id z other is same. is same ∙ sym (picked_other y (λ v. other (same ∙ sym v)))) (λ same. sym (picked_here y same)) (entries_of x) (was.table held)

    carried : (y : Effect) (flags : ℕ → Bool) (f : Entry) → heard_by y.reply.answer y.walk ≡ flags → link_count_of set ≤ length y.links.all → Gives y.work f
        → Good-so flags y.walk y.links f → Fine y
    carried y flags f is room gives good =
        let n = changes_length y.work (entries_of x) in
        record {
          room = room;
          table =
              λ _.
              subst (λ (now : ℕ → Bool). All (λ (id : ℕ) (z : Entry). id ≡ i → Good-so now y.walk y.links z) (own_entries set (r.number b) (carried_out y x).entries)) (sym is)
              (subst (All (λ (id : ℕ) (z : Entry). id ≡ i → Good-so flags y.walk y.links z)) (sym (written_back x (changes y.work (entries_of x)) held n))
              (all_weaken (λ (id : ℕ) (z : Entry). id ≡ i → z ≡ f) (λ (id : ℕ) (z : Entry). id ≡ i → Good-so flags y.walk y.links z)
              (λ id z q same. subst (Good-so flags y.walk y.links) (sym (q same)) good) (changes y.work (entries_of x)) gives));
          same_length = (written_kept x (changes y.work (entries_of x)) held n).same_length;
        }

    -- a box that goes on
    goes : (v : Walk) (d : Clock) (links : Links) (now : Changes) (f : Entry) → is_open v ≡ true → link_count_of set ≤ length links.all → Gives now f → Mine r c b k m s heard f → Rest f
        → LinksOk r k false (learns v) heard b f links → WalkAt r c i k m b s heard Sent f v (packet_of v copy) links (place_of v) → Fine (onward v d links now)
    goes v d links now f still_Open room gives mine rest fine walk =
        carried (onward v d links now) heard f (rw still_Open) room gives record { mine = mine; rest = rest; links = fine; waits = λ no. absurd (false≢true no); walk = λ _. walk }

    -- a box that ends the walk
    stops : (a : Answer) (d : Clock) (links : Links) (now : Changes) (flags : ℕ → Bool) (f : Entry) → heard_by a no_walk ≡ flags → link_count_of set ≤ length links.all → Gives now f → Mine r c b k m s flags f → Rest f
        → LinksOk r k false (learns no_walk) flags b f links → Fine (ended a d links now)
    stops a d links now flags f is room gives mine rest fine =
        carried (ended a d links now) flags f is room gives record { mine = mine; rest = rest; links = fine; waits = λ no. absurd (false≢true no); walk = λ no. absurd (false≢true no) }

    -- ---- links

    -- a link that the walk is not on
    off : (q : ℕ) → (q ≡ j → ⊥) → learns w q ≡ false
    off q other = rw (ne_eqb j q (λ z. other (sym z))) (and-false (is_open w && learns_at (place_of w)))

    idle : learns_at (place_of w) ≡ false → (q : ℕ) → learns w q ≡ false
    idle is q = rw (opened, is)

    -- the links as they are, outside of boxes 3 and 4
    as_they_are : learns_at (place_of w) ≡ false → (v : Walk) → LinksOk r k false (learns v) heard b e l
    as_they_are is v q a n cord = let g = was.good.links q a n cord in record { quiet = g.quiet; spoke = λ _. g.spoke (idle is q); known = g.known; met = g.met }

    -- KEEP-ALIVE or TSP is stored
    learning : (v : Walk) → learns v j ≡ true → (z : Link) → z.neighbor ≡ (link_of l j).neighbor → LinksOk r k false (learns v) heard b e (with_link j z l)
    learning v is z same =
        relinked r proper k b false l was.room j has (learns v) heard e z
        (λ a n cord.
        let g = was.good.links j a n cord in
        record { quiet = λ no. absurd (false≢true no); spoke = λ no. absurd (true≢false (sym is ∙ no)); known = λ y. same ∙ g.known y; met = λ t at_j. same ∙ g.met t at_j })
        (λ q a n other cord. let g = was.good.links q a n cord in record { quiet = g.quiet; spoke = λ _. g.spoke (off q other); known = g.known; met = g.met })

    -- the link knows its neighbour
    learned : (v : Walk) (z : Link) (a n : ℕ) → r.cable b j ≡ at a n → z.neighbor ≡ (r.settings a).address → LinksOk r k false (learns v) heard b e (with_link j z l)
    learned v z a n cable known =
        relinked r proper k b false l was.room j has (learns v) heard e z
        (λ d o cord.
        let so = known ∙ ap (λ (t : ℕ). (r.settings t).address) (far_end_lem d o cord) in
        record { quiet = λ no. absurd (false≢true no); spoke = λ _ _. so; known = λ _. so; met = λ _ _. so })
        (λ q d o other cord. let g = was.good.links q d o cord in record { quiet = g.quiet; spoke = λ _. g.spoke (off q other); known = g.known; met = g.met })
      where
        far_end_lem : (d o : ℕ) → r.cable b j ≡ at d o → a ≡ d
        far_end_lem d o z = cc

    there_now : (z : Link) → link_of (with_link j z l) j ≡ z
    there_now z = get_or-set_same l.all (j - 1) z (fresh_link unset) (omega (arith, (counted set j has).at_place, was.room))

    room_now : (z : Link) → link_count_of set ≤ length (with_link j z l).all
    room_now z = same_room r proper k b false l was.room j has z

    -- ---- steps

    abbrev walk2 : Walk
    walk2 = at_step 2 (holding_reading (count_used κ) (our_reading κ h).time w)

    first : place_of w ≡ Some Step1 → Sent e j octets → Fine (box1 κ h w)
    unfolding box1 place_of
    first is sent = goes walk2 (our_reading κ h).clock l nothing e opened was.room none was.good.mine was.good.rest (as_they_are (ap learns_at is) walk2) sent

    second : Sent e j octets → Fine (box2 h w)
    unfolding box2 place_of step2
    second sent = goes (at_step 3 w) cl _ nothing e opened (room_now _) none was.good.mine was.good.rest (learning (at_step 3 w) (rw (opened, eq-eqb j j refl)) _ refl) sent

    abbrev after3 : Flight
    after3 = step3 (broadcast set j) p (in_flight l w)

    abbrev walk4 : Walk
    walk4 = at_step 4 (holding after3 w)

    third : Sent e j octets → Fine (box3 p h w)
    unfolding box3 place_of step3
    third sent =
        goes walk4 cl (with_link j after3.link l) nothing e opened (room_now after3.link) none was.good.mine was.good.rest (learning walk4 (rw (opened, eq-eqb j j refl)) after3.link refl) sent

    -- ---- step 4

    module _ (sent : Sent e j octets) (t : Timed r b w octets) where
      abbrev letter : Message
      letter = t.taken.message

      abbrev a : ℕ
      a = letter.node

      cable : r.cable b j ≡ at a letter.link
      cable = t.taken.cable

      same_fields : p ≡ fields letter.octets
      same_fields = ap fields t.taken.octets_are

      source_is : p.source ≡ (r.settings a).address
      source_is = ap (λ (q : Packet). q.source) same_fields ∙ measured.source_is r proper b j letter cable t.taken.right

      -- what is measured is exactly 100 ms
      exact : Worded octets → at_least_min (of_word (to_word (of_word w.delay))) ≡ millis (pos rise)
      exact worded =
          ap at_least_min (again ∙ t.delay)
          ∙ subst (λ (q : Packet). zero_word q.tsp ≡ false → at_least_min (delay_of w.reading q.tsp) ≡ millis (pos rise)) (sym same_fields)
          (measured.exact_delay r proper b j letter cable t.taken.right quick w.reading t.taken.way t.taken.short t.taken.clock) worded
        where
          again : of_word (to_word (of_word w.delay)) ≡ of_word w.delay
          again =
              ap (λ (d : Millis). of_word (to_word d)) t.delay
              ∙ (let z = wrap_range 16 (omega arith) (sub_millis w.reading (of_word p.tsp)).0 in ap millis (wrap_fits 16 (omega arith) (wrap 16 (sub_millis w.reading (of_word p.tsp)).0) z.0 z.1))
              ∙ sym t.delay

      abbrev f : Flight
      f = in_flight l w

      abbrev f' : Flight
      f' = new_neighbor p f

      -- 30,000 is a 16-bit number
      far_fits : at_least_min (of_word (to_word max_delay)) ≡ max_delay
      far_fits = ap at_least_min (ap millis (wrap_fits 16 (omega arith) (pos 30000) (omega arith) (omega arith)))

      -- a link that knows its neighbour, with the next box
      on_to_5 : (g : Flight) → g.link.neighbor ≡ (r.settings a).address → Course r c i k m b s heard Sent e j octets (at_least_min (of_word (to_word g.delay))) 0 → Fine (fourth h w (on g))
      unfolding place_of
      on_to_5 g known course =
          goes (at_step 5 (holding g w)) cl (with_link j g.link l) nothing e opened (room_now g.link) none was.good.mine was.good.rest (learned (at_step 5 (holding g w)) g.link a letter.link cable known)
          record { node = a; port = letter.link; cable = cable; known = ap (λ (y : Link). y.neighbor) (there_now g.link) ∙ known; course = course }

      fourth_good : Fine (box4 p h w)
      unfolding box4 step4
      fourth_good =
          rw (proper.cables b j a letter.link cable).point_to_point
          (either (λ (g : Stage Flight). Fine (fourth h w g)) (not (same_address p.source (link_of l j).neighbor)) _ _
          (λ q.
          let o = stranger r proper k b heard e l w was.good.links j letter cable t.taken.right (subst (λ (y : Packet). same_address y.source (link_of l j).neighbor ≡ false) same_fields (is_not _ q)) in
          on_to_5 f' source_is (is_new far_fits o.1 (mine_deaf r c b k m s heard e was.good.mine o.0 j from_1 o.1)))
          (λ q.
          let same : (link_of l j).neighbor ≡ (r.settings a).address = sym (same_address_lem p.source (link_of l j).neighbor (is_so _ q)) ∙ source_is in
          either (λ (g : Stage Flight). Fine (fourth h w g)) (zero_word p.tsp || not (eqb cl.hold.0 0)) _ _
          (λ _. stops DelayNotValid cl (with_link j f.link l) nothing heard e refl (room_now f.link) none was.good.mine was.good.rest (learned no_walk f.link a letter.link cable same))
          (λ v.
          let worded : Worded octets = (neither (zero_word p.tsp) _ v).0 in
          on_to_5 f same (is_ahead (omega arith) worded (believes j a letter.link octets cable sent worded).0 (exact worded) sent))))

    -- ---- step 5

    module _ (is : place_of w ≡ (Some Step5)) (aim : Aim r c i k m b s heard Sent e j octets l (at_least_min (of_word w.delay)) 0) where
      links_5 : (v : Walk) → LinksOk r k false (learns v) heard b e l
      links_5 = as_they_are (ap learns_at is)

      -- DELAY as it is raised
      raised_to : (n : ℕ) → n < 32768 → at_least_min (of_word w.delay) ≡ millis (pos n) → of_word (raised w).delay ≡ millis (pos n)
      raised_to n few same = ap (λ (d : Millis). of_word (to_word d)) same ∙ ap millis (wrap_fits 16 (omega arith) (pos n) (omega arith) (omega arith))

      course_5 : (id : ℕ) → (eqb p.nhosts 0 ≡ false → id ≡ 0) → Course r c i k m b s heard Sent e j octets (of_word (raised w).delay) id
      course_5 id zero-if = go aim.course
        where
          go : Course r c i k m b s heard Sent e j octets (at_least_min (of_word w.delay)) 0 → Course r c i k m b s heard Sent e j octets (of_word (raised w).delay) id
          go (is_new far other mine) = is_new (raised_to 30000 (omega arith) far) other mine
          go (is_over less mine) = absurd (omega (arith, less))
          go (is_ahead less worded some same sent) = is_ahead (omega (arith, zero-if some)) worded some (raised_to rise (omega arith) same) sent

      to_line : (id : ℕ) → (eqb p.nhosts 0 ≡ false → id ≡ 0) → Fine (onward (at_line 1 id (raised w)) cl l nothing)
      unfolding place_of
      to_line id zero-if =
          goes (at_line 1 id (raised w)) cl l nothing e opened was.room none was.good.mine was.good.rest (links_5 (at_line 1 id (raised w)))
          record { node = aim.node; port = aim.port; cable = aim.cable; known = aim.known; course = course_5 id zero-if }

      found : eqb p.nhosts 0 ≡ true → (y : Option ℕ) → Fine (to_neighbor h (raised w) y)
      found empty None = stops NoHost cl l nothing heard e refl was.room none was.good.mine was.good.rest (links_5 no_walk)
      found empty (Some id) = to_line id (λ no. absurd (true≢false (sym empty ∙ no)))

      fifth : Fine (box5 p nets h w)
      unfolding box5
      fifth = either Fine (eqb p.nhosts 0) _ _ (λ empty. found empty (found_for nets set (link_of l j).neighbor)) (λ _. to_line 0 (λ _. refl))

    -- ---- lines

    -- the update of id i
    pid_is : u.pid ≡ j
    pid_is = either (λ (y : Update). y.pid ≡ j) (eqb p.nhosts 0) _ _ (λ _. refl) (λ _. refl)

    far_update : of_word w.delay ≡ max_delay → less_millis u.delay max_delay ≡ false
    unfolding report_at
    far_update far =
        either (λ (y : Update). less_millis y.delay max_delay ≡ false) (eqb p.nhosts 0) _ _ (λ _. subst (λ (d : Millis). less_millis d max_delay ≡ false) (sym far) refl)
        (λ _.
        subst (λ (d : Millis). less_millis (millis (d.0 +ℤ (report_at (hello_of octets) w.id).delay.0)) max_delay ≡ false) (sym far)
        (not_lt (pos 30000 +ℤ (report_at (hello_of octets) w.id).delay.0) (pos 30000) (omega arith)))

    delay_is : w.id ≡ i → eqb p.nhosts 0 ≡ false → of_word w.delay ≡ millis (pos rise) → u.delay.0 ≡ pos (rise + returned i octets)
    unfolding report_at
    delay_is same some exact = rw (some, same) (ap (λ (y : Millis). y.0 +ℤ (report_at (hello_of octets) i).delay.0) exact)

    -- the entry after the lines of ids below n
    record Later (n : ℕ) (f : Entry) : Type 0 where
      pub mine : Mine r c b k m s heard f
      pub rest : Rest f
      pub from : entry.up f ≡ true → (f.pid ≡ j) ⊎ ((entry.up e ≡ true) × (f.pid ≡ e.pid))
      pub aim : Aim r c i k m b s heard Sent f j octets l (of_word w.delay) n

    module _ (line : learns_at (place_of w) ≡ false) (aim : Aim r c i k m b s heard Sent e j octets l (of_word w.delay) w.id) where
      abbrev CourseOf : Entry → ℕ → Type 0
      CourseOf f n = Course r c i k m b s heard Sent f j octets (of_word w.delay) n

      aimed : (f : Entry) (n : ℕ) → CourseOf f n → Aim r c i k m b s heard Sent f j octets l (of_word w.delay) n
      aimed f n course = record { node = aim.node; port = aim.port; cable = aim.cable; known = aim.known; course = course }

      -- the lines of the walk's id are over
      finish : (f : Entry) → (w.id ≡ i → f ≡ left (lines u e)) → ((w.id ≡ i → ⊥) → f ≡ e) → Later (suc w.id) f
      finish f here other = go (eqb w.id i) refl
        where
          kept : CourseOf e (suc w.id) → Later (suc w.id) e
          kept course = record { mine = was.good.mine; rest = was.good.rest; from = λ t. inr (t, refl); aim = aimed e (suc w.id) course }

          of_i : w.id ≡ i → CourseOf e w.id → Later (suc w.id) (left (lines u e))
          of_i same (is_new far none-by mine) =
              rw (far_off e j none-by u pid_is (far_update far)) (kept (is_new far none-by mine))
          of_i same (is_over less mine) = absurd (omega (arith, less, same))
          of_i same (is_ahead less worded some exact sent) =
              let o = (believes j aim.node aim.port octets aim.cable sent worded).1 u pid_is (delay_is same some exact) in
              record {
                mine = mine_fewer r c b k m s on_now (left (lines u e)) o.0 heard more_on;
                rest = o.1;
                from = λ t. elim (lines_from u e t) [ inl y ↦ inl (y ∙ pid_is) | inr y ↦ inr y ];
                aim = aimed (left (lines u e)) (suc w.id) (is_over (omega arith) o.0);
              }

          of_other : (w.id ≡ i → ⊥) → CourseOf e w.id → Later (suc w.id) e
          of_other not-i (is_new far none-by mine) = kept (is_new far none-by mine)
          of_other not-i (is_over less mine) = kept (is_over (omega arith) mine)
          of_other not-i (is_ahead less worded some exact sent) = kept (is_ahead (more (eqb w.id i) refl) worded some exact sent)
            where
              more : (t : Bool) → eqb w.id i ≡ t → suc w.id ≤ i
              more true z = absurd (not-i (eqb-true w.id i z))
              more false z = let y = eqb-false w.id i z in below (ltb w.id i) refl y
                where
                  below : (t : Bool) → ltb w.id i ≡ t → (w.id ≡ i → ⊥) → suc w.id ≤ i
                  below true v y = ltb-true w.id i v
                  below false v y = absurd (y (omega (arith, ltb-false w.id i v)))

          go : (t : Bool) → eqb w.id i ≡ t → Later (suc w.id) f
          go true z = let same = eqb-true w.id i z in subst (Later (suc w.id)) (sym (here same)) (of_i same aim.course)
          go false z = let not-i = eqb-false w.id i z in subst (Later (suc w.id)) (sym (other not-i)) (of_other not-i aim.course)

    module _ (line : learns_at (place_of w) ≡ false) (n : ℕ) (f : Entry) (later : Later n f) where
      known_at : (q a o : ℕ) → q ≡ j → r.cable b q ≡ at a o → (link_of l q).neighbor ≡ (r.settings a).address
      known_at q a o same cord =
          ap (λ (t : ℕ). (link_of l t).neighbor) same ∙ later.aim.known ∙ ap (λ (t : ℕ). (r.settings t).address) (end_is a o (ap (r.cable b) (sym same) ∙ cord))
        where
          end_is : (a o : ℕ) → r.cable b j ≡ at a o → later.aim.node ≡ a
          end_is a o z = let y = later.aim.cable in cc

      -- the links, with the entry after the lines
      later_links : (v : Walk) → LinksOk r k false (learns v) heard b f l
      later_links v q a o cord =
          let g = was.good.links q a o cord in
          record {
            quiet = g.quiet;
            spoke = λ _. g.spoke (idle line q);
            known = g.known;
            met = λ t at-q. elim (later.from t) [ inl y ↦ known_at q a o (sym at-q ∙ y) cord | inr y ↦ g.met y.0 (sym y.1 ∙ at-q) ];
          }

      done_links : LinksOk r k false (learns no_walk) on_now b f l
      done_links q a o cord = go (eqb q j) refl
        where
          go : (t : Bool) → eqb q j ≡ t → LinkOk r k false (learns no_walk q) (on_now q) q a f (link_of l q)
          go true z = let so = known_at q a o (eqb-true q j z) cord in record { quiet = λ no. absurd (false≢true no); spoke = λ _ _. so; known = λ _. so; met = λ _ _. so }
          go false z =
              let g = later_links no_walk q a o cord in
              record { quiet = g.quiet; spoke = g.spoke; known = λ y. g.known (elim y [ inl v ↦ inl v | inr v ↦ inr (less_on q (eqb-false q j z) v) ]); met = g.met }

      -- after the last id the link is heard
      all_over : (eqb p.nhosts 0 || not (ltb (w.id + 1) (host_count set))) ≡ true → w.id + 1 ≡ n → Mine r c b k m s on_now f
      all_over last is = go later.aim.course
        where
          go : Course r c i k m b s heard Sent f j octets (of_word w.delay) n → Mine r c b k m s on_now f
          go (is_new far none-by mine) = mine
          go (is_over less mine) = mine
          go (is_ahead less worded some exact sent) = absurd (past (ltb (w.id + 1) (host_count set)) refl)
            where
              past : (t : Bool) → ltb (w.id + 1) (host_count set) ≡ t → ⊥
              past true z = false≢true (rw (some, z) at last)
              past false z = omega (arith, ltb-false (w.id + 1) (host_count set) z, less, is)

      next : (d : Clock) (now : Changes) → Gives now f → w.id + 1 ≡ n → Fine (next_id p (host set d l) w now)
      unfolding place_of
      next d now gives is =
          either Fine (eqb p.nhosts 0 || not (ltb (w.id + 1) (host_count set))) _ _
          (λ last. stops Done d l now on_now f refl was.room gives (all_over last is) later.rest done_links)
          (λ _.
          goes (at_line 1 (w.id + 1) w) d l now f opened was.room gives later.mine later.rest (later_links (at_line 1 (w.id + 1) w))
          (subst (Aim r c i k m b s heard Sent f j octets l (of_word w.delay)) (sym is) later.aim))

    -- z is the entry of the walk's id
    module _ (z : Entry) where
      one_more : w.id + 1 ≡ suc w.id
      one_more = omega arith

      module _ (line : learns_at (place_of w) ≡ false) (hand : w.id ≡ i → z ≡ e) (aim : Aim r c i k m b s heard Sent e j octets l (of_word w.delay) w.id) where
        -- the walk's entry is replaced, and the next id follows
        replaced : (y : Entry) → (w.id ≡ i → y ≡ left (lines u e)) → Later (suc w.id) (picked y)
        replaced y is = finish line aim (picked y) (λ same. picked_here y same ∙ is same) (picked_other y)

        at_next : (y : Entry) → (w.id ≡ i → y ≡ left (lines u e)) → Fine (next_id p h w (put w y))
        at_next y is = next line (suc w.id) (picked y) (replaced y is) cl (put w y) (puts y) one_more

        -- another line of the same id
        same_id : (n : ℕ) → WalkAt r c i k m b s heard Sent e (at_line n w.id w) octets l (place_of (at_line n w.id w)) → Fine (onward (at_line n w.id w) cl l nothing)
        same_id n walk = goes (at_line n w.id w) cl l nothing e opened was.room none was.good.mine was.good.rest (as_they_are line (at_line n w.id w)) walk

        line_a_lem : Fine (box_a p octets h w z)
        unfolding box_a line_a place_of
        line_a_lem =
            either (λ (g : Stage Entry). Fine (after_a p h w g)) (stays u z) (end z) (on z)
            (λ t. next line (suc w.id) e (finish line aim e (λ same. sym (line_a_ends u e (subst (λ (y : Entry). stays u y ≡ true) (hand same) t))) (λ _. refl)) cl nothing none one_more)
            (λ t. same_id 2 (aim, λ same. line_a_goes u e (subst (λ (y : Entry). stays u y ≡ false) (hand same) t)))

        module _ (then-b : w.id ≡ i → left (line_b u e then line_c u) ≡ left (lines u e)) where
          ends_b : (y : Entry) → line_b u z ≡ end y → Fine (after_b p h w (end y))
          ends_b y is = at_next y (λ same. ap (λ (g : Stage Entry). left (g then line_c u)) (sym is) ∙ ap (λ (v : Entry). left (line_b u v then line_c u)) (hand same) ∙ then-b same)

          goes_b : line_b u z ≡ on z → Fine (after_b p h w (on z))
          unfolding place_of
          goes_b is =
              same_id 3
              (aim, λ same. ap (λ (v : Entry). left (line_c u v)) (sym (hand same)) ∙ ap (λ (g : Stage Entry). left (g then line_c u)) (sym is) ∙ ap (λ (v : Entry). left (line_b u v then line_c u)) (hand same) ∙ then-b same)

          line_b_lem : Fine (box_b p octets h w z)
          unfolding box_b line_b
          line_b_lem =
              either Q (entry.up z) _ _
              (λ t. either Q (less_millis u.delay max_delay) _ _ (λ v. goes_b (rw (t, v) refl)) (λ v. ends_b (taken_down z) (rw (t, v) refl)))
              (λ t. either Q (less_millis u.delay max_delay && eqb z.ttl.0 0) _ _ (λ v. goes_b (rw (t, v) refl)) (λ v. ends_b z (rw (t, v) refl)))
            where
              Q : Stage Entry → Type 0
              Q g = Fine (after_b p h w g)

        line_c_lem : (w.id ≡ i → left (line_c u e) ≡ left (lines u e)) → Fine (box_c p octets h w z)
        unfolding box_c line_c place_of
        line_c_lem then-c =
            let is : w.id ≡ i → stored u z ≡ left (lines u e) = λ same. ap (stored u) (hand same) ∙ then-c same in
            let now = replaced (stored u z) is in
            either Fine (is_clock_host h w) _ _
            (λ _.
            goes (at_line 4 w.id w) cl l (put w (stored u z)) (picked (stored u z)) opened was.room (puts (stored u z)) now.mine now.rest
            (later_links line (suc w.id) (picked (stored u z)) now (at_line 4 w.id w)) now.aim)
            (λ _. at_next (stored u z) is)

      line_d_lem : learns_at (place_of w) ≡ false → Aim r c i k m b s heard Sent e j octets l (of_word w.delay) (suc w.id) → Fine (box_d p octets h w)
      unfolding box_d
      line_d_lem line aim = next line (suc w.id) e record { mine = was.good.mine; rest = was.good.rest; from = λ t. inr (t, refl); aim = aim } (clock_set p octets h w) nothing none one_more

      -- ---- the box of a place

      box_good : (eqb w.line 0 ≡ false → w.id ≡ i → z ≡ e) → (q : Option Place) → place_of w ≡ q → (place_of w ≡ Some Step1 → Sent e j octets) → WalkAt r c i k m b s heard Sent e w octets l q → RightAt r b w octets l q → walk_fields_at q set w p octets ≡ true
          → Fine (box_at q κ p octets nets h w z)
      box_good hand None is takes now right fits = absurd (false≢true fits)
      box_good hand (Some Step1) is takes now right fits = first is (takes is)
      box_good hand (Some Step2) is takes now right fits = second now
      box_good hand (Some Step3) is takes now right fits = third now
      box_good hand (Some Step4) is takes now right fits = fourth_good now right
      box_good hand (Some Step5) is takes now right fits = fifth is now
      box_good hand (Some LineA) is takes now right fits = line_a_lem (ap learns_at is) (hand (on_line w (ap is_line is))) now
      box_good hand (Some LineB) is takes now right fits = line_b_lem (ap learns_at is) (hand (on_line w (ap is_line is))) now.0 now.1
      box_good hand (Some LineC) is takes now right fits = line_c_lem (ap learns_at is) (hand (on_line w (ap is_line is))) now.0 now.1
      box_good hand (Some LineD) is takes now right fits = line_d_lem (ap learns_at is) now

  -- ---- the call

  -- the entry of the walk's id, if it is id i
  at_hand_lem : Holds (r.number b) entries → w.id ≡ i → is_open w ≡ true → eqb w.line 0 ≡ false → entry_at (at_hand w) x ≡ e
  at_hand_lem held same opened some =
      let size = entries_length set (r.number b) entries held in
      rw (opened, some) (all_there (λ (id : ℕ) (z : Entry). id ≡ i → z ≡ e) fresh_entry (entries_of x) (was.table held) w.id (omega (arith, size, same, few)) same)

  pub step_good : RightWalk r b w copy l → (κ : Counter) → (is_open w ≡ true → place_of w ≡ Some Step1 → Sent e j octets)
      → After r c i k m b false Sent Rest s (heard_by (perform (ask (request.Step κ)) x).reply.answer (perform (ask (request.Step κ)) x).walk) entries
      (perform (ask (request.Step κ)) x).walk (perform (ask (request.Step κ)) x).copy (perform (ask (request.Step κ)) x).links (perform (ask (request.Step κ)) x).entries
  unfolding boxes.step
  step_good right κ takes =
      performs (ask (request.Step κ)) x Kept (λ no. rw no (unchanged r c i k m b false Sent Rest s heard w copy l entries e was))
      (λ d.
      let ok = passed Walking x d in
      let held = holds (r.number b) entries ok.places in
      either (λ (y : Effect). Kept (carried_out y x)) (not (is_open w)) _ _ (λ _. closed held)
      (λ f.
      let opened = is_so _ f in
      let o = opened_says set w copy (walk_state x (ok.call_state refl)) opened in
      inspect_cases (λ (q : Result Packet Answer). packet_fits set w octets q ≡ true → Kept (carried_out (box_of κ octets nets x.host w (entry_at (at_hand w) x) q) x)) set w.link octets
      (λ a z. absurd (false≢true z))
      (λ _ z. box_good κ held opened o.link (entry_at (at_hand w) x) (λ some same. at_hand_lem held same opened some) (place_of w) refl (takes opened) (was.good.walk opened) (right opened) z) o.held))
    where
      Kept : Outcome → Type 0
      Kept o = After r c i k m b false Sent Rest s (heard_by o.reply.answer o.walk) entries o.walk o.copy o.links o.entries

      closed : Holds (r.number b) entries → Kept (carried_out (answers (plainly NoWalk) cl l w) x)
      closed held = subst Kept (sym (answered x held (plainly NoWalk) cl l w)) (unchanged r c i k m b false Sent Rest s heard w copy l entries e was)
