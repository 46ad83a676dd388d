-- A message without a table has TSP 0, because a link whose KEEP-ALIVE is not 0 knows its neighbour. So its DELAY is 30,000 or not valid, and nothing is stored from it.
use Rattle.std.specs.Prelude.{Option, Some, None, Result}
use mathlib.Core.Path.{◌≡◌, refl, sym, ap, subst, ◌∙◌}
use mathlib.Core.Bool.{Bool, true, false, true≢false, false≢true, cond, and-false, not, ◌&&◌, ◌||◌}
use mathlib.Core.List.{List, [], ◌∷◌}
use Prim.Native.Nat.{ℕ, zero, suc, ◌+◌, ◌-◌, ◌<◌}
use native.Mathlib.Omega.{arith}
use borrow.Author.Tests.{eqb-true, eqb-false, eq-eqb, ne_eqb}
use lib.Dec.{ltb, eqb}
use lib.IntN.{◌+ℤ◌}
use lib.ListN.{length, get_or, set}
use lib.Seq.{get_or-set_other}
use Rattle.lists.proofs.Tests.{either, neither, is_so}
use Rattle.quantity.specs.declared.Millis.{Millis}
use Rattle.quantity.specs.declared.Word.{Word}
use Rattle.quantity.specs.Words.{to_word, zero_word}
use Rattle.quantity.proofs.Wrap.{wrap_range}
use Rattle.answer.specs.declared.Answer.{Answer}
use Rattle.answer.specs.declared.Answer.TheVariants.{Done, NoHost}
use Rattle.clock.specs.declared.Clock.{Clock}
use Rattle.clock.specs.declared.Counter.{Counter}
use Rattle.clock.specs.Clock.{count_used}
use Rattle.wire.specs.declared.Packet.{Packet}
use Rattle.wire.specs.Octets.{same_address}
use Rattle.wire.specs.Packet.{packet_length, fields}
use Rattle.wire.proofs.ReadBack.{nhosts_back, tsp_back, source_back}
use Rattle.table.specs.declared.Entry.{Entry}
use Rattle.table.specs.declared.entries.Changes.{Changes}
use Rattle.table.specs.Forms.{Stage, on, end}
use Rattle.table.specs.Entry.{max_delay}
use Rattle.table.specs.Update.{line_a, line_b, line_c}
use Rattle.net_table.specs.declared.NetTable.{NetTable}
use Rattle.host.specs.declared.Settings.{Settings}
use Rattle.host.specs.declared.Link.{Link}
use Rattle.host.specs.declared.Links.{Links}
use Rattle.host.specs.declared.Effect.{Effect}
use Rattle.host.specs.declared.walk.Walk.{Walk}
use Rattle.host.specs.declared.walk.Place.{Place}
use Rattle.host.specs.declared.walk.Place.TheVariants.{Step1, Step2, Step3, Step4, Step5, LineA, LineB, LineC, LineD}
use Rattle.host.specs.declared.guard.Scope.TheVariants.{OnLink, Opening, Walking}
use Rattle.host.specs.Settings.{found_for}
use Rattle.host.specs.State.{host_count, unset, fresh_link, link_of, with_link, no_link}
use Rattle.host.specs.declared.Host.{Host}
use Rattle.host.specs.CallState.{CallState, host, our_reading}
use Rattle.host.specs.Effect.{nothing}
use Rattle.host.specs.Guard.{done}
use Rattle.host.specs.Walk.{is_open, place_of, packet_of, line_update, walk_fields_at, packet_fits}
use Rattle.host.proofs.Places.{Holds}
use Rattle.host.proofs.Guarded.{passed, holds, counted, walk_state}
use Rattle.host.proofs.Sound.{sound}
use Rattle.host.proofs.Walks.{opened_says}
use Rattle.sending.specs.declared.Sending.{Sending}
use Rattle.sending.specs.Message.{table_goes, sent_tsp, link_sent, packet_sent}
use Rattle.sending.specs.Send.{report_count}
use Rattle.arrival.specs.declared.Flight.{Flight}
use Rattle.arrival.specs.declared.Arrived.{Arrived}
use Rattle.arrival.specs.Steps.{measured, new_neighbor, step2, step3, step4, steps2to4}
use Rattle.arrival.specs.Arrival.{no_table, step5, concluded, inspected}
use Rattle.walk.specs.declared.Opening as declared
use Rattle.walk.specs.Boxes.{in_flight, onward, ended, fourth, to_neighbor, raised, next_id, after_a, after_b, is_clock_host, clock_set, at_line, box1, box2, box3, box4, box5, box_a, box_b, box_c, box_d, at_hand, box_at, box_of}
use Rattle.walk.specs.Boxes as boxes
use Rattle.calls.specs.declared.Request.TheVariants as request
use Rattle.calls.specs.Perform.{Call, ask, act, open_walk, Outcome, entry_at, carried_out, sent_by, opened_by, perform}
use Rattle.network_laws.specs.HostAfter.{message_of}
use Rattle.network_laws.specs.Network.{Network, at, state_at, Proper}
use Rattle.network_laws.specs.Demand3.{Message}
use Rattle.network_laws.proofs.Arrivals.{same_address_lem}
use Rattle.network_laws.proofs.Performs.{guard_of, performs}
use Rattle.network_laws.proofs.Openings.{opening_ways}
use Rattle.network_laws.proofs.Sends.{reports, sent_message, sent_message_lem}
use Rattle.network_laws.proofs.Demand3.Near.{Fits16}
use Rattle.network_laws.proofs.Demand3.Invariant.{RightMessage, RightAt, RightWalk, Taken}
use Rattle.network_laws.proofs.Demand3.Nodes.{set_good}
use Rattle.network_laws.proofs.Demand3.Arrival.{inspect_cases}

-- a packet without a table has no TSP
abbrev pub Tabled : List ℕ → Type 0
Tabled octets = eqb (fields octets).nhosts 0 ≡ true → zero_word (fields octets).tsp ≡ true

-- the table goes out while KEEP-ALIVE is not 0
abbrev pub Ready : Settings → Link → Type 0
Ready s x = eqb x.keep_alive 0 ≡ false → table_goes s x ≡ true

-- box 2 has set KEEP-ALIVE, and box 4 has not stored the neighbour
abbrev pub learning : Option Place → Bool
learning None = false
learning (Some Step1) = false
learning (Some Step2) = false
learning (Some Step3) = true
learning (Some Step4) = true
learning (Some Step5) = false
learning (Some LineA) = false
learning (Some LineB) = false
learning (Some LineC) = false
learning (Some LineD) = false

abbrev pub midway : Walk → (link : ℕ) → Bool
midway w j = is_open w && learning (place_of w) && eqb w.link j

-- after box 4 the DELAY of a packet without a table is 30,000
abbrev pub Far : Walk → List ℕ → Type 0
Far w octets = eqb (fields octets).nhosts 0 ≡ true → w.delay ≡ to_word max_delay

abbrev pub TabledAt : Walk → List ℕ → Option Place → Type 0
TabledAt w octets None = Unit {0}
TabledAt w octets (Some Step1) = Unit {0}
TabledAt w octets (Some Step2) = Tabled octets
TabledAt w octets (Some Step3) = Tabled octets
TabledAt w octets (Some Step4) = Tabled octets
TabledAt w octets (Some Step5) = Far w octets
TabledAt w octets (Some LineA) = Far w octets
TabledAt w octets (Some LineB) = Far w octets
TabledAt w octets (Some LineC) = Far w octets
TabledAt w octets (Some LineD) = Far w octets

-- the links and the walk of a host
pub record TabledHost (s : Settings) (w : Walk) (copy : List ℕ) (l : Links) : Type 0 where
  pub links : (j : ℕ) → no_link s j ≡ false → midway w j ≡ false → Ready s (link_of l j)
  pub walk : is_open w ≡ true → TabledAt w (packet_of w copy) (place_of w)

-- ---- one link stored

either_set : {A : Type 0} (P : A → Type 0) (l : List A) (i j : ℕ) (z d : A) → P z → P (get_or l j d) → P (get_or (set l i z) j d)
either_set P [] i j z d new old = old
either_set P (x ∷ xs) zero zero z d new old = new
either_set P (x ∷ xs) zero (suc j) z d new old = old
either_set P (x ∷ xs) (suc i) zero z d new old = old
either_set P (x ∷ xs) (suc i) (suc j) z d new old = either_set P xs i j z d new old

other_link : (s : Settings) (l : Links) (i j : ℕ) (z : Link) → no_link s i ≡ false → no_link s j ≡ false → (j ≡ i → ⊥) → link_of (with_link i z l) j ≡ link_of l j
other_link s l i j z hi hj differ =
    let from = (counted s i hi).from_one in
    let from' = (counted s j hj).from_one in
    get_or-set_other l.all (i - 1) (j - 1) z (fresh_link unset) (λ e. differ (omega (arith, e, from, from')))

module _ (r : Network) (proper : Proper r) (b : ℕ) (inside : b < r.nodes) (few : 0 < host_count (r.settings b))
    (nets : NetTable) (cl : Clock) (l : Links) (w : Walk) (copy : List ℕ) (entries : List Entry) (call_state : TabledHost (r.settings b) w copy l) where
  abbrev x : CallState
  x = state_at r b nets cl l w copy entries

  abbrev s : Settings
  s = r.settings b

  -- a link that knows its neighbour
  goes_to : (a : ℕ) → a < r.nodes → (z : Link) → z.neighbor ≡ (r.settings a).address → table_goes s z ≡ true
  goes_to a ha z is =
      rw is
      (let one = (sound (r.settings a) (set_good r a (proper.was_initialized a ha))).class_from in
      rw (ne_eqb (r.settings a).address.first 0 (λ y. omega (arith, one, y))) (proper.one_net b a inside ha))

  module _ (closed : is_open w ≡ false) where
    ready : (j : ℕ) → no_link s j ≡ false → Ready s (link_of l j)
    ready j has = call_state.links j has (rw closed)

    -- one link stored, without a walk
    stored_link : (i : ℕ) (z : Link) → Ready s z → TabledHost s w copy (with_link i z l)
    stored_link i z new =
        record {
          links = λ j has _. either_set (Ready s) l.all (i - 1) (j - 1) z (fresh_link unset) new (ready j has);
          walk = λ opened. absurd (true≢false (sym opened ∙ closed));
        }

  -- ---- a send

  module _ (i : ℕ) (k : Counter) where
    abbrev y : Link
    y = link_of l i

    abbrev now : Millis
    now = (our_reading k x.host).time

    tsp_fits : Fits16 (sent_tsp y now).0
    tsp_fits =
        either (λ (v : Word). Fits16 v.0) (eqb y.keep_alive 0) _ _ (λ _. omega arith)
        (λ _. let v = wrap_range 16 (omega arith) (y.tsp.0 +ℤ now.0) in record { high = v.0; low = v.1 })

    sent_tabled : (held : Holds (r.number b) entries) → Ready s y → Tabled (sent_message x held i k)
    sent_tabled held can none = ap zero_word (tsp_back y.neighbor packet (reports x held i) tsp_fits.high tsp_fits.low) ∙ go (eqb y.keep_alive 0) refl
      where
        packet : Packet
        packet = packet_sent s y now (our_reading k x.host).clock.date (report_count s y)

        count : (fields (sent_message x held i k)).nhosts ≡ report_count s y
        count = nhosts_back y.neighbor packet (reports x held i)

        go : (t : Bool) → eqb y.keep_alive 0 ≡ t → zero_word (sent_tsp y now) ≡ true
        go true e = rw e
        go false e =
            let all : (fields (sent_message x held i k)).nhosts ≡ host_count s = count ∙ ap (λ (t : Bool). cond t (host_count s) 0) (can e) in
            let zero-now = eqb-true (fields (sent_message x held i k)).nhosts 0 none in
            absurd (omega (arith, all, zero-now, few))

    pub record SendTabled (o : Outcome) : Type 0 where
      pub host : TabledHost s o.walk o.copy o.links
      pub message : done o.reply.answer ≡ true → Tabled (message_of o)

    pub send_tabled : (buffer : List ℕ) → SendTabled (perform (Call.send i k buffer) x)
    send_tabled buffer =
        performs (Call.send i k buffer) x SendTabled (λ no. record { host = call_state; message = λ is. absurd (false≢true (sym no ∙ is)) })
        (λ d.
        let ok = passed (OnLink i) x d in
        let can = ready ok.closed i (ok.link i refl) in
        either (λ (q : Sending). SendTabled (sent_by q buffer x)) (ltb (length buffer) (packet_length (report_count s y))) _ _
        (λ _. record { host = call_state; message = λ z. absurd (false≢true z) })
        (λ _.
        record {
          host = stored_link ok.closed i (link_sent y) (λ some. can (ne_eqb y.keep_alive 0 (λ z. eqb-false (y.keep_alive - 1) 0 some (omega (arith, z)))));
          message = λ _. subst Tabled (sym (sent_message_lem x (holds (r.number b) entries ok.places) i k buffer)) (sent_tabled (holds (r.number b) entries ok.places) can);
        }))

  -- ---- an arrival

  module _ (i : ℕ) (m : Message) (cable : r.cable b i ≡ at m.node m.link) (right : RightMessage r m) where
    abbrev came : Packet
    came = fields m.octets

    source_is : came.source ≡ (r.settings m.node).address
    source_is = ap (λ (o : List ℕ). (fields o).source) right.octets_are ∙ source_back right.destination right.packet right.reports ∙ right.source

    pub act_tabled : (k : Counter) → TabledHost s w copy (perform (act i k m.octets) x).links
    unfolding steps2to4 step2 step3 step4
    act_tabled k =
        performs (act i k m.octets) x (λ (o : Outcome). TabledHost s w copy o.links) (λ _. call_state)
        (λ d.
        inspect_cases (λ (q : Result Packet Answer). Kept (inspected k nets x.host i q)) s i m.octets (λ _. call_state)
        (λ _.
        rw (proper.cables b i m.node m.link cable).point_to_point
        (either Stays (not (same_address came.source (link_of l i).neighbor)) _ _
        (λ _. fifth d (new_neighbor came arrived) source_is)
        (λ t.
        let known = sym (same_address_lem came.source (link_of l i).neighbor (is_so _ t)) ∙ source_is in
        either Stays (zero_word came.tsp || not (eqb (our_reading k x.host).clock.hold.0 0)) _ _
        (λ _. learnt d arrived.link known)
        (λ _. fifth d arrived known)))))
      where
        arrived : Flight
        arrived = measured false came (our_reading k x.host).time (link_of l i)

        Kept : Arrived → Type 0
        Kept e = TabledHost s w copy e.links

        Stays : Stage Flight → Type 0
        Stays g = Kept (concluded nets (host s (our_reading k x.host).clock l) i (count_used k) came g)

        learnt : done (guard_of (act i k m.octets) x) ≡ true → (z : Link) → z.neighbor ≡ (r.settings m.node).address → TabledHost s w copy (with_link i z l)
        learnt d z is = stored_link (passed (OnLink i) x d).closed i z (λ _. goes_to m.node right.node_in z is)

        fifth : done (guard_of (act i k m.octets) x) ≡ true → (f : Flight) → f.link.neighbor ≡ (r.settings m.node).address
            → Kept (step5 nets (host s (our_reading k x.host).clock (with_link i f.link l)) i (count_used k) came f)
        fifth d f is =
            let so = learnt d f.link is in
            either Kept (eqb came.nhosts 0) _ _ (λ _. found so (found_for nets s f.link.neighbor)) (λ _. so)
          where
            found : TabledHost s w copy (with_link i f.link l) → (q : Option ℕ) → Kept (no_table (host s (our_reading k x.host).clock (with_link i f.link l)) i (count_used k) came f q)
            found so None = so
            found so (Some id) = so

  -- ---- opening a walk

  pub open_tabled : (i : ℕ) (packet : List ℕ) → TabledHost s (perform (open_walk i packet) x).walk (perform (open_walk i packet) x).copy (perform (open_walk i packet) x).links
  unfolding place_of
  open_tabled i packet =
      performs (open_walk i packet) x (λ (o : Outcome). TabledHost s o.walk o.copy o.links) (λ _. call_state)
      (λ e.
      let shut : is_open w ≡ false = (passed (Opening i) x e).closed in
      opening_ways i packet s w (λ (o : declared.Opening). TabledHost s o.walk (opened_by o packet x).copy l)
      (λ a few. record { links = λ j has _. ready shut j has; walk = λ opened. absurd (true≢false (sym opened ∙ shut)) })
      (λ q is fits. record { links = λ j has _. ready shut j has; walk = λ _. tt }))

  -- ---- a box

  abbrev octets : List ℕ
  octets = packet_of w copy

  abbrev p : Packet
  p = fields octets

  abbrev h : Host
  h = x.host

  Good : Effect → Type 0
  Good e = TabledHost s e.walk copy e.links

  module _ (opened : is_open w ≡ true) (has : no_link s w.link ≡ false) where
    -- unless the walk is at box 3 or 4, all links are ready
    all_ready : learning (place_of w) ≡ false → (j : ℕ) → no_link s j ≡ false → Ready s (link_of l j)
    all_ready off j hj = call_state.links j hj (rw (opened, off))

    -- the other links are
    rest_ready : (j : ℕ) → no_link s j ≡ false → (j ≡ w.link → ⊥) → Ready s (link_of l j)
    rest_ready j hj other = call_state.links j hj (rw (ne_eqb w.link j (λ e. other (sym e))) (and-false (is_open w && learning (place_of w))))

    -- the links stay, and no box 3 or 4 is next
    stays : learning (place_of w) ≡ false → (v : Walk) (d : Clock) (now : Changes) → (is_open v ≡ true → TabledAt v octets (place_of v)) → packet_of v copy ≡ octets → Good (onward v d l now)
    unfolding Good
    stays off v d now at_next same = record { links = λ j hj _. all_ready off j hj; walk = λ o. subst (λ (t : List ℕ). TabledAt v t (place_of v)) (sym same) (at_next o) }

    stops : learning (place_of w) ≡ false → (a : Answer) (d : Clock) (now : Changes) → Good (ended a d l now)
    unfolding Good
    stops off a d now = record { links = λ j hj _. all_ready off j hj; walk = λ o. absurd (false≢true o) }

    first : place_of w ≡ Some Step1 → (k : Counter) → Tabled octets → Good (box1 k h w)
    unfolding box1 place_of
    first is k tabled = stays (ap learning is) _ _ nothing (λ _. tabled) refl

    -- box 2 and 3: the link is not ready yet
    unready : (v : Walk) (d : Clock) (z : Link) → v.link ≡ w.link → is_open v ≡ true → learning (place_of v) ≡ true → TabledAt v octets (place_of v) → packet_of v copy ≡ octets → Good (onward v d (with_link w.link z l) nothing)
    unfolding Good
    unready v d z link on_now late at_next same =
        record {
          links =
              λ j hj off.
              let other : j ≡ w.link → ⊥ = λ e. true≢false (sym (rw (on_now, late, eq-eqb v.link j (link ∙ sym e)) refl) ∙ off) in
              subst (Ready s) (sym (other_link s l w.link j z has hj other)) (rest_ready j hj other);
          walk = λ _. subst (λ (t : List ℕ). TabledAt v t (place_of v)) (sym same) at_next;
        }

    second : Tabled octets → Good (box2 h w)
    unfolding box2 place_of
    second tabled = unready _ _ _ refl opened refl tabled refl

    third : Tabled octets → Good (box3 p h w)
    unfolding box3 place_of
    third tabled = unready _ _ _ refl opened refl tabled refl

    -- box 4: the link knows its neighbour
    module _ (taken : Taken r b w.link w.reading octets) (tabled : Tabled octets) where
      source_of : p.source ≡ (r.settings taken.message.node).address
      source_of = ap (λ (o : List ℕ). (fields o).source) taken.octets_are ∙ source_is w.link taken.message taken.cable taken.right

      learnt : (z : Link) → z.neighbor ≡ (r.settings taken.message.node).address → (j : ℕ) → no_link s j ≡ false → Ready s (link_of (with_link w.link z l) j)
      learnt z is j hj = go (eqb j w.link) refl
        where
          new : Ready s z
          new _ = goes_to taken.message.node taken.right.node_in z is

          go : (t : Bool) → eqb j w.link ≡ t → Ready s (link_of (with_link w.link z l) j)
          go true e = subst (λ (q : ℕ). Ready s (link_of (with_link w.link z l) q)) (sym (eqb-true j w.link e)) (at_place l.all (w.link - 1))
            where
              at_place : (ys : List Link) (n : ℕ) → Ready s (get_or (set ys n z) n (fresh_link unset))
              at_place [] n = λ some. absurd (true≢false some)
              at_place (v ∷ ys) zero = new
              at_place (v ∷ ys) (suc n) = at_place ys n
          go false e = let other = eqb-false j w.link e in subst (Ready s) (sym (other_link s l w.link j z has hj other)) (rest_ready j hj other)

      abbrev f : Flight
      f = in_flight l w

      new : Good (fourth h w (on (new_neighbor p f)))
      unfolding Good place_of
      new = record { links = λ j hj _. learnt (new_neighbor p f).link source_of j hj; walk = λ _ _. refl }

      module _ (known : f.link.neighbor ≡ (r.settings taken.message.node).address) where
        not_valid : Good (fourth h w (end f))
        unfolding Good
        not_valid = record { links = λ j hj _. learnt f.link known j hj; walk = λ o. absurd (false≢true o) }

        valid : zero_word p.tsp ≡ false → Good (fourth h w (on f))
        unfolding Good place_of
        valid some = record { links = λ j hj _. learnt f.link known j hj; walk = λ _ none. absurd (true≢false (sym (tabled none) ∙ some)) }

      fourth_tabled : Good (box4 p h w)
      unfolding box4 step4
      fourth_tabled =
          rw (proper.cables b w.link taken.message.node taken.message.link taken.cable).point_to_point
          (either (λ (g : Stage Flight). Good (fourth h w g)) (not (same_address p.source (link_of l w.link).neighbor)) _ _ (λ _. new)
          (λ t.
          let known = sym (same_address_lem p.source (link_of l w.link).neighbor (is_so _ t)) ∙ source_of in
          either (λ (g : Stage Flight). Good (fourth h w g)) (zero_word p.tsp || not (eqb cl.hold.0 0)) _ _ (λ _. not_valid known) (λ u. valid known (neither (zero_word p.tsp) _ u).0)))

    -- ---- box 5 and the lines

    module _ (off : learning (place_of w) ≡ false) (far : Far w octets) where
      raised_far : Far (raised w) octets
      raised_far none = rw (far none) refl

      at_5 : (f : Option ℕ) → Good (to_neighbor h (raised w) f)
      unfolding place_of
      at_5 None = stops off NoHost cl nothing
      at_5 (Some id) = stays off (at_line 1 id (raised w)) cl nothing (λ _. raised_far) refl

      fifth : Good (box5 p nets h w)
      unfolding box5 place_of
      fifth =
          either Good (eqb p.nhosts 0) _ _ (λ _. at_5 (found_for nets s (link_of l w.link).neighbor)) (λ _. stays off (at_line 1 0 (raised w)) cl nothing (λ _. raised_far) refl)

      next : (d : Clock) (now : Changes) → Good (next_id p (host s d l) w now)
      unfolding place_of
      next d now =
          either Good (eqb p.nhosts 0 || not (ltb (w.id + 1) (host_count s))) _ _ (λ _. stops off Done d now) (λ _. stays off (at_line 1 (w.id + 1) w) d now (λ _. far) refl)

      at_a : (g : Stage Entry) → Good (after_a p h w g)
      unfolding place_of
      at_a (end y) = next cl nothing
      at_a (on y) = stays off (at_line 2 w.id w) cl nothing (λ _. far) refl

      at_b : (g : Stage Entry) → Good (after_b p h w g)
      unfolding place_of
      at_b (end y) = next cl _
      at_b (on y) = stays off (at_line 3 w.id w) cl nothing (λ _. far) refl

      line_c_lem : (e : Entry) → Good (box_c p octets h w e)
      unfolding box_c line_c place_of
      line_c_lem e = either Good (is_clock_host h w) _ _ (λ _. stays off (at_line 4 w.id w) cl _ (λ _. far) refl) (λ _. next cl _)

    box_tabled : (k : Counter) (e : Entry) (q : Option Place) → place_of w ≡ q → (place_of w ≡ Some Step1 → Tabled octets) → RightAt r b w octets l q → TabledAt w octets q → walk_fields_at q s w p octets ≡ true
        → Good (box_at q k p octets nets h w e)
    unfolding box_a box_b box_d
    box_tabled k e None is time right at-now fits = absurd (false≢true fits)
    box_tabled k e (Some Step1) is time right at-now fits = first is k (time is)
    box_tabled k e (Some Step2) is time right at-now fits = second at-now
    box_tabled k e (Some Step3) is time right at-now fits = third at-now
    box_tabled k e (Some Step4) is time right at-now fits = fourth_tabled right.taken at-now
    box_tabled k e (Some Step5) is time right at-now fits = fifth (ap learning is) at-now
    box_tabled k e (Some LineA) is time right at-now fits = at_a (ap learning is) at-now (line_a (line_update w p octets) e)
    box_tabled k e (Some LineB) is time right at-now fits = at_b (ap learning is) at-now (line_b (line_update w p octets) e)
    box_tabled k e (Some LineC) is time right at-now fits = line_c_lem (ap learning is) at-now e
    box_tabled k e (Some LineD) is time right at-now fits = next (ap learning is) at-now (clock_set p octets h w) nothing

  -- of a host that is right; box 1 takes a message
  pub step_tabled : RightWalk r b w copy l → (k : Counter) → (is_open w ≡ true → place_of w ≡ Some Step1 → Tabled octets)
      → TabledHost s (perform (ask (request.Step k)) x).walk (perform (ask (request.Step k)) x).copy (perform (ask (request.Step k)) x).links
  unfolding boxes.step Good
  step_tabled right k time =
      performs (ask (request.Step k)) x Kept (λ _. call_state)
      (λ e.
      either (λ (y : Effect). Kept (carried_out y x)) (not (is_open w)) _ _ (λ _. call_state)
      (λ f.
      let opened = is_so _ f in
      let o = opened_says s w copy (walk_state x ((passed Walking x e).call_state refl)) opened in
      inspect_cases (λ (q : Result Packet Answer). packet_fits s w octets q ≡ true → Kept (carried_out (box_of k octets nets h w (entry_at (at_hand w) x) q) x)) s w.link octets
      (λ a z. absurd (false≢true z))
      (λ _ z. box_tabled opened o.link k (entry_at (at_hand w) x) (place_of w) refl (time opened) (right opened) (call_state.walk opened) z) o.held))
    where
      Kept : Outcome → Type 0
      Kept o = TabledHost s o.walk o.copy o.links
