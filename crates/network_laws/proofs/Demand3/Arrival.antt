-- An arrival keeps a node right. What is stored has passed steps 2 to 4: then DELAY is the sum of the two ways, OFFSET is near, and what a report adds keeps it near.
use Rattle.std.specs.Prelude.{Option, Some, None, Result, Ok, Err}
use mathlib.Core.Path.{◌≡◌, refl, sym, ap, ◌∙◌}
use mathlib.Core.Bool.{true, false, not, ◌||◌}
use mathlib.Core.List.{List}
use Prim.Native.Nat.{ℕ, suc, ◌-◌, ◌≤◌, ◌<◌}
use native.Mathlib.Omega.{arith}
use lib.Dec.{T, eqb}
use lib.IntN.{pos, ◌+ℤ◌}
use Rattle.lists.proofs.Tests.{either, is_so, neither}
use Rattle.quantity.specs.declared.Millis.{Millis}
use Rattle.quantity.specs.declared.Word.{Word}
use Rattle.quantity.specs.Quantity.{add_millis, less_millis}
use Rattle.quantity.specs.Words.{wrap, zero_word}
use Rattle.quantity.proofs.Ints.{sum, lt_yes, is_lt}
use Rattle.quantity.proofs.Wrap.{wrap_range}
use Rattle.answer.specs.declared.Answer.{Answer}
use Rattle.answer.specs.declared.Answer.TheVariants.{DelayNotValid, NoHost}
use Rattle.quantity.specs.declared.Count.{Count}
use Rattle.clock.specs.declared.Clock.{Clock}
use Rattle.clock.specs.declared.Counter.{Counter}
use Rattle.clock.specs.Clock.{count_used}
use Rattle.wire.specs.declared.Address.{Address}
use Rattle.wire.specs.declared.Packet.{Packet}
use Rattle.wire.specs.declared.Report.{Report}
use Rattle.wire.specs.Octets.{same_address}
use Rattle.wire.specs.Ip.{ip_form, ip_checksum, protocol}
use Rattle.wire.specs.Hello.{hello_form, hello_checksum, report_at}
use Rattle.wire.specs.Packet.{hello_of, fields, parse}
use Rattle.route.specs.declared.Layout.{Layout}
use Rattle.route.specs.Find.{local_id}
use Rattle.table.specs.declared.Entry.{Entry}
use Rattle.table.specs.declared.entries.Updates.{Updates}
use Rattle.table.specs.Forms.{Stage, on, end}
use Rattle.table.specs.Entry.{max_delay}
use Rattle.table.specs.Runs.{update_at, updated_at}
use Rattle.table.proofs.Cases.{stored, update_keeps}
use Rattle.net_table.specs.declared.NetTable.{NetTable}
use Rattle.host.specs.declared.Settings.{Settings}
use Rattle.host.specs.declared.Link.{Link}
use Rattle.host.specs.declared.Links.{Links}
use Rattle.host.specs.declared.walk.Walk.{Walk}
use Rattle.host.specs.declared.guard.Scope.TheVariants.{OnLink}
use Rattle.host.specs.Settings.{found_for}
use Rattle.host.specs.State.{broadcast, link_of, with_link, host_count}
use Rattle.host.specs.declared.Host.{Host}
use Rattle.host.specs.CallState.{CallState, host, our_reading}
use Rattle.host.proofs.Places.{Holds, entries_length}
use Rattle.host.proofs.Guarded.{passed, holds}
use Rattle.arrival.specs.declared.Flight.{Flight}
use Rattle.arrival.specs.declared.Arrived.{Arrived}
use Rattle.host.specs.Inspection.{other_layout, looped, inspect}
use Rattle.host.specs.Inspection as inspection
use Rattle.arrival.specs.Steps.{step2, step3, step4, steps2to4, tsp_of, delay_of, at_least_min, neighbor_update, report_update}
use Rattle.arrival.specs.Arrival.{ends, updated, no_table, with_table, step5, concluded, action, inspected}
use Rattle.calls.specs.Perform.{act, Outcome, updated_by, perform}
use Rattle.network_laws.specs.Network.{longest_way, Network, at, state_at, HostAt, Proper}
use Rattle.network_laws.specs.Demand3.{Message, reading_at, timed}
use Rattle.network_laws.proofs.Performs.{performs}
use Rattle.network_laws.proofs.Arrivals.{same_address_lem}
use Rattle.network_laws.proofs.Lists.{all_set}
use Rattle.network_laws.proofs.Ranges.{raised_low}
use Rattle.network_laws.proofs.Demand3.Near.{apart, relay_near, relay_exact}
use Rattle.network_laws.proofs.Demand3.Invariant.{Known, RightEntry, RightReport, RightLink, RightLinks, RightMessage, Direct}
use Rattle.network_laws.proofs.Demand3.Measured.{found_own}
use Rattle.network_laws.proofs.Demand3.Measured as measured
use Rattle.network_laws.proofs.Demand3.Outcomes.{RightOutcome, RightState, same_right, updated_right}
use Rattle.network_laws.proofs.Demand3.Nodes.{down_right, own_host}
use Rattle.network_laws.proofs.Demand3.Sending.{link_from_1}

-- ---- inspection: a refusal, or the fields of the octets in our layout

parse_cases : (P : Result Packet Answer → Type 0) (octets : List ℕ) → ((x : Answer) → P (Err x)) → P (Ok (fields octets)) → P (parse octets)
unfolding parse
parse_cases P octets bad good =
    either P (not (ip_form octets)) _ _ (λ _. bad _)
    (λ _.
    either P (not (ip_checksum octets)) _ _ (λ _. bad _)
    (λ _.
    either P (not (protocol octets)) _ _ (λ _. bad _)
    (λ _.
    either P (not (hello_form (hello_of octets))) _ _ (λ _. bad _)
    (λ _. either P (not (hello_checksum (hello_of octets))) _ _ (λ _. bad _) (λ _. good)))))

pub inspect_cases : (P : Result Packet Answer → Type 0) (s : Settings) (i : ℕ) (octets : List ℕ) → ((x : Answer) → P (Err x))
    → (other_layout s (fields octets) ≡ false → P (Ok (fields octets))) → P (inspect s i octets)
unfolding inspect
inspect_cases P s i octets bad good =
    parse_cases (λ (x : Result Packet Answer). P (inspection.inspected s i x)) octets bad
    (either P (other_layout s (fields octets)) _ _ (λ _. bad _)
    (λ ours. either P (looped s i (fields octets)) _ _ (λ _. bad _) (λ _. good ours)))

-- ---- step 5, at node b, of a message of node a, with a DELAY and an OFFSET that are right for a

module _ (r : Network) (proper : Proper r) (b a : ℕ) (hb : b < r.nodes) (ha : a < r.nodes) where
  -- an entry that an update may store
  entry_keeps : (id : ℕ) (w : Updates) (octets : List ℕ) (c : Clock) (e : Entry) → RightEntry r b id e
      → (less_millis (update_at w (id - w.base) octets).delay max_delay ≡ true → RightEntry r b id (stored (update_at w (id - w.base) octets) e))
      → RightEntry r b id (updated_at w octets id c e).entry
  entry_keeps id w octets c e right stores =
      update_keeps (RightEntry r b id) (eqb (id - w.base) w.clock_host) w.hold_interval w.count w.date (update_at w (id - w.base) octets) c e right
      (down_right r b id e right) stores

  -- no table: the entry of a itself
  pub neighbor_right : (i id : ℕ) (f : Flight) → Direct r b a f.delay f.offset → HostAt r id a
      → less_millis (neighbor_update i f).delay max_delay ≡ true → (e : Entry) → RightEntry r b id (stored (neighbor_update i f) e)
  neighbor_right i id f d host low e =
      record { fits = d.fits; known = λ _. record { node = a; node_in = ha; host_there = host; near = d.near low } }

  -- a table: a report that a passes on
  pub report_right : (i id : ℕ) (f : Flight) → Direct r b a f.delay f.offset → (q : Report) → RightReport r a id q
      → less_millis (report_update i f q).delay max_delay ≡ true → (e : Entry) → RightEntry r b id (stored (report_update i f q) e)
  report_right i id f d q good low e =
      let w = wrap_range 16 (omega arith) (f.offset.0 +ℤ q.offset.0) in
      record { fits = record { high = w.0; low = w.1 }; known = λ _. passed_on }
    where
      passed_on : Known r b id (add_millis (at_least_min f.delay) q.delay).0 (wrap 16 (f.offset.0 +ℤ q.offset.0))
      passed_on =
          let l = lt_yes ((at_least_min f.delay).0 +ℤ q.delay.0) (pos 30000) low in
          let m = raised_low f.delay in
          let n = good.not_negative in
          let s = sum (at_least_min f.delay).0 q.delay.0 in
          let k = good.known (is_lt q.delay.0 (pos 30000) (omega arith)) in
          let direct = d.near (is_lt (at_least_min f.delay).0 (pos 30000) (omega arith)) in
          let near-enough = apart (r.fixed k.node) (r.fixed b) (proper.fixed_near k.node b k.node_in hb) in
          record {
            node = k.node;
            node_in = k.node_in;
            host_there = k.host_there;
            near =
                rw (relay_exact (r.fixed a) (r.fixed b) (r.fixed k.node) f.offset.0 q.offset.0 (at_least_min f.delay).0 q.delay.0 near-enough direct k.near (omega arith))
                (relay_near (r.fixed a) (r.fixed b) (r.fixed k.node) f.offset.0 q.offset.0 (at_least_min f.delay).0 q.delay.0 near-enough direct k.near);
          }

  module _ (i : ℕ) (nets : NetTable) (c : Clock) (l : Links) (walk : Walk) (copy : List ℕ) (entries : List Entry) (call_state : RightState r b l entries) (there : Holds (r.number b) entries) (octets : List ℕ)
      (h : Host) (ours : h.settings ≡ r.settings b) (links : RightLinks r b h.links.all) (n : Count) (p : Packet) (f : Flight) (direct : Direct r b a f.delay f.offset) where
    -- the result of an arrival keeps the node right
    abbrev Right : Arrived → Type 0
    Right e = RightOutcome r b entries (updated_by e octets (state_at r b nets c l walk copy entries))

    no_table_right : (x : Option ℕ) → found_for nets (r.settings b) (r.settings a).address ≡ x → Right (no_table h i n p f x)
    no_table_right None e = updated_right r b nets c l walk copy entries call_state there (ends NoHost h) octets links (λ id d y low high inside right. absurd (omega arith))
    no_table_right (Some own) e =
        let is = ap (λ (y : Layout). local_id y (r.settings a).address) (proper.one_layout a b ha hb) ∙ found_own (r.settings b).address (r.settings a).address (r.settings b) nets own (proper.one_net b a hb ha) e in
        let host : HostAt r own a = own_host r a proper ha own is in
        let w = updated h n p (neighbor_update i f) own 1 false in
        updated_right r b nets c l walk copy entries call_state there w octets links
        (λ id d y low high inside right.
        let same : own ≡ id = omega arith in
        entry_keeps id w.work octets d y right (λ low. neighbor_right i id f direct (rw same at host) low y))

    table_right : ((id : ℕ) → id < host_count (r.settings b) → RightReport r a id (report_at (hello_of octets) id)) → Right (with_table h i n p f)
    table_right good =
        let w = updated h n p (neighbor_update i f) 0 (host_count h.settings) true in
        updated_right r b nets c l walk copy entries call_state there w octets links
        (λ id d y low high inside right.
        let same : id - 0 ≡ id = omega arith in
        let bound : id < host_count (r.settings b) = omega (arith, entries_length (r.settings b) (r.number b) entries there) in
        entry_keeps id w.work octets d y right
        (λ low. rw same (report_right i id f direct (report_at (hello_of octets) id) (good id bound) (rw same at low) y)))

    step5_right : f.link.neighbor ≡ (r.settings a).address
        → (eqb p.nhosts 0 ≡ false → (id : ℕ) → id < host_count (r.settings b) → RightReport r a id (report_at (hello_of octets) id))
        → Right (step5 nets h i n p f)
    step5_right neighbor good =
        either Right (eqb p.nhosts 0) _ _
        (λ _. no_table_right _ (λ j. found_for nets (sym ours j) (sym neighbor j)))
        (λ t. table_right (good t))

-- ---- steps 2 to 5, at link i of node b, of a message that took `way` ms

module _ (r : Network) (proper : Proper r) (ways : r.longest ≤ longest_way) (b i : ℕ) (hb : b < r.nodes) (m : Message) (cable : r.cable b i ≡ at m.node m.link) (right : RightMessage r m)
    (nets : NetTable) (c : Clock) (l : Links) (walk : Walk) (copy : List ℕ) (entries : List Entry) (call_state : RightState r b l entries) (there : Holds (r.number b) entries) (numbered : suc (i - 1) ≡ i)
    (k : Counter) (way : ℕ) (short : way ≤ r.longest) (clock : (reading_at r b c k).time.0 ≡ (m.ms +ℤ pos way) +ℤ r.fixed b) where
  abbrev a : ℕ
  a = m.node

  abbrev p : Packet
  p = fields m.octets

  abbrev now : Millis
  now = (reading_at r b c k).time

  -- and our clock after it
  abbrev carried_on : Clock
  carried_on = (reading_at r b c k).clock

  source_is : p.source ≡ (r.settings a).address
  source_is = measured.source_is r proper ways b i hb m cable right now way short clock

  -- the link after steps 2 and 3, of a neighbour, and the flight
  abbrev touched : Address → Link
  touched n = record { neighbor = n; keep_alive = 4; tsp = tsp_of p.time now }

  abbrev flight : Address → Millis → Word → Flight
  flight n d o = record { reading = now; link = touched n; delay = d; offset = o }

  links_right : (n : Address) → RightLinks r b (with_link i (touched n) l).all
  links_right n =
      all_set (λ (j : ℕ). RightLink r b (suc j)) (i - 1) _
      (rw numbered (λ b' j e alive. measured.tied r proper ways b i hb m cable right now way short clock b' j e)) l.all call_state.links

  -- its result keeps the node right
  abbrev Keeps : Arrived → Type 0
  Keeps e = RightOutcome r b entries (updated_by e m.octets (state_at r b nets c l walk copy entries))

  -- our host, which has read its clock
  abbrev node : Host
  node = host (state_at r b nets c l walk copy entries).host.settings carried_on l

  -- 5, with the link of that neighbour
  goes_on : (n : Address) → n ≡ (r.settings a).address → other_layout (r.settings b) p ≡ false → (d : Millis) (o : Word)
      → Direct r b a d o → Keeps (concluded nets node i (count_used k) p (on (flight n d o)))
  goes_on n neighbor ours d o direct =
      step5_right r proper b a hb right.node_in i nets c l walk copy entries call_state there m.octets (host node.settings carried_on (with_link i (touched n) l)) refl (links_right n) (count_used k) p
      (flight n d o) direct neighbor (measured.reports_read r proper ways b i hb m cable right now way short clock ours)

  -- 4
  concluded_right : other_layout (r.settings b) p ≡ false → Keeps (concluded nets node i (count_used k) p (steps2to4 false carried_on.hold p now (link_of l i)))
  unfolding steps2to4 step2 step3 step4
  concluded_right ours =
      either Kept (not (same_address p.source (link_of l i).neighbor)) _ _
      (λ _. goes_on p.source source_is ours max_delay _ (measured.new_right r proper ways b i hb m cable right now way short clock (delay_of now p.tsp)))
      (λ t.
      either Kept (zero_word p.tsp || not (eqb carried_on.hold.0 0)) _ _
      (λ _.
      updated_right r b nets c l walk copy entries call_state there (ends DelayNotValid (host node.settings carried_on (with_link i (touched (link_of l i).neighbor) l))) m.octets
      (links_right (link_of l i).neighbor) (λ id e y low high inside h. absurd (omega arith)))
      (λ u.
      goes_on (link_of l i).neighbor (sym (same_address_lem p.source (link_of l i).neighbor (is_so _ t)) ∙ source_is) ours (delay_of now p.tsp) _
      (measured.direct_right r proper ways b i hb m cable right now way short clock (neither (zero_word p.tsp) _ u).0)))
    where
      Kept : Stage Flight → Type 0
      Kept x = Keeps (concluded nets node i (count_used k) p x)

  action_right : broadcast (r.settings b) i ≡ false → other_layout (r.settings b) p ≡ false → Keeps (action k nets (state_at r b nets c l walk copy entries).host i p)
  action_right point ours = rw point (concluded_right ours)

-- ---- the complete call. A refusal changes nothing; whatever goes on to step 2 has a millisecond

pub action_timed : (k : Counter) (nets : NetTable) (h : Host) (i : ℕ) (p : Packet) → T (timed (action k nets h i p).reply.answer)
action_timed k nets h i p = go (steps2to4 (broadcast h.settings i) (our_reading k h).clock.hold p (our_reading k h).time (link_of h.links i))
  where
    found : (g : Host) (f : Flight) (x : Option ℕ) → T (timed (no_table g i (count_used k) p f x).reply.answer)
    found g f None = tt
    found g f (Some id) = tt

    fifth : (g : Host) (f : Flight) → T (timed (step5 nets g i (count_used k) p f).reply.answer)
    fifth g f = either (λ (e : Arrived). T (timed e.reply.answer)) (eqb p.nhosts 0) _ _ (λ _. found g f (found_for nets g.settings f.link.neighbor)) (λ _. tt)

    go : (x : Stage Flight) → T (timed (concluded nets (host h.settings (our_reading k h).clock h.links) i (count_used k) p x).reply.answer)
    go (end f) = tt
    go (on f) = fifth (host h.settings (our_reading k h).clock (with_link i f.link h.links)) f

-- when a message arrived at node b: a known time after it was sent
pub record Came (r : Network) (b : ℕ) (c : Clock) (k : Counter) (m : Message) : Type 0 where
  pub way : ℕ
  pub short : way ≤ r.longest
  pub clock : (reading_at r b c k).time.0 ≡ (m.ms +ℤ pos way) +ℤ r.fixed b

pub act_right : (r : Network) → Proper r → r.longest ≤ longest_way → (b i : ℕ) → b < r.nodes → (m : Message) → r.cable b i ≡ at m.node m.link → RightMessage r m
    → (nets : NetTable) (c : Clock) (l : Links) (walk : Walk) (copy : List ℕ) (entries : List Entry) → RightState r b l entries → (k : Counter)
    → (T (timed (perform (act i k m.octets) (state_at r b nets c l walk copy entries)).reply.answer) → Came r b c k m)
    → RightOutcome r b entries (perform (act i k m.octets) (state_at r b nets c l walk copy entries))
act_right r proper ways b i hb m cable right nets c l walk copy entries call_state k =
    performs (act i k m.octets) x Kept (λ _ _. same_right r b l entries call_state)
    (λ d.
    let ok = passed (OnLink i) x d in
    let there = holds (r.number b) entries ok.places in
    inspect_cases (λ (q : Result Packet Answer). Kept (updated_by (inspected k nets x.host i q) m.octets x)) (r.settings b) i m.octets
    (λ a _. updated_right r b nets c l walk copy entries call_state there (ends a x.host) m.octets call_state.links (λ id e y low high inside h. absurd (omega arith)))
    (λ ours time.
    let came = time (action_timed k nets x.host i (fields m.octets)) in
    action_right r proper ways b i hb m cable right nets c l walk copy entries call_state there (link_from_1 (r.settings b) i (ok.link i refl))
    k came.way came.short came.clock (proper.cables b i m.node m.link cable).point_to_point ours))
  where
    x : CallState
    x = state_at r b nets c l walk copy entries

    Kept : Outcome → Type 0
    Kept o = (T (timed o.reply.answer) → Came r b c k m) → RightOutcome r b entries o
