-- A send reports what the invariant asks, because split horizon hides only an entry whose PID is this link.
use mathlib.Core.Path.{◌≡◌, refl, sym, ap, subst, ◌∙◌}
use mathlib.Core.Bool.{Bool, true, false, true≢false, false≢true, cond}
use mathlib.Core.List.{List, map}
use mathlib.Core.Logic.{◌⊎◌}
use Prim.Native.Nat.{ℕ, ◌+◌, ◌≤◌, ◌<◌}
use native.Mathlib.Omega.{arith}
use borrow.Author.Tests.{ne_eqb}
use lib.Dec.{ltb, eqb}
use lib.IntN.{pos, ◌+ℤ◌}
use lib.ListN.{length}
use Rattle.lists.proofs.Tests.{either}
use Rattle.quantity.specs.declared.Millis.{Millis}
use Rattle.quantity.specs.declared.Word.{Word}
use Rattle.quantity.specs.Words.{word, zero_word}
use Rattle.quantity.proofs.Ints.{up, dn}
use Rattle.quantity.proofs.Wrap.{wrap_range}
use Rattle.clock.specs.declared.Clock.{Clock}
use Rattle.clock.specs.declared.Counter.{Counter}
use Rattle.wire.specs.declared.Packet.{Packet}
use Rattle.wire.specs.declared.Report.{Report}
use Rattle.wire.specs.Packet.{packet_length, fields}
use Rattle.wire.proofs.ReadBack.{nhosts_back, tsp_back, delay_back}
use Rattle.table.specs.declared.Entry.{Entry}
use Rattle.table.specs.Entry.{advertised, entry_in_range, max_delay}
use Rattle.table.specs.Entry as entry
use Rattle.table.proofs.Ranges.{range_says}
use Rattle.net_table.specs.declared.NetTable.{NetTable}
use Rattle.host.specs.declared.Link.{Link}
use Rattle.host.specs.declared.Links.{Links}
use Rattle.host.specs.declared.walk.Walk.{Walk}
use Rattle.host.specs.declared.guard.Scope.TheVariants.{OnLink}
use Rattle.host.specs.State.{host_count, link_of, with_link}
use Rattle.host.specs.CallState.{CallState, entries_of, our_reading}
use Rattle.host.specs.Guard.{done}
use Rattle.host.specs.Walk.{is_open}
use Rattle.host.proofs.Places.{Holds}
use Rattle.host.proofs.Guarded.{passed, holds, entries_state}
use Rattle.host.proofs.Sound.{sound}
use Rattle.sending.specs.declared.Sending.{Sending}
use Rattle.sending.specs.Message.{table_goes, sent_tsp, link_sent, packet_sent}
use Rattle.sending.specs.Send.{report_count}
use Rattle.calls.specs.Perform.{Call, Outcome, sent_by, perform}
use Rattle.network_laws.specs.HostAfter.{message_of}
use Rattle.network_laws.specs.Network.{Network, at, state_at, Proper}
use Rattle.network_laws.specs.Demand3.{Message}
use Rattle.network_laws.proofs.Performs.{performs}
use Rattle.network_laws.proofs.Sends.{reports, reports_count, sent_message, sent_message_lem}
use Rattle.network_laws.proofs.Lists.{All, all_there, all_map, all_both, every_all}
use Rattle.network_laws.proofs.Demand3.Near.{Fits16}
use Rattle.network_laws.proofs.Demand3.Nodes.{set_good}
use Rattle.liveness_laws.specs.Numbers.{rise}
use Rattle.liveness_laws.proofs.Lines.{any_hops}
use Rattle.liveness_laws.proofs.Links.{learns, same_room, sent_links}
use Rattle.liveness_laws.proofs.Measured.{returned, Worded}
use Rattle.liveness_laws.proofs.Rounds.Entry.{Steady}
use Rattle.liveness_laws.proofs.Host.State.{Before, After, same_entries, unchanged}
use Rattle.liveness_laws.proofs.Order.Entry.{Below, Said}
use Rattle.liveness_laws.proofs.Order.Cables.{Word as Word-of, Web, sent_said, sent_has, sent_head, sent_after, On}
use Rattle.liveness_laws.proofs.Order.Believed.{Sent as In-order, Rest}

abbrev no_report : Report
no_report = record { delay = max_delay; offset = word (pos 0) }

module _ (r : Network) (proper : Proper r) (c i k : ℕ) (E : ℕ → Entry) (mail : List Message) (last : ℕ → ℕ → ℕ) (web : Web r c i k E mail last) (sd : ℕ → ℕ) (hd : ℕ → ℕ → Bool)
    (steadies : (d : ℕ) → d < r.nodes → Steady r c d k any_hops (sd d) (hd d) (E d)) (b s : ℕ) (heard : ℕ → Bool) (inside : b < r.nodes) (few : i < host_count (r.settings b))
    (nets : NetTable) (cl : Clock) (l : Links) (walk : Walk) (copy : List ℕ) (entries : List Entry) (call_state : Before r c i k any_hops b false (In-order r i b mail (last b)) (Rest r c i k E mail b (last b)) s heard walk copy l entries (E b)) (link : ℕ) (κ : Counter) where
  abbrev x : CallState
  x = state_at r b nets cl l walk copy entries

  abbrev y : Link
  y = link_of l link

  -- ---- the message, to the host at the other end

  module _ (held : Holds (r.number b) entries) (ranged : All (λ (id : ℕ) (e : Entry). entry_in_range e ≡ true) (entries_of x)) (d n : ℕ) (cord : r.cable b link ≡ at d n) where
    abbrev octets : List ℕ
    octets = sent_message x held link κ

    abbrev packet : Packet
    packet = packet_sent (r.settings b) y (our_reading κ x.host).time (our_reading κ x.host).clock.date (report_count (r.settings b) y)

    other_in : d < r.nodes
    other_in = (proper.cables d n b link (proper.cables b link d n cord).other_end).node_in

    tsp_fits : Fits16 (sent_tsp y (our_reading κ x.host).time).0
    tsp_fits =
        either (λ (v : Word). Fits16 v.0) (eqb y.keep_alive 0) _ _ (λ _. omega arith)
        (λ _. let w = wrap_range 16 (omega arith) (y.tsp.0 +ℤ (our_reading κ x.host).time.0) in record { high = w.0; low = w.1 })

    tsp_is : (fields octets).tsp ≡ sent_tsp y (our_reading κ x.host).time
    tsp_is = tsp_back y.neighbor packet (reports x held link) tsp_fits.high tsp_fits.low

    -- nothing is said before a link was heard
    neighbor_is : is_open walk ≡ false → Worded octets → y.neighbor ≡ (r.settings d).address
    neighbor_is shut worded = go (eqb y.keep_alive 0) refl
      where
        go : (t : Bool) → eqb y.keep_alive 0 ≡ t → y.neighbor ≡ (r.settings d).address
        go true e =
            let none : sent_tsp y (our_reading κ x.host).time ≡ word (pos 0) = rw e refl in
            absurd (true≢false (sym (ap zero_word (tsp_is ∙ none)) ∙ worded))
        go false e = (call_state.good.links link d n cord).spoke (rw shut) e

    module _ (shut : is_open walk ≡ false) (worded : Worded octets) where
      goes : table_goes (r.settings b) y ≡ true
      goes =
          rw (neighbor_is shut worded)
          (let one = (sound (r.settings d) (set_good r d (proper.was_initialized d other_in))).class_from in
          rw (ne_eqb (r.settings d).address.first 0 (λ z. omega (arith, one, z))) (proper.one_net b d inside other_in))

      size : length (reports x held link) ≡ host_count (r.settings b)
      size = reports_count x held link ∙ ap (λ (t : Bool). cond t (host_count (r.settings b)) 0) goes

      counted_in : eqb (fields octets).nhosts 0 ≡ false
      counted_in =
          ap (λ (q : ℕ). eqb q 0) (nhosts_back y.neighbor packet (reports x held link) ∙ ap (λ (t : Bool). cond t (host_count (r.settings b)) 0) goes)
          ∙ ne_eqb (host_count (r.settings b)) 0 (λ z. omega (arith, z, few))

      -- one report, among the others
      record Report-so (id : ℕ) (p : Report) : Type 0 where
        pub low : dn p.delay.0 ≤ 0
        pub high : up p.delay.0 < 65536
        pub is : id ≡ i → (up p.delay.0 ≡ up (advertised link (E b)).delay.0) × (dn (E b).delay.0 ≤ 0) × (up (E b).delay.0 ≤ 30000)

      report_so : (id : ℕ) (e : Entry) → (id ≡ i → e ≡ E b) × (entry_in_range e ≡ true) → Report-so id (advertised link e)
      unfolding advertised
      report_so id e h =
          let ranges = (range_says e h.1).delay in
          record {
            low = either (λ (q : Millis). dn q.0 ≤ 0) (eqb e.pid link) _ _ (λ _. omega arith) (λ _. omega (arith, ranges));
            high = either (λ (q : Millis). up q.0 < 65536) (eqb e.pid link) _ _ (λ _. omega arith) (λ _. omega (arith, ranges));
            is =
                λ same.
                subst (λ (v : Entry). (up (advertised link e).delay.0 ≡ up (advertised link v).delay.0) × (dn v.delay.0 ≤ 0) × (up v.delay.0 ≤ 30000)) (h.0 same)
                (refl, omega (arith, ranges), omega (arith, ranges));
          }

      pub record Reported-it : Type 0 where
        pub is : returned i octets ≡ up (advertised link (E b)).delay.0
        pub low : dn (E b).delay.0 ≤ 0
        pub high : up (E b).delay.0 ≤ 30000

      reported_it : Reported-it
      reported_it =
          let es : All Report-so (map (advertised link) (entries_of x)) =
          all_map (λ (id : ℕ) (e : Entry). (id ≡ i → e ≡ E b) × (entry_in_range e ≡ true)) Report-so (advertised link) (entries_of x) (λ id e _. report_so id e)
          (all_both (λ (id : ℕ) (e : Entry). id ≡ i → e ≡ E b) (λ (id : ℕ) (e : Entry). entry_in_range e ≡ true) (entries_of x) (call_state.table held) ranged) in
          let all : All Report-so (reports x held link) = rw goes es in
          let there : i < length (reports x held link) = omega (arith, size, few) in
          let t = all_there Report-so no_report (reports x held link) all i there in
          let o = t.is refl in
          record { is = ap (λ (q : Millis). up q.0) (delay_back y.neighbor packet (reports x held link) i no_report there t.low t.high) ∙ o.0; low = o.1; high = o.2 }

      out : entry.up (E b) ≡ true → (E b).pid ≡ link → Below (E d) (E b)
      out = (web b link d n cord).leads

      back : entry.up (E d) ≡ true → (E d).pid ≡ n → Below (E b) (E d)
      back = (web d n b link (proper.cables b link d n cord).other_end).leads

      word_so : Word-of r c i k d b octets (E b)
      word_so =
          let t = reported_it in
          record {
            counted = counted_in;
            said = subst (Said r c d k b) (sym t.is) (sent_said r c i k b d link n s (sd d) heard (hd d) (E b) (E d) call_state.good.mine.steady (steadies d other_in) out back t.low t.high);
            has =
                subst (λ (q : ℕ). q < 30000 → (entry.up (E b) ≡ true) × (up (E b).delay.0 ≤ q)) (sym t.is)
                (sent_has r c i k b d link n s (sd d) heard (hd d) (E b) (E d) call_state.good.mine.steady (steadies d other_in) out back t.low t.high);
          }

      head_so : entry.up (E d) ≡ true → (E d).pid ≡ n → rise + returned i octets ≤ up (E d).delay.0
      head_so v at_n =
          let t = reported_it in
          subst (λ (q : ℕ). rise + q ≤ up (E d).delay.0) (sym t.is)
          (sent_head r c i k b d link n s (sd d) heard (hd d) (E b) (E d) call_state.good.mine.steady (steadies d other_in) out back t.low t.high v at_n)

      after_so : (q : Message) (g : ℕ) → On b link mail q g → (returned i octets ≤ returned i q.octets) ⊎ ((entry.up (E d) ≡ true) × (rise + up (E d).delay.0 ≤ returned i q.octets))
      after_so q g it =
          let t = reported_it in
          let w = (web d n b link (proper.cables b link d n cord).other_end).words q g it in
          subst (λ (z : ℕ). (z ≤ returned i q.octets) ⊎ ((entry.up (E d) ≡ true) × (rise + up (E d).delay.0 ≤ returned i q.octets))) (sym t.is)
          (sent_after r c i k b d link n s (sd d) heard (hd d) (E b) (E d) call_state.good.mine.steady (steadies d other_in) out back t.low t.high (returned i q.octets) w.has)

  pub record Says (o : Outcome) : Type 0 where
    pub says : (d n : ℕ) → r.cable b link ≡ at d n → Worded (message_of o)
        → Word-of r c i k d b (message_of o) (E b) × (entry.up (E d) ≡ true → (E d).pid ≡ n → rise + returned i (message_of o) ≤ up (E d).delay.0) × ((q : Message) (g : ℕ) → On b link mail q g → (returned i (message_of o) ≤ returned i q.octets) ⊎ ((entry.up (E d) ≡ true) × (rise + up (E d).delay.0 ≤ returned i q.octets)))

  pub record Sent (o : Outcome) : Type 0 where
    pub left : After r c i k any_hops b false (In-order r i b mail (last b)) (Rest r c i k E mail b (last b)) s heard entries o.walk o.copy o.links o.entries
    pub message : done o.reply.answer ≡ true → Says o

  pub send_good : (buffer : List ℕ) → Sent (perform (Call.send link κ buffer) x)
  send_good buffer =
      performs (Call.send link κ buffer) x Sent
      (λ no. record { left = same; message = λ is. absurd (false≢true (sym no ∙ is)) })
      (λ e.
      let ok = passed (OnLink link) x e in
      let held = holds (r.number b) entries ok.places in
      let has = ok.link link refl in
      either (λ (q : Sending). Sent (sent_by q buffer x)) (ltb (length buffer) (packet_length (report_count (r.settings b) y))) _ _
      (λ _. record { left = same; message = λ z. absurd (false≢true z) })
      (λ _.
      record {
        left =
            same_entries r c i k any_hops b false (In-order r i b mail (last b)) (Rest r c i k E mail b (last b)) s heard walk copy (with_link link (link_sent y) l) entries (E b) (same_room r proper k b false l call_state.room link has (link_sent y))
            (let o = call_state.good in
            record {
              mine = o.mine;
              rest = o.rest;
              links = sent_links r proper k b false l call_state.room link has (learns walk) heard (E b) o.links;
              waits = o.waits;
              walk = λ opened. absurd (true≢false (sym opened ∙ ok.closed));
            })
            call_state.table;
        message =
            λ _.
            record {
              says =
                  λ d n cord.
                  subst
                  (λ (o : List ℕ). Worded o → Word-of r c i k d b o (E b) × (entry.up (E d) ≡ true → (E d).pid ≡ n → rise + returned i o ≤ up (E d).delay.0) × ((q : Message) (g : ℕ) → On b link mail q g → (returned i o ≤ returned i q.octets) ⊎ ((entry.up (E d) ≡ true) × (rise + up (E d).delay.0 ≤ returned i q.octets))))
                  (sym (sent_message_lem x held link κ buffer))
                  (λ w.
                  let ranged = every_all entry_in_range (entries_of x) (entries_state x (ok.call_state refl)) in
                  (word_so held ranged d n cord ok.closed w, head_so held ranged d n cord ok.closed w, after_so held ranged d n cord ok.closed w));
            };
      }))
    where
      same : After r c i k any_hops b false (In-order r i b mail (last b)) (Rest r c i k E mail b (last b)) s heard entries walk copy l entries
      same = unchanged r c i k any_hops b false (In-order r i b mail (last b)) (Rest r c i k E mail b (last b)) s heard walk copy l entries (E b) call_state
