-- A send reports the DELAY of a shortest way or 30,000, because split horizon hides only an entry whose way begins with this link.
use mathlib.Core.Path.{◌≡◌, refl, sym, ap, subst, ◌∙◌}
use mathlib.Core.Bool.{Bool, true, false, true≢false, false≢true, cond}
use mathlib.Core.List.{List, map}
use mathlib.Core.Logic.{◌⊎◌, inl, inr}
use Prim.Native.Nat.{ℕ, zero, suc, ◌≤◌, ◌<◌}
use native.Mathlib.Omega.{arith}
use borrow.Author.Tests.{eq-eqb, ne_eqb}
use lib.Dec.{ltb, eqb}
use lib.IntN.{pos, ◌+ℤ◌}
use lib.ListN.{length}
use Rattle.lists.proofs.Tests.{either}
use Rattle.quantity.specs.declared.Millis.{Millis}
use Rattle.quantity.specs.declared.Word.{Word}
use Rattle.quantity.specs.Words.{word, zero_word}
use Rattle.quantity.proofs.Ints.{up, dn}
use Rattle.quantity.proofs.Wrap.{wrap_range}
use Rattle.clock.specs.declared.Clock.{Clock}
use Rattle.clock.specs.declared.Counter.{Counter}
use Rattle.wire.specs.declared.Packet.{Packet}
use Rattle.wire.specs.declared.Report.{Report}
use Rattle.wire.specs.Hello.{report_at}
use Rattle.wire.specs.Packet.{packet_length, hello_of, fields}
use Rattle.wire.proofs.ReadBack.{nhosts_back, tsp_back, delay_back}
use Rattle.table.specs.declared.Entry.{Entry}
use Rattle.table.specs.Entry.{advertised, entry_in_range, max_delay}
use Rattle.table.proofs.Ranges.{range_says}
use Rattle.net_table.specs.declared.NetTable.{NetTable}
use Rattle.host.specs.declared.Link.{Link}
use Rattle.host.specs.declared.Links.{Links}
use Rattle.host.specs.declared.walk.Walk.{Walk}
use Rattle.host.specs.declared.guard.Scope.TheVariants.{OnLink}
use Rattle.host.specs.State.{host_count, link_of, with_link}
use Rattle.host.specs.CallState.{CallState, entries_of, our_reading}
use Rattle.host.specs.Guard.{done}
use Rattle.host.proofs.Places.{Holds}
use Rattle.host.proofs.Guarded.{passed, holds, counted, entries_state}
use Rattle.host.proofs.Sound.{sound}
use Rattle.sending.specs.declared.Sending.{Sending}
use Rattle.sending.specs.Message.{table_goes, sent_tsp, link_sent, packet_sent}
use Rattle.sending.specs.Send.{report_count}
use Rattle.calls.specs.Perform.{Call, Outcome, sent_by, perform}
use Rattle.network_laws.specs.HostAfter.{message_of}
use Rattle.network_laws.specs.Network.{Network, at, state_at, Proper}
use Rattle.network_laws.proofs.Performs.{performs}
use Rattle.network_laws.proofs.Sends.{reports, reports_count, sent_message, sent_message_lem}
use Rattle.network_laws.proofs.Lists.{All, all_there, all_map, all_both, every_all}
use Rattle.network_laws.proofs.Demand3.Near.{Fits16}
use Rattle.network_laws.proofs.Demand3.Nodes.{set_good}
use Rattle.liveness_laws.proofs.Rounds.Heard.{Mine}
use Rattle.liveness_laws.proofs.Rounds.Entry.{said_entry}
use Rattle.liveness_laws.proofs.Rounds.Entry as steady
use Rattle.liveness_laws.proofs.Links.{learns, same_room, sent_links}
use Rattle.liveness_laws.proofs.Host.State.{Before, After, same_entries, unchanged}

abbrev no_report : Report
no_report = record { delay = max_delay; offset = word (pos 0) }

module _ (r : Network) (proper : Proper r) (c i k m b s : ℕ) (heard : ℕ → Bool) (Taken : Entry → (link : ℕ) → (octets : List ℕ) → Type 0) (Rest : Entry → Type 0) (inside : b < r.nodes) (few : i < host_count (r.settings b)) (speaks : (k ≡ 0) ⊎ (m ≤ k))
    (nets : NetTable) (cl : Clock) (l : Links) (walk : Walk) (copy : List ℕ) (entries : List Entry) (e : Entry) (call_state : Before r c i k m b true Taken Rest s heard walk copy l entries e) (link : ℕ) (κ : Counter) where
  abbrev x : CallState
  x = state_at r b nets cl l walk copy entries

  abbrev y : Link
  y = link_of l link

  -- ---- the message, to the host at the other end

  module _ (held : Holds (r.number b) entries) (ranged : All (λ (id : ℕ) (z : Entry). entry_in_range z ≡ true) (entries_of x)) (d n : ℕ) (cord : r.cable b link ≡ at d n) where
    abbrev octets : List ℕ
    octets = sent_message x held link κ

    abbrev packet : Packet
    packet = packet_sent (r.settings b) y (our_reading κ x.host).time (our_reading κ x.host).clock.date (report_count (r.settings b) y)

    from_1 : 1 ≤ link
    from_1 = (counted (r.settings b) link (proper.cables b link d n cord).link_in).from_one

    other_in : d < r.nodes
    other_in = (proper.cables d n b link (proper.cables b link d n cord).other_end).node_in

    tsp_fits : Fits16 (sent_tsp y (our_reading κ x.host).time).0
    tsp_fits =
        either (λ (v : Word). Fits16 v.0) (eqb y.keep_alive 0) _ _ (λ _. omega arith)
        (λ _. let w = wrap_range 16 (omega arith) (y.tsp.0 +ℤ (our_reading κ x.host).time.0) in record { high = w.0; low = w.1 })

    tsp_is : (fields octets).tsp ≡ sent_tsp y (our_reading κ x.host).time
    tsp_is = tsp_back y.neighbor packet (reports x held link) tsp_fits.high tsp_fits.low

    -- nothing is said before a link was heard
    later : zero_word (fields octets).tsp ≡ false → 1 ≤ k
    later word-is = go k refl
      where
        go : (q : ℕ) → k ≡ q → 1 ≤ q
        go zero first =
            let z = (call_state.good.links link d n cord).quiet refl first in
            let none : sent_tsp y (our_reading κ x.host).time ≡ word (pos 0) = rw (eq-eqb y.keep_alive 0 z) in
            absurd (true≢false (sym (ap zero_word (tsp_is ∙ none)) ∙ word-is))
        go (suc q) first = omega arith

    module _ (some : 1 ≤ k) where
      neighbor_is : y.neighbor ≡ (r.settings d).address
      neighbor_is = (call_state.good.links link d n cord).known (inl some)

      goes : table_goes (r.settings b) y ≡ true
      goes =
          rw neighbor_is
          (let one = (sound (r.settings d) (set_good r d (proper.was_initialized d other_in))).class_from in
          rw (ne_eqb (r.settings d).address.first 0 (λ z. omega (arith, one, z))) (proper.one_net b d inside other_in))

      size : length (reports x held link) ≡ host_count (r.settings b)
      size = reports_count x held link ∙ ap (λ (t : Bool). cond t (host_count (r.settings b)) 0) goes

      counted_in : eqb (fields octets).nhosts 0 ≡ false
      counted_in =
          ap (λ (q : ℕ). eqb q 0) (nhosts_back y.neighbor packet (reports x held link) ∙ ap (λ (t : Bool). cond t (host_count (r.settings b)) 0) goes)
          ∙ ne_eqb (host_count (r.settings b)) 0 (λ z. omega (arith, z, few))

      below : m ≤ k
      below = elim speaks [ inl z ↦ absurd (omega (arith, z, some)) | inr z ↦ z ]

      -- one report, among the others
      record Returned (id : ℕ) (p : Report) : Type 0 where
        pub low : dn p.delay.0 ≤ 0
        pub high : up p.delay.0 < 65536
        pub says : id ≡ i → steady.Report r c d k b (up p.delay.0)

      returned : (id : ℕ) (z : Entry) → (id ≡ i → z ≡ e) × (entry_in_range z ≡ true) → Returned id (advertised link z)
      unfolding advertised
      returned id z h =
          let ranges = (range_says z h.1).delay in
          record {
            low = either (λ (q : Millis). dn q.0 ≤ 0) (eqb z.pid link) _ _ (λ _. omega arith) (λ _. omega (arith, ranges));
            high = either (λ (q : Millis). up q.0 < 65536) (eqb z.pid link) _ _ (λ _. omega arith) (λ _. omega (arith, ranges));
            says =
                λ same.
                let said = said_entry r c b k m s heard z below (subst (Mine r c b k m s heard) (sym (h.0 same)) call_state.good.mine).steady link d n from_1 cord (omega (arith, ranges)) (omega (arith, ranges)) in
                record { sound = λ low. said.0 (up (advertised link z).delay.0) refl low; complete = said.1 };
          }

      says_so : steady.Report r c d k b (up (report_at (hello_of octets) i).delay.0)
      says_so =
          let es : All Returned (map (advertised link) (entries_of x)) =
          all_map (λ (id : ℕ) (z : Entry). (id ≡ i → z ≡ e) × (entry_in_range z ≡ true)) Returned (advertised link) (entries_of x) (λ id z _. returned id z)
          (all_both (λ (id : ℕ) (z : Entry). id ≡ i → z ≡ e) (λ (id : ℕ) (z : Entry). entry_in_range z ≡ true) (entries_of x) (call_state.table held) ranged) in
          let all : All Returned (reports x held link) = rw goes es in
          let there : i < length (reports x held link) = omega (arith, size, few) in
          let t = all_there Returned no_report (reports x held link) all i there in
          rw (delay_back y.neighbor packet (reports x held link) i no_report there t.low t.high) (t.says refl)

  pub record Says (o : Outcome) : Type 0 where
    pub says : (d n : ℕ) → r.cable b link ≡ at d n → zero_word (fields (message_of o)).tsp ≡ false
        → (1 ≤ k) × (eqb (fields (message_of o)).nhosts 0 ≡ false) × steady.Report r c d k b (up (report_at (hello_of (message_of o)) i).delay.0)

  pub record Sent (o : Outcome) : Type 0 where
    pub left : After r c i k m b true Taken Rest s heard entries o.walk o.copy o.links o.entries
    pub message : done o.reply.answer ≡ true → Says o

  pub send_good : (buffer : List ℕ) → Sent (perform (Call.send link κ buffer) x)
  send_good buffer =
      performs (Call.send link κ buffer) x Sent
      (λ no. record { left = same; message = λ is. absurd (false≢true (sym no ∙ is)) })
      (λ g.
      let ok = passed (OnLink link) x g in
      let held = holds (r.number b) entries ok.places in
      let has = ok.link link refl in
      either (λ (q : Sending). Sent (sent_by q buffer x)) (ltb (length buffer) (packet_length (report_count (r.settings b) y))) _ _
      (λ _. record { left = same; message = λ z. absurd (false≢true z) })
      (λ _.
      record {
        left =
            same_entries r c i k m b true Taken Rest s heard walk copy (with_link link (link_sent y) l) entries e (same_room r proper k b true l call_state.room link has (link_sent y))
            (let o = call_state.good in
            record {
              mine = o.mine;
              rest = o.rest;
              links = sent_links r proper k b true l call_state.room link has (learns walk) heard e o.links;
              waits = o.waits;
              walk = λ opened. absurd (true≢false (sym opened ∙ ok.closed));
            })
            call_state.table;
        message =
            λ _.
            record {
              says =
                  λ d n cord.
                  subst
                  (λ (o : List ℕ). zero_word (fields o).tsp ≡ false → (1 ≤ k) × (eqb (fields o).nhosts 0 ≡ false) × steady.Report r c d k b (up (report_at (hello_of o) i).delay.0))
                  (sym (sent_message_lem x held link κ buffer))
                  (λ w.
                  let ranged = every_all entry_in_range (entries_of x) (entries_state x (ok.call_state refl)) in
                  let some = later held ranged d n cord w in
                  (some, counted_in held ranged d n cord some, says_so held ranged d n cord some));
            };
      }))
    where
      same : After r c i k m b true Taken Rest s heard entries walk copy l entries
      same = unchanged r c i k m b true Taken Rest s heard walk copy l entries e call_state
