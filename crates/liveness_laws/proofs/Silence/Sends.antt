-- A send reports id i with a DELAY of at least n or as down, because it copies the entry or hides it.
use mathlib.Core.Path.{◌≡◌, refl, sym, ap, subst, ◌∙◌}
use mathlib.Core.Bool.{Bool, true, false, true≢false, false≢true, cond}
use mathlib.Core.List.{List, map}
use Prim.Native.Nat.{ℕ, ◌+◌, ◌≤◌, ◌<◌}
use native.Mathlib.Omega.{arith}
use lib.Dec.{ltb, eqb}
use lib.IntN.{pos}
use lib.ListN.{length}
use Rattle.lists.proofs.Tests.{either}
use Rattle.quantity.specs.declared.Millis.{Millis}
use Rattle.quantity.specs.Quantity.{less_millis}
use Rattle.quantity.specs.Words.{word}
use Rattle.quantity.proofs.Ints.{up, dn}
use Rattle.clock.specs.declared.Clock.{Clock}
use Rattle.clock.specs.declared.Counter.{Counter}
use Rattle.wire.specs.declared.Report.{Report}
use Rattle.wire.specs.Packet.{packet_length, fields}
use Rattle.wire.proofs.ReadBack.{nhosts_back, delay_back}
use Rattle.table.specs.declared.Entry.{Entry}
use Rattle.table.specs.Entry.{advertised, entry_in_range, max_delay}
use Rattle.table.proofs.Ranges.{range_says}
use Rattle.net_table.specs.declared.NetTable.{NetTable}
use Rattle.host.specs.declared.Links.{Links}
use Rattle.host.specs.declared.walk.Walk.{Walk}
use Rattle.host.specs.declared.guard.Scope.TheVariants.{OnLink}
use Rattle.host.specs.State.{host_count, link_of}
use Rattle.host.specs.CallState.{CallState, entries_of, our_reading}
use Rattle.host.specs.Guard.{done}
use Rattle.host.proofs.Places.{Holds}
use Rattle.host.proofs.Guarded.{passed, holds, entries_state}
use Rattle.sending.specs.declared.Sending.{Sending}
use Rattle.sending.specs.Message.{table_goes, packet_sent}
use Rattle.sending.specs.Send.{report_count}
use Rattle.calls.specs.Perform.{Call, Outcome, sent_by, perform}
use Rattle.network_laws.specs.HostAfter.{message_of}
use Rattle.network_laws.specs.Network.{Network, state_at}
use Rattle.network_laws.proofs.Performs.{performs}
use Rattle.network_laws.proofs.Sends.{reports, reports_count, sent_message, sent_message_lem}
use Rattle.network_laws.proofs.Lists.{All, all_there, all_map, all_both, every_all}
use Rattle.liveness_laws.proofs.Silence.Invariant.{Reports, Ours, FadeState}

abbrev no_report : Report
no_report = record { delay = max_delay; offset = word (pos 0) }

-- a report of id i, among the others
record Returned (i n id : ℕ) (p : Report) : Type 0 where
  pub low : dn p.delay.0 ≤ 0
  pub high : up p.delay.0 < 65536
  pub least : id ≡ i → less_millis p.delay max_delay ≡ true → n + dn p.delay.0 ≤ up p.delay.0 + 0

module _ (r : Network) (i n b s : ℕ) (few : i < host_count (r.settings b))
    (nets : NetTable) (cl : Clock) (l : Links) (walk : Walk) (copy : List ℕ) (entries : List Entry) (call_state : FadeState r i n b s walk copy entries) (link : ℕ) (k : Counter) where
  abbrev x : CallState
  x = state_at r b nets cl l walk copy entries

  returned : (id : ℕ) (e : Entry) → Ours r i n s id e × (entry_in_range e ≡ true) → Returned i n id (advertised link e)
  unfolding advertised
  returned id e h =
      let d = (range_says e h.1).delay in
      either (λ (m : Millis). Returned i n id record { delay = m; offset = e.offset }) (eqb e.pid link) _ _
      (λ _. record { low = omega arith; high = omega arith; least = λ _ z. absurd (false≢true z) })
      (λ _. record { low = omega arith; high = omega arith; least = λ same z. let a = h.0 same z in omega (arith, a.least) })

  module _ (held : Holds (r.number b) entries) (ranged : All (λ (id : ℕ) (e : Entry). entry_in_range e ≡ true) (entries_of x)) where
    abbrev octets : List ℕ
    octets = sent_message x held link k

    -- the reports, if the table goes
    count : eqb (fields octets).nhosts 0 ≡ false → table_goes (r.settings b) (link_of l link) ≡ true
    count some = go (table_goes (r.settings b) (link_of l link)) refl
      where
        goes_out : (fields octets).nhosts ≡ report_count (r.settings b) (link_of l link)
        goes_out = nhosts_back (link_of l link).neighbor (packet_sent (r.settings b) (link_of l link) (our_reading k x.host).time (our_reading k x.host).clock.date (report_count (r.settings b) (link_of l link))) (reports x held link)

        go : (t : Bool) → table_goes (r.settings b) (link_of l link) ≡ t → t ≡ true
        go true e = refl
        go false e = absurd (true≢false (sym (ap (λ (m : ℕ). eqb m 0) (goes_out ∙ ap (λ (t : Bool). cond t (host_count (r.settings b)) 0) e)) ∙ some))

    sent_reports : Reports i n 0 octets
    sent_reports some =
        let goes = count some in
        let es : All (Returned i n) (map (advertised link) (entries_of x)) =
        all_map (λ (id : ℕ) (e : Entry). Ours r i n s id e × (entry_in_range e ≡ true)) (Returned i n) (advertised link) (entries_of x) (λ id e _. returned id e)
        (all_both (Ours r i n s) (λ (id : ℕ) (e : Entry). entry_in_range e ≡ true) (entries_of x) (call_state.table held) ranged) in
        let all : All (Returned i n) (reports x held link) = rw goes es in
        let size : length (reports x held link) ≡ host_count (r.settings b) = reports_count x held link ∙ ap (λ (t : Bool). cond t (host_count (r.settings b)) 0) goes in
        let there : i < length (reports x held link) = omega arith in
        let t = all_there (Returned i n) no_report (reports x held link) all i there in
        rw (delay_back (link_of l link).neighbor (packet_sent (r.settings b) (link_of l link) (our_reading k x.host).time (our_reading k x.host).clock.date (report_count (r.settings b) (link_of l link))) (reports x held link) i no_report there t.low t.high)
        (t.least refl)

  pub send_reports : (buffer : List ℕ) → done (perform (Call.send link k buffer) x).reply.answer ≡ true → Reports i n 0 (message_of (perform (Call.send link k buffer) x))
  send_reports buffer =
      performs (Call.send link k buffer) x Kept (λ no is. absurd (false≢true (sym no ∙ is)))
      (λ d.
      let p = passed (OnLink link) x d in
      let held = holds (r.number b) entries p.places in
      either (λ (q : Sending). Kept (sent_by q buffer x)) (ltb (length buffer) (packet_length (report_count (r.settings b) (link_of l link)))) _ _
      (λ _ z. absurd (false≢true z))
      (λ _ _. subst (Reports i n 0) (sym (sent_message_lem x held link k buffer)) (sent_reports held (every_all entry_in_range (entries_of x) (entries_state x (p.call_state refl))))))
    where
      Kept : Outcome → Type 0
      Kept o = done o.reply.answer ≡ true → Reports i n 0 (message_of o)
