-- A send keeps a node right, and what it writes is a right message: its time is our reading, its reports are the table's, and its TSP has the bits that the link's TSP and our reading make.
use mathlib.Core.Path.{◌≡◌, refl, sym, subst, ◌∙◌}
use mathlib.Core.Bool.{true, false, true≢false, false≢true}
use mathlib.Core.List.{List}
use Prim.Native.Nat.{ℕ, suc, ◌-◌, ◌≤◌, ◌<◌}
use native.Mathlib.Omega.{arith}
use borrow.Author.Tests.{eqb-false, ne_eqb}
use lib.Dec.{ltb, eqb}
use lib.IntN.{ℤ, ◌+ℤ◌}
use lib.ListN.{length}
use lib.Signed.{◌<ℤ◌}
use Rattle.lists.proofs.Tests.{either}
use Rattle.quantity.specs.declared.Millis.{Millis}
use Rattle.quantity.specs.declared.Word.{Word}
use Rattle.quantity.specs.Words.{zero_word}
use Rattle.quantity.proofs.Ints.{dn, of-<ℤ}
use Rattle.quantity.proofs.Wrap.{wrap_range}
use Rattle.answer.specs.declared.Answer.TheVariants.{Done}
use Rattle.clock.specs.declared.Clock.{Clock}
use Rattle.clock.specs.declared.Counter.{Counter}
use Rattle.clock.specs.declared.Reading.{Reading}
use Rattle.clock.specs.Midnight.{day_millis}
use Rattle.wire.specs.Packet.{packet_length}
use Rattle.table.specs.declared.Entry.{Entry}
use Rattle.table.specs.Entry.{advertised, entry_in_range}
use Rattle.table.proofs.Ranges.{within, range_says, reading_in}
use Rattle.net_table.specs.declared.NetTable.{NetTable}
use Rattle.host.specs.declared.Settings.{Settings}
use Rattle.host.specs.declared.Link.{Link}
use Rattle.host.specs.declared.Links.{Links}
use Rattle.host.specs.declared.walk.Walk.{Walk}
use Rattle.host.specs.declared.guard.Scope.TheVariants.{OnLink}
use Rattle.host.specs.State.{unset, fresh_link, link_of, with_link, no_link}
use Rattle.host.specs.CallState.{CallState, entries_of}
use Rattle.host.specs.Guard.{done}
use Rattle.host.proofs.Places.{Holds}
use Rattle.host.proofs.Guarded.{Passed, passed, holds, counted, entries_state}
use Rattle.sending.specs.declared.Sending.{Sending}
use Rattle.sending.specs.Message.{table_goes, sent_tsp, link_sent, packet_sent}
use Rattle.sending.specs.Send.{report_count, sends}
use Rattle.calls.specs.Perform.{Call, Outcome, sent_by, perform}
use Rattle.network_laws.specs.HostAfter.{message_of}
use Rattle.network_laws.specs.Network.{Network, at, state_at}
use Rattle.network_laws.specs.Demand3.{reading_at}
use Rattle.network_laws.proofs.Performs.{performs}
use Rattle.network_laws.proofs.Sends.{reports, reports_count, sent_message_lem}
use Rattle.exchange.proofs.Steps.{word_same}
use Rattle.network_laws.proofs.Lists.{All, all_at, all_map, all_set, every_all, all_both}
use Rattle.network_laws.proofs.Demand3.Near.{Fits16}
use Rattle.network_laws.proofs.Demand3.Invariant.{RightEntry, RightReport, RightLink, RightLinks, Carries, RightMessage}
use Rattle.network_laws.proofs.Demand3.Outcomes.{RightOutcome, RightState, same_right}

-- a link that is there has a number from 1 on
pub link_from_1 : (s : Settings) (i : ℕ) → no_link s i ≡ false → suc (i - 1) ≡ i
link_from_1 s i e = omega (arith, (counted s i e).from_one)

-- ---- the message of a send at node a on link i, at millisecond t

module _ (r : Network) (a i : ℕ) (inside : a < r.nodes) (nets : NetTable) (c : Clock) (l : Links) (walk : Walk) (copy : List ℕ) (entries : List Entry) (call_state : RightState r a l entries) (there : no_link (r.settings a) i ≡ false) where
  abbrev x : Link
  x = link_of l i

  abbrev whole : CallState
  whole = state_at r a nets c l walk copy entries

  -- the link before the send
  link_right : RightLink r a i x
  link_right =
      subst (λ (n : ℕ). RightLink r a n x) (link_from_1 (r.settings a) i there)
      (all_at (λ (j : ℕ). RightLink r a (suc j)) (fresh_link unset) (λ j b n cable alive. absurd (true≢false alive)) l.all call_state.links (i - 1))

  -- KEEP-ALIVE falls, and TSP stays
  sent_links : RightLinks r a (with_link i (link_sent x) l).all
  sent_links =
      all_set (λ (j : ℕ). RightLink r a (suc j)) (i - 1) (link_sent x)
      (subst (λ (n : ℕ). RightLink r a n (link_sent x)) (sym (link_from_1 (r.settings a) i there))
      (λ b j cable alive. link_right b j cable (ne_eqb x.keep_alive 0 (λ z. eqb-false (x.keep_alive - 1) 0 alive (omega arith)))))
      l.all call_state.links

  -- what is advertised for an entry
  advertised_right : (n : ℕ) (e : Entry) → RightEntry r a n e × (entry_in_range e ≡ true) → RightReport r a n (advertised i e)
  unfolding advertised
  advertised_right n e h =
      let d = (range_says e h.1).delay in
      either (λ (m : Millis). RightReport r a n record { delay = m; offset = e.offset }) (eqb e.pid i) _ _
      (λ t. record { not_negative = omega arith; delay_fits = omega arith; fits = h.0.fits; known = λ low. absurd (false≢true low) })
      (λ t. record { not_negative = omega arith; delay_fits = omega arith; fits = h.0.fits; known = h.0.known })

  module _ (ok : Passed (OnLink i) whole) (k : Counter) (t : ℤ) (clock : (reading_at r a c k).time.0 ≡ t +ℤ r.fixed a) (early : (reading_at r a c k).time.0 <ℤ day_millis.0) where
    abbrev now : Reading
    now = reading_at r a c k

    held : Holds (r.number a) entries
    held = holds (r.number a) entries ok.places

    reads_low : dn now.time.0 ≤ 0
    reads_low = omega (arith, within 86400000 now.time.0 (reading_in (r.settings a).clock_tick (r.settings a).hold_interval k c))

    reports_right : All (RightReport r a) (reports whole held i)
    reports_right =
        either (All (RightReport r a)) (table_goes (r.settings a) x) _ _
        (λ _.
        all_map (λ (n : ℕ) (e : Entry). RightEntry r a n e × (entry_in_range e ≡ true)) (RightReport r a) (advertised i) (entries_of whole)
        (λ n e _. advertised_right n e)
        (all_both (RightEntry r a) (λ (n : ℕ) (e : Entry). entry_in_range e ≡ true) (entries_of whole) (call_state.table held)
        (every_all entry_in_range (entries_of whole) (entries_state whole (ok.call_state refl)))))
        (λ _. tt)

    tsp_fits : Fits16 (sent_tsp x now.time).0
    tsp_fits =
        either (λ (v : Word). Fits16 v.0) (eqb x.keep_alive 0) _ _ (λ _. omega arith)
        (λ _. let w = wrap_range 16 (omega arith) (x.tsp.0 +ℤ now.time.0) in record { high = w.0; low = w.1 })

    tsp_right : (b j : ℕ) → r.cable a i ≡ at b j → zero_word (sent_tsp x now.time) ≡ false → Carries r b t (sent_tsp x now.time).0
    tsp_right b j cable =
        either (λ (v : Word). zero_word v ≡ false → Carries r b t v.0) (eqb x.keep_alive 0) _ _ (λ _ z. absurd (true≢false z))
        (λ alive z.
        let tied = link_right b j cable alive in
        record {
          way = tied.way;
          short = tied.short;
          bits = word_same 16 (omega arith) (r.fixed b) (r.fixed a) t x.tsp.0 now.time.0 tied.way tied.bits clock;
        })

    message_right : (buffer : List ℕ) → RightMessage r record { node = a; link = i; ms = t; octets = message_of (sent_by (sends i k whole.host) buffer whole) }
    message_right buffer =
        record {
          node_in = inside;
          destination = x.neighbor;
          packet = packet_sent (r.settings a) x now.time now.clock.date (report_count (r.settings a) x);
          reports = reports whole held i;
          octets_are = sent_message_lem whole held i k buffer;
          source = refl;
          time = clock;
          time_low = reads_low;
          time_high = omega (arith, of-<ℤ early, reads_low);
          count = sym (reports_count whole held i);
          right = reports_right;
          tsp_fits = tsp_fits;
          tsp = tsp_right;
        }

-- ---- the complete call

-- the network's time of a call of node a
abbrev pub Clocked : (r : Network) (a : ℕ) (c : Clock) (k : Counter) (t : ℤ) → Type 0
Clocked r a c k t = ((reading_at r a c k).time.0 ≡ t +ℤ r.fixed a) × ((reading_at r a c k).time.0 <ℤ day_millis.0)

pub record SendRight (r : Network) (a i : ℕ) (entries : List Entry) (t : ℤ) (o : Outcome) : Type 0 where
  pub node : RightOutcome r a entries o
  pub message : done o.reply.answer ≡ true → RightMessage r record { node = a; link = i; ms = t; octets = message_of o }

pub send_right : (r : Network) (a i : ℕ) → a < r.nodes → (nets : NetTable) (c : Clock) (l : Links) (walk : Walk) (copy : List ℕ) (entries : List Entry) → RightState r a l entries → (k : Counter) (buffer : List ℕ) (t : ℤ)
    → ((perform (Call.send i k buffer) (state_at r a nets c l walk copy entries)).reply.answer ≡ Done → Clocked r a c k t)
    → SendRight r a i entries t (perform (Call.send i k buffer) (state_at r a nets c l walk copy entries))
send_right r a i inside nets c l walk copy entries call_state k buffer t =
    performs (Call.send i k buffer) x Kept
    (λ d _. record { node = same_right r a l entries call_state; message = λ e. absurd (false≢true (sym d ∙ e)) })
    (λ d.
    let p = passed (OnLink i) x d in
    either (λ (s : Sending). Kept (sent_by s buffer x)) (ltb (length buffer) (packet_length (report_count (r.settings a) (link_of l i)))) _ _
    (λ _ _. record { node = same_right r a l entries call_state; message = λ e. absurd (false≢true e) })
    (λ _ time.
    let now = time refl in
    record {
      node =
          record {
            links = sent_links r a i inside nets c l walk copy entries call_state (p.link i refl);
            table = call_state.table;
            same_length = refl;
          };
      message = λ _. message_right r a i inside nets c l walk copy entries call_state (p.link i refl) p k t now.0 now.1 buffer;
    }))
  where
    x : CallState
    x = state_at r a nets c l walk copy entries

    Kept : Outcome → Type 0
    Kept o = (o.reply.answer ≡ Done → Clocked r a c k t) → SendRight r a i entries t o
