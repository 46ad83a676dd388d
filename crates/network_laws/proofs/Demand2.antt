-- What a send writes is read back, and has the layout of its writer.
use Rattle.std.specs.Prelude.{Result, Ok, Err}
use mathlib.Core.Path.{◌≡◌, refl, sym, ap, ◌∙◌}
use mathlib.Core.Bool.{Bool, true, false, true≢false, false≢true, cond, not, ◌&&◌, ◌||◌}
use mathlib.Core.List.{List, [], ◌∷◌, map}
use Prim.Native.Nat.{ℕ, suc, ◌<◌}
use native.Mathlib.Omega.{arith}
use borrow.Author.Tests.{eq-eqb}
use lib.Dec.{ltb, eqb}
use lib.IntN.{◌+ℤ◌}
use lib.ListN.{length, get_or}
use Rattle.lists.proofs.Tests.{either, both}
use Rattle.quantity.specs.declared.Millis.{Millis}
use Rattle.quantity.specs.declared.Word.{Word}
use Rattle.quantity.proofs.Ints.{to-≤ℤ, to-<ℤ}
use Rattle.quantity.proofs.Wrap.{wrap_range}
use Rattle.answer.specs.declared.Answer.{Answer}
use Rattle.answer.specs.declared.Answer.TheVariants.{Done, OtherLayout, LoopedLine}
use Rattle.clock.specs.Midnight.{day_millis}
use Rattle.clock.specs.declared.Counter.{Counter}
use Rattle.wire.specs.declared.Packet.{Packet}
use Rattle.wire.specs.declared.Report.{Report}
use Rattle.wire.specs.Packet.{packet_length, parse}
use Rattle.wire.specs.code.Ranges.{SignedTwo, Four, ReportFits, ReportsFit}
use Rattle.wire.specs.ReadBack.{MessageFits, ReadBack}
use Rattle.wire.proofs.ReadBack.{message_is_back}
use Rattle.table.specs.declared.Entry.{Entry}
use Rattle.table.specs.Forms.{every}
use Rattle.table.specs.Entry.{fresh_entry, advertised, up_to, entry_in_range}
use Rattle.table.proofs.Ranges.{within, range_says, reading_in}
use Rattle.host.specs.declared.Settings.{Settings}
use Rattle.host.specs.declared.Link.{Link}
use Rattle.host.specs.declared.guard.Scope.TheVariants.{OnLink}
use Rattle.host.specs.State.{host_count, link_of}
use Rattle.host.specs.CallState.{CallState, entries_of, our_reading}
use Rattle.host.specs.Guard.{done}
use Rattle.host.proofs.Places.{Holds}
use Rattle.host.proofs.Sound.{sound}
use Rattle.host.proofs.Guarded.{Passed, passed, holds, entries_state}
use Rattle.sending.specs.declared.Sending.{Sending}
use Rattle.sending.specs.Message.{table_goes, sent_tsp, packet_sent}
use Rattle.sending.specs.Send.{report_count, sends}
use Rattle.host.specs.Inspection.{other_layout, looped, inspected, inspect}
use Rattle.calls.specs.Perform.{Call, Outcome, sent_by}
use Rattle.network_laws.specs.HostAfter.{message_of}
use Rattle.network_laws.specs.Heard.{Typed, Heard}
use Rattle.network_laws.proofs.Performs.{performs}
use Rattle.network_laws.proofs.Sends.{reports, reports_count, sent_message_lem}

-- ---- the fields fit their octets

report_fits : (pid : ℕ) (e : Entry) → entry_in_range e ≡ true → SignedTwo e.offset.0 → ReportFits (advertised pid e)
unfolding advertised
report_fits pid e good offset =
    let d = (range_says e good).delay in
    either (λ (m : Millis). ReportFits record { delay = m; offset = e.offset }) (eqb e.pid pid) _ _
    (λ _. record { delay = record { not_below = to-≤ℤ _ _ (omega arith); below = to-<ℤ _ _ (omega arith) }; offset = offset })
    (λ _. record { delay = record { not_below = to-≤ℤ _ e.delay.0 (omega arith); below = to-<ℤ e.delay.0 _ (omega arith) }; offset = offset })

reports_fit : (pid : ℕ) (es : List Entry) → every entry_in_range es ≡ true → ((id : ℕ) → SignedTwo (get_or es id fresh_entry).offset.0)
    → ReportsFit (map (advertised pid) es)
reports_fit pid [] good offsets = tt
reports_fit pid (e ∷ es) good offsets =
    let g = both (entry_in_range e) (every entry_in_range es) good in
    (report_fits pid e g.0 (offsets 0), reports_fit pid es g.1 (λ id. offsets (suc id)))

tsp_fits : (x : Link) (time : Millis) → SignedTwo (sent_tsp x time).0
tsp_fits x time =
    either (λ (v : Word). SignedTwo v.0) (eqb x.keep_alive 0) _ _
    (λ _. record { not_below = to-≤ℤ _ _ (omega arith); below = to-<ℤ _ _ (omega arith) })
    (λ _.
    let w = wrap_range 16 (omega arith) (x.tsp.0 +ℤ time.0) in
    record { not_below = to-≤ℤ _ _ (omega arith); below = to-<ℤ _ _ (omega arith) })

-- a time of the day
time_fits : (m : Millis) → up_to day_millis m ≡ true → Four m.0
time_fits m e =
    let w = within 86400000 m.0 e in
    record { not_below = to-≤ℤ _ m.0 (omega arith); below = to-<ℤ m.0 _ (omega arith) }

-- ---- a send that was done

module _ (i : ℕ) (k : Counter) (buffer : List ℕ) (x : CallState) (typed : Typed x i k) (ok : Passed (OnLink i) x) where
  there : Holds x.number x.entries
  there = holds x.number x.entries ok.places

  abbrev s : Settings
  s = x.host.settings

  abbrev l : Link
  l = link_of x.host.links i

  abbrev rs : List Report
  rs = reports x there i

  abbrev p : Packet
  p = packet_sent s l (our_reading k x.host).time (our_reading k x.host).clock.date (report_count s l)

  fits : MessageFits l.neighbor p rs
  fits =
      record {
        destination_fits = typed.neighbor;
        source_fits = typed.address;
        packet_fits_lem = record {
          date = typed.date;
          time = time_fits (our_reading k x.host).time (reading_in s.clock_tick s.hold_interval k x.host.clock);
          tsp = tsp_fits l (our_reading k x.host).time;
        };
        address_offset_fits = typed.address_offset;
        nhosts_fits = either (λ (n : ℕ). n < 256) (table_goes s l) (host_count s) 0 (λ _. omega arith) (λ _. omega arith);
        count = sym (reports_count x there i);
        reports_fit =
            either ReportsFit (table_goes s l) _ _ (λ _. reports_fit i (entries_of x) (entries_state x (ok.call_state refl)) typed.offsets) (λ _. tt);
      }

  ours : (t : Settings) → t.layout ≡ s.layout → other_layout t p ≡ false
  unfolding other_layout
  ours t same =
      rw same
      (either
      (λ (n : ℕ). not (eqb n 0) && (not (eqb n s.layout.nhosts) || not (eqb s.layout.address_offset s.layout.address_offset)) ≡ false)
      (table_goes s l) (host_count s) 0
      (λ _.
      let all : host_count s ≡ s.layout.nhosts = omega (arith, (sound s ok.settings).hosts_to) in
      rw (eq-eqb (host_count s) s.layout.nhosts all, eq-eqb s.layout.address_offset _ refl) (never (not (eqb (host_count s) 0))))
      (λ _. refl))
    where
      never : (b : Bool) → b && false ≡ false
      never true = refl
      never false = refl

  -- what can still refuse it
  left : (t : Settings) → t.layout ≡ s.layout → (j : ℕ) (a : Answer)
      → inspect t j (message_of (sent_by (sends i k x.host) buffer x)) ≡ Err a → a ≡ LoopedLine
  unfolding inspect ReadBack
  left t same j a e = go (looped t j p) (sym read ∙ e)
    where
      read : inspect t j (message_of (sent_by (sends i k x.host) buffer x)) ≡ cond (looped t j p) (Err LoopedLine) (Ok p)
      read =
          ap (λ (o : List ℕ). inspected t j (parse o)) (sent_message_lem x there i k buffer)
          ∙ ap (inspected t j) (message_is_back l.neighbor p rs fits)
          ∙ ap (λ (b : Bool). cond b (Err OtherLayout) (cond (looped t j p) (Err LoopedLine) (Ok p))) (ours t same)

      answer : Result Packet Answer → Answer
      answer (Err b) = b
      answer (Ok q) = LoopedLine

      go : (b : Bool) → cond b (Err LoopedLine) (Ok p) ≡ Err a → a ≡ LoopedLine
      go true d = ap answer (sym d)
      go false d = ap answer (sym d)

-- what is claimed of a send with this state afterwards
abbrev Claim : CallState → Outcome → Type 0
Claim x o =
    o.reply.answer ≡ Done → (t : Settings) → t.layout ≡ x.host.settings.layout → (j : ℕ) (a : Answer) → inspect t j (message_of o) ≡ Err a → a ≡ LoopedLine

pub heard_holds : Heard
unfolding Heard
heard_holds i k buffer x typed =
    performs (Call.send i k buffer) x (Claim x)
    (λ refused is. absurd (true≢false (sym (ap done is) ∙ refused)))
    (λ e.
    either (λ (p : Sending). Claim x (sent_by p buffer x))
    (ltb (length buffer) (packet_length (report_count x.host.settings (link_of x.host.links i)))) _ _
    (λ _ is. absurd (false≢true (ap done is)))
    (λ _ _. left i k buffer x typed (passed (OnLink i) x e)))
