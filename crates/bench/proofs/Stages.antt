-- What an event needs (a call, a send, an arrival or a note) has its precondition, and its result is that of the event.
use mathlib.Core.Path.{◌≡◌, refl, sym, ap, ◌∙◌, subst, subst⁻¹}
use mathlib.Core.Bool.{true, false}
use mathlib.Core.List.{List}
use Prim.Native.Nat.{ℕ, ◌*◌, ◌≤◌, ◌<◌}
use native.Mathlib.Omega.{arith}
use lib.Dec.{T, eqb}
use lib.ListN.{length, set}
use Rattle.answer.specs.Answer.{number as answered}
use Rattle.answer.specs.declared.Answer.TheVariants.{IpForm}
use Rattle.clock.specs.declared.Counter.{Counter}
use Rattle.net_table.specs.declared.NetTable.{NetTable}
use Rattle.table.specs.declared.Entry.{Entry}
use Rattle.host.specs.declared.Reply.{Reply}
use Rattle.calls.specs.declared.Request.{Request}
use Rattle.calls.proofs.SendKeeps.{keeps}
use Rattle.bench_file.specs.declared.Header.{Header}
use Rattle.bench_file.specs.Records.{end_at, event_at}
use Rattle.bench.specs.declared.HostState.{HostState}
use Rattle.bench.specs.declared.requests.Ask.{Ask}
use Rattle.bench.specs.declared.sends.Sending.{Sending}
use Rattle.bench.specs.declared.takes.Taking.{Taking}
use Rattle.bench.specs.declared.returned.Asking.{Asking}
use Rattle.bench.specs.declared.returned.Going.{Going}
use Rattle.bench.specs.declared.returned.Coming.{Coming}
use Rattle.bench.specs.declared.returned.Returned.{Returned}
use Rattle.bench.specs.declared.returned.Returned.TheVariants as returned
use Rattle.bench.specs.Bench.{Bench, fresh_host, state_at}
use Rattle.bench.specs.Slots.{slot_length, room_of, far_end, empty, slots_good}
use Rattle.bench_file.specs.Absent.{slots, cables_good}
use Rattle.bench_file.specs.code.Sections.{Sections}
use Rattle.bench.specs.Event.{After, asked, sent, taken, kept, carried}
use Rattle.bench.specs.Guard.{lengths_of}
use Rattle.bench.specs.Run.{next}
use Rattle.bench.specs.code.Asks.{AskFits, AskDone, AskLeaves}
use Rattle.bench.specs.code.Sends.{SendFits, SendDone, SendLeaves}
use Rattle.bench.specs.code.Takes.{TakeFits, TakeLeaves}
use Rattle.bench.specs.code.Returned.{EventFits, OnlyAsk, OnlySend, OnlyTake, OnlyNote, ask_of, send_of, take_of, Tells}
use Rattle.bench.specs.code.Turns.{Fits, HostAfter}
use Rattle.bench.proofs.Guards.{Long, long_of}
use Rattle.bench.proofs.Named.{cables_good_lem, event_good_lem}
use Rattle.bench.proofs.Which.{Sendable, Takable, which}

-- ---- which it is

abbrev number : Returned → ℕ
number (returned.Ask w) = 0
number (returned.Send w) = 1
number (returned.Take w) = 2
number returned.Note = 3

-- two that differ
abbrev Same : Returned → Returned → Type 0
Same p q = T (eqb (number p) (number q))

same : (p : Returned) → Same p p
same (returned.Ask w) = tt
same (returned.Send w) = tt
same (returned.Take w) = tt
same returned.Note = tt

apart : {p q : Returned} → p ≡ q → Same p q
apart {p} {q} e = subst (Same p) e (same p)

abbrev ask_in : Asking → Returned → Asking
ask_in d (returned.Ask w) = w
ask_in d (returned.Send w) = d
ask_in d (returned.Take w) = d
ask_in d returned.Note = d

abbrev send_in_lem : Going → Returned → Going
send_in_lem d (returned.Ask w) = d
send_in_lem d (returned.Send w) = w
send_in_lem d (returned.Take w) = d
send_in_lem d returned.Note = d

abbrev take_in : Coming → Returned → Coming
take_in d (returned.Ask w) = d
take_in d (returned.Send w) = d
take_in d (returned.Take w) = w
take_in d returned.Note = d

module _ (file : List ℕ) (t : NetTable) (h : Header) (b : Bench) (f : Fits file h t b) (more : b.done < h.events) where
  long : Long h (lengths_of b)
  long = long_of h (lengths_of b) f.call_state

  -- what the event is read with
  pub event_fits : EventFits file b.slots b.done h
  event_fits =
      record {
        sections = f.sections;
        there = more;
        cables = cables_good_lem t file h f.records;
        good = event_good_lem t file h f.records b.done more;
        room = long.slots;
        slots = f.slots;
      }

  -- ---- one asks what there is

  asks_there : (k : ℕ) (q : Request) → k < h.hosts → AskFits (ask_of file k q) b.hosts b.copies
  asks_there k q l =
      record {
        host = omega (arith, l, f.sections.few_hosts);
        there = omega (arith, l, long.hosts);
        copy = omega (arith, l, long.copies);
      }

  sends_there : (c i n : ℕ) (k : Counter) → Sendable file h c i n → SendFits (send_of file h c i n k) b.hosts b.copies b.slots
  sends_there c i n k s =
      record {
        host = omega (arith, s.host, f.sections.few_hosts);
        there = omega (arith, s.host, long.hosts);
        copy = omega (arith, s.host, long.copies);
        cable = omega (arith, s.cable, f.sections.few_cables);
        side = s.side;
        slot = s.slot;
        room = long.slots;
      }

  takes_there : (n : ℕ) (k : Counter) → Takable file h b.slots n → TakeFits (take_of file b.slots h n k) b.hosts b.copies b.slots
  takes_there n k s =
      record {
        host = omega (arith, s.host, f.sections.few_hosts);
        there = omega (arith, s.host, long.hosts);
        copy = omega (arith, s.host, long.copies);
        slot = s.slot;
        size = s.size;
        room = long.slots;
      }

  -- by which of the four it is
  by_which : (p : Returned) → Tells b.slots (event_at file h b.done) p → (P : After → Type 0)
      → ((k : ℕ) (q : Request) → k < h.hosts → OnlyAsk k q p → P (asked file t h k q b))
      → ((c s n : ℕ) (k : Counter) → Sendable file h c s n → OnlySend c s n k p → P (sent file t h (end_at file h c s) c s n k b))
      → ((n : ℕ) (k : Counter) → empty n b.slots ≡ false → Takable file h b.slots n → OnlyTake n k p → P (taken file t h (far_end file h n b.slots) n k b))
      → (OnlyNote p → P record { bench = b; answer = IpForm })
      → P (carried file t h (event_at file h b.done) b)
  by_which p o P asks sends takes notes =
      which file t h event_fits.cables b f.slots p P asks sends takes notes (event_at file h b.done) event_fits.good o

  -- the state afterwards, by the header of the file
  after_of_lem : {hosts' : List HostState} {entries' : List Entry} {slots' answers' : List ℕ} → HostAfter (kept (carried file t h (event_at file h b.done) b)) hosts' entries' slots' answers' → HostAfter (next file t b) hosts' entries' slots' answers'
  unfolding next
  after_of_lem {hosts'} {entries'} {slots'} {answers'} l = subst (λ (g : Header). HostAfter (kept (carried file t g (event_at file g b.done) b)) hosts' entries' slots' answers') f.header l

  abbrev ask_made : Asking → Ask
  ask_made x = ask_of file x.host x.request

  abbrev send_made : Going → Sending
  send_made x = send_of file h x.cable x.side x.slot x.counter

  abbrev take_made : Coming → Taking
  take_made x = take_of file b.slots h x.slot x.counter

  module _ (x : Asking) (o : Tells b.slots (event_at file h b.done) (returned.Ask x)) where
    pub ask_named : Sections h (length file) × (x.host < h.hosts)
    ask_named =
        by_which (returned.Ask x) o (λ _. Sections h (length file) × (x.host < h.hosts))
        (λ k q l e. (f.sections, subst⁻¹ (λ (y : Asking). y.host < h.hosts) (ap (ask_in x) e) l))
        (λ c s n k l e. absurd (apart e))
        (λ n k em l e. absurd (apart e))
        (λ e. absurd (apart e))

    module _ (w : Ask) (w-is : w ≡ ask_made x) where
      pub ask_fits : AskFits w b.hosts b.copies
      ask_fits =
          by_which (returned.Ask x) o (λ _. AskFits w b.hosts b.copies)
          (λ k q l e. subst⁻¹ (λ (z : Ask). AskFits z b.hosts b.copies) (w-is ∙ ap ask_made (ap (ask_in x) e)) (asks_there k q l))
          (λ c s n k l e. absurd (apart e))
          (λ n k em l e. absurd (apart e))
          (λ e. absurd (apart e))

      pub ask_after : (hosts' : List HostState) (entries' : List Entry) (r : Reply) (answers' : List ℕ) → AskLeaves w t b.hosts b.copies b.entries hosts' entries' r → answers' ≡ set b.answers b.done (answered r.answer) → HostAfter (next file t b) hosts' entries' b.slots answers'
      ask_after hosts' entries' r answers' did is =
          after_of_lem (by_which (returned.Ask x) o (λ (a : After). HostAfter (kept a) hosts' entries' b.slots answers')
          (λ k q l e. let d = subst (λ (z : Ask). AskDone z t b.hosts b.copies b.entries hosts' entries' r (fresh_host file k)) (w-is ∙ ap ask_made (ap (ask_in x) e)) (did (fresh_host file k)) in record { hosts = d.states; entries = d.own_entries; slots = refl; answers = is ∙ ap (λ (q : Reply). set b.answers b.done (answered q.answer)) d.reply })
          (λ c s n k l e. absurd (apart e))
          (λ n k em l e. absurd (apart e))
          (λ e. absurd (apart e)))

  module _ (x : Going) (o : Tells b.slots (event_at file h b.done) (returned.Send x)) where
    pub send_named : Sections h (length file) × (x.cable < h.cables) × (x.side ≤ 1) × ((end_at file h x.cable x.side).host < h.hosts)
    send_named =
        by_which (returned.Send x) o (λ _. Sections h (length file) × (x.cable < h.cables) × (x.side ≤ 1) × ((end_at file h x.cable x.side).host < h.hosts))
        (λ k q l e. absurd (apart e))
        (λ c s n k l e. subst⁻¹ (λ (y : Going). Sections h (length file) × (y.cable < h.cables) × (y.side ≤ 1) × ((end_at file h y.cable y.side).host < h.hosts)) (ap (send_in_lem x) e) (f.sections, l.cable, l.side, l.host))
        (λ n k em l e. absurd (apart e))
        (λ e. absurd (apart e))

    module _ (w : Sending) (w-is : w ≡ send_made x) where
      pub send_fits : SendFits w b.hosts b.copies b.slots
      send_fits =
          by_which (returned.Send x) o (λ _. SendFits w b.hosts b.copies b.slots)
          (λ k q l e. absurd (apart e))
          (λ c s n k l e. subst⁻¹ (λ (z : Sending). SendFits z b.hosts b.copies b.slots) (w-is ∙ ap send_made (ap (send_in_lem x) e)) (sends_there c s n k l))
          (λ n k em l e. absurd (apart e))
          (λ e. absurd (apart e))

      pub send_after : (hosts' : List HostState) (slots' : List ℕ) (r : Reply) (answers' : List ℕ) → SendLeaves w t b.hosts b.copies b.entries b.slots hosts' slots' r → answers' ≡ set b.answers b.done (answered r.answer) → HostAfter (next file t b) hosts' b.entries slots' answers'
      send_after hosts' slots' r answers' did is =
          after_of_lem (by_which (returned.Send x) o (λ (a : After). HostAfter (kept a) hosts' b.entries slots' answers')
          (λ k q l e. absurd (apart e))
          (λ c s n k l e. let d = subst (λ (z : Sending). SendDone z t b.hosts b.copies b.entries b.slots hosts' slots' r (fresh_host file (end_at file h c s).host)) (w-is ∙ ap send_made (ap (send_in_lem x) e)) (did (fresh_host file (end_at file h c s).host)) in record { hosts = d.states; entries = sym (keeps (state_at file t (end_at file h c s).host b) (end_at file h c s).link k (room_of n b.slots)).own_entries; slots = d.slots; answers = is ∙ ap (λ (q : Reply). set b.answers b.done (answered q.answer)) d.reply })
          (λ n k em l e. absurd (apart e))
          (λ e. absurd (apart e)))

  module _ (x : Coming) (o : Tells b.slots (event_at file h b.done) (returned.Take x)) where
    pub take_named : Sections h (length file) × (cables_good file h ≡ true) × (slot_length * slots ≤ length b.slots) × (slots_good h b.slots ≡ true) × (x.slot < slots) × (empty x.slot b.slots ≡ false)
    take_named =
        by_which (returned.Take x) o (λ _. Sections h (length file) × (cables_good file h ≡ true) × (slot_length * slots ≤ length b.slots) × (slots_good h b.slots ≡ true) × (x.slot < slots) × (empty x.slot b.slots ≡ false))
        (λ k q l e. absurd (apart e))
        (λ c s n k l e. absurd (apart e))
        (λ n k em l e. subst⁻¹ (λ (y : Coming). Sections h (length file) × (cables_good file h ≡ true) × (slot_length * slots ≤ length b.slots) × (slots_good h b.slots ≡ true) × (y.slot < slots) × (empty y.slot b.slots ≡ false)) (ap (take_in x) e) (f.sections, event_fits.cables, long.slots, f.slots, l.slot, em))
        (λ e. absurd (apart e))

    module _ (w : Taking) (w-is : w ≡ take_made x) where
      pub take_fits : TakeFits w b.hosts b.copies b.slots
      take_fits =
          by_which (returned.Take x) o (λ _. TakeFits w b.hosts b.copies b.slots)
          (λ k q l e. absurd (apart e))
          (λ c s n k l e. absurd (apart e))
          (λ n k em l e. subst⁻¹ (λ (z : Taking). TakeFits z b.hosts b.copies b.slots) (w-is ∙ ap take_made (ap (take_in x) e)) (takes_there n k l))
          (λ e. absurd (apart e))

      pub take_after : (hosts' : List HostState) (entries' : List Entry) (r : Reply) (answers' : List ℕ) → TakeLeaves w t b.hosts b.copies b.entries b.slots hosts' entries' r → answers' ≡ set b.answers b.done (answered r.answer) → HostAfter (next file t b) hosts' entries' b.slots answers'
      take_after hosts' entries' r answers' did is =
          after_of_lem (by_which (returned.Take x) o (λ (a : After). HostAfter (kept a) hosts' entries' b.slots answers')
          (λ k q l e. absurd (apart e))
          (λ c s n k l e. absurd (apart e))
          (λ n k em l e. let d = subst (λ (z : Taking). TakeLeaves z t b.hosts b.copies b.entries b.slots hosts' entries' r) (w-is ∙ ap take_made (ap (take_in x) e)) did (fresh_host file (far_end file h n b.slots).host) in record { hosts = d.states; entries = d.own_entries; slots = refl; answers = is ∙ ap (λ (q : Reply). set b.answers b.done (answered q.answer)) d.reply })
          (λ e. absurd (apart e)))

  -- the event's answer has a place
  pub answer_fits : b.done < length b.answers
  answer_fits = omega (arith, more, long.answers)

  pub note_after : Tells b.slots (event_at file h b.done) returned.Note → (answers' : List ℕ) → answers' ≡ set b.answers b.done (answered IpForm) → HostAfter (next file t b) b.hosts b.entries b.slots answers'
  note_after o answers' is =
      after_of_lem (by_which returned.Note o (λ (a : After). HostAfter (kept a) b.hosts b.entries b.slots answers')
      (λ k q l e. absurd (apart e)) (λ c s m k l e. absurd (apart e)) (λ m k em l e. absurd (apart e))
      (λ e. record { hosts = refl; entries = refl; slots = refl; answers = is }))
