-- n turns are n steps, and the precondition of each is true.
use mathlib.Core.Path.{◌≡◌, refl, sym, ◌∙◌, ap, subst, subst⁻¹}
use mathlib.Core.Bool.{true}
use mathlib.Core.List.{List}
use Prim.Native.Nat.{ℕ, zero, suc, ◌+◌, ◌-◌, ◌*◌, ◌≤◌, ◌<◌, min}
use native.Mathlib.Omega.{arith}
use borrow.Author.Tests.{ltb-true, lt-ltb}
use lib.Dec.{ltb}
use lib.ListN.{length}
use Rattle.net_table.specs.declared.NetTable.{NetTable}
use Rattle.table.specs.declared.Entry.{Entry}
use Rattle.bench_file.specs.declared.Header.{Header}
use Rattle.bench_file.specs.Records.{event_at}
use Rattle.bench_file.specs.Absent.{slots}
use Rattle.bench.specs.declared.HostState.{HostState}
use Rattle.bench.specs.declared.Lengths.{Lengths}
use Rattle.bench.specs.declared.returned.Turns.{Turns}
use Rattle.bench.specs.Bench.{Bench, bench}
use Rattle.bench.specs.Slots.{slot_length, slots_good}
use Rattle.bench.specs.Guard.{records_good, lengths_of, lengths_fit}
use Rattle.bench.specs.Run.{header, next, steps}
use Rattle.bench.specs.code.Turns.{Fits, TurnsFit, HostAfter}
use Rattle.bench.proofs.Guards.{long_of}
use Rattle.bench.proofs.Named.{event_good_lem}
use Rattle.bench.proofs.Kept.{slots_kept}
use Rattle.bench.proofs.Runs.{in_two, keeps, how_many, kept_copies}

-- ---- the labels stay good

module _ (file : List ℕ) (t : NetTable) where
  -- slots that an event may be carried out with
  abbrev pub Labelled : Bench → Type 0
  Labelled b = (slot_length * slots ≤ length b.slots) × (slots_good (header file t) b.slots ≡ true)

  next_labelled : records_good t file (header file t) ≡ true → (b : Bench) → Labelled b → ltb b.done (header file t).events ≡ true → Labelled (next file t b)
  unfolding next
  next_labelled records b l e =
      let good = event_good_lem t file (header file t) records b.done (ltb-true b.done (header file t).events e) in
      let s = slots_kept file t (header file t) b l.0 (event_at file (header file t) b.done) good in
      (rw s.long l.0, s.good l.1)

  pub labelled : records_good t file (header file t) ≡ true → (n : ℕ) (b : Bench) → Labelled b → Labelled (steps file t n b)
  labelled records n b l = keeps file t Labelled (next_labelled records) n b l

  -- ---- one step

  one_step : (b : Bench) → b.done < (header file t).events → steps file t (suc zero) b ≡ next file t b
  unfolding steps
  one_step b more = rw (lt-ltb b.done (header file t).events more)

-- ---- the state after n turns

module _ (file : List ℕ) (t : NetTable) (hosts : List HostState) (copies : List ℕ) (entries : List Entry) (slots answers : List ℕ) (w : Turns) where
  abbrev start : Bench
  start = bench hosts copies entries slots answers w.first

  pub no_turn : HostAfter (steps file t 0 start) hosts entries slots answers
  unfolding steps
  no_turn = record { hosts = refl; entries = refl; slots = refl; answers = refl }

  -- before another turn
  module _ (a : TurnsFit file w t start) (n i : ℕ) (is : w.first + n ≡ i) (on : i < w.end)
      (hosts' : List HostState) (entries' : List Entry) (slots' answers' : List ℕ) (l : HostAfter (steps file t n start) hosts' entries' slots' answers') where
    -- as a bench
    abbrev afterwards : Bench
    afterwards = bench hosts' copies entries' slots' answers' i

    more : i < (header file t).events
    more =
        subst (λ (g : Header). i < g.events) a.fits.header (omega (arith, a.there))

    here : afterwards ≡ steps file t n start
    here =
        let c : copies ≡ (steps file t n start).copies = sym (kept_copies file t n start) in
        let few : w.first ≤ (header file t).events = omega (arith, more, is) in
        let m : w.first + min n ((header file t).events - w.first) ≡ i = omega (arith, more, is) in
        let d : i ≡ (steps file t n start).done = sym m ∙ sym (how_many file t n start few) in
        λ j. bench (l.hosts j) (c j) (l.entries j) (l.slots j) (l.answers j) (d j)

    next_is : next file t afterwards ≡ steps file t (suc n) start
    next_is =
        let s : n + suc zero ≡ suc n = omega arith in
        sym (one_step file t afterwards more)
        ∙ ap (steps file t (suc zero)) here
        ∙ in_two file t n (suc zero) start
        ∙ ap (λ (k : ℕ). steps file t k start) s

    pub one_turn : (hosts'' : List HostState) (entries'' : List Entry) (slots'' answers'' : List ℕ) → HostAfter (next file t afterwards) hosts'' entries'' slots'' answers'' → HostAfter (steps file t (suc n) start) hosts'' entries'' slots'' answers''
    one_turn hosts'' entries'' slots'' answers'' d = subst (λ (b : Bench). HostAfter b hosts'' entries'' slots'' answers'') next_is d

    pub may : length hosts' ≡ length hosts → length entries' ≡ length entries → length slots' ≡ length slots → length answers' ≡ length answers
        → Fits file w.header t afterwards × (i < w.header.events)
    may hosts_long entries_long slots_long answers_long =
        let f = a.fits in
        let same : lengths_of afterwards ≡ lengths_of start =
        λ j. record { entries = entries_long j; hosts = hosts_long j; copies = length copies; slots = slots_long j; answers = answers_long j } in
        let records : records_good t file (header file t) ≡ true = subst (λ (g : Header). records_good t file g ≡ true) f.header f.records in
        let good : slots_good (header file t) slots ≡ true = subst (λ (g : Header). slots_good g slots ≡ true) f.header f.slots in
        let labels : Labelled file t (steps file t n start) = labelled file t records n start ((long_of w.header (lengths_of start) f.call_state).slots, good) in (
          record {
            header = f.header;
            sections = f.sections;
            records = f.records;
            call_state = subst⁻¹ (λ (m : Lengths). lengths_fit w.header m ≡ true) same f.call_state;
            slots = subst⁻¹ (λ (g : Header). slots_good g slots' ≡ true) f.header (ap (λ (b : Bench). slots_good (header file t) b.slots) here ∙ labels.1);
          },
          omega (arith, a.there),
        )
