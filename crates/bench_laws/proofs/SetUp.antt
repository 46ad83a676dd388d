-- Set-up initializes the hosts in rising order. A run does not refuse the bench afterwards: its slots are empty.
use mathlib.Core.Path.{◌≡◌, refl, sym, ◌∙◌, ap}
use mathlib.Core.Bool.{Bool, true, false, not, ◌&&◌}
use mathlib.Core.List.{List, [], ◌∷◌, map}
use Prim.Native.Nat.{ℕ, zero, suc, ◌+◌, ◌*◌, ◌≤◌, ◌<◌}
use native.Mathlib.Omega.{arith}
use borrow.Author.Tests.{ltb-true, ltb-false, le-ltb, leb-true, le-leb}
use lib.Dec.{ltb}
use lib.ListN.{length, get_or, take, drop, length-set, length-append, length-map, length-take, length-drop, get_or-append}
use Rattle.lists.proofs.Tests.{both, neither, is_so}
use Rattle.answer.specs.declared.Answer.TheVariants.{Done}
use Rattle.net_table.specs.declared.NetTable.{NetTable}
use Rattle.table.specs.Forms.{up_from}
use Rattle.host.specs.Settings.{settings_fit}
use Rattle.host.specs.State.{places_per_host, first_place}
use Rattle.host.specs.Guard.{no_places, guard}
use Rattle.calls.specs.declared.Request.TheVariants.{Initialize}
use Rattle.calls.specs.Effects.{initialize}
use Rattle.calls.specs.Perform.{ask, perform}
use Rattle.bench_file.specs.declared.Header.{Header}
use Rattle.octets.specs.Octets.{octet_at}
use Rattle.bench_file.specs.Header.{header_length, most_hosts, header_fits}
use Rattle.bench_file.specs.Settings.{host_record, settings_at, marks_good, host_good, hosts_good}
use Rattle.bench_file.specs.Absent.{slots, cables_good, events_good}
use Rattle.bench.specs.Answer.{passes}
use Rattle.bench.specs.Bench.{Bench, state_at}
use Rattle.bench.specs.Slots.{slot_length, slot_place, slot_good, slots_good, empty, zeros}
use Rattle.bench.specs.Guard.{records_good, set_up_guard}
use Rattle.bench.specs.Event.{asked}
use Rattle.bench.specs.Run.{header, all_set, set_up}
use Rattle.network_laws.specs.Isolation.{shared_after_all, Shared}
use Rattle.network_laws.proofs.Demand1.Frame.{kept_places}
use Rattle.bench_laws.specs.Calls.{shared_of, call_at}
use Rattle.bench.proofs.Initialized.{beside}
use Rattle.bench.proofs.Each.{one_of, all_of}
use Rattle.bench_laws.proofs.Guards.{Ready, ready}
use Rattle.bench_laws.proofs.Called.{plain, one_call}

-- ---- zeros

abbrev zeroed : List ℕ → List ℕ
zeroed l = map (λ (_ : ℕ). 0) l

all_zero : (l : List ℕ) (i : ℕ) → octet_at (zeroed l) i ≡ 0
all_zero [] i = refl
all_zero (x ∷ l) zero = refl
all_zero (x ∷ l) (suc i) = all_zero l i

past_end : (l : List ℕ) (i : ℕ) → length l ≤ i → get_or l i 0 ≡ 0
past_end [] i h = refl
past_end (x ∷ l) zero h = absurd (omega arith)
past_end (x ∷ l) (suc i) h = past_end l i (omega arith)

pub zeros_length : (n : ℕ) (o : List ℕ) → length (zeros n o) ≡ length o
zeros_length n o = simp (length-append, length-map, length-take, length-drop) (omega arith)

zero_there : (n : ℕ) (o : List ℕ) (i : ℕ) → i < n → octet_at (zeros n o) i ≡ 0
zero_there n o i h = go (ltb i (length o)) refl
  where
    front : length (zeroed (take n o)) ≡ length (take n o)
    front = length-map (take n o) (λ (_ : ℕ). 0)

    go : (c : Bool) → ltb i (length o) ≡ c → octet_at (zeros n o) i ≡ 0
    go true e =
        let l = ltb-true i (length o) e in
        get_or-append (zeroed (take n o)) (drop n o) 0 i (omega (arith, front, length-take n o)) ∙ all_zero (take n o) i
    go false e = past_end (zeros n o) i (omega (arith, ltb-false i (length o) e, zeros_length n o))

pub zeros_empty : (o : List ℕ) (s : ℕ) → s < slots → empty s (zeros (slot_length * slots) o) ≡ true
zeros_empty o s h = rw (zero_there (slot_length * slots) o (slot_place s) (omega arith), zero_there (slot_length * slots) o (slot_place s + 1) (omega arith))

zeros_good : (h : Header) (o : List ℕ) → slots_good h (zeros (slot_length * slots) o) ≡ true
unfolding slots_good
zeros_good h o = all_of (slot_good h (zeros (slot_length * slots) o)) 0 slots (λ s l i. rw (zeros_empty o s i))

module _ (file : List ℕ) (t : NetTable) where
  abbrev h : Header
  h = header file t

  -- ---- what set-up does not refuse a run does not refuse, with empty slots and nothing done

  abbrev emptied : Bench → Bench
  emptied b = record { hosts = b.hosts; copies = b.copies; entries = b.entries; slots = zeros (slot_length * slots) b.slots; answers = b.answers; done = 0 }

  emptied_ready : (b : Bench) → passes (set_up_guard t file b) ≡ true → Ready t file (emptied b)
  emptied_ready b e =
      ready t file (emptied b) (rw (zeros_good h b.slots, zeros_length (slot_length * slots) b.slots, le-leb 0 h.events (omega arith)) e)

  -- ---- the initializations

  pub record Longs (b c : Bench) : Type 0 where
    pub hosts : length c.hosts ≡ length b.hosts
    pub entries : length c.entries ≡ length b.entries

  pub all_long : (k n : ℕ) (b : Bench) → Longs b (all_set file t k n b)
  unfolding all_set
  all_long k zero b = record { hosts = refl; entries = refl }
  all_long k (suc n) b =
      let l = all_long (suc k) n (asked file t h k Initialize b).bench in
      record { hosts = l.hosts ∙ simp length-set; entries = l.entries ∙ (kept_places (ask Initialize) (state_at file t k b)).same_length }

  pub set_up_ready : (b : Bench) → passes (set_up_guard t file b) ≡ true → Ready t file (set_up file t b)
  unfolding set_up
  set_up_ready b e =
      let r = emptied_ready b e in
      let l = all_long 0 h.hosts b in
      let k = beside file t 0 h.hosts b in
      record {
        header_good = r.header_good;
        records = r.records;
        long = record {
          entries = rw l.entries r.long.entries;
          hosts = rw l.hosts r.long.hosts;
          copies = rw k.copies r.long.copies;
          slots = rw k.slots r.long.slots;
          answers = rw (zeros_length h.events (all_set file t 0 h.hosts b).answers, k.answers) r.long.answers;
        };
        slots_good_lem = zeros_good h (all_set file t 0 h.hosts b).slots;
        done = omega arith;
        table = r.table;
      }

  pub all_calls : (k n : ℕ) (b : Bench) → k + n ≤ length b.hosts
      → shared_of file (all_set file t k n b) ≡ shared_after_all (shared_of file b) (map (λ (j : ℕ). call_at file t j (ask Initialize)) (up_from k n))
  unfolding all_set shared_after_all
  all_calls k zero b l = refl
  all_calls k (suc n) b l =
      all_calls (suc k) n (asked file t h k Initialize b).bench (rw (length-set) (omega arith))
      ∙ ap (λ (w : Shared). shared_after_all w (map (λ (j : ℕ). call_at file t j (ask Initialize)) (up_from (suc k) n)))
      (sym (one_call file t k (ask Initialize) b (omega arith) (plain (ask Initialize) refl)))

  pub set_up_calls_lem : (b : Bench) → passes (set_up_guard t file b) ≡ true
      → shared_of file (set_up file t b) ≡ shared_after_all (shared_of file b) (map (λ (j : ℕ). call_at file t j (ask Initialize)) (up_from 0 h.hosts))
  unfolding set_up
  set_up_calls_lem b e = all_calls 0 h.hosts b (omega (arith, (emptied_ready b e).long.hosts))

  -- ---- none of them is refused

  module _ (b : Bench) (e : passes (set_up_guard t file b) ≡ true) where
    r : Ready t file (emptied b)
    r = emptied_ready b e

    -- at most 16 hosts
    sixteen : h.hosts ≤ 16
    unfolding header_fits
    sixteen =
        let fits : header_fits h (length file) ≡ true = is_so (header_fits h (length file)) (neither (ltb (length file) header_length) (not (header_fits h (length file))) r.header_good).1 in
        leb-true h.hosts most_hosts (both _ _ (both _ _ (both _ _ fits).0).0).0

    fit : (k : ℕ) → k < h.hosts → settings_fit t (settings_at file k) ≡ true
    unfolding records_good hosts_good
    fit k l =
        let all = (both (hosts_good t file h) (cables_good file h && events_good file h) r.records).0 in
        (both (marks_good (host_record file k)) (settings_fit t (settings_at file k)) (one_of (λ (j : ℕ). host_good t (host_record file j)) 0 h.hosts k all (omega arith) (omega arith))).1

    pub was_initialized : (k : ℕ) → k < h.hosts → (perform (ask Initialize) (state_at file t k (all_set file t 0 k b))).reply.answer ≡ Done
    unfolding perform guard no_places initialize
    was_initialized k l =
        let long : length (all_set file t 0 k b).entries ≡ length b.entries = (all_long 0 k b).entries in
        let there : ltb (length (all_set file t 0 k b).entries) (first_place k + places_per_host) ≡ false = le-ltb (length (all_set file t 0 k b).entries) (first_place k + places_per_host) (omega (arith, long, r.long.entries)) in
        let few : ltb 15 k ≡ false = le-ltb 15 k (omega (arith, sixteen)) in
        rw (r.table, few, there, fit k l) refl
