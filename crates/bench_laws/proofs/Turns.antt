-- A run is its events' calls, one after the other; and so is set-up.
use mathlib.Core.Path.{◌≡◌, refl, sym, ◌∙◌, ap}
use mathlib.Core.Bool.{Bool, true, false}
use mathlib.Core.List.{List, [], ◌∷◌, ◌++◌, flatten, append_assoc}
use Prim.Native.Nat.{ℕ, zero, suc, ◌+◌, ◌-◌, ◌<◌}
use native.Mathlib.Omega.{arith}
use borrow.Author.Tests.{ltb-true}
use lib.Dec.{ltb}
use lib.ListN.{length, set}
use lib.Seq.{take-suc-set, drop-set-lt}
use Rattle.lists.specs.Lists.{over}
use Rattle.lists.proofs.Parts.{over_nothing}
use Rattle.lists.proofs.Tests.{both}
use Rattle.answer.specs.Answer.{number}
use Rattle.answer.specs.declared.Answer.TheVariants.{IpForm}
use Rattle.net_table.specs.declared.NetTable.{NetTable}
use Rattle.bench_file.specs.declared.Header.{Header}
use Rattle.bench_file.specs.declared.Event.{Event}
use Rattle.bench_file.specs.declared.Event.TheVariants.{Tick, Adjust, Set, Second, SelfReport, Send, Arrival, Unknown}
use Rattle.bench_file.specs.Records.{event_at}
use Rattle.bench_file.specs.Absent.{mark_good, event_good}
use Rattle.bench.specs.Bench.{Bench}
use Rattle.bench.specs.Slots.{label_of}
use Rattle.bench.specs.Event.{After, carried}
use Rattle.bench.specs.Run.{header, next, steps}
use Rattle.network_laws.specs.Isolation.{SharedEvent, Shared, shared_after, shared_after_all}
use Rattle.bench_laws.specs.Calls.{shared_of, calls_of, turns, answers_of, last_answer}
use Rattle.bench.proofs.Named.{cables_good_lem, event_good_lem, end_host, filled, send_names, arrival_names}
use Rattle.bench.proofs.Runs.{same_done}
use Rattle.bench_laws.proofs.Events.{carries}
use Rattle.bench_laws.proofs.Guards.{Ready, next_ready}
use Rattle.bench_laws.proofs.Called.{Made, State-hosts, made}

-- calls of two lists, one after the other
after_both : (w : Shared) (es fs : List SharedEvent) → shared_after_all w (es ++ fs) ≡ shared_after_all (shared_after_all w es) fs
unfolding shared_after_all
after_both w [] fs = refl
after_both w (e ∷ es) fs = after_both (shared_after w e) es fs

-- an answer kept, and others after it
over_cons : (l : List ℕ) (d a : ℕ) (r : List ℕ) → d < length l → over (set l d a) (suc d) r ≡ over l d (a ∷ r)
over_cons l d a r h =
    let m : suc d + length r ≡ d + suc (length r) = omega arith in
    rw (take-suc-set l d a h, drop-set-lt (suc d + length r) l d a (omega arith), m) (simp append_assoc)

module _ (file : List ℕ) (t : NetTable) where
  abbrev h : Header
  h = header file t

  -- ---- the hosts of an event's calls are there

  module _ (b : Bench) (r : Ready t file b) where
    inside : {k : ℕ} → k < h.hosts → k < length b.hosts
    inside l = omega (arith, l, r.long.hosts)

    pub hosts_there : (e : Event) → event_good h e ≡ true → State-hosts file t b e
    hosts_there (Tick k n) g = inside (ltb-true k h.hosts g)
    hosts_there (Adjust k n) g = inside (ltb-true k h.hosts g)
    hosts_there (Set k ms n) g = inside (ltb-true k h.hosts g)
    hosts_there (Second k) g = inside (ltb-true k h.hosts g)
    hosts_there (SelfReport k n) g = inside (ltb-true k h.hosts (both (ltb k h.hosts) (mark_good n) g).0)
    hosts_there (Send c i n k) g =
        let s = send_names h c i n k g in
        inside (end_host file h (cables_good_lem t file h r.records) c i s.0 s.1)
    hosts_there (Arrival n k) g = λ full.
        let f = filled h b.slots r.slots_good_lem n (arrival_names h n k g) full in
        inside (end_host file h (cables_good_lem t file h r.records) (label_of n b.slots).cable (1 - (label_of n b.slots).end) f.1 (omega arith))
    hosts_there Unknown g = tt

  -- ---- a run

  pub record Turned (n : ℕ) (b : Bench) : Type 0 where
    pub after_same : shared_of file (steps file t n b) ≡ shared_after_all (shared_of file b) (flatten (turns file t n b))
    pub answers_same : (steps file t n b).answers ≡ over b.answers b.done (answers_of (shared_of file b) (turns file t n b))
    pub count_same : (steps file t n b).done ≡ b.done + length (turns file t n b)

  -- one event, and a run after it
  module _ (n : ℕ) (b : Bench) (r : Ready t file b) (q : ltb b.done h.events ≡ true) (rest : Turned n (next file t b)) where
    abbrev e : Event
    e = event_at file h b.done

    abbrev a : After
    a = carried file t h e b

    abbrev behind : List (List SharedEvent)
    behind = turns file t n (next file t b)

    good : event_good h e ≡ true
    good = event_good_lem t file h r.records b.done (ltb-true b.done h.events q)

    m : Made file t (calls_of file t e b) b a
    m = made file t b e (hosts_there b r e good)

    lefts : shared_of file (steps file t n (next file t b)) ≡ shared_after_all (shared_of file b) (calls_of file t e b ++ flatten behind)
    unfolding next
    lefts =
        rest.after_same ∙ ap (λ (w : Shared). shared_after_all w (flatten behind)) m.after_same
        ∙ sym (after_both (shared_of file b) (calls_of file t e b) (flatten behind))

    -- the answer kept
    kept_answer : (next file t b).answers ≡ set b.answers b.done (number (last_answer IpForm (shared_of file b) (calls_of file t e b)))
    unfolding next
    kept_answer =
        let s = carries file t h b r.long.slots e good in
        λ i. set (s.answers i) (same_done file t h e b i) (number (m.answer_same i))

    one_done : (next file t b).done ≡ suc b.done
    unfolding next
    one_done = ap suc (same_done file t h e b)

    answers : (steps file t n (next file t b)).answers
        ≡ over b.answers b.done (number (last_answer IpForm (shared_of file b) (calls_of file t e b)) ∷ answers_of (shared_after_all (shared_of file b) (calls_of file t e b)) behind)
    unfolding next
    answers =
        let w : shared_of file (next file t b) ≡ shared_after_all (shared_of file b) (calls_of file t e b) = m.after_same in
        rest.answers_same ∙ (λ i. over (kept_answer i) (one_done i) (answers_of (w i) behind))
        ∙ over_cons b.answers b.done _ (answers_of (shared_after_all (shared_of file b) (calls_of file t e b)) behind)
        (omega (arith, ltb-true b.done h.events q, r.long.answers))

  pub turned : (n : ℕ) (b : Bench) → Ready t file b → Turned n b
  unfolding steps turns flatten shared_after_all answers_of
  turned zero b r = record { after_same = refl; answers_same = sym (over_nothing b.done b.answers); count_same = omega arith }
  turned (suc n) b r = go (ltb b.done h.events) refl (λ q. turned n (next file t b) (next_ready t file b r q))
    where
      go : (c : Bool) → ltb b.done h.events ≡ c → (ltb b.done h.events ≡ true → Turned n (next file t b)) → Turned (suc n) b
      go false q rest = record { after_same = rw q refl; answers_same = rw q (sym (over_nothing b.done b.answers)); count_same = rw q (omega arith) }
      go true q rest =
          record {
            after_same = rw q (lefts n b r q (rest q));
            answers_same = rw q (answers n b r q (rest q));
            count_same = rw q ((rest q).count_same ∙ omega (arith, one_done n b r q (rest q)));
          }
