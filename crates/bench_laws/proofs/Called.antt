-- One call at a host of the bench is one call over a shared host table: the state before, the state after, and the answer. So each event is its calls.
use mathlib.Core.Path.{◌≡◌, refl, sym, ◌∙◌, ap, fun_ext}
use mathlib.Core.Bool.{Bool, true, false, cond, false≢true}
use mathlib.Core.List.{List, [], ◌∷◌}
use Prim.Native.Nat.{ℕ, ◌<◌}
use borrow.Author.Tests.{eqb-true, eqb-false}
use lib.Dec.{eqb}
use lib.ListN.{length, get_or, set, length-set}
use lib.Seq.{get_or-set_same, get_or-set_other, set-set}
use Rattle.answer.specs.declared.Answer.TheVariants.{IpForm}
use Rattle.clock.specs.declared.Counter.{Counter}
use Rattle.net_table.specs.declared.NetTable.{NetTable}
use Rattle.host.specs.Guard.{done}
use Rattle.host.specs.CallState.{CallState, call_state}
use Rattle.calls.specs.Perform.{Call, Outcome, ask, send, deliver, open_walk, inspect, act, perform, left, in_turn}
use Rattle.bench_file.specs.declared.End.{End}
use Rattle.bench_file.specs.declared.Event.{Event}
use Rattle.bench_file.specs.declared.Event.TheVariants.{Tick, Adjust, Set, Second, SelfReport, Send, Arrival, Unknown}
use Rattle.bench_file.specs.Records.{end_at}
use Rattle.bench.specs.declared.HostState.{HostState}
use Rattle.bench.specs.Bench.{Bench, fresh_host, copy_of, state_at}
use Rattle.bench.specs.Slots.{packet_of, empty, far_end}
use Rattle.bench.specs.Event.{After, after_at, taken, carried}
use Rattle.bench.specs.Run.{header}
use Rattle.network_laws.specs.Frame.{Frame}
use Rattle.network_laws.specs.History.{put}
use Rattle.network_laws.specs.Isolation.{SharedEvent, Shared, shared_outcome, shared_after, shared_after_all}
use Rattle.network_laws.proofs.Demand1.Frame.{frame_holds}
use Rattle.bench_laws.specs.Calls.{shared_of, call_at, pair_of, pair_at, calls_of, last_answer}

-- a call that opens no walk
pub record Plain (c : Call) : Type 0 where
  pub no_opening : (i : ℕ) (packet : List ℕ) → c ≡ open_walk i packet → ⊥

abbrev opens : Call → Bool
opens (ask q) = false
opens (send i k buffer) = false
opens (deliver d packet) = false
opens (open_walk i packet) = true

pub plain : (c : Call) → opens c ≡ false → Plain c
plain c e = record { no_opening = λ i packet p. absurd (false≢true (sym e ∙ ap opens p)) }

-- and keeps the copy of a packet
pub same_copy : (c : Call) (x : CallState) → Plain c → (perform c x).copy ≡ x.copy
unfolding Frame
same_copy c x p = (frame_holds c x).copy p.no_opening

-- what a host has after a call at one
module _ {A : Type 0} (F : HostState → A) (hosts : List HostState) (d : ℕ → HostState) (k : ℕ) (y : HostState) (there : k < length hosts) where
  pub as_put : (λ (j : ℕ). F (get_or (set hosts k y) j (d j))) ≡ put k (F y) (λ (j : ℕ). F (get_or hosts j (d j)))
  as_put = fun_ext (λ (j : ℕ). go j (eqb j k) refl)
    where
      go : (j : ℕ) (b : Bool) → eqb j k ≡ b → F (get_or (set hosts k y) j (d j)) ≡ cond (eqb j k) (F y) (F (get_or hosts j (d j)))
      go j true e =
          let same = eqb-true j k e in
          rw (e) (ap (λ (i : ℕ). F (get_or (set hosts k y) i (d j))) same ∙ ap F (get_or-set_same hosts k y (d j) there))
      go j false e = rw (e) (ap F (get_or-set_other hosts k j y (d j) (eqb-false j k e)))

-- a value that is there already
put_same : {A : Type 0} (f : ℕ → A) (k : ℕ) (a : A) → a ≡ f k → put k a f ≡ f
put_same f k a e = fun_ext (λ (j : ℕ). go j (eqb j k) refl)
  where
    go : (j : ℕ) (b : Bool) → eqb j k ≡ b → cond b a (f j) ≡ f j
    go j true q = e ∙ ap f (sym (eqb-true j k q))
    go j false q = refl

module _ (file : List ℕ) (t : NetTable) where
  -- ---- one call

  module _ (k : ℕ) (c : Call) (b : Bench) (there : k < length b.hosts) (p : Plain c) where
    abbrev o : Outcome
    o = perform c (state_at file t k b)

    pub one_call : shared_after (shared_of file b) (call_at file t k c) ≡ shared_of file (after_at k o b)
    unfolding shared_after
    one_call =
        let y : HostState = record { clock = o.clock; links = o.links; walk = o.walk } in
        let clocks = sym (as_put (λ (s : HostState). s.clock) b.hosts (fresh_host file) k y there) in
        let links = sym (as_put (λ (s : HostState). s.links) b.hosts (fresh_host file) k y there) in
        let walks = sym (as_put (λ (s : HostState). s.walk) b.hosts (fresh_host file) k y there) in
        let copies = put_same (λ (j : ℕ). copy_of j b.copies) k o.copy (same_copy c (state_at file t k b) p) in
        λ i. record { clock = clocks i; links = links i; walk = walks i; copy = copies i; entries = o.entries }

    -- the next call at the host gets the state after this one
    pub state_after : state_at file t k (after_at k o b) ≡ left (state_at file t k b) o
    state_after =
        let y : HostState = record { clock = o.clock; links = o.links; walk = o.walk } in
        let e = get_or-set_same b.hosts k y (fresh_host file k) there in
        let m = sym (same_copy c (state_at file t k b) p) in
        λ i. call_state (state_at file t k b).host.settings t k (e i).clock (e i).links (e i).walk (m i) o.entries

  -- ---- an event

  -- that its state and answers are those of its calls
  pub record Made (es : List SharedEvent) (b : Bench) (a : After) : Type 0 where
    pub after_same : shared_of file a.bench ≡ shared_after_all (shared_of file b) es
    pub answer_same : a.answer ≡ last_answer IpForm (shared_of file b) es

  module _ (b : Bench) where
    made_one : (k : ℕ) (c : Call) → k < length b.hosts → Plain c → (slots : List ℕ)
        → Made (call_at file t k c ∷ []) b
        record {
          bench = record { hosts = (after_at k (perform c (state_at file t k b)) b).hosts; copies = b.copies; entries = (perform c (state_at file t k b)).entries; slots = slots; answers = b.answers; done = b.done };
          answer = (perform c (state_at file t k b)).reply.answer;
        }
    unfolding shared_after_all
    made_one k c there p slots = record { after_same = sym (one_call k c b there p); answer_same = refl }

    module _ (e : End) (k : Counter) (packet : List ℕ) (there : e.host < length b.hosts) where
      abbrev x : CallState
      x = state_at file t e.host b

      abbrev looked : Outcome
      looked = perform (inspect e.link packet) x

      abbrev acted : Outcome
      acted = perform (act e.link k packet) (left x looked)

      abbrev between : Bench
      between = after_at e.host looked b

      inspection : Plain (inspect e.link packet)
      inspection = plain (inspect e.link packet) refl

      action : Plain (act e.link k packet)
      action = plain (act e.link k packet) refl

      in_between : e.host < length between.hosts
      in_between = rw (length-set) there

      -- the action, after the inspection
      then_acts : shared_after (shared_of file between) (call_at file t e.host (act e.link k packet)) ≡ shared_of file (after_at e.host acted b)
      then_acts =
          one_call e.host (act e.link k packet) between in_between action
          ∙ ap (λ (y : CallState). shared_of file (after_at e.host (perform (act e.link k packet) y) between)) (state_after e.host (inspect e.link packet) b there inspection)
          ∙ ap
          (λ (hs : List HostState). shared_of file record { hosts = hs; copies = b.copies; entries = acted.entries; slots = b.slots; answers = b.answers; done = b.done })
          (set-set b.hosts e.host _ _)

      then_answers : (shared_outcome (shared_of file between) (call_at file t e.host (act e.link k packet))).reply.answer ≡ acted.reply.answer
      then_answers =
          ap (λ (y : CallState). (perform (act e.link k packet) y).reply.answer) (state_after e.host (inspect e.link packet) b there inspection)

      made_pair : Made (pair_at file t e k packet b) b record { bench = after_at e.host (in_turn e.link k packet x) b; answer = (in_turn e.link k packet x).reply.answer }
      unfolding shared_after_all
      made_pair = go (done looked.reply.answer)
        where
          first : shared_after (shared_of file b) (call_at file t e.host (inspect e.link packet)) ≡ shared_of file between
          first = one_call e.host (inspect e.link packet) b there inspection

          go : (d : Bool) → Made (pair_of file t d e k packet) b record { bench = after_at e.host (cond d acted looked) b; answer = (cond d acted looked).reply.answer }
          go true =
              record {
                after_same = sym (ap (λ (w : Shared). shared_after w (call_at file t e.host (act e.link k packet))) first ∙ then_acts);
                answer_same = sym (ap (λ (w : Shared). (shared_outcome w (call_at file t e.host (act e.link k packet))).reply.answer) first ∙ then_answers);
              }
          go false = record { after_same = sym first; answer_same = refl }

    -- the state has the hosts of an event's calls
    abbrev pub State-hosts : Event → Type 0
    State-hosts (Tick k n) = k < length b.hosts
    State-hosts (Adjust k n) = k < length b.hosts
    State-hosts (Set k ms n) = k < length b.hosts
    State-hosts (Second k) = k < length b.hosts
    State-hosts (SelfReport k n) = k < length b.hosts
    State-hosts (Send c i n k) = (end_at file (header file t) c i).host < length b.hosts
    State-hosts (Arrival n k) = empty n b.slots ≡ false → (far_end file (header file t) n b.slots).host < length b.hosts
    State-hosts Unknown = Unit {0}

    pub made : (e : Event) → State-hosts e → Made (calls_of file t e b) b (carried file t (header file t) e b)
    unfolding shared_after_all
    made (Tick k n) h = made_one k _ h (plain _ refl) b.slots
    made (Adjust k n) h = made_one k _ h (plain _ refl) b.slots
    made (Set k ms n) h = made_one k _ h (plain _ refl) b.slots
    made (Second k) h = made_one k _ h (plain _ refl) b.slots
    made (SelfReport k n) h = made_one k _ h (plain _ refl) b.slots
    made (Send c i n k) h = made_one _ _ h (plain _ refl) _
    made (Arrival n k) h = go (empty n b.slots) refl
      where
        go : (d : Bool) → empty n b.slots ≡ d
            → Made (cond d [] (pair_at file t (far_end file (header file t) n b.slots) k (packet_of n b.slots) b)) b
            (cond d record { bench = b; answer = IpForm } (taken file t (header file t) (far_end file (header file t) n b.slots) n k b))
        go true e = record { after_same = refl; answer_same = refl }
        go false e = made_pair (far_end file (header file t) n b.slots) k (packet_of n b.slots) (h e)
    made Unknown h = record { after_same = refl; answer_same = refl }
