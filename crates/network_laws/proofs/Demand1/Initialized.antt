-- Initialize determines the clock, the links and the entries by the settings alone, and closes a walk. From there on, isolation needs no more.
use mathlib.Core.Path.{◌≡◌, refl, sym, ap, subst, ◌∙◌}
use mathlib.Core.Bool.{true, false≢true}
use mathlib.Core.List.{List, [], ◌∷◌}
use Prim.Native.Nat.{ℕ, zero, suc}
use native.Mathlib.Omega.{arith}
use borrow.Author.Tests.{le-ltb}
use lib.ListN.{length, take}
use Rattle.answer.specs.declared.Answer.TheVariants.{Done}
use Rattle.clock.specs.Clock.{fresh_clock}
use Rattle.table.specs.declared.Entry.{Entry}
use Rattle.table.specs.declared.entries.Change.TheVariants.{Fresh}
use Rattle.table.specs.declared.marks.Marks.{Marks}
use Rattle.table.specs.Forms.{map_from}
use Rattle.table.specs.Marks.{mark}
use Rattle.table.specs.Entry.{fresh_entry, with_mark}
use Rattle.table.specs.Runs.{changed}
use Rattle.host.specs.declared.Settings.{Settings}
use Rattle.host.specs.declared.guard.Scope.TheVariants.{Places}
use Rattle.host.specs.State.{host_count, fresh_links, own_entries}
use Rattle.host.specs.Walk.{no_walk}
use Rattle.host.specs.Effect.{each}
use Rattle.host.specs.CallState.{entries_of}
use Rattle.host.specs.Guard.{no_places, guard, done}
use Rattle.host.proofs.Places.{entries_length}
use Rattle.calls.specs.declared.Request.TheVariants.{Initialize}
use Rattle.calls.specs.Effects.{initialize}
use Rattle.calls.specs.Perform.{Call, ask, work, perform}
use Rattle.network_laws.specs.HostAfter.{returned}
use Rattle.network_laws.specs.Locality.{SameInput, same, same_send, own_links, walk_packet}
use Rattle.network_laws.specs.History.{Event, HostAfter, Holds, Continues, number_of, outcome}
use Rattle.network_laws.specs.Isolation.{own, settings_of, Agree, Pairwise, Initializes, Steady, stays, goes_on, begins_anew, FromInitialize, begins, AfterAlike, IsolationFromInitialize}
use Rattle.network_laws.proofs.Performs.{performs, there}
use Rattle.network_laws.proofs.Swept.{changes_length, changes_each}
use Rattle.network_laws.proofs.Written.{written_back}
use Rattle.network_laws.proofs.Demand1.OwnCalls.{after_from, last_from, AllContinue, AllAt, own_at, follows}
use Rattle.network_laws.proofs.Demand1.Isolation.{all_returned, short, first_after, returned_alike, after_alike}

-- an input that counts as initialize is one
initialized_too : {c d : Call} → SameInput c d → c ≡ ask Initialize → d ≡ ask Initialize
initialized_too same e = e
initialized_too (same_send n) e = absurd (let z : ◌≡◌ {A = ℕ} 0 1 = cc in omega arith)

-- the fresh entries of a number of ids, from n on
abbrev pub fresh_from : Marks → (n count : ℕ) → List Entry
fresh_from m n zero = []
fresh_from m n (suc k) = with_mark (mark m n) fresh_entry ∷ fresh_from m (suc n) k

all_fresh : (m : Marks) (n : ℕ) (es : List Entry) → map_from n (changed m Fresh) es ≡ fresh_from m n (length es)
all_fresh m n [] = refl
all_fresh m n (e ∷ es) = ap (λ l. with_mark (mark m n) fresh_entry ∷ l) (all_fresh m (suc n) es)

-- ---- initialize

pub record Begins (e : Event) : Type 0 where
  pub call_is : e.call ≡ ask Initialize
  pub passes : done (guard Places e.call_state) ≡ true

begins_here : (e : Event) → Initializes e → Begins e
begins_here e a =
    record {
      call_is = a.call_is;
      passes =
          performs (ask Initialize) e.call_state (λ o. o.reply.answer ≡ Done → done (guard Places e.call_state) ≡ true)
          (λ no is. absurd (false≢true (sym no ∙ ap (λ b. done b) is))) (λ yes _. yes)
          (subst (λ c. (perform c e.call_state).reply.answer ≡ Done) a.call_is a.answered);
    }

-- if two calls agree and the first is initialize, so is the second
begins_too : (e f : Event) → number_of e ≡ number_of f → Agree e f → Begins e → Begins f
unfolding guard no_places
begins_too e f number agree b =
    record {
      call_is = initialized_too agree.input_same b.call_is;
      passes = rw (← agree.settings_same, ← agree.net_table_same, ← agree.length_same, ← number) b.passes;
    }

outcome_is : (e : Event) → Begins e → outcome e ≡ work (ask Initialize) e.call_state
outcome_is e b =
    ap (λ c. perform c e.call_state) b.call_is
    ∙ performs (ask Initialize) e.call_state (λ o. o ≡ work (ask Initialize) e.call_state) (λ no. absurd (false≢true (sym no ∙ b.passes))) (λ _. refl)

module _ (k : ℕ) where
  pub record Begun (s : Settings) (x : HostAfter) : Type 0 where
    pub clock_is : x.clock ≡ fresh_clock s.time s.date
    pub links_is : x.links ≡ fresh_links s
    pub walk_is : x.walk ≡ no_walk
    pub entries_is : take (host_count s) x.places ≡ fresh_from s.marks 0 (host_count s)

  begun : (was : HostAfter) (e : Event) → number_of e ≡ k → Begins e → Begun (settings_of e) (after_from k was e)
  unfolding initialize
  begun was e here b =
      record {
        clock_is = ap (λ o. o.clock) (outcome_is e b);
        links_is = ap (λ o. o.links) (outcome_is e b);
        walk_is = ap (λ o. o.walk) (outcome_is e b);
        entries_is =
            first_after k was e here (le-ltb _ _ (rw here at held))
            ∙ ap (λ o. own_entries (settings_of e) (number_of e) o.entries) (outcome_is e b)
            ∙ written_back e.call_state _ held (changes_length (each (settings_of e) Fresh) (entries_of e.call_state))
            ∙ changes_each (host_count (settings_of e)) Fresh (settings_of e).marks (entries_of e.call_state) (omega (arith, count))
            ∙ all_fresh (settings_of e).marks 0 (entries_of e.call_state)
            ∙ ap (fresh_from (settings_of e).marks 0) count;
      }
    where
      held : Holds (number_of e) e.call_state.entries
      held = there (ask Initialize) e.call_state b.passes

      count : length (entries_of e.call_state) ≡ host_count (settings_of e)
      count = entries_length (settings_of e) (number_of e) e.call_state.entries held

  module _ (was was' : HostAfter) (e f : Event) (here : number_of e ≡ k) (here' : number_of f ≡ k) (agree : Agree e f) (b : Begins e) where
    b' : Begins f
    b' = begins_too e f (here ∙ sym here') agree b

    returned_begun : returned (outcome e) ≡ returned (outcome f)
    unfolding initialize
    returned_begun = ap (λ o. returned o) (outcome_is e b) ∙ ap (λ o. returned o) (sym (outcome_is f b'))

    after_begun : AfterAlike (settings_of e) (after_from k was e) (after_from k was' f)
    after_begun =
        let p : Begun (settings_of e) (after_from k was e) = begun was e here b in
        let q : Begun (settings_of e) (after_from k was' f) =
        subst (λ s. Begun s (after_from k was' f)) (sym agree.settings_same) (begun was' f here' b') in
        record {
          clock_same = p.clock_is ∙ sym q.clock_is;
          links_same = ap (own_links (settings_of e)) (p.links_is ∙ sym q.links_is);
          walk_same = p.walk_is ∙ sym q.walk_is;
          packet_same =
              ap (λ v. walk_packet v (after_from k was e).copy) p.walk_is ∙ ap (λ v. walk_packet v (after_from k was' f).copy) (sym q.walk_is);
          entries_same = p.entries_is ∙ sym q.entries_is;
        }

  -- ---- lists of calls at k

  -- the two lists have the same replies, and the states afterwards are alike
  abbrev Same : Settings → (was was' : HostAfter) (es fs : List Event) → Type 0
  Same t was was' es fs = (all_returned es ≡ all_returned fs) × AfterAlike t (last_from k was es) (last_from k was' fs)

  steady : {s t : Settings} {es : List Event} → Steady s es t → (was was' : HostAfter) (fs : List Event) → AllAt k es → AllAt k fs → AllContinue k Continues was es
      → AllContinue k Continues was' fs → Pairwise es fs → AfterAlike s was was' → Same t was was' es fs
  unfolding Pairwise
  steady stays was was' [] here here' continues continues' pairs alike = (refl, alike)
  steady stays was was' (f ∷ fs) here here' continues continues' pairs alike = absurd pairs
  steady (goes_on q rest) was was' [] here here' continues continues' pairs alike = absurd pairs
  steady (goes_on {s = s} {e = e} q rest) was was' (f ∷ fs) here here' continues continues' pairs alike =
      let now : AfterAlike (settings_of e) was was' = rw q alike in
      let after = after_alike k was was' e f here.0 here'.0 continues.0 continues'.0 pairs.0 now (short k e) refl in
      let then = subst (λ u. AfterAlike u (after_from k was e) (after_from k was' f)) q after in
      let more = steady rest (after_from k was e) (after_from k was' f) fs here.1 here'.1 continues.1 continues'.1 pairs.1 then in
      (λ j. returned_alike k was was' e f here.0 here'.0 continues.0 continues'.0 pairs.0 now (short k e) refl j ∷ more.0 j, more.1)
  steady (begins_anew a rest) was was' [] here here' continues continues' pairs alike = absurd pairs
  steady (begins_anew {e = e} a rest) was was' (f ∷ fs) here here' continues continues' pairs alike =
      let b = begins_here e a in
      let after = after_begun was was' e f here.0 here'.0 pairs.0 b in
      let more = steady rest (after_from k was e) (after_from k was' f) fs here.1 here'.1 continues.1 continues'.1 pairs.1 after in
      (λ j. returned_begun was was' e f here.0 here'.0 pairs.0 b j ∷ more.0 j, more.1)

  from_initialized : {t : Settings} {es : List Event} → FromInitialize es t → (was was' : HostAfter) (fs : List Event) → AllAt k es → AllAt k fs → AllContinue k Continues was es
      → AllContinue k Continues was' fs → Pairwise es fs → Same t was was' es fs
  unfolding Pairwise
  from_initialized (begins a rest) was was' [] here here' continues continues' pairs = absurd pairs
  from_initialized (begins {e = e} a rest) was was' (f ∷ fs) here here' continues continues' pairs =
      let b = begins_here e a in
      let after = after_begun was was' e f here.0 here'.0 pairs.0 b in
      let more = steady rest (after_from k was e) (after_from k was' f) fs here.1 here'.1 continues.1 continues'.1 pairs.1 after in
      (λ j. returned_begun was was' e f here.0 here'.0 pairs.0 b j ∷ more.0 j, more.1)

pub isolation_from_initialized_holds : IsolationFromInitialize
unfolding IsolationFromInitialize
isolation_from_initialized_holds k w v es fs t continues continues' pairs initialized =
    let a = follows k Continues w es in
    let b = follows k Continues v fs in
    let both = from_initialized k initialized (w k) (v k) (own k fs) (own_at k es) (own_at k fs) (a.all_continue continues) (b.all_continue continues') pairs in
    (both.0, rw (a.last_is, b.last_is) both.1)
