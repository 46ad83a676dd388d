-- Two lists have the same replies and states at a number, call by call: by locality if the host table has the host's places; if not, both are refused.
use mathlib.Core.Path.{◌≡◌, refl, sym, ap, subst, ◌∙◌}
use mathlib.Core.Bool.{Bool, true, false, or-true}
use mathlib.Core.List.{List, [], ◌∷◌, map}
use Prim.Native.Nat.{ℕ, ◌+◌}
use borrow.Author.Tests.{ltb-false}
use lib.Dec.{ltb}
use lib.ListN.{length, take}
use Rattle.host.specs.State.{places_per_host, first_place, host_count, own_entries}
use Rattle.host.specs.Guard.{no_places}
use Rattle.network_laws.specs.HostAfter.{Returned, returned}
use Rattle.network_laws.specs.Locality.{own_links, walk_packet, Alike, Local, Locality}
use Rattle.network_laws.specs.History.{Event, HostAfter, Holds, number_of, Continues, ContinuesFully, outcome, places}
use Rattle.network_laws.specs.Isolation.{own, settings_of, Agree, Pairwise, Isolation, AfterAlike}
use Rattle.network_laws.proofs.Performs.{perform_short}
use Rattle.network_laws.proofs.HostPlaces.{entries_first, places_kept_same}
use Rattle.network_laws.proofs.Demand1.Frame.{kept_places}
use Rattle.network_laws.proofs.Demand1.Locality.{locality_holds}
use Rattle.network_laws.proofs.Demand1.OwnCalls.{after_from, last_from, AllContinue, AllAt, own_at, follows}

-- the reply of each call
abbrev pub all_returned : List Event → List Returned
all_returned = map (λ (e : Event). returned (outcome e))

module _ (k : ℕ) where
  -- ---- one call

  -- the host table does not have all of the host's places
  abbrev pub short : Event → Bool
  short e = ltb (length e.call_state.entries) (first_place k + places_per_host)

  module _ (was : HostAfter) (e : Event) (here : number_of e ≡ k) where
    no_places_lem : short e ≡ true → no_places (number_of e) e.call_state.entries ≡ true
    unfolding no_places
    no_places_lem h = rw (here, h) (or-true (ltb 15 k))

    holds : short e ≡ false → Holds (number_of e) e.call_state.entries
    holds h = rw here (ltb-false _ _ h)

    -- then the call is refused, and changes nothing
    after_short : short e ≡ true
        → after_from k was e ≡ record { clock = e.call_state.host.clock; links = e.call_state.host.links; walk = e.call_state.walk; copy = e.call_state.copy; places = was.places }
    after_short h = rw (perform_short e.call e.call_state (no_places_lem h), h)

    -- otherwise it keeps the length of the host table
    pub after_held : short e ≡ false → (after_from k was e).places ≡ places k (outcome e).entries
    after_held h = rw ((kept_places e.call e.call_state).same_length, h)

    -- whose first are the entries
    pub first_after : short e ≡ false → take (host_count (settings_of e)) (after_from k was e).places ≡ own_entries (settings_of e) (number_of e) (outcome e).entries
    first_after h =
        ap (take (host_count (settings_of e))) (after_held h)
        ∙ sym (entries_first (settings_of e) k (outcome e).entries)
        ∙ ap (λ j. own_entries (settings_of e) j (outcome e).entries) (sym here)

  -- two calls that agree, from clocks, links and entries that are the same
  module _ (was was' : HostAfter) (e f : Event) (here : number_of e ≡ k) (here' : number_of f ≡ k) (continues : Continues was e.call_state) (continues' : Continues was' f.call_state)
      (agree : Agree e f) (alike : AfterAlike (settings_of e) was was') where
    short_too : {b : Bool} → short e ≡ b → short f ≡ b
    short_too h = rw (← agree.length_same) h

    clock_state : e.call_state.host.clock ≡ f.call_state.host.clock
    clock_state = continues.own_clock ∙ alike.clock_same ∙ sym continues'.own_clock

    links_state : own_links (settings_of e) e.call_state.host.links ≡ own_links (settings_of f) f.call_state.host.links
    links_state =
        continues.own_links_lem ∙ alike.links_same ∙ ap (λ s. own_links s was'.links) agree.settings_same ∙ sym continues'.own_links_lem

    walk_state : e.call_state.walk ≡ f.call_state.walk
    walk_state = continues.own_walk ∙ alike.walk_same ∙ sym continues'.own_walk

    packet_state : walk_packet e.call_state.walk e.call_state.copy ≡ walk_packet f.call_state.walk f.call_state.copy
    packet_state = continues.own_packet ∙ alike.packet_same ∙ sym continues'.own_packet

    pub state_alike : short e ≡ false → Alike e.call_state f.call_state
    state_alike h =
        record {
          settings_same = agree.settings_same;
          net_table_same = agree.net_table_same;
          number_same = here ∙ sym here';
          clock_same = clock_state;
          links_same = links_state;
          walk_same = walk_state;
          room_same = agree.room_same;
          packet_same = packet_state;
          length_same = agree.length_same;
          entries_same =
              continues.own_entries_lem (holds was e here h)
              ∙ alike.entries_same
              ∙ ap (λ s. take (host_count s) was'.places) agree.settings_same
              ∙ sym (continues'.own_entries_lem (holds was' f here' (short_too h)));
        }

    local : short e ≡ false → Local e.call f.call e.call_state f.call_state
    unfolding Locality
    local h = locality_holds e.call f.call e.call_state f.call_state agree.input_same (state_alike h)

    pub returned_alike : (b : Bool) → short e ≡ b → returned (outcome e) ≡ returned (outcome f)
    returned_alike true h =
        ap (λ o. returned o) (perform_short e.call e.call_state (no_places_lem was e here h))
        ∙ ap (λ o. returned o) (sym (perform_short f.call f.call_state (no_places_lem was' f here' (short_too h))))
    returned_alike false h = (local h).told_same

    pub after_alike : (b : Bool) → short e ≡ b → AfterAlike (settings_of e) (after_from k was e) (after_from k was' f)
    after_alike true h =
        rw (after_short was e here h)
        (rw (after_short was' f here' (short_too h))
        record {
          clock_same = clock_state;
          links_same = links_state ∙ ap (λ s. own_links s f.call_state.host.links) (sym agree.settings_same);
          walk_same = walk_state;
          packet_same = packet_state;
          entries_same = alike.entries_same;
        })
    after_alike false h =
        let a = (local h).after_alike in
        record {
          clock_same = a.clock_same;
          links_same = a.links_same ∙ ap (λ s. own_links s (outcome f).links) (sym agree.settings_same);
          walk_same = a.walk_same;
          packet_same = a.packet_same;
          entries_same =
              first_after was e here h
              ∙ a.entries_same
              ∙ sym (first_after was' f here' (short_too h))
              ∙ ap (λ s. take (host_count s) (after_from k was' f).places) (sym agree.settings_same);
        }

  -- ---- one call that gets the complete state after the last call

  passes_whole : (was : HostAfter) (e : Event) → number_of e ≡ k → ContinuesFully was e.call_state → Continues was e.call_state
  passes_whole was e here w =
      record {
        own_clock = w.own_clock;
        own_links_lem = ap (own_links (settings_of e)) w.all_links;
        own_walk = w.own_walk;
        own_packet = λ j. walk_packet (w.own_walk j) (w.all_copy j);
        own_entries_lem =
            λ h. entries_first (settings_of e) (number_of e) e.call_state.entries ∙ ap (take (host_count (settings_of e))) (w.all_places h);
      }

  module _ (was : HostAfter) (e f : Event) (here : number_of e ≡ k) (here' : number_of f ≡ k) (whole : ContinuesFully was e.call_state) (whole' : ContinuesFully was f.call_state)
      (agree : Agree e f) where
    call_state : Continues was e.call_state
    call_state = passes_whole was e here whole

    call_state' : Continues was f.call_state
    call_state' = passes_whole was f here' whole'

    alike : AfterAlike (settings_of e) was was
    alike = record { clock_same = refl; links_same = refl; walk_same = refl; packet_same = refl; entries_same = refl }

    whole_returned : returned (outcome e) ≡ returned (outcome f)
    whole_returned = returned_alike was was e f here here' call_state call_state' agree alike (short e) refl

    short_f : {b : Bool} → short e ≡ b → short f ≡ b
    short_f h = rw (← agree.length_same) h

    links_same : e.call_state.host.links ≡ f.call_state.host.links
    links_same = whole.all_links ∙ sym whole'.all_links

    left_links : (b : Bool) → short e ≡ b → (after_from k was e).links ≡ (after_from k was f).links
    left_links true h =
        ap (λ z. z.links) (after_short was e here h) ∙ links_same ∙ ap (λ z. z.links) (sym (after_short was f here' (short_f h)))
    left_links false h = (local was was e f here here' call_state call_state' agree alike h).all_links links_same

    copy_same : e.call_state.copy ≡ f.call_state.copy
    copy_same = whole.all_copy ∙ sym whole'.all_copy

    after_copy : (b : Bool) → short e ≡ b → (after_from k was e).copy ≡ (after_from k was f).copy
    after_copy true h =
        ap (λ z. z.copy) (after_short was e here h) ∙ copy_same ∙ ap (λ z. z.copy) (sym (after_short was f here' (short_f h)))
    after_copy false h = (local was was e f here here' call_state call_state' agree alike h).all_copy copy_same

    after_places : (b : Bool) → short e ≡ b → (after_from k was e).places ≡ (after_from k was f).places
    after_places true h =
        ap (λ z. z.places) (after_short was e here h) ∙ ap (λ z. z.places) (sym (after_short was f here' (short_f h)))
    after_places false h =
        after_held was e here h
        ∙ subst (λ j. places j (outcome e).entries ≡ places j (outcome f).entries) here
        (places_kept_same e.call f.call e.call_state f.call_state agree.input_same (state_alike was was e f here here' call_state call_state' agree alike h)
        (whole.all_places (holds was e here h)
        ∙ sym (whole'.all_places (holds was f here' (short_f h)))
        ∙ ap (λ j. places j f.call_state.entries) (here' ∙ sym here)))
        ∙ sym (after_held was f here' (short_f h))

    whole_after : after_from k was e ≡ after_from k was f
    whole_after =
        let a = after_alike was was e f here here' call_state call_state' agree alike (short e) refl in
        λ j. record { clock = a.clock_same j; links = left_links (short e) refl j; walk = a.walk_same j; copy = after_copy (short e) refl j; places = after_places (short e) refl j }

  -- ---- lists of calls at k

  isolated : (was was' : HostAfter) (es fs : List Event) → AllAt k es → AllAt k fs → AllContinue k ContinuesFully was es → AllContinue k ContinuesFully was' fs
      → Pairwise es fs → was ≡ was' → (all_returned es ≡ all_returned fs) × (last_from k was es ≡ last_from k was' fs)
  unfolding Pairwise
  isolated was was' [] [] here here' continues continues' pairs same = (refl, same)
  isolated was was' [] (f ∷ fs) here here' continues continues' pairs same = absurd pairs
  isolated was was' (e ∷ es) [] here here' continues continues' pairs same = absurd pairs
  isolated was was' (e ∷ es) (f ∷ fs) here here' continues continues' pairs same =
      let whole' : ContinuesFully was f.call_state = rw same continues'.0 in
      let after : after_from k was e ≡ after_from k was' f =
      whole_after was e f here.0 here'.0 continues.0 whole' pairs.0 ∙ ap (λ z. after_from k z f) same in
      let rest = isolated (after_from k was e) (after_from k was' f) es fs here.1 here'.1 continues.1 continues'.1 pairs.1 after in
      let now = whole_returned was e f here.0 here'.0 continues.0 whole' pairs.0 in
      (λ j. now j ∷ rest.0 j, rest.1)

pub isolation_holds : Isolation
unfolding Isolation
isolation_holds k w v es fs continues continues' pairs same =
    let a = follows k ContinuesFully w es in
    let b = follows k ContinuesFully v fs in
    let both = isolated k (w k) (v k) (own k es) (own k fs) (own_at k es) (own_at k fs) (a.all_continue continues) (b.all_continue continues') pairs same in
    (both.0, a.last_is ∙ both.1 ∙ sym b.last_is)
