-- In one host table that all hosts share, a call at another number keeps this one's places, and a call at this number has the same result from the same state.
use mathlib.Core.Path.{◌≡◌, refl, sym, ap, subst, ◌∙◌}
use mathlib.Core.Bool.{Bool, true, false}
use mathlib.Core.List.{List, [], ◌∷◌}
use Prim.Native.Nat.{ℕ}
use borrow.Author.Tests.{eqb-true, eqb-false, eq-eqb, ne_eqb}
use lib.Dec.{eqb}
use lib.ListN.{length, take}
use Rattle.host.specs.State.{host_count}
use Rattle.network_laws.specs.Frame.{Kept}
use Rattle.network_laws.specs.Locality.{same, own_links, walk_packet, Alike, Local, Locality}
use Rattle.network_laws.specs.History.{put}
use Rattle.network_laws.specs.Isolation.{SharedEvent, Shared, shared_state, shared_outcome, shared_after, shared_after_all, shared_returned, alone, SharedAlike, Alone}
use Rattle.network_laws.proofs.HostPlaces.{entries_first, elsewhere, places_kept_same}
use Rattle.network_laws.proofs.Demand1.Frame.{kept_places}
use Rattle.network_laws.proofs.Demand1.Locality.{locality_holds}

-- the same at number k, in runs of one length
record Twin (k : ℕ) (w v : Shared) : Type 0 where
  alike : SharedAlike k w v
  lengths : length w.entries ≡ length v.entries

kept : (w : Shared) (e : SharedEvent) → Kept e.settings e.number w.entries (shared_outcome w e).entries
kept w e = kept_places e.call (shared_state w e)

-- ---- a call elsewhere

put_other : {A : Type 0} (j k : ℕ) (a : A) (f : ℕ → A) → (j ≡ k → ⊥) → put j a f k ≡ f k
put_other j k a f apart = rw (ne_eqb k j (λ p. apart (sym p)))

other : (k : ℕ) (w v : Shared) (e : SharedEvent) → (e.number ≡ k → ⊥) → Twin k w v → Twin k (shared_after w e) v
unfolding shared_after
other k w v e apart t =
    record {
      alike =
          record {
            clock_same = put_other e.number k _ w.clock apart ∙ t.alike.clock_same;
            links_same = put_other e.number k _ w.links apart ∙ t.alike.links_same;
            walk_same = put_other e.number k _ w.walk apart ∙ t.alike.walk_same;
            copy_same = put_other e.number k _ w.copy apart ∙ t.alike.copy_same;
            places_same = elsewhere e.settings e.number k apart w.entries _ (kept w e) ∙ t.alike.places_same;
          };
      lengths = (kept w e).same_length ∙ t.lengths;
    }

-- ---- a call at the number

put_here : {A : Type 0} (k : ℕ) (a : A) (f : ℕ → A) → put k a f k ≡ a
put_here k a f = rw (eq-eqb k k refl)

module _ (w v : Shared) (e : SharedEvent) (t : Twin e.number w v) where
  state_alike : Alike (shared_state w e) (shared_state v e)
  state_alike =
      record {
        settings_same = refl;
        net_table_same = refl;
        number_same = refl;
        clock_same = t.alike.clock_same;
        links_same = ap (own_links e.settings) t.alike.links_same;
        walk_same = t.alike.walk_same;
        room_same = ap length t.alike.copy_same;
        packet_same = λ j. walk_packet (t.alike.walk_same j) (t.alike.copy_same j);
        length_same = t.lengths;
        entries_same =
            entries_first e.settings e.number w.entries
            ∙ ap (take (host_count e.settings)) t.alike.places_same
            ∙ sym (entries_first e.settings e.number v.entries);
      }

  local : Local e.call e.call (shared_state w e) (shared_state v e)
  unfolding Locality
  local = locality_holds e.call e.call (shared_state w e) (shared_state v e) same state_alike

  here : Twin e.number (shared_after w e) (shared_after v e)
  unfolding shared_after
  here =
      record {
        alike =
            record {
              clock_same =
                  put_here e.number _ w.clock ∙ local.after_alike.clock_same ∙ sym (put_here e.number _ v.clock);
              links_same =
                  put_here e.number _ w.links ∙ local.all_links t.alike.links_same ∙ sym (put_here e.number _ v.links);
              walk_same =
                  put_here e.number _ w.walk ∙ local.after_alike.walk_same ∙ sym (put_here e.number _ v.walk);
              copy_same =
                  put_here e.number _ w.copy ∙ local.all_copy t.alike.copy_same ∙ sym (put_here e.number _ v.copy);
              places_same = places_kept_same e.call e.call (shared_state w e) (shared_state v e) same state_alike t.alike.places_same;
            };
        lengths = local.after_alike.length_same;
      }

-- ---- the list

-- the complete list from one state, and the calls at k only from its twin
record Deleted (k : ℕ) (w v : Shared) (es : List SharedEvent) : Type 0 where
  told_same : shared_returned k w es ≡ shared_returned k v (alone k es)
  after_same : SharedAlike k (shared_after_all w es) (shared_after_all v (alone k es))

deleted : (k : ℕ) (w v : Shared) (es : List SharedEvent) → Twin k w v → Deleted k w v es
unfolding shared_returned shared_after_all
deleted k w v [] t = record { told_same = refl; after_same = t.alike }
deleted k w v (e ∷ es) t = go (λ v'. deleted k (shared_after w e) v' es) (eqb e.number k) refl
  where
    go : ((v' : Shared) → Twin k (shared_after w e) v' → Deleted k (shared_after w e) v' es) → (b : Bool) → eqb e.number k ≡ b
        → Deleted k w v (e ∷ es)
    go again true h =
        let at-k : e.number ≡ k = eqb-true e.number k h in
        let t' : Twin e.number w v = rw at-k t in
        let rest = again (shared_after v e) (subst (λ j. Twin j (shared_after w e) (shared_after v e)) at-k (here w v e t')) in
        record {
          told_same = rw (h, h) (λ i. (local w v e t').told_same i ∷ rest.told_same i);
          after_same = rw h rest.after_same;
        }
    go again false h =
        let rest = again v (other k w v e (eqb-false e.number k h) t) in
        record { told_same = rw h rest.told_same; after_same = rw h rest.after_same }

pub alone_holds : Alone
unfolding Alone
alone_holds k w es =
    let d = deleted k w w es record { alike = record { clock_same = refl; links_same = refl; walk_same = refl; copy_same = refl; places_same = refl }; lengths = refl } in
    (d.told_same, d.after_same)
