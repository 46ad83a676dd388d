-- A host that was just initialized is as every law asks: no entry is up, no link was heard, and no walk is open.
use mathlib.Core.Path.{◌≡◌, refl, sym, ap, subst, ◌∙◌}
use mathlib.Core.Bool.{Bool, true, false, false≢true}
use mathlib.Core.List.{List, [], map}
use mathlib.Core.Logic.{inl, inr}
use Prim.Native.Nat.{ℕ, ◌+◌, ◌≤◌, ◌<◌}
use native.Mathlib.Omega.{arith}
use borrow.Author.Tests.{eq-eqb, ltb-true, ltb-false}
use lib.Dec.{ltb}
use lib.ListN.{length, get_or, take, length-map, length-take}
use lib.Seq.{get_or-take}
use Rattle.lists.proofs.Tests.{either}
use Rattle.answer.specs.declared.Answer.TheVariants.{Done}
use Rattle.clock.specs.declared.Clock.{Clock}
use Rattle.table.specs.declared.Entry.{Entry}
use Rattle.table.specs.declared.entries.Change.TheVariants.{Fresh}
use Rattle.table.specs.Entry.{fresh_entry, with_mark}
use Rattle.table.specs.Entry as entry
use Rattle.table.specs.Runs.{changed, changes}
use Rattle.host.specs.declared.Link.{Link}
use Rattle.host.specs.Effect.{each}
use Rattle.host.specs.Guard.{done}
use Rattle.host.specs.CallState.{CallState, entries_of}
use Rattle.host.specs.Settings.{link_count_of}
use Rattle.host.specs.State.{host_count, with_entries, first_place, places_per_host, fresh_link, fresh_links, unset, link_of}
use Rattle.host.specs.Walk.{no_walk}
use Rattle.host.proofs.Places.{Holds, entries_length}
use Rattle.calls.specs.declared.Request.TheVariants.{Initialize}
use Rattle.calls.specs.Effects.{initialize}
use Rattle.calls.specs.Perform.{ask, Outcome}
use Rattle.network_laws.specs.History.{after_outcome, places}
use Rattle.network_laws.specs.Network.{Network, state_at, initialized, Proper}
use Rattle.network_laws.proofs.Lists.{All, all_any, all_at, all_there, all_counted, all_made}
use Rattle.network_laws.proofs.HostPlaces.{entries_first}
use Rattle.network_laws.proofs.Performs.{performs, there}
use Rattle.network_laws.proofs.Swept.{changes_length, changes_each}
use Rattle.network_laws.proofs.Written.{written_back, written_kept}
use Rattle.liveness_laws.proofs.Rounds.Heard.{Mine}
use Rattle.liveness_laws.proofs.Host.Flags.{full_places}
use Rattle.liveness_laws.proofs.Host.Turns.{HostOk}

module _ (r : Network) (proper : Proper r) (c i m b : ℕ) (speaking : Bool) (Sent : Entry → (link : ℕ) → (octets : List ℕ) → Type 0) (slots : link_count_of (r.settings b) ≤ length (r.settings b).links) (few : i < host_count (r.settings b)) where
  abbrev x : CallState
  x = state_at r b (r.nets b) (r.clock b) (r.links b) (r.walk b) (r.copy b) (r.entries b)

  abbrev new_run : List Entry
  new_run = with_entries (r.number b) (changes (each (r.settings b) Fresh) (entries_of x)) (r.entries b)

  -- the entry of id i
  Is-fresh : Entry → Type 0
  Is-fresh e = (n : ℕ) × (e ≡ with_mark n fresh_entry)

  mine_fresh : (e : Entry) → Is-fresh e → Mine r c b 0 m 0 (λ q. false) e
  unfolding fresh_entry Is-fresh
  mine_fresh e is =
      subst (Mine r c b 0 m 0 (λ q. false)) (sym is.1)
      record {
        steady =
            record {
              sound = λ t. absurd (false≢true t);
              complete = λ h way less short. absurd (omega arith);
              rests = λ _. refl;
              lasts = λ t. absurd (false≢true t);
              lasts_on = λ t. absurd (false≢true t);
            };
        hears = λ j a l cord no. absurd (false≢true no);
        home = λ no. absurd (false≢true no);
      }

  down_fresh : (e : Entry) → Is-fresh e → entry.up e ≡ true → ⊥
  unfolding fresh_entry Is-fresh
  down_fresh e is t = false≢true (subst (λ (z : Entry). entry.up z ≡ true) is.1 t)

  quiet_links : (q : ℕ) → (link_of (fresh_links (r.settings b)) q).keep_alive ≡ 0
  unfolding fresh_links
  quiet_links q = all_at (λ (n : ℕ) (y : Link). y.keep_alive ≡ 0) (fresh_link unset) (λ _. refl) (map fresh_link (r.settings b).links) (all_made (λ (n : ℕ) (y : Link). y.keep_alive ≡ 0) fresh_link (λ _ _. refl) (r.settings b).links) _

  -- the host, with any clock and copy
  ok_so : (clock : Clock) (copied : List ℕ) (ps : List Entry) → host_count (r.settings b) ≤ length ps → Is-fresh (get_or ps i fresh_entry)
      → HostOk r c i 0 m b speaking Sent 0 (λ q. false) record { clock = clock; links = fresh_links (r.settings b); walk = no_walk; copy = copied; places = ps }
  unfolding fresh_links
  ok_so clock copied ps long it =
      record {
        room = omega (arith, length-map (r.settings b).links fresh_link, slots);
        long = long;
        mine = mine_fresh (get_or ps i fresh_entry) it;
        links =
            λ j a n cord.
            record {
              quiet = λ _ _. quiet_links j;
              spoke = λ _ on. absurd (false≢true (sym on ∙ eq-eqb _ 0 (quiet_links j)));
              known = λ w. elim w [ inl y ↦ absurd (omega arith) | inr y ↦ absurd (false≢true y) ];
              met = λ t. absurd (down_fresh (get_or ps i fresh_entry) it t);
            };
        waits = λ _ opened. absurd (false≢true opened);
        walk = λ opened. absurd (false≢true opened);
      }

  pub fresh_ok : (initialized r b).reply.answer ≡ Done
      → HostOk r c i 0 m b speaking Sent 0 (λ q. false) (after_outcome (r.number b) [] (initialized r b))
      × (entry.up (get_or (after_outcome (r.number b) [] (initialized r b)).places i fresh_entry) ≡ true → ⊥)
  unfolding initialize Is-fresh
  fresh_ok =
      performs (ask Initialize) x
      (λ (o : Outcome).
      o.reply.answer ≡ Done
      → HostOk r c i 0 m b speaking Sent 0 (λ q. false) (after_outcome (r.number b) [] o) × (entry.up (get_or (after_outcome (r.number b) [] o).places i fresh_entry) ≡ true → ⊥))
      (λ no is. absurd (false≢true (sym no ∙ ap done is)))
      (λ d _.
      let held = there (ask Initialize) x d in
      let n = changes_length (each (r.settings b) Fresh) (entries_of x) in
      let kept = (written_kept x (changes (each (r.settings b) Fresh) (entries_of x)) held n).same_length in
      either
      (λ (l : List Entry).
      HostOk r c i 0 m b speaking Sent 0 (λ q. false) record { clock = (initialize (r.settings b)).clock; links = fresh_links (r.settings b); walk = no_walk; copy = r.copy b; places = l }
      × (entry.up (get_or l i fresh_entry) ≡ true → ⊥))
      (ltb (length new_run) (first_place (r.number b) + places_per_host)) _ _
      (λ z. absurd (omega (arith, ltb-true (length new_run) (first_place (r.number b) + places_per_host) z, held, kept)))
      (λ z.
      let long = full_places (r.settings b) (r.number b) new_run (ltb-false (length new_run) (first_place (r.number b) + places_per_host) z) in
      let it = fresh_there held long in
      (ok_so (initialize (r.settings b)).clock (r.copy b) (places (r.number b) new_run) long it, down_fresh (get_or (places (r.number b) new_run) i fresh_entry) it)))
    where
      fresh_there : Holds (r.number b) (r.entries b) → host_count (r.settings b) ≤ length (places (r.number b) new_run) → Is-fresh (get_or (places (r.number b) new_run) i fresh_entry)
      fresh_there held long =
          let n = changes_length (each (r.settings b) Fresh) (entries_of x) in
          let all : All (λ (id : ℕ) (e : Entry). Is-fresh e) (take (host_count (r.settings b)) (places (r.number b) new_run)) =
          subst (All (λ (id : ℕ) (e : Entry). Is-fresh e)) (entries_first (r.settings b) (r.number b) new_run)
          (subst (All (λ (id : ℕ) (e : Entry). Is-fresh e)) (sym (written_back x (changes (each (r.settings b) Fresh) (entries_of x)) held n))
          (rw (changes_each (host_count (r.settings b)) Fresh (r.settings b).marks (entries_of x) (omega (arith, entries_length (r.settings b) (r.number b) (r.entries b) held)))
          (all_counted (λ _ _. Unit {0}) (λ (id : ℕ) (e : Entry). Is-fresh e) 0 (changed (r.settings b).marks Fresh) (entries_of x) (λ j _ _ _. (_, refl))
          (all_any (λ _ _. Unit {0}) (λ _ _. tt) (entries_of x))))) in
          subst Is-fresh (get_or-take (host_count (r.settings b)) (places (r.number b) new_run) i fresh_entry few)
          (all_there (λ (id : ℕ) (e : Entry). Is-fresh e) fresh_entry (take (host_count (r.settings b)) (places (r.number b) new_run)) all i (omega (arith, few, long, length-take (host_count (r.settings b)) (places (r.number b) new_run))))
