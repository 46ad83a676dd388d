-- Demand 3 for one shared host table: it has at each node's places what the node's last call stored, since a call changes no other node's. So the calls are those of a history, each with the state that it needs.
use mathlib.Core.Path.{◌≡◌, refl, sym, ap, subst, ◌∙◌}
use mathlib.Core.Bool.{Bool, true, false, false≢true}
use mathlib.Core.List.{List, [], ◌∷◌}
use Prim.Native.Nat.{ℕ, zero, suc, ◌+◌, ◌≤◌, ◌<◌}
use native.Mathlib.Omega.{arith}
use borrow.Author.Tests.{le-ltb, ltb-true, ltb-false, eqb-true, eqb-false}
use lib.Dec.{ltb, eqb}
use lib.ListN.{length, get_or, take}
use Rattle.lists.proofs.Tests.{either}
use Rattle.answer.specs.declared.Answer.TheVariants.{Done}
use Rattle.table.specs.declared.Entry.{Entry}
use Rattle.table.specs.Entry.{fresh_entry}
use Rattle.table.specs.Entry as entry
use Rattle.host.specs.State.{places_per_host, first_place, host_count}
use Rattle.host.specs.CallState.{CallState}
use Rattle.host.specs.Guard.{done}
use Rattle.calls.specs.declared.Request.TheVariants.{Initialize}
use Rattle.calls.specs.Perform.{ask, Outcome, perform}
use Rattle.network_laws.specs.Frame.{Kept}
use Rattle.network_laws.specs.History.{HostAfter, places, Holds, after_outcome, after}
use Rattle.network_laws.specs.Network.{Network, state_at, initialized, Proper}
use Rattle.network_laws.specs.Demand3.{Step, World, event_of, result, step, history, Allows, entry_of, Right, Claim, AllCallsWithin}
use Rattle.network_laws.specs.SharedTable.{SharedStep, SharedWorld, call_state, shared_step, shared_history, SharedAllows, OneTable, shared_entry, SharedDemand3}
use Rattle.network_laws.proofs.Performs.{performs, there}
use Rattle.network_laws.proofs.HostPlaces.{entries_first, elsewhere}
use Rattle.network_laws.proofs.Demand1.Frame.{kept_places}
use Rattle.network_laws.proofs.Demand3.Histories.{all_calls}

-- an initialize that answers 0 got all the places
set_holds : (x : CallState) → (perform (ask Initialize) x).reply.answer ≡ Done → Holds x.number x.entries
set_holds x =
    performs (ask Initialize) x (λ (o : Outcome). o.reply.answer ≡ Done → Holds x.number x.entries)
    (λ d e. absurd (false≢true (sym d ∙ ap done e))) (λ d _. there (ask Initialize) x d)

-- a host table with all the places keeps them
all_there : (k : ℕ) (were : List Entry) (o : Outcome) → Holds k o.entries → (after_outcome k were o).places ≡ places k o.entries
all_there k were o h = rw (le-ltb (length o.entries) (first_place k + places_per_host) h)

module _ (r : Network) (proper : Proper r) where
  -- the host table has every node's places, as the node's last call stored them
  abbrev Tracks : SharedWorld → Type 0
  Tracks w = (a : ℕ) → a < r.nodes → Holds (r.number a) w.entries × (places (r.number a) w.entries ≡ (w.world.state (r.number a)).places)

  -- what a call keeps of the host table
  kept : (w : SharedWorld) (x : SharedStep) → Kept (r.settings x.node) (r.number x.node) w.entries (result r w.world (call_state w x)).entries
  kept w x = kept_places _ (event_of r w.world (call_state w x)).call_state

  step_tracks : (w : SharedWorld) (x : SharedStep) → x.node < r.nodes → Tracks w → Tracks (shared_step r w x)
  unfolding shared_step step after
  step_tracks w x inside t b hb =
      (holds, either (λ (y : HostAfter). places (r.number b) (result r w.world (call_state w x)).entries ≡ y.places) (eqb (r.number b) (r.number x.node)) _ _ own other)
    where
      holds : Holds (r.number b) (result r w.world (call_state w x)).entries
      holds = omega (arith, (kept w x).same_length, (t b hb).0)

      own : eqb (r.number b) (r.number x.node) ≡ true
          → places (r.number b) (result r w.world (call_state w x)).entries
          ≡ (after_outcome (r.number x.node) (w.world.state (r.number x.node)).places (result r w.world (call_state w x))).places
      own e =
          let same = eqb-true (r.number b) (r.number x.node) e in
          ap (λ (k : ℕ). places k (result r w.world (call_state w x)).entries) same
          ∙ sym (all_there (r.number x.node) _ (result r w.world (call_state w x)) (subst (λ (k : ℕ). Holds k (result r w.world (call_state w x)).entries) same holds))

      other : eqb (r.number b) (r.number x.node) ≡ false
          → places (r.number b) (result r w.world (call_state w x)).entries ≡ (w.world.state (r.number b)).places
      other e =
          elsewhere (r.settings x.node) (r.number x.node) (r.number b) (λ same. eqb-false (r.number b) (r.number x.node) e (sym same))
          w.entries (result r w.world (call_state w x)).entries (kept w x)
          ∙ (t b hb).1

  -- ---- the calls of a shared history, each with the host table

  lents : SharedWorld → List SharedStep → List Step
  lents w [] = []
  lents w (x ∷ xs) = call_state w x ∷ lents (shared_step r w x) xs

  same_world : (w : SharedWorld) (xs : List SharedStep) → (shared_history r w xs).world ≡ history r w.world (lents w xs)
  unfolding shared_history shared_step history lents
  same_world w [] = refl
  same_world w (x ∷ xs) = same_world (shared_step r w x) xs

  allowed : (w : SharedWorld) (xs : List SharedStep) → Tracks w → SharedAllows r w xs → Allows r w.world (lents w xs)
  unfolding SharedAllows Allows lents shared_step
  allowed w [] t ok = tt
  allowed w (x ∷ xs) t ok =
      let now = ok.0 in (
        record {
          node_in = now.node_in;
          continues =
              record {
                own_clock = refl;
                own_links_lem = now.own_links_lem;
                own_walk = refl;
                own_packet = now.own_packet;
                own_entries_lem =
                    λ _.
                    entries_first (r.settings x.node) (r.number x.node) w.entries
                    ∙ ap (take (host_count (r.settings x.node))) (t x.node now.node_in).1;
              };
          timely = now.timely;
        },
        allowed (shared_step r w x) xs (step_tracks w x now.node_in t) ok.1,
      )

  all_tracks : (w : SharedWorld) (xs : List SharedStep) → Tracks w → SharedAllows r w xs → Tracks (shared_history r w xs)
  unfolding shared_history SharedAllows
  all_tracks w [] t ok = t
  all_tracks w (x ∷ xs) t ok = all_tracks (shared_step r w x) xs (step_tracks w x ok.0.node_in t) ok.1

  -- ---- the beginning

  -- what the initialize of a node gets
  abbrev first : ℕ → CallState
  first c = state_at r c (r.nets c) (r.clock c) (r.links c) (r.walk c) (r.copy c) (r.entries c)

  initialized_kept : (c : ℕ) → Kept (r.settings c) (r.number c) (r.entries c) (initialized r c).entries
  initialized_kept c = kept_places (ask Initialize) (first c)

  -- a node's places, as its initialize wrote them, stay when later nodes are initialized
  pub record Stays (a : ℕ) (entries : List Entry) : Type 0 where
    pub same_length : length entries ≡ length (initialized r a).entries
    pub same_places : places (r.number a) entries ≡ places (r.number a) (initialized r a).entries

  in_turn_stays : (w : SharedWorld) → OneTable r w → (a c : ℕ) → a ≤ c → c < r.nodes → Stays a (initialized r c).entries
  in_turn_stays w one a zero h l = let e : a ≡ 0 = omega arith in rw e record { same_length = refl; same_places = refl }
  in_turn_stays w one a (suc c) h l = go (ltb c a) refl (in_turn_stays w one a c)
    where
      go : (b : Bool) → ltb c a ≡ b → (a ≤ c → c < r.nodes → Stays a (initialized r c).entries) → Stays a (initialized r (suc c)).entries
      go true t before = let e : a ≡ suc c = omega (arith, ltb-true c a t) in rw e record { same_length = refl; same_places = refl }
      go false t before =
          let s = before (ltb-false c a t) (omega arith) in
          let k = initialized_kept (suc c) in
          let e = one.in_turn_lem c l in
          record {
            same_length = k.same_length ∙ ap length e ∙ s.same_length;
            same_places =
                elsewhere (r.settings (suc c)) (r.number (suc c)) (r.number a) (λ d. differ d) (r.entries (suc c)) (initialized r (suc c)).entries k
                ∙ ap (places (r.number a)) e
                ∙ s.same_places;
          }
        where
          differ : r.number (suc c) ≡ r.number a → ⊥
          differ d = let e = proper.numbers_differ (suc c) a l (omega (arith, ltb-false c a t)) d in omega (arith, ltb-false c a t)

  start_tracks : (w : SharedWorld) → OneTable r w → Tracks w
  start_tracks w one a ha = go r.nodes refl
    where
      initialized_holds : Holds (r.number a) (initialized r a).entries
      initialized_holds = omega (arith, (initialized_kept a).same_length, set_holds (first a) (proper.was_initialized a ha))

      go : (n : ℕ) → r.nodes ≡ n → Holds (r.number a) w.entries × (places (r.number a) w.entries ≡ (w.world.state (r.number a)).places)
      go zero e = absurd (omega arith)
      go (suc m) e =
          let s = in_turn_stays w one a m (omega arith) (omega arith) in
          let last = one.last_after_lem m (sym e) in (
            omega (arith, initialized_holds, ap length last, s.same_length),
            ap (places (r.number a)) last
                ∙ s.same_places
                ∙ sym (ap (λ (y : HostAfter). y.places) (one.starts.was_initialized a ha) ∙ all_there (r.number a) [] (initialized r a) initialized_holds),
          )

pub shared_demand_3 : SharedDemand3
unfolding SharedDemand3 AllCallsWithin Claim
shared_demand_3 r proper ways w one xs ok b i hb hi up =
    let t = start_tracks r proper w one in
    let e : shared_entry r (shared_history r w xs) b i ≡ entry_of r (history r w.world (lents r proper w xs)) b i =
    ap (λ (l : List Entry). get_or l i fresh_entry) ((all_tracks r proper w xs t ok b hb).1 ∙ ap (λ (v : World). (v.state (r.number b)).places) (same_world r proper w xs)) in
    subst (Right r b i) (sym e)
    (all_calls r proper ways w.world one.starts (lents r proper w xs) (allowed r proper w xs t ok) b i hb hi
    (ap entry.up (sym e) ∙ up))
