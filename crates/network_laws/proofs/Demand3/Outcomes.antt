-- What a call of node a has to show of its outcome, so that the node is right afterwards.
use mathlib.Core.Path.{◌≡◌, refl, ap, ◌∙◌, sym, subst}
use mathlib.Core.Bool.{Bool, true, false, true≢false}
use mathlib.Core.List.{List}
use Prim.Native.Nat.{ℕ, suc, ◌+◌, ◌-◌, ◌≤◌, ◌<◌}
use native.Mathlib.Omega.{arith}
use borrow.Author.Tests.{ltb-false, lt-ltb}
use lib.Dec.{ltb, eqb}
use lib.ListN.{length, get_or, take}
use lib.Seq.{get_or-take}
use Rattle.std.proofs.Common.{Option, Some, None}
use Rattle.lists.proofs.Tests.{either, neither}
use Rattle.answer.specs.declared.Answer.{Answer}
use Rattle.clock.specs.declared.Clock.{Clock}
use Rattle.table.specs.declared.Entry.{Entry}
use Rattle.table.specs.Entry.{fresh_entry}
use Rattle.table.specs.Runs.{changed, updated_at}
use Rattle.net_table.specs.declared.NetTable.{NetTable}
use Rattle.host.specs.declared.Link.{Link}
use Rattle.host.specs.declared.Links.{Links}
use Rattle.host.specs.declared.walk.Walk.{Walk}
use Rattle.host.specs.declared.walk.Place.{Place}
use Rattle.host.specs.declared.walk.Place.TheVariants.{Step1, Step2, Step3, Step4, Step5, LineA, LineB, LineC, LineD}
use Rattle.host.specs.Settings.{link_count_of}
use Rattle.host.specs.Walk.{is_open, place_of, packet_of}
use Rattle.host.specs.Guard.{in_walk}
use Rattle.host.proofs.Guarded.{passed, counted}
use Rattle.host.specs.State.{places_per_host, first_place, host_count, unset, fresh_link, link_of, own_entries, with_entries, no_link}
use Rattle.host.specs.declared.Effect.{Effect}
use Rattle.host.specs.CallState.{CallState, entries_of}
use Rattle.host.proofs.Places.{Holds}
use Rattle.arrival.specs.declared.Arrived.{Arrived}
use Rattle.calls.specs.Perform.{Call, Outcome, scope_of_call, refused, carried_out, updated_by, perform}
use Rattle.network_laws.specs.Frame.{Elsewhere, Frame}
use Rattle.network_laws.specs.History.{HostAfter, Continues, after_outcome, places}
use Rattle.network_laws.specs.Network.{Network, state_at, Proper}
use Rattle.network_laws.proofs.Lists.{All, all_first, all_weaken}
use Rattle.network_laws.proofs.Performs.{guard_of, performs}
use Rattle.network_laws.proofs.Demand1.Frame.{frame_holds}
use Rattle.network_laws.proofs.Swept.{changes_length, changes_keep, updates_length, updates_keep}
use Rattle.network_laws.proofs.Written.{written_kept, written_back}
use Rattle.network_laws.proofs.HostPlaces.{entries_first}
use Rattle.network_laws.proofs.Demand3.Invariant.{RightEntry, RightLink, RightLinks, RightAt, RightWalk, between, LinksIn, RightNode}

-- these links and this host table, after a call that got another host table
pub record RightAfter (r : Network) (a : ℕ) (before : List Entry) (l : Links) (entries : List Entry) : Type 0 where
  pub links : RightLinks r a l.all
  pub table : Holds (r.number a) before → All (RightEntry r a) (own_entries (r.settings a) (r.number a) entries)
  pub same_length : length entries ≡ length before

abbrev pub RightOutcome : (r : Network) (a : ℕ) (entries : List Entry) → Outcome → Type 0
RightOutcome r a entries o = RightAfter r a entries o.links o.entries

-- the state that a call gets of a node that is right
pub record RightState (r : Network) (a : ℕ) (l : Links) (entries : List Entry) : Type 0 where
  pub links : RightLinks r a l.all
  pub table : Holds (r.number a) entries → All (RightEntry r a) (own_entries (r.settings a) (r.number a) entries)

-- the same of a node that may have a walk
pub record NodeState (r : Network) (a : ℕ) (w : Walk) (copy : List ℕ) (l : Links) (entries : List Entry) : Type 0 where
  pub links : LinksIn r a w l.all
  pub walk : RightWalk r a w copy l
  pub table : Holds (r.number a) entries → All (RightEntry r a) (own_entries (r.settings a) (r.number a) entries)

pub record NodeAfter (r : Network) (a : ℕ) (before : List Entry) (o : Outcome) : Type 0 where
  pub links : LinksIn r a o.walk o.links.all
  pub walk : RightWalk r a o.walk o.copy o.links
  pub table : Holds (r.number a) before → All (RightEntry r a) (own_entries (r.settings a) (r.number a) o.entries)
  pub same_length : length o.entries ≡ length before

module _ (r : Network) (a : ℕ) where
  -- the first NHOSTS places of a host table are those of its 255
  first_places : (entries : List Entry) → take (host_count (r.settings a)) (places (r.number a) entries) ≡ own_entries (r.settings a) (r.number a) entries
  first_places entries = sym (entries_first (r.settings a) (r.number a) entries)

  -- a slot past the count has no cable
  spare_right : Proper r → (j : ℕ) (x : Link) → link_count_of (r.settings a) ≤ j → RightLink r a (suc j) x
  unfolding no_link
  spare_right proper j x past b i cable alive =
      let there = (neither (eqb (suc j) 0) (ltb (link_count_of (r.settings a)) (suc j)) (proper.cables a (suc j) b i cable).link_in).1 in
      absurd (true≢false (sym (lt-ltb (link_count_of (r.settings a)) (suc j) (omega arith)) ∙ there))

  -- the packet of an open walk is unchanged
  pub same_packet : (x : HostAfter) (nets : NetTable) (c : Clock) (l : Links) (copy : List ℕ) (entries : List Entry) → Continues x (state_at r a nets c l x.walk copy entries) → is_open x.walk ≡ true → packet_of x.walk copy ≡ packet_of x.walk x.copy
  same_packet x nets c l copy entries continues opened = rw opened at continues.own_packet

  pub state_right : Proper r → (x : HostAfter) (nets : NetTable) (c : Clock) (l : Links) (copy : List ℕ) (entries : List Entry) → Continues x (state_at r a nets c l x.walk copy entries) → RightNode r a x
      → NodeState r a x.walk copy l entries
  state_right proper x nets c l copy entries continues right =
      record {
        links =
            all_first (λ (j : ℕ) (y : Link). between x.walk (suc j) ≡ false → RightLink r a (suc j) y) (link_count_of (r.settings a)) (λ j y past _. spare_right proper j y past) x.links.all l.all
            (sym continues.own_links_lem) right.links;
        walk = λ opened. subst (λ (o : List ℕ). RightAt r a x.walk o l (place_of x.walk)) (sym (same_packet x nets c l copy entries continues opened)) (moved (place_of x.walk) (right.walk opened));
        table = λ holds. subst (All (RightEntry r a)) (sym (continues.own_entries_lem holds)) right.table;
      }
    where
      -- the walk's link is as it was
      same_link : (i : ℕ) → no_link (r.settings a) i ≡ false → link_of l i ≡ link_of x.links i
      same_link i has =
          let h = (counted (r.settings a) i has).at_place in
          sym (get_or-take (link_count_of (r.settings a)) l.all (i - 1) (fresh_link unset) h)
          ∙ ap (λ ys. get_or ys (i - 1) (fresh_link unset)) continues.own_links_lem
          ∙ get_or-take (link_count_of (r.settings a)) x.links.all (i - 1) (fresh_link unset) h

      moved : (q : Option Place) → RightAt r a x.walk (packet_of x.walk x.copy) x.links q → RightAt r a x.walk (packet_of x.walk x.copy) l q
      moved None h = h
      moved (Some Step1) h = h
      moved (Some Step2) h = h
      moved (Some Step3) h = h
      moved (Some Step4) h = h
      moved (Some Step5) h =
          let has = (proper.cables a x.walk.link h.taken.message.node h.taken.message.link h.taken.cable).link_in in
          record { taken = h.taken; fits = h.fits; direct = h.direct; neighbor = λ low. ap (λ y. y.neighbor) (same_link x.walk.link has) ∙ h.neighbor low }
      moved (Some LineA) h = h
      moved (Some LineB) h = h
      moved (Some LineC) h = h
      moved (Some LineD) h = h

  pub after_right : (x : HostAfter) (entries : List Entry) (o : Outcome) → RightNode r a x → NodeAfter r a entries o
      → RightNode r a (after_outcome (r.number a) x.places o)
  after_right x entries o right now =
      record {
        links = now.links;
        walk = now.walk;
        table =
            either (λ (l : List Entry). All (RightEntry r a) (take (host_count (r.settings a)) l))
            (ltb (length o.entries) (first_place (r.number a) + places_per_host)) _ _ (λ t. right.table)
            (λ t.
            let h = ltb-false (length o.entries) (first_place (r.number a) + places_per_host) t in
            let holds : Holds (r.number a) entries = omega (arith, now.same_length) in
            subst (All (RightEntry r a)) (sym (first_places o.entries)) (now.table holds));
      }

  -- links that are right are so whatever walk there is; those of a node without a walk are all right
  pub any_walk : (w : Walk) (l : List Link) → RightLinks r a l → LinksIn r a w l
  any_walk w l t = all_weaken (λ (j : ℕ). RightLink r a (suc j)) (λ (j : ℕ) (y : Link). between w (suc j) ≡ false → RightLink r a (suc j) y) (λ j y f _. f) l t

  pub no_walk_lem : (w : Walk) (l : List Link) → is_open w ≡ false → LinksIn r a w l → RightLinks r a l
  no_walk_lem w l shut t = all_weaken (λ (j : ℕ) (y : Link). between w (suc j) ≡ false → RightLink r a (suc j) y) (λ (j : ℕ). RightLink r a (suc j)) (λ j y f. f (rw shut)) l t

  module _ (nets : NetTable) (c : Clock) (l : Links) (walk : Walk) (copy : List ℕ) (entries : List Entry) (call_state : NodeState r a walk copy l entries) (call : Call) where
    -- a refusal changes nothing
    pub refused_right : (answer : Answer) → NodeAfter r a entries (refused answer call (state_at r a nets c l walk copy entries))
    refused_right answer = record { links = call_state.links; walk = call_state.walk; table = call_state.table; same_length = refl }

    -- a call that changes no walk: refused while one is open, and else as the call by itself shows
    pub plain_right : Elsewhere call → ((w : Walk) → in_walk (scope_of_call call) w ≡ is_open w)
        → (RightState r a l entries → RightOutcome r a entries (perform call (state_at r a nets c l walk copy entries))) → NodeAfter r a entries (perform call (state_at r a nets c l walk copy entries))
    unfolding Frame
    plain_right else refuses right = go (is_open walk) refl
      where
        x : CallState
        x = state_at r a nets c l walk copy entries

        go : (b : Bool) → is_open walk ≡ b → NodeAfter r a entries (perform call x)
        go true e = performs call x (NodeAfter r a entries) (λ _. refused_right (guard_of call x)) (λ d. absurd (true≢false (sym (refuses walk ∙ e) ∙ (passed (scope_of_call call) x d).closed)))
        go false e =
            let o = right record { links = no_walk_lem walk l.all e call_state.links; table = call_state.table } in
            let same = (frame_holds call x).walk else in
            record {
              links = any_walk (perform call x).walk (perform call x).links.all o.links;
              walk = λ opened. absurd (true≢false (sym opened ∙ ap is_open same ∙ e));
              table = o.table;
              same_length = o.same_length;
            }

  -- a refusal changes nothing
  pub same_right : (l : Links) (entries : List Entry) → RightState r a l entries → RightAfter r a entries l entries
  same_right l entries call_state = record { links = call_state.links; table = call_state.table; same_length = refl }

  -- what a call that passed its guard makes of the node's entries
  module _ (nets : NetTable) (c : Clock) (l : Links) (walk : Walk) (copy : List ℕ) (entries : List Entry) (there : Holds (r.number a) entries) where
    abbrev x : CallState
    x = state_at r a nets c l walk copy entries

    pub written_right : (m : Links) (es : List Entry) → RightLinks r a m.all → length es ≡ length (entries_of x) → All (RightEntry r a) es
        → RightAfter r a entries m (with_entries (r.number a) es entries)
    written_right m es links same right =
        record {
          links = links;
          table = λ _. subst (All (RightEntry r a)) (sym (written_back x es there same)) right;
          same_length = (written_kept x es there same).same_length;
        }

  module _ (nets : NetTable) (c : Clock) (l : Links) (walk : Walk) (copy : List ℕ) (entries : List Entry) (call_state : RightState r a l entries) (there : Holds (r.number a) entries) where
    pub carried_right : (e : Effect) → RightLinks r a e.links.all
        → ((id : ℕ) (y : Entry) → e.work.first ≤ id → id < e.work.end → y ≡ get_or (entries_of (x nets c l walk copy entries there)) id fresh_entry → RightEntry r a id y
        → RightEntry r a id (changed e.work.marks e.work.change (id - e.work.first) y))
        → RightOutcome r a entries (carried_out e (x nets c l walk copy entries there))
    carried_right e links keeps =
        written_right nets c l walk copy entries there e.links _ links (changes_length e.work (entries_of (x nets c l walk copy entries there)))
        (changes_keep e.work (entries_of (x nets c l walk copy entries there)) (RightEntry r a) keeps (call_state.table there))

    pub updated_right : (e : Arrived) (octets : List ℕ) → RightLinks r a e.links.all
        → ((id : ℕ) (d : Clock) (y : Entry) → e.work.first ≤ id → id < e.work.end → id < length (entries_of (x nets c l walk copy entries there)) → RightEntry r a id y
        → RightEntry r a id (updated_at e.work octets id d y).entry)
        → RightOutcome r a entries (updated_by e octets (x nets c l walk copy entries there))
    updated_right e octets links keeps =
        written_right nets c l walk copy entries there e.links _ links (updates_length e.work octets (entries_of (x nets c l walk copy entries there)))
        (updates_keep e.work octets (entries_of (x nets c l walk copy entries there)) (RightEntry r a) keeps (call_state.table there))
