-- Initialize, a tick, a second and a self-report keep a node right: entries are fresh, unchanged, older, or of hosts that live at the node.
use Rattle.std.specs.Prelude.{Some}
use mathlib.Core.Path.{◌≡◌, refl, sym, ◌∙◌, ap}
use mathlib.Core.Bool.{true, false≢true, true≢false}
use mathlib.Core.List.{List}
use Prim.Native.Nat.{ℕ, suc, ◌<◌}
use native.Mathlib.Omega.{arith}
use borrow.Author.Tests.{eqb-true}
use lib.Dec.{eqb}
use lib.ListN.{length, get_or}
use Rattle.quantity.specs.declared.Millis.{Millis}
use Rattle.quantity.specs.declared.Seconds.{Seconds}
use Rattle.quantity.specs.Quantity.{millis, fall_seconds}
use Rattle.answer.specs.declared.Answer.TheVariants.{Done}
use Rattle.quantity.specs.declared.Count.{Count}
use Rattle.clock.specs.declared.Clock.{Clock}
use Rattle.clock.specs.declared.Counter.{Counter}
use Rattle.table.specs.declared.Entry.{Entry}
use Rattle.table.specs.declared.entries.Change.TheVariants.{Fresh}
use Rattle.table.specs.declared.marks.Marks.{Marks}
use Rattle.table.specs.Marks.{mark}
use Rattle.table.specs.Entry.{fresh_entry, lives_here, with_mark, as_marked, taken_down, with_ttl}
use Rattle.table.specs.Update.{own_update}
use Rattle.table.specs.Runs.{changed}
use Rattle.table.proofs.Cases.{stored, reported_keeps, aged_keeps}
use Rattle.net_table.specs.declared.NetTable.{NetTable}
use Rattle.host.specs.declared.Links.{Links}
use Rattle.host.specs.declared.walk.Walk.{Walk}
use Rattle.host.specs.declared.guard.Scope.TheVariants.{Places, All}
use Rattle.host.specs.Settings.{own_id, found_marked, settings_good, found_for}
use Rattle.host.specs.State.{fresh_link, fresh_links, host_count}
use Rattle.host.specs.CallState.{CallState, entries_of, marks_as_set}
use Rattle.host.specs.Effect.{each}
use Rattle.host.specs.Guard.{done}
use Rattle.host.proofs.Places.{entries_length}
use Rattle.host.proofs.Sound.{sound}
use Rattle.host.proofs.Guarded.{passed, marks_state}
use Rattle.calls.specs.declared.Request.TheVariants.{Initialize, Tick, Adjust, Set, Read, Lookup, Second, SelfReport}
use Rattle.calls.specs.Effects.{initialize, tick, second, self_report}
use Rattle.calls.specs.Effects as effects
use Rattle.wire.specs.declared.Address.{Address}
use lib.IntN.{ℤ}
use Rattle.calls.specs.Perform.{ask, Outcome, entry_at, perform}
use Rattle.network_laws.specs.Network.{Network, state_at, initialized, HostAt, Proper}
use Rattle.network_laws.specs.Demand3.{reading_at}
use Rattle.network_laws.proofs.Lists.{all_any, all_made, all_counted, all_there, each_all}
use Rattle.network_laws.proofs.Performs.{guard_of, performs, there}
use Rattle.network_laws.proofs.Swept.{changes_length, changes_each}
use Rattle.network_laws.proofs.Demand3.Invariant.{RightEntry, RightLink}
use Rattle.network_laws.proofs.Demand3.Outcomes.{RightOutcome, RightState, same_right, written_right, carried_right}

module _ (r : Network) (a : ℕ) where
  -- ---- entries

  pub fresh_right : (i : ℕ) → RightEntry r a i fresh_entry
  unfolding fresh_entry
  fresh_right i = record { fits = omega arith; known = λ t. absurd (false≢true t) }

  marked_right : (i : ℕ) (e : Entry) (n : ℕ) → RightEntry r a i e → RightEntry r a i (with_mark n e)
  marked_right i e n right = record { fits = right.fits; known = right.known }

  pub down_right : (i : ℕ) (e : Entry) → RightEntry r a i e → RightEntry r a i (taken_down e)
  down_right i e right = record { fits = right.fits; known = λ t. absurd (false≢true t) }

  ttl_right : (i : ℕ) (e : Entry) (t : Seconds) → RightEntry r a i e → RightEntry r a i (with_ttl t e)
  ttl_right i e t right = record { fits = right.fits; known = right.known }

  -- the entry of a host at the node: no delay and no offset
  own_right : a < r.nodes → (i : ℕ) → HostAt r i a → (t : Millis) (e : Entry) → RightEntry r a i (stored (own_update t) e)
  own_right inside i here t e =
      record { fits = omega arith; known = λ _. record { node = a; node_in = inside; host_there = here; near = omega arith } }

  -- ---- hosts

  pub set_good : (initialized r a).reply.answer ≡ Done → settings_good (r.settings a) ≡ true
  set_good =
      performs (ask Initialize) (state_at r a (r.nets a) (r.clock a) (r.links a) (r.walk a) (r.copy a) (r.entries a)) (λ (o : Outcome). o.reply.answer ≡ Done → settings_good (r.settings a) ≡ true)
      (λ no is. absurd (false≢true (sym no ∙ ap done is))) (λ yes _. (passed Places (state_at r a (r.nets a) (r.clock a) (r.links a) (r.walk a) (r.copy a) (r.entries a)) yes).settings)

  -- the host of a node's own id is there
  pub own_host : Proper r → a < r.nodes → (i : ℕ) → own_id (r.settings a) ≡ Some i → HostAt r i a
  own_host proper inside i is =
      ap (found_marked (r.settings a).marks) (sym is) ∙ (sound (r.settings a) (set_good (proper.was_initialized a inside))).own_marked

  -- ---- the calls

  pub initialized_right : (initialized r a).reply.answer ≡ Done → RightOutcome r a (r.entries a) (initialized r a)
  unfolding initialize fresh_links
  initialized_right =
      performs (ask Initialize) x (λ (o : Outcome). o.reply.answer ≡ Done → RightOutcome r a (r.entries a) o)
      (λ no is. absurd (false≢true (sym no ∙ ap done is)))
      (λ e _.
      let held = there (ask Initialize) x e in
      written_right r a (r.nets a) (r.clock a) (r.links a) (r.walk a) (r.copy a) (r.entries a) held (fresh_links (r.settings a)) _
      (all_made (λ (j : ℕ). RightLink r a (suc j)) fresh_link (λ j y b i cable alive. absurd (true≢false alive)) (r.settings a).links)
      (changes_length (each (r.settings a) Fresh) (entries_of x))
      (rw (changes_each (host_count (r.settings a)) Fresh (r.settings a).marks (entries_of x) (omega (arith, entries_length (r.settings a) (r.number a) (r.entries a) held)))
      (all_counted (λ _ _. Unit {0}) (RightEntry r a) 0 (changed (r.settings a).marks Fresh) (entries_of x) (λ i _ _ _. marked_right i fresh_entry _ (fresh_right i))
      (all_any (λ _ _. Unit {0}) (λ _ _. tt) (entries_of x)))))
    where
      x : CallState
      x = state_at r a (r.nets a) (r.clock a) (r.links a) (r.walk a) (r.copy a) (r.entries a)

  module _ (nets : NetTable) (c : Clock) (l : Links) (walk : Walk) (copy : List ℕ) (entries : List Entry) (call_state : RightState r a l entries) where
    abbrev x : CallState
    x = state_at r a nets c l walk copy entries

    pub tick_right : (n : Count) → RightOutcome r a entries (perform (ask (Tick n)) x)
    unfolding tick
    tick_right n =
        performs (ask (Tick n)) x (RightOutcome r a entries) (λ _. same_right r a l entries call_state)
        (λ e. carried_right r a nets c l walk copy entries call_state (there (ask (Tick n)) x e) (tick n x.host x.walk) call_state.links (λ id y low high is right. absurd (omega arith)))

    pub adjust_right : (n : Count) → RightOutcome r a entries (perform (ask (Adjust n)) x)
    unfolding effects.adjust
    adjust_right n =
        performs (ask (Adjust n)) x (RightOutcome r a entries) (λ _. same_right r a l entries call_state)
        (λ e. carried_right r a nets c l walk copy entries call_state (there (ask (Adjust n)) x e) (effects.adjust n x.host x.walk) call_state.links (λ id y low high is right. absurd (omega arith)))

    pub set_right : (ms : ℤ) (n : Count) → RightOutcome r a entries (perform (ask (Set ms n)) x)
    unfolding effects.set_by
    set_right ms n =
        performs (ask (Set ms n)) x (RightOutcome r a entries) (λ _. same_right r a l entries call_state)
        (λ e. carried_right r a nets c l walk copy entries call_state (there (ask (Set ms n)) x e) (effects.set_by (millis ms) n x.host x.walk) call_state.links (λ id y low high is right. absurd (omega arith)))

    pub clock_right : (k : Counter) → RightOutcome r a entries (perform (ask (Read k)) x)
    unfolding effects.read
    clock_right k =
        performs (ask (Read k)) x (RightOutcome r a entries) (λ _. same_right r a l entries call_state)
        (λ e. carried_right r a nets c l walk copy entries call_state (there (ask (Read k)) x e) (effects.read k x.host x.walk) call_state.links (λ id y low high is right. absurd (omega arith)))

    pub look_right : (d : Address) → RightOutcome r a entries (perform (ask (Lookup d)) x)
    unfolding effects.lookup
    look_right d =
        performs (ask (Lookup d)) x (RightOutcome r a entries) (λ _. same_right r a l entries call_state)
        (λ e. carried_right r a nets c l walk copy entries call_state (there (ask (Lookup d)) x e) (effects.lookup d x.nets x.host x.walk (entry_at (found_for x.nets x.host.settings d) x)) call_state.links (λ id y low high is right. absurd (omega arith)))

    pub second_right : RightOutcome r a entries (perform (ask Second) x)
    unfolding second
    second_right =
        performs (ask Second) x (RightOutcome r a entries) (λ _. same_right r a l entries call_state)
        (λ e.
        carried_right r a nets c l walk copy entries call_state (there (ask Second) x e) (second x.host x.walk) call_state.links
        (λ id y low high is right.
        aged_keeps (RightEntry r a id) y right (down_right id y right) (ttl_right id y (fall_seconds y.ttl) right)))

    pub self_right : a < r.nodes → (k : Counter) → RightOutcome r a entries (perform (ask (SelfReport k)) x)
    unfolding self_report
    self_right inside k =
        performs (ask (SelfReport k)) x (RightOutcome r a entries) (λ _. same_right r a l entries call_state)
        (λ e.
        carried_right r a nets c l walk copy entries call_state (there (ask (SelfReport k)) x e) (self_report k x.host x.walk) call_state.links
        (λ id y low high is right.
        let held = there (ask (SelfReport k)) x e in
        reported_keeps (RightEntry r a id) t y right (down_right id y right)
        (λ here. own_right inside id (lives (state_marked e) id (omega (arith, high, entries_length (r.settings a) (r.number a) entries held)) y is here) t y)))
      where
        t : Millis
        t = (reading_at r a c k).time

        m : Marks
        m = (r.settings a).marks

        state_marked : done (guard_of (ask (SelfReport k)) x) ≡ true → marks_as_set x ≡ true
        state_marked e = marks_state x ((passed All x e).call_state refl)

        -- an entry that has the mark is of an id that the settings mark
        lives : marks_as_set x ≡ true → (id : ℕ) → id < length (entries_of x) → (y : Entry) → y ≡ get_or (entries_of x) id fresh_entry → lives_here y ≡ true → HostAt r id a
        lives set id in_table y is here =
            let same = all_there (λ (i : ℕ) (e : Entry). as_marked m i e ≡ true) fresh_entry (entries_of x) (each_all (as_marked m) (entries_of x) set) id in_table in
            let mark-is = eqb-true y.here (mark m id) (rw (← is) at same) in
            ap (λ (n : ℕ). eqb n 1) (sym mark-is) ∙ here
