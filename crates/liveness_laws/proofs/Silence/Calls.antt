-- Every call except a box of a walk keeps it: an entry stays, ages, goes down, or is stored with a DELAY of at least 100 more than a report.
use Rattle.std.specs.Prelude.{Option, Some, None, Result}
use mathlib.Core.Path.{◌≡◌, refl, sym, ap, subst, subst₂, ◌∙◌}
use mathlib.Core.Bool.{true, false, true≢false, cond, not, ◌||◌}
use mathlib.Core.List.{List}
use mathlib.Core.Logic.{◌⊎◌, inl, inr}
use Prim.Native.Nat.{ℕ, suc, ◌+◌, ◌-◌, ◌≤◌, ◌<◌}
use native.Mathlib.Omega.{arith}
use borrow.Author.Tests.{eqb-true}
use lib.Dec.{eqb}
use lib.ListN.{length, get_or}
use Rattle.lists.proofs.Tests.{either, neither}
use Rattle.quantity.specs.declared.Millis.{Millis}
use Rattle.quantity.specs.declared.Count.{Count}
use Rattle.quantity.specs.Words.{zero_word}
use lib.IntN.{ℤ, pos, ◌+ℤ◌}
use Rattle.quantity.specs.Quantity.{millis, less_millis}
use Rattle.wire.specs.declared.Report.{Report}
use Rattle.quantity.proofs.Ints.{sum, lt_yes, is_lt}
use Rattle.answer.specs.declared.Answer.{Answer}
use Rattle.answer.specs.declared.Answer.TheVariants.{Done, DelayNotValid, NoHost}
use Rattle.clock.specs.declared.Clock.{Clock}
use Rattle.clock.specs.declared.Counter.{Counter}
use Rattle.clock.specs.Clock.{count_used}
use Rattle.wire.specs.declared.Address.{Address}
use Rattle.wire.specs.declared.Packet.{Packet}
use Rattle.wire.specs.Octets.{same_address}
use Rattle.wire.specs.Hello.{report_at}
use Rattle.wire.specs.Packet.{hello_of, fields}
use Rattle.table.specs.declared.Entry.{Entry}
use Rattle.table.specs.declared.entries.Change.TheVariants.{Aged}
use Rattle.table.specs.Marks.{mark}
use Rattle.table.specs.Entry.{fresh_entry, lives_here, as_marked, max_delay}
use Rattle.table.specs.Forms.{Stage}
use Rattle.table.specs.Runs.{changed, changes, update_at, updates}
use Rattle.table.specs.Update.{own_update}
use Rattle.table.proofs.Cases.{stored, update_keeps, reported_keeps}
use Rattle.net_table.specs.declared.NetTable.{NetTable}
use Rattle.host.specs.declared.Links.{Links}
use Rattle.host.specs.declared.Effect.{Effect}
use Rattle.host.specs.declared.walk.Walk.{Walk}
use Rattle.host.specs.declared.guard.Scope.TheVariants.{All as AllScope}
use Rattle.host.specs.Effect.{each}
use Rattle.host.specs.Guard.{done}
use Rattle.host.specs.declared.Host.{Host}
use Rattle.host.specs.CallState.{CallState, host, entries_of, our_reading, marks_as_set}
use Rattle.host.specs.Settings.{found_for}
use Rattle.host.specs.State.{host_count, own_entries, broadcast, link_of, with_link}
use Rattle.host.proofs.Guarded.{passed, marks_state}
use Rattle.host.proofs.Places.{Holds, entries_length}
use Rattle.arrival.specs.declared.Flight.{Flight}
use Rattle.arrival.specs.declared.Arrived.{Arrived}
use Rattle.arrival.specs.Steps.{measured, new_neighbor, step2, step3, step4, steps2to4, at_least_min, neighbor_update, report_update}
use Rattle.arrival.specs.Arrival.{ends, updated, no_table, with_table, step5, concluded, action, inspected, inspection}
use Rattle.calls.specs.declared.Request.TheVariants.{Tick, Adjust, Set, Read, Lookup, Second, SelfReport}
use Rattle.calls.specs.Effects.{tick, second, self_report}
use Rattle.calls.specs.Effects as effects
use Rattle.calls.specs.Perform.{Call, ask, act, inspect, Outcome, carried_out, updated_by, entry_at, work, perform}
use Rattle.network_laws.specs.Frame.{Elsewhere, Frame}
use Rattle.network_laws.specs.Network.{Network, state_at, HostAt}
use Rattle.network_laws.proofs.Lists.{All, all_counted, all_there, each_all}
use Rattle.network_laws.proofs.Performs.{guard_of, performs}
use Rattle.network_laws.proofs.Ranges.{raised_low}
use Rattle.network_laws.proofs.Swept.{changes_length, changes_keep, changes_each, updates_length, updates_keep}
use Rattle.network_laws.proofs.Written.{written_back}
use Rattle.network_laws.proofs.Demand1.Frame.{frame_holds}
use Rattle.network_laws.proofs.Demand3.Arrival.{inspect_cases}
use Rattle.liveness_laws.proofs.Silence.Entry.{aged_fades, down_fades, stored_early}
use Rattle.liveness_laws.proofs.Silence.Invariant.{Arriving, report_stored, FadeWalk, Ours, FadeState, FadeAfter}
use Rattle.liveness_laws.proofs.Silence.Tables.{Tabled}

module _ (r : Network) (i n b s : ℕ)
    (nets : NetTable) (cl : Clock) (l : Links) (walk : Walk) (copy : List ℕ) (entries : List Entry) (call_state : FadeState r i n b s walk copy entries) where
  abbrev x : CallState
  x = state_at r b nets cl l walk copy entries

  abbrev Table : (s : ℕ) → List Entry → Type 0
  Table s entries = All (Ours r i n s) (own_entries (r.settings b) (r.number b) entries)

  -- ---- what is made of the entries

  pub carried_table : (held : Holds (r.number b) entries) (e : Effect)
      → ((id : ℕ) (y : Entry) → e.work.first ≤ id → id < e.work.end → y ≡ get_or (entries_of x) id fresh_entry → Ours r i n s id y
      → Ours r i n s id (changed e.work.marks e.work.change (id - e.work.first) y))
      → Table s (carried_out e x).entries
  carried_table held e keeps =
      subst (All (Ours r i n s)) (sym (written_back x (changes e.work (entries_of x)) held (changes_length e.work (entries_of x))))
      (changes_keep e.work (entries_of x) (Ours r i n s) keeps (call_state.table held))

  pub updated_table : (held : Holds (r.number b) entries) (e : Arrived) (octets : List ℕ)
      → ((id : ℕ) (y : Entry) → e.work.first ≤ id → id < e.work.end → less_millis (update_at e.work (id - e.work.base) octets).delay max_delay ≡ true → Ours r i n s id (stored (update_at e.work (id - e.work.base) octets) y))
      → Table s (updated_by e octets x).entries
  updated_table held e octets stores =
      subst (All (Ours r i n s)) (sym (written_back x (updates e.work octets (entries_of x)).own_entries held (updates_length e.work octets (entries_of x))))
      (updates_keep e.work octets (entries_of x) (Ours r i n s)
      (λ id d y low high in_table right.
      update_keeps (Ours r i n s id) (eqb (id - e.work.base) e.work.clock_host) e.work.hold_interval e.work.count e.work.date (update_at e.work (id - e.work.base) octets) d y
      right (λ _. down_fades n s y) (stores id y low high))
      (call_state.table held))

  -- ---- a call that leaves the walk

  plain : (call : Call) → Elsewhere call → ((held : Holds (r.number b) entries) → done (guard_of call x) ≡ true → Table s (work call x).entries) → FadeAfter r i n b s entries (perform call x)
  unfolding Frame
  plain call else makes =
      let f = frame_holds call x in
      record {
        walk = subst₂ (FadeWalk r i n s) (sym (f.walk else)) (sym (f.copy else.not_opening)) call_state.walk;
        table = λ held. performs call x (λ (o : Outcome). Table s o.entries) (λ _. call_state.table held) (λ d. makes held d);
        same_length = f.places.same_length;
      }

  pub tick_fades : (k : Count) → Elsewhere (ask (Tick k)) → FadeAfter r i n b s entries (perform (ask (Tick k)) x)
  unfolding tick
  tick_fades k else = plain (ask (Tick k)) else (λ held d. carried_table held (tick k x.host x.walk) (λ id y low high is f. absurd (omega arith)))

  pub adjust_fades : (m : Count) → Elsewhere (ask (Adjust m)) → FadeAfter r i n b s entries (perform (ask (Adjust m)) x)
  unfolding effects.adjust
  adjust_fades m else = plain (ask (Adjust m)) else (λ held done-now. carried_table held (effects.adjust m x.host x.walk) (λ id y low high is f. absurd (omega arith)))

  pub set_fades : (ms : ℤ) (m : Count) → Elsewhere (ask (Set ms m)) → FadeAfter r i n b s entries (perform (ask (Set ms m)) x)
  unfolding effects.set_by
  set_fades ms m else = plain (ask (Set ms m)) else (λ held done-now. carried_table held (effects.set_by (millis ms) m x.host x.walk) (λ id y low high is f. absurd (omega arith)))

  pub clock_fades : (κ : Counter) → Elsewhere (ask (Read κ)) → FadeAfter r i n b s entries (perform (ask (Read κ)) x)
  unfolding effects.read
  clock_fades κ else = plain (ask (Read κ)) else (λ held done-now. carried_table held (effects.read κ x.host x.walk) (λ id y low high is f. absurd (omega arith)))

  pub look_fades : (d : Address) → Elsewhere (ask (Lookup d)) → FadeAfter r i n b s entries (perform (ask (Lookup d)) x)
  unfolding effects.lookup
  look_fades d else = plain (ask (Lookup d)) else (λ held done-now. carried_table held (effects.lookup d x.nets x.host x.walk (entry_at (found_for x.nets x.host.settings d) x)) (λ id y low high is f. absurd (omega arith)))

  -- a second that is not refused counts, and then no walk is open
  pub second_fades : Elsewhere (ask Second) → FadeAfter r i n b (s + cond (done (perform (ask Second) x).reply.answer) 1 0) entries (perform (ask Second) x)
  unfolding Frame second
  second_fades else =
      record {
        walk =
            performs (ask Second) x (λ (o : Outcome). FadeWalk r i n (s + cond (done o.reply.answer) 1 0) o.walk o.copy)
            (λ no. let z : s + cond (done (guard_of (ask Second) x)) 1 0 ≡ s = rw no (omega arith) in rw z call_state.walk)
            (λ d opened. absurd (true≢false (sym opened ∙ (passed AllScope x d).closed)));
        table =
            λ held.
            performs (ask Second) x (λ (o : Outcome). Table (s + cond (done o.reply.answer) 1 0) o.entries)
            (λ no. let z : s + cond (done (guard_of (ask Second) x)) 1 0 ≡ s = rw no (omega arith) in rw z (call_state.table held))
            (λ d.
            let few = entries_length (r.settings b) (r.number b) entries held in
            subst (All (Ours r i n (s + 1))) (sym (written_back x (changes (each (r.settings b) Aged) (entries_of x)) held (changes_length (each (r.settings b) Aged) (entries_of x))))
            (rw (changes_each (host_count (r.settings b)) Aged (r.settings b).marks (entries_of x) (omega (arith, few)))
            (all_counted (Ours r i n s) (Ours r i n (s + 1)) 0 (changed (r.settings b).marks Aged) (entries_of x)
            (λ id y _ f same. let one : s + 1 ≡ suc s = omega arith in rw one (aged_fades n s y (f same))) (call_state.table held))));
        same_length = (frame_holds (ask Second) x).places.same_length;
      }

  -- a self-report says nothing about an id that is not marked here; or the epochs have not begun
  pub report_fades : (k : Counter) → (HostAt r i b → (perform (ask (SelfReport k)) x).reply.answer ≡ Done → ⊥) ⊎ ((s ≡ 0) × (n ≡ 0)) → Elsewhere (ask (SelfReport k)) → FadeAfter r i n b s entries (perform (ask (SelfReport k)) x)
  unfolding self_report Frame
  report_fades k never else =
      let f = frame_holds (ask (SelfReport k)) x in
      record {
        walk = subst₂ (FadeWalk r i n s) (sym (f.walk else)) (sym (f.copy else.not_opening)) call_state.walk;
        table =
            λ held.
            performs (ask (SelfReport k)) x (λ (o : Outcome). (HostAt r i b → o.reply.answer ≡ Done → ⊥) ⊎ ((s ≡ 0) × (n ≡ 0)) → Table s o.entries) (λ _ _. call_state.table held)
            (λ d not-now.
            carried_table held (self_report k x.host x.walk)
            (λ id y low high is g.
            reported_keeps (Ours r i n s id) t y g (λ _. down_fades n s y)
            (λ here same.
            let home = subst (λ (j : ℕ). HostAt r j b) same (lives (marks_state x ((passed AllScope x d).call_state refl)) id (omega (arith, high, entries_length (r.settings b) (r.number b) entries held)) y is here) in
            elim not-now [ inl Never-here ↦ absurd (Never-here home refl) | inr z ↦ stored_early n s (own_update t) y z.0 (omega (arith, z.1)) ])))
            never;
        same_length = f.places.same_length;
      }
    where
      t : Millis
      t = (our_reading k x.host).time

      lives : marks_as_set x ≡ true → (id : ℕ) → id < length (entries_of x) → (y : Entry) → y ≡ get_or (entries_of x) id fresh_entry → lives_here y ≡ true → HostAt r id b
      lives set id in_table y is here =
          let same = all_there (λ (j : ℕ) (e : Entry). as_marked (r.settings b).marks j e ≡ true) fresh_entry (entries_of x) (each_all (as_marked (r.settings b).marks) (entries_of x) set) id in_table in
          let mark-is = eqb-true y.here (mark (r.settings b).marks id) (rw (← is) at same) in
          ap (λ (m : ℕ). eqb m 1) (sym mark-is) ∙ here

  pub send_fades : (link : ℕ) (k : Counter) (buffer : List ℕ) → Elsewhere (Call.send link k buffer) → FadeAfter r i n b s entries (perform (Call.send link k buffer) x)
  send_fades link k buffer else = plain (Call.send link k buffer) else (λ held d. call_state.table held)

  pub inspect_fades : (link : ℕ) (packet : List ℕ) → Elsewhere (inspect link packet) → FadeAfter r i n b s entries (perform (inspect link packet) x)
  inspect_fades link packet else = plain (inspect link packet) else (λ held d. updated_table held (inspection link packet x.host) packet (λ id y low high small. absurd (omega arith)))

  -- ---- an arrival at a link

  module _ (link : ℕ) (octets : List ℕ) (point : broadcast (r.settings b) link ≡ false) (tabled : Tabled octets) (now : Arriving i n s octets) where
    abbrev p : Packet
    p = fields octets

    module _ (held : Holds (r.number b) entries) (h : Host) (ours : h.settings ≡ r.settings b) (k : Count) where
      abbrev Keeps : Arrived → Type 0
      Keeps e = Table s (updated_by e octets x).entries

      quiet_keeps : (z : Answer) (g : Host) → Keeps (ends z g)
      quiet_keeps z g = updated_table held (ends z g) octets (λ id y low high small. absurd (omega arith))

      -- without a table the DELAY is 30,000
      no_table_lem : (f : Flight) (found : Option ℕ) → less_millis (at_least_min f.delay) max_delay ≡ false → Keeps (no_table h link k p f found)
      no_table_lem f None far = quiet_keeps NoHost h
      no_table_lem f (Some own) far = updated_table held (updated h k p (neighbor_update link f) own 1 false) octets (λ id y low high small. absurd (true≢false (sym small ∙ far)))

      with_table_lem : (f : Flight) → eqb p.nhosts 0 ≡ false → Keeps (with_table h link k p f)
      with_table_lem f some =
          let w = updated h k p (neighbor_update link f) 0 (host_count h.settings) true in
          updated_table held w octets
          (λ id y low high small same.
          let it : id - 0 ≡ i = omega arith in
          let l = lt_yes ((at_least_min f.delay).0 +ℤ report.delay.0) (pos 30000) (rw it at small) in
          let few = is_lt report.delay.0 (pos 30000) (omega (arith, l, raised_low f.delay, sum (at_least_min f.delay).0 report.delay.0)) in
          rw it (report_stored now (report_update link f report) y some few (omega (arith, raised_low f.delay, sum (at_least_min f.delay).0 report.delay.0))))
        where
          report : Report
          report = report_at (hello_of octets) i

      fifth : (f : Flight) → (eqb p.nhosts 0 ≡ true → less_millis (at_least_min f.delay) max_delay ≡ false) → Keeps (step5 nets h link k p f)
      fifth f far = either Keeps (eqb p.nhosts 0) _ _ (λ none. no_table_lem f (found_for nets h.settings f.link.neighbor) (far none)) (λ some. with_table_lem f some)

    -- 4: a new neighbour has DELAY 30,000, and a known one a TSP that is not 0
    concluded_table : (held : Holds (r.number b) entries) (k : Counter) → Table s (updated_by (action k nets x.host link p) octets x).entries
    unfolding steps2to4 step2 step3 step4
    concluded_table held k =
        rw point
        (either Kept (not (same_address p.source (link_of l link).neighbor)) _ _
        (λ _. fifth held (after (new_neighbor p arrived)) refl (count_used k) (new_neighbor p arrived) (λ _. refl))
        (λ t.
        either Kept (zero_word p.tsp || not (eqb reading.hold.0 0)) _ _
        (λ _. quiet_keeps held x.host refl (count_used k) DelayNotValid (host (r.settings b) reading l))
        (λ u. fifth held (after arrived) refl (count_used k) arrived (λ none. absurd (true≢false (sym (tabled none) ∙ (neither (zero_word p.tsp) _ u).0))))))
      where
        reading : Clock
        reading = (our_reading k x.host).clock

        arrived : Flight
        arrived = measured false p (our_reading k x.host).time (link_of l link)

        after : Flight → Host
        after f = host (r.settings b) reading (with_link link f.link l)

        Kept : Stage Flight → Type 0
        Kept g = Table s (updated_by (concluded nets (host (r.settings b) reading l) link (count_used k) p g) octets x).entries

    pub act_fades : (k : Counter) → Elsewhere (act link k octets) → FadeAfter r i n b s entries (perform (act link k octets) x)
    act_fades k else =
        plain (act link k octets) else
        (λ held d.
        inspect_cases (λ (q : Result Packet Answer). Table s (updated_by (inspected k nets x.host link q) octets x).entries) (r.settings b) link octets
        (λ z. quiet_keeps held x.host refl (count_used k) z x.host) (λ _. concluded_table held k))
