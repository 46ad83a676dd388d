-- Every call that is neither send nor arrival nor box keeps the invariant, because it changes no DELAY except by a self-report.
use mathlib.Core.Path.{◌≡◌, refl, sym, ap, subst, ◌∙◌}
use mathlib.Core.Bool.{Bool, true, false, true≢false, cond, not, ◌&&◌}
use mathlib.Core.List.{List}
use mathlib.Core.Logic.{◌⊎◌, inl, inr}
use Prim.Native.Nat.{ℕ, suc, ◌+◌, ◌≤◌, ◌<◌}
use borrow.Author.Tests.{eqb-true}
use lib.Dec.{eqb}
use native.Mathlib.Omega.{arith}
use Rattle.std.proofs.Common.{Some}
use Rattle.lists.proofs.Tests.{either, is_so}
use lib.IntN.{ℤ}
use Rattle.quantity.specs.declared.Count.{Count}
use Rattle.quantity.specs.declared.Millis.{Millis}
use Rattle.answer.specs.declared.Answer.TheVariants.{Done, NoWalk}
use Rattle.clock.specs.declared.Clock.{Clock}
use Rattle.clock.specs.declared.Counter.{Counter}
use Rattle.wire.specs.declared.Address.{Address}
use Rattle.table.specs.declared.Entry.{Entry}
use Rattle.table.specs.declared.entries.Change.{Change}
use Rattle.table.specs.declared.entries.Change.TheVariants.{Aged, Reported}
use Rattle.table.specs.Entry.{as_marked, lives_here, aged}
use Rattle.table.specs.Entry as entry
use Rattle.table.specs.Marks.{mark}
use Rattle.table.specs.Update.{lines, left, own_update, reported_here, self_reported}
use Rattle.table.specs.Forms.{map_from}
use Rattle.table.specs.Runs.{changed, changes}
use Rattle.net_table.specs.declared.NetTable.{NetTable}
use Rattle.host.specs.declared.Links.{Links}
use Rattle.host.specs.declared.walk.Walk.{Walk}
use Rattle.host.specs.declared.guard.Scope.TheVariants.{All as AllScope, Opening}
use Rattle.host.specs.Effect.{each}
use Rattle.host.specs.Guard.{done}
use Rattle.host.specs.Reply.{plainly}
use Rattle.host.specs.declared.walk.Place.TheVariants.{Step1}
use Rattle.host.specs.CallState.{CallState, entries_of, our_reading}
use Rattle.host.specs.State.{host_count}
use Rattle.host.specs.Walk.{is_open, place_of}
use Rattle.host.proofs.Guarded.{passed, marks_state}
use Rattle.host.proofs.Places.{Holds, entries_length}
use Rattle.walk.specs.declared.Opening as declared
use Rattle.walk.specs.Boxes as boxes
use Rattle.calls.specs.declared.Request.TheVariants as request
use Rattle.host.specs.declared.Effect.{Effect}
use Rattle.calls.specs.declared.Request.TheVariants.{Tick, Adjust, Set, Read, Lookup, Second, SelfReport}
use Rattle.calls.specs.Effects.{tick, second, self_report}
use Rattle.calls.specs.Effects as effects
use Rattle.calls.specs.Perform.{ask, inspect, open_walk, Outcome, carried_out, opened_by, perform}
use Rattle.calls.proofs.Pair.{quieted}
use Rattle.network_laws.specs.Network.{Network, at, state_at, HostAt, Proper}
use Rattle.network_laws.proofs.Lists.{All, all_counted, all_both, each_all}
use Rattle.network_laws.proofs.Performs.{guard_of, performs, there}
use Rattle.network_laws.proofs.Openings.{opening_ways}
use Rattle.network_laws.proofs.Swept.{changes_length, changes_each}
use Rattle.network_laws.proofs.Written.{answered, written_back, written_kept}
use Rattle.liveness_laws.specs.Numbers.{round_seconds}
use Rattle.liveness_laws.proofs.Rounds.Heard.{mine_aged, mine_reported, mine_away}
use Rattle.liveness_laws.proofs.Rounds.Entry.{hearing, ticking, resting}
use Rattle.liveness_laws.proofs.Lines.{lines_from}
use Rattle.liveness_laws.proofs.Host.State.{WalkOk, Good, Before, After, same_entries, unchanged}

module _ (r : Network) (proper : Proper r) (c i k m b : ℕ) (speaking : Bool) (Sent : Entry → (link : ℕ) → (octets : List ℕ) → Type 0) (Rest : Entry → Type 0) (s : ℕ) (heard : ℕ → Bool)
    (nets : NetTable) (cl : Clock) (l : Links) (walk : Walk) (copy : List ℕ) (entries : List Entry) (e : Entry) (was : Before r c i k m b speaking Sent Rest s heard walk copy l entries e) where
  abbrev x : CallState
  x = state_at r b nets cl l walk copy entries

  -- the host after an outcome
  pub record Kept (t : ℕ) (on : ℕ → Bool) (o : Outcome) : Type 0 where
    pub after : After r c i k m b speaking Sent Rest t on entries o.walk o.copy o.links o.entries

  still : After r c i k m b speaking Sent Rest s heard entries walk copy l entries
  still = unchanged r c i k m b speaking Sent Rest s heard walk copy l entries e was

  pub tick_good : (n : Count) → Kept s heard (perform (ask (Tick n)) x)
  unfolding tick
  tick_good n = performs (ask (Tick n)) x (Kept s heard) (λ _. record { after = still }) (λ d. subst (Kept s heard) (sym (answered x (there (ask (Tick n)) x d) _ _ l walk)) record { after = still })

  pub adjust_good : (n : Count) → Kept s heard (perform (ask (Adjust n)) x)
  unfolding effects.adjust
  adjust_good n = performs (ask (Adjust n)) x (Kept s heard) (λ _. record { after = still }) (λ d. subst (Kept s heard) (sym (answered x (there (ask (Adjust n)) x d) _ _ l walk)) record { after = still })

  pub set_good : (ms : ℤ) (n : Count) → Kept s heard (perform (ask (Set ms n)) x)
  unfolding effects.set_by
  set_good ms n = performs (ask (Set ms n)) x (Kept s heard) (λ _. record { after = still }) (λ d. subst (Kept s heard) (sym (answered x (there (ask (Set ms n)) x d) _ _ l walk)) record { after = still })

  pub clock_good : (κ : Counter) → Kept s heard (perform (ask (Read κ)) x)
  unfolding effects.read
  clock_good κ = performs (ask (Read κ)) x (Kept s heard) (λ _. record { after = still }) (λ d. subst (Kept s heard) (sym (answered x (there (ask (Read κ)) x d) _ _ l walk)) record { after = still })

  pub look_good : (d : Address) → Kept s heard (perform (ask (Lookup d)) x)
  unfolding effects.lookup
  look_good d = performs (ask (Lookup d)) x (Kept s heard) (λ _. record { after = still }) (λ z. subst (Kept s heard) (sym (answered x (there (ask (Lookup d)) x z) _ _ l walk)) record { after = still })

  pub inspect_good : (link : ℕ) (packet : List ℕ) → Kept s heard (perform (inspect link packet) x)
  inspect_good link packet =
      performs (inspect link packet) x (Kept s heard) (λ _. record { after = still }) (λ d. subst (Kept s heard) (sym (quieted x (there (inspect link packet) x d) _ x.host packet)) record { after = still })

  -- a walk is opened before box 1
  pub open_good : (link : ℕ) (packet : List ℕ) → Kept s heard (perform (open_walk link packet) x)
  unfolding place_of
  open_good link packet =
      performs (open_walk link packet) x (Kept s heard) (λ _. record { after = still })
      (λ d.
      let shut : is_open walk ≡ false = (passed (Opening link) x d).closed in
      opening_ways link packet (r.settings b) walk (λ (o : declared.Opening). Kept s heard (opened_by o packet x))
      (λ a few. record { after = closed shut (λ opened. absurd (true≢false (sym opened ∙ shut))) (λ opened. absurd (true≢false (sym opened ∙ shut))) })
      (λ q is fits. record { after = closed shut (λ _. refl) (λ _. tt) }))
    where
      closed : is_open walk ≡ false → {v : Walk} {copied : List ℕ} → (is_open v ≡ true → place_of v ≡ Some Step1) → WalkOk r c i k m b s heard Sent e v copied l
          → After r c i k m b speaking Sent Rest s heard entries v copied l entries
      closed shut {v} {copied} first now =
          let o = was.good in
          same_entries r c i k m b speaking Sent Rest s heard v copied l entries e was.room
          record {
            mine = o.mine;
            rest = o.rest;
            links =
                λ j a n cord.
                let g = o.links j a n cord in
                record { quiet = g.quiet; spoke = λ _. g.spoke (rw shut); known = g.known; met = g.met };
            waits = λ _. first;
            walk = now;
          }
          was.table

  -- a step without a walk
  pub idle_good : is_open walk ≡ false → (κ : Counter)
      → Kept s (cond (done (perform (ask (request.Step κ)) x).reply.answer && not (is_open (perform (ask (request.Step κ)) x).walk)) (hearing r c b walk.link heard) heard) (perform (ask (request.Step κ)) x)
  unfolding boxes.step
  idle_good shut κ =
      performs (ask (request.Step κ)) x (λ (o : Outcome). Kept s (cond (done o.reply.answer && not (is_open o.walk)) (hearing r c b walk.link heard) heard) o)
      (λ refused. rw refused record { after = still })
      (λ d.
      either (λ (y : Effect). Kept s (cond (done y.reply.answer && not (is_open y.walk)) (hearing r c b walk.link heard) heard) (carried_out y x)) (not (is_open walk)) _ _
      (λ _. subst (Kept s heard) (sym (answered x (there (ask (request.Step κ)) x d) (plainly NoWalk) cl l walk)) record { after = still })
      (λ f. absurd (true≢false (sym (is_so _ f) ∙ shut))))

  -- ---- all entries change, with no walk open

  abbrev Good-so : (t : ℕ) (on : ℕ → Bool) → Entry → Type 0
  Good-so t on = Good r c i k m b speaking Sent Rest t on walk copy l

  abbrev Was : ℕ → Entry → Type 0
  Was id z = id ≡ i → z ≡ e

  all_changed : (held : Holds (r.number b) entries) (change : Change) (t : ℕ) (on : ℕ → Bool)
      → All (λ (id : ℕ) (z : Entry). id ≡ i → Good-so t on z) (map_from 0 (changed (r.settings b).marks change) (entries_of x))
      → After r c i k m b speaking Sent Rest t on entries walk copy l (carried_out record { reply = plainly Done; clock = cl; links = l; walk = walk; work = each (r.settings b) change } x).entries
  all_changed held change t on new =
      let n = changes_length (each (r.settings b) change) (entries_of x) in
      record {
        room = was.room;
        table =
            λ _.
            subst (All (λ (id : ℕ) (z : Entry). id ≡ i → Good-so t on z)) (sym (written_back x (changes (each (r.settings b) change) (entries_of x)) held n))
            (rw (changes_each (host_count (r.settings b)) change (r.settings b).marks (entries_of x) (omega (arith, entries_length (r.settings b) (r.number b) entries held))) new);
        same_length = (written_kept x (changes (each (r.settings b) change) (entries_of x)) held n).same_length;
      }

  -- ---- a second

  -- an entry that is up afterwards was up, with its PID and DELAY
  pub aged_was : s < round_seconds → entry.up (aged e) ≡ true → (entry.up e ≡ true) × ((aged e).pid ≡ e.pid)
  aged_was early = go (entry.up e) refl
    where
      go : (t : Bool) → entry.up e ≡ t → entry.up (aged e) ≡ true → (entry.up e ≡ true) × ((aged e).pid ≡ e.pid)
      go false t = rw (resting r c b e (was.good.mine.steady.rests t)) (λ v. (v, refl))
      go true t = let long = was.good.mine.steady.lasts t in rw (ticking r c b e t (omega (arith, long))) (λ v. (v, refl))

  module _ (aged_rest : s < round_seconds → Rest (aged e)) where
    aged_good : is_open walk ≡ false → s < round_seconds → Good-so (suc s) heard (aged e)
    aged_good shut early =
        let o = was.good in
        record {
          mine = mine_aged r c b k m s heard e o.mine early;
          rest = aged_rest early;
          links =
              λ j a n cord.
              let g = o.links j a n cord in
              record { quiet = g.quiet; spoke = g.spoke; known = g.known; met = λ t at_j. let v = aged_was early t in g.met v.0 (sym v.1 ∙ at_j) };
          waits = o.waits;
          walk = λ opened. absurd (true≢false (sym opened ∙ shut));
        }

    aged_table : is_open walk ≡ false → s < round_seconds → (es : List Entry) → All Was es → All (λ (id : ℕ) (z : Entry). id ≡ i → Good-so (suc s) heard z) (map_from 0 (changed (r.settings b).marks Aged) es)
    aged_table shut early es t =
        all_counted Was (λ (id : ℕ) (z : Entry). id ≡ i → Good-so (suc s) heard z) 0 (changed (r.settings b).marks Aged) es
        (λ id z _ f is. subst (λ (v : Entry). Good-so (suc s) heard (aged v)) (sym (f is)) (aged_good shut early)) t

    -- a second that is not refused counts
    pub second_good : s + cond (done (perform (ask Second) x).reply.answer) 1 0 ≤ round_seconds → Kept (s + cond (done (perform (ask Second) x).reply.answer) 1 0) heard (perform (ask Second) x)
    unfolding second
    second_good =
        performs (ask Second) x (λ (o : Outcome). s + cond (done o.reply.answer) 1 0 ≤ round_seconds → Kept (s + cond (done o.reply.answer) 1 0) heard o)
        (λ no _. let z : s + cond (done (guard_of (ask Second) x)) 1 0 ≡ s = rw no (omega arith) in rw z record { after = still })
        (λ d few.
        let held = there (ask Second) x d in
        let one : s + 1 ≡ suc s = omega arith in
        record { after = all_changed held Aged (s + 1) heard (rw one (aged_table (passed AllScope x d).closed (omega arith) (entries_of x) (was.table held))) })

  -- ---- a self-report

  module _ (inside : b < r.nodes) (hc : c < r.nodes) (host : HostAt r i c) (some : 1 ≤ m) (from_1 : (j a n : ℕ) → r.cable b j ≡ at a n → 1 ≤ j) (home_rest : b ≡ c → (t : Millis) → Rest (left (lines (own_update t) e))) where
    less : (j : ℕ) → 1 ≤ j → hearing r c b 0 heard j ≡ true → heard j ≡ true
    less j from = either (λ (t : Bool). t ≡ true → heard j ≡ true) (eqb j 0) _ _ (λ z _. absurd (omega (arith, eqb-true j 0 z))) (λ _ w. w)

    before : (j a n : ℕ) → r.cable b j ≡ at a n → (1 ≤ k) ⊎ (hearing r c b 0 heard j ≡ true) → (1 ≤ k) ⊎ (heard j ≡ true)
    before j a n cord (inl w) = inl w
    before j a n cord (inr w) = inr (less j (from_1 j a n cord) w)

    module _ (shut : is_open walk ≡ false) where
      home_good : b ≡ c → (t : Millis) → Good-so s (hearing r c b 0 heard) (left (lines (own_update t) e))
      home_good is t =
          let o = was.good in
          record {
            mine = mine_reported r c b k m s heard e o.mine some is from_1 t;
            rest = home_rest is t;
            links =
                λ j a n cord.
                let g = o.links j a n cord in
                record {
                  quiet = g.quiet;
                  spoke = g.spoke;
                  known = λ w. g.known (before j a n cord w);
                  met = λ v at_j. elim (lines_from (own_update t) e v) [ inl z ↦ absurd (omega (arith, z, at_j, from_1 j a n cord)) | inr z ↦ g.met z.0 (sym z.1 ∙ at_j) ];
                };
            waits = o.waits;
            walk = λ opened. absurd (true≢false (sym opened ∙ shut));
          }

      away_good : (b ≡ c → ⊥) → Good-so s (hearing r c b 0 heard) e
      away_good out =
          let o = was.good in
          record {
            mine = mine_away r c b k m s heard e o.mine out from_1;
            rest = o.rest;
            links =
                λ j a n cord.
                let g = o.links j a n cord in
                record { quiet = g.quiet; spoke = g.spoke; known = λ w. g.known (before j a n cord w); met = g.met };
            waits = o.waits;
            walk = λ opened. absurd (true≢false (sym opened ∙ shut));
          }

      reported_table : (t : Millis) (es : List Entry) → All (λ (id : ℕ) (z : Entry). as_marked (r.settings b).marks id z ≡ true) es → All Was es
          → All (λ (id : ℕ) (z : Entry). id ≡ i → Good-so s (hearing r c b 0 heard) z) (map_from 0 (changed (r.settings b).marks (Reported t)) es)
      unfolding reported_here self_reported
      reported_table t es marked old =
          all_counted (λ (id : ℕ) (z : Entry). Was id z × (as_marked (r.settings b).marks id z ≡ true)) (λ (id : ℕ) (z : Entry). id ≡ i → Good-so s (hearing r c b 0 heard) z) 0
          (changed (r.settings b).marks (Reported t)) es
          (λ id z _ f is.
          either (Good-so s (hearing r c b 0 heard)) (lives_here z) _ _
          (λ here. subst (λ (v : Entry). Good-so s (hearing r c b 0 heard) (left (lines (own_update t) v))) (sym (f.0 is)) (home_good (proper.marked_once b c i inside hc (lives id z is f.1 here) host) t))
          (λ not-here. subst (Good-so s (hearing r c b 0 heard)) (sym (f.0 is)) (away_good (λ v. true≢false (sym (at_home id z is f.1 v) ∙ not-here)))))
          (all_both Was (λ (id : ℕ) (z : Entry). as_marked (r.settings b).marks id z ≡ true) es old marked)
        where
          lives : (id : ℕ) (z : Entry) → id ≡ i → as_marked (r.settings b).marks id z ≡ true → lives_here z ≡ true → HostAt r i b
          lives id z same is here = subst (λ (q : ℕ). HostAt r q b) same (ap (λ (n : ℕ). eqb n 1) (sym (eqb-true z.here (mark (r.settings b).marks id) is)) ∙ here)

          at_home : (id : ℕ) (z : Entry) → id ≡ i → as_marked (r.settings b).marks id z ≡ true → b ≡ c → lives_here z ≡ true
          at_home id z same is v =
              ap (λ (n : ℕ). eqb n 1) (eqb-true z.here (mark (r.settings b).marks id) is)
              ∙ subst (λ (q : ℕ). HostAt r q b) (sym same) (subst (λ (q : ℕ). HostAt r i q) (sym v) host)

    pub report_good : (κ : Counter) → Kept s (cond (done (perform (ask (SelfReport κ)) x).reply.answer) (hearing r c b 0 heard) heard) (perform (ask (SelfReport κ)) x)
    unfolding self_report
    report_good κ =
        performs (ask (SelfReport κ)) x (λ (o : Outcome). Kept s (cond (done o.reply.answer) (hearing r c b 0 heard) heard) o)
        (λ no. rw no record { after = still })
        (λ d.
        let held = there (ask (SelfReport κ)) x d in
        let ok = passed AllScope x d in
        record {
          after =
              all_changed held (Reported (our_reading κ x.host).time) s (hearing r c b 0 heard)
              (reported_table ok.closed (our_reading κ x.host).time (entries_of x)
              (each_all (as_marked (r.settings b).marks) (entries_of x) (marks_state x (ok.call_state refl))) (was.table held));
        })
