-- Each call of a class's list, with the net table at that time, makes a list of calls for `Isolation`. So that law covers two lists of the class. The table depends on the tutor's calls only.
use mathlib.Core.Path.{◌≡◌, refl, sym, ap, subst, ◌∙◌}
use mathlib.Core.Bool.{Bool, true, false, cond}
use mathlib.Core.List.{List, [], ◌∷◌, map}
use Prim.Native.Nat.{ℕ}
use borrow.Author.Tests.{eqb-true, eqb-false}
use lib.Dec.{eqb}
use Rattle.net_table.specs.declared.NetTable.{NetTable}
use Rattle.network_laws.specs.HostAfter.{returned}
use Rattle.network_laws.specs.Locality.{same}
use Rattle.network_laws.specs.History.{Event, State, ContinuesFully, outcome, after, after_all, ContinuesAll}
use Rattle.network_laws.specs.Isolation.{own, returned_at, Agree, Pairwise, Isolation}
use Rattle.network_laws.specs.Class.{turned, NodeCall, ClassEvent, node, tutor, given, Class, class_after, class_after_all, AllContinueIn, class_returned, own_and_tutors, SameCall, SameCalls, no_more, own_call, tutors_call, SameAt, ClassIsolation}
use Rattle.network_laws.proofs.Demand1.OwnCalls.{after_from, after_here, after_other}
use Rattle.network_laws.proofs.Demand1.Isolation.{isolation_holds}

-- ---- the list with a table for each call

abbrev events : NetTable → List ClassEvent → List Event
events t [] = []
events t (node e ∷ es) = given t e ∷ events t es
events t (tutor c ∷ es) = events (turned c t) es

abbrev table_after : NetTable → List ClassEvent → NetTable
table_after t [] = t
table_after t (node e ∷ es) = table_after t es
table_after t (tutor c ∷ es) = table_after (turned c t) es

-- the replies and the state of the class after that list
record Given (w : Class) (es : List ClassEvent) : Type 0 where
  after_is : (class_after_all w es).left ≡ after_all w.left (events w.table es)
  table_is : (class_after_all w es).table ≡ table_after w.table es
  told_is : (k : ℕ) → class_returned k w es ≡ returned_at k (events w.table es)
  continues : (k : ℕ) → AllContinueIn k w es → ContinuesAll k ContinuesFully w.left (events w.table es)

gives : (w : Class) (es : List ClassEvent) → Given w es
unfolding class_after_all class_after class_returned AllContinueIn after_all ContinuesAll
gives w [] = record { after_is = refl; table_is = refl; told_is = λ k. refl; continues = λ k h. h }
gives w (tutor c ∷ es) =
    let g = gives (class_after w (tutor c)) es in
    record { after_is = g.after_is; table_is = g.table_is; told_is = g.told_is; continues = λ k h. g.continues k h.1 }
gives w (node e ∷ es) =
    let g = gives (class_after w (node e)) es in
    record {
      after_is = g.after_is;
      table_is = g.table_is;
      told_is = λ k. rw (g.told_is k) (go k (eqb e.number k));
      continues = λ k h. (h.0, g.continues k h.1);
    }
  where
    go : (k : ℕ) (b : Bool)
        → cond b (returned (outcome (given w.table e)) ∷ returned_at k (events w.table es)) (returned_at k (events w.table es))
        ≡ map (λ (f : Event). returned (outcome f)) (cond b (given w.table e ∷ own k (events w.table es)) (own k (events w.table es)))
    go k true = refl
    go k false = refl

-- ---- at one number

module _ (k : ℕ) where
  -- the calls at k, and the tutor's
  own_events : (t : NetTable) (es : List ClassEvent) → own k (events t es) ≡ events t (own_and_tutors k es)
  own_events t [] = refl
  own_events t (tutor c ∷ es) = own_events (turned c t) es
  own_events t (node e ∷ es) = rw (own_events t es) (go (eqb e.number k))
    where
      go : (b : Bool) → cond b (given t e ∷ events t (own_and_tutors k es)) (events t (own_and_tutors k es)) ≡ events t (cond b (node e ∷ own_and_tutors k es) (own_and_tutors k es))
      go true = refl
      go false = refl

  own_table : (t : NetTable) (es : List ClassEvent) → table_after t es ≡ table_after t (own_and_tutors k es)
  own_table t [] = refl
  own_table t (tutor c ∷ es) = own_table (turned c t) es
  own_table t (node e ∷ es) = own_table t es ∙ go (eqb e.number k)
    where
      go : (b : Bool) → table_after t (own_and_tutors k es) ≡ table_after t (cond b (node e ∷ own_and_tutors k es) (own_and_tutors k es))
      go true = refl
      go false = refl

  own_again : (es : List ClassEvent) → own_and_tutors k (own_and_tutors k es) ≡ own_and_tutors k es
  own_again [] = refl
  own_again (tutor c ∷ es) = ap (λ (l : List ClassEvent). tutor c ∷ l) (own_again es)
  own_again (node e ∷ es) = go (own_again es) (eqb e.number k) refl
    where
      go : own_and_tutors k (own_and_tutors k es) ≡ own_and_tutors k es → (b : Bool) → eqb e.number k ≡ b
          → own_and_tutors k (cond b (node e ∷ own_and_tutors k es) (own_and_tutors k es)) ≡ cond b (node e ∷ own_and_tutors k es) (own_and_tutors k es)
      go rest true h = rw (h, rest) refl
      go rest false h = rest

  -- each of them gets the same state as without the others
  state_alone : (t : NetTable) (w v : State) (es : List ClassEvent) → w k ≡ v k → AllContinueIn k record { table = t; left = w } es
      → AllContinueIn k record { table = t; left = v } (own_and_tutors k es)
  unfolding AllContinueIn class_after
  state_alone t w v [] alike h = tt
  state_alone t w v (tutor c ∷ es) alike h = (tt, state_alone (turned c t) w v es alike h.1)
  state_alone t w v (node e ∷ es) alike h = go (λ w' v'. state_alone t w' v' es) (eqb e.number k) refl
    where
      f : Event
      f = given t e

      Rest : Type 0
      Rest =
          (w' v' : State) → w' k ≡ v' k → AllContinueIn k record { table = t; left = w' } es → AllContinueIn k record { table = t; left = v' } (own_and_tutors k es)

      go : Rest → (b : Bool) → eqb e.number k ≡ b → AllContinueIn k record { table = t; left = v } (cond b (node e ∷ own_and_tutors k es) (own_and_tutors k es))
      go rest true is =
          let here : e.number ≡ k = eqb-true e.number k is in
          let next : after w f k ≡ after v f k = after_here k w f here ∙ ap (λ z. after_from k z f) alike ∙ sym (after_here k v f here) in
          (λ same. subst (λ z. ContinuesFully z f.call_state) alike (h.0 same), rest (after w f) (after v f) next h.1)
      go rest false is = rest (after w f) v (after_other k w f (eqb-false e.number k is) ∙ alike) h.1

-- ---- lists that agree

agree : (t : NetTable) (e f : NodeCall) → SameCall e f → Agree (given t e) (given t f)
agree t e f s = record { settings_same = s.settings_same; net_table_same = refl; input_same = s.input_same; length_same = s.length_same; room_same = s.room_same }

pairs : (t : NetTable) {es fs : List ClassEvent} → SameCalls es fs → Pairwise (events t es) (events t fs)
unfolding Pairwise
pairs t no_more = tt
pairs t (own_call {e} {f} s rest) = (agree t e f s, pairs t rest)
pairs t (tutors_call {c} rest) = pairs (turned c t) rest

tables : (t : NetTable) {es fs : List ClassEvent} → SameCalls es fs → table_after t es ≡ table_after t fs
tables t no_more = refl
tables t (own_call s rest) = tables t rest
tables t (tutors_call {c} rest) = tables (turned c t) rest

same_lists : (es : List ClassEvent) → SameCalls es es
same_lists [] = no_more
same_lists (node e ∷ es) = own_call record { settings_same = refl; input_same = same; length_same = refl; room_same = refl } (same_lists es)
same_lists (tutor c ∷ es) = tutors_call (same_lists es)

-- ---- the laws

module _ (k : ℕ) (w v : Class) (es fs : List ClassEvent) (continues : AllContinueIn k w es) (continues' : AllContinueIn k v fs)
    (calls : SameCalls (own_and_tutors k es) (own_and_tutors k fs)) (table : w.table ≡ v.table) (left : w.left k ≡ v.left k) where
  paired : Pairwise (own k (events w.table es)) (own k (events v.table fs))
  paired =
      subst (λ (t : NetTable). Pairwise (own k (events w.table es)) (own k (events t fs))) table
      (rw (own_events k w.table es, own_events k w.table fs) (pairs w.table calls))

  isolated : SameAt k w v es fs
  unfolding Isolation
  isolated =
      let a = gives w es in
      let b = gives v fs in
      let both = isolation_holds k w.left v.left (events w.table es) (events v.table fs) (a.continues k continues) (b.continues k continues') paired left in
      record {
        told_same = a.told_is k ∙ both.0 ∙ sym (b.told_is k);
        after_same = ap (λ (f : State). f k) a.after_is ∙ both.1 ∙ ap (λ (f : State). f k) (sym b.after_is);
        table_same =
            a.table_is ∙ own_table k w.table es ∙ tables w.table calls
            ∙ sym (own_table k w.table fs) ∙ ap (λ (t : NetTable). table_after t fs) table ∙ sym b.table_is;
      }

alone : (k : ℕ) (w : Class) (es : List ClassEvent) → AllContinueIn k w es → SameAt k w w es (own_and_tutors k es)
alone k w es continues =
    isolated k w w es (own_and_tutors k es) continues (state_alone k w.table w.left w.left es refl continues)
    (rw (own_again k es) (same_lists (own_and_tutors k es))) refl refl

pub class_isolation_holds : ClassIsolation
unfolding class_after
class_isolation_holds = record { table_stays = λ w e. refl; nodes_stay = λ w c. refl; isolated = isolated; alone = alone }
