-- The state at a number after a list depends on the calls at that number only: a call at another number keeps this one's state.
use mathlib.Core.Path.{◌≡◌, refl, sym, ap, ◌∙◌}
use mathlib.Core.Bool.{Bool, true, false, cond}
use mathlib.Core.List.{List, [], ◌∷◌}
use Prim.Native.Nat.{ℕ}
use borrow.Author.Tests.{eqb-true, eqb-false, eq-eqb, ne_eqb}
use lib.Dec.{eqb}
use Rattle.host.specs.CallState.{CallState}
use Rattle.network_laws.specs.History.{Event, HostAfter, State, number_of, outcome, after_outcome, after, after_all, ContinuesAll}
use Rattle.network_laws.specs.Isolation.{own}

module _ (k : ℕ) where
  -- ---- calls at number k, each from the state after the one before

  abbrev pub after_from : HostAfter → Event → HostAfter
  after_from was e = after_outcome k was.places (outcome e)

  abbrev pub last_from : HostAfter → List Event → HostAfter
  last_from was [] = was
  last_from was (e ∷ es) = last_from (after_from was e) es

  abbrev pub AllContinue : (HostAfter → CallState → Type 0) → HostAfter → List Event → Type 0
  AllContinue L was [] = Unit {0}
  AllContinue L was (e ∷ es) = L was e.call_state × AllContinue L (after_from was e) es

  -- they are all at k
  abbrev pub AllAt : List Event → Type 0
  AllAt [] = Unit {0}
  AllAt (e ∷ es) = (number_of e ≡ k) × AllAt es

  pub own_at : (es : List Event) → AllAt (own k es)
  own_at [] = tt
  own_at (e ∷ es) = go (own_at es) (eqb (number_of e) k) refl
    where
      go : AllAt (own k es) → (b : Bool) → eqb (number_of e) k ≡ b → AllAt (cond b (e ∷ own k es) (own k es))
      go rest true h = (eqb-true (number_of e) k h, rest)
      go rest false h = rest

  -- ---- the calls at k in a list

  -- after the list, the state at k is that after these
  pub record Follows (L : HostAfter → CallState → Type 0) (w : State) (es : List Event) : Type 0 where
    pub last_is : after_all w es k ≡ last_from (w k) (own k es)
    pub all_continue : ContinuesAll k L w es → AllContinue L (w k) (own k es)

  pub after_here : (w : State) (e : Event) → number_of e ≡ k → after w e k ≡ after_from (w k) e
  unfolding after
  after_here w e here = rw (eq-eqb k (number_of e) (sym here)) (ap (λ j. after_outcome j (w j).places (outcome e)) here)

  pub after_other : (w : State) (e : Event) → (number_of e ≡ k → ⊥) → after w e k ≡ w k
  unfolding after
  after_other w e apart = rw (ne_eqb k (number_of e) (λ p. apart (sym p)))

  pub follows : (L : HostAfter → CallState → Type 0) (w : State) (es : List Event) → Follows L w es
  unfolding after_all ContinuesAll
  follows L w [] = record { last_is = refl; all_continue = λ h. h }
  follows L w (e ∷ es) = go (follows L (after w e) es) (eqb (number_of e) k) refl
    where
      go : Follows L (after w e) es → (b : Bool) → eqb (number_of e) k ≡ b → Follows L w (e ∷ es)
      go f true h =
          let here : number_of e ≡ k = eqb-true (number_of e) k h in
          record {
            last_is = rw h (f.last_is ∙ ap (λ x. last_from x (own k es)) (after_here w e here));
            all_continue = λ p. rw h (p.0 here, rw (after_here w e here) at (f.all_continue p.1));
          }
      go f false h =
          let other : after w e k ≡ w k = after_other w e (eqb-false (number_of e) k h) in
          record {
            last_is = rw h (f.last_is ∙ ap (λ x. last_from x (own k es)) other);
            all_continue = λ p. rw h (rw other at (f.all_continue p.1));
          }
