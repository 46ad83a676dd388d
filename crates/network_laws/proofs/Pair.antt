-- What an inspection refuses, the action refuses alike, since both go one way until the packet passes; and calls may come between the two, since an inspection changes nothing.
use mathlib.Core.Path.{◌≡◌, refl, sym, ap, fun_ext, ◌∙◌}
use mathlib.Core.Bool.{Bool, true, false, cond, ◌||◌, true≢false}
use mathlib.Core.List.{List, [], ◌∷◌, ◌++◌}
use mathlib.Core.Logic.{◌↔◌}
use Prim.Native.Nat.{ℕ, ◌+◌, ◌≤◌}
use native.Mathlib.Omega.{arith}
use borrow.Author.Tests.{eqb-true, ltb-false}
use lib.Dec.{T, eqb, ltb}
use lib.ListN.{length}
use Rattle.lists.proofs.Tests.{either}
use Rattle.answer.specs.declared.Answer.{Answer}
use Rattle.answer.specs.Answer.{number}
use Rattle.clock.specs.declared.Counter.{Counter}
use Rattle.host.specs.State.{places_per_host, first_place}
use Rattle.host.specs.declared.Host.{Host}
use Rattle.host.specs.CallState.{CallState}
use Rattle.host.specs.Guard.{done}
use Rattle.arrival.specs.Arrival.{action}
use Rattle.calls.specs.Perform.{inspect, act, receive, perform}
use Rattle.calls.proofs.Pair.{leaves, looks, receive_acts, pair_ways, one_piece}
use Rattle.network_laws.specs.History.{Event, State, HostAfter, number_of, outcome, places, ContinuesFully, after_outcome, put, after, after_all}
use Rattle.network_laws.specs.Demand3.{timed}
use Rattle.network_laws.specs.Pair.{Pair, answer_of, instead}
use Rattle.network_laws.proofs.Demand3.Arrival.{action_timed}

module _ (i : ℕ) (k : Counter) (octets : List ℕ) (x : CallState) where
  abbrev h : Host
  h = x.host

  refuses : done (answer_of (inspect i octets) x) ≡ false → perform (act i k octets) x ≡ perform (inspect i octets) x
  refuses = pair_ways i k octets x (λ o o'. done o.reply.answer ≡ false → o' ≡ o) (λ o _. refl) (λ p e. absurd (true≢false e))

  -- the answers of an action whose packet passed
  late : (a : Answer) → T (timed a) → 3 ≤ number a → number a ≤ 9 → ⊥
  late a t low high = go (eqb (number a) 0) (eqb (number a) 10) (eqb (number a) 11) refl refl refl t
    where
      go : (b c d : Bool) → eqb (number a) 0 ≡ b → eqb (number a) 10 ≡ c → eqb (number a) 11 ≡ d → T (b || c || d) → ⊥
      go true c d e _ _ _ = omega (arith, eqb-true (number a) 0 e)
      go false true d _ e _ _ = omega (arith, eqb-true (number a) 10 e)
      go false false true _ _ e _ = omega (arith, eqb-true (number a) 11 e)
      go false false false _ _ _ z = z

  exactly : (n : ℕ) → 3 ≤ n → n ≤ 9 → (number (answer_of (inspect i octets) x) ≡ n) ↔ (number (answer_of (act i k octets) x) ≡ n)
  exactly n low high =
      pair_ways i k octets x (λ o o'. (number o.reply.answer ≡ n) ↔ (number o'.reply.answer ≡ n)) (λ o. (λ e. e, λ e. e))
      (λ p. (λ e. absurd (omega (arith, e)), λ e. absurd (late (action k x.nets h i p).reply.answer (action_timed k x.nets h i p) (omega (arith, e)) (omega (arith, e)))))

-- ---- calls between the two

kept_after : (w : State) (e : Event) (i : ℕ) (octets : List ℕ) → e.call ≡ inspect i octets → ContinuesFully (w (number_of e)) e.call_state
    → after_outcome (number_of e) (w (number_of e)).places (outcome e) ≡ w (number_of e)
kept_after w e i octets is continues =
    let k = number_of e in
    let x = e.call_state in
    let o : outcome e ≡ record { reply = (outcome e).reply; clock = x.host.clock; links = x.host.links; walk = x.walk; copy = x.copy; entries = x.entries; buffer = [] } =
    ap (λ c. perform c x) is ∙ leaves i octets x ∙ ap (λ r. record { reply = r; clock = x.host.clock; links = x.host.links; walk = x.walk; copy = x.copy; entries = x.entries; buffer = [] }) (ap (λ c. (perform c x).reply) (sym is)) in
    let there : (b : Bool) → ltb (length x.entries) (first_place k + places_per_host) ≡ b → cond b (w k).places (places k x.entries) ≡ (w k).places =
    λ b. elim b as (λ c. ltb (length x.entries) (first_place k + places_per_host) ≡ c → cond c (w k).places (places k x.entries) ≡ (w k).places) [ true ↦ λ _. refl | false ↦ λ z. continues.all_places (ltb-false (length x.entries) (first_place k + places_per_host) z) ] in
    ap (after_outcome k (w k).places) o
    ∙ (λ j. record { clock = continues.own_clock j; links = continues.all_links j; walk = continues.own_walk j; copy = continues.all_copy j; places = there (ltb (length x.entries) (first_place k + places_per_host)) refl j })

stays : (w : State) (e : Event) (i : ℕ) (octets : List ℕ) → e.call ≡ inspect i octets → ContinuesFully (w (number_of e)) e.call_state → after w e ≡ w
unfolding after
stays w e i octets is continues =
    fun_ext λ k.
    either (λ (l : HostAfter). l ≡ w k) (eqb k (number_of e)) _ _
    (λ same. kept_after w e i octets is continues ∙ ap w (sym (eqb-true k (number_of e) same))) (λ _. refl)

last_alike : (f g : Event) → f.call_state ≡ g.call_state → outcome f ≡ outcome g → (w : State) (es : List Event)
    → after_all w (es ++ f ∷ []) ≡ after_all w (es ++ g ∷ [])
unfolding after_all after
last_alike f g call_state same w [] = λ j. put (call_state j).number (after_outcome (call_state j).number (w (call_state j).number).places (same j)) w
last_alike f g call_state same w (e ∷ es) = last_alike f g call_state same (after w e) es

acted : (f : Event) (j : ℕ) (k : Counter) (packet : List ℕ) → f.call ≡ act j k packet → outcome f ≡ perform (receive j k packet) f.call_state
acted f j k packet is = ap (λ c. perform c f.call_state) is ∙ sym (receive_acts j k packet f.call_state)

pub pair_holds : Pair
unfolding after_all
pair_holds =
    record {
      one_piece = one_piece;
      action_alone = receive_acts;
      looks = looks;
      refuses = refuses;
      exactly = exactly;
      between = λ w e f es i j k octets packet inspects continues acts.
          let same = acted f j k packet acts in
          (same, ap (λ v. after_all v (es ++ f ∷ [])) (stays w e i octets inspects continues) ∙ last_alike f (instead (receive j k packet) f) refl same w es);
    }
