-- The epoch of specs/UnreportedExample.antt meets every condition. The seconds of host 1 leave the network as it is; the rest is computed.
use mathlib.Core.Path.{◌≡◌, refl, sym, ap, subst, ◌∙◌}
use mathlib.Core.List.{List, ◌∷◌, ◌++◌}
use mathlib.Core.Logic.{inl, inr}
use Prim.Native.Nat.{ℕ, zero, suc, ◌+◌, ◌*◌, ◌≤◌, ◌<◌}
use native.Mathlib.Omega.{arith}
use lib.IntN.{pos}
use lib.ListN.{replicate}
use Rattle.quantity.specs.Quantity.{millis}
use Rattle.clock.specs.Clock as clock
use Rattle.table.specs.Entry.{aged}
use Rattle.host.specs.Guard.{done}
use Rattle.calls.specs.Effects as effects
use Rattle.calls.specs.Perform.{Outcome}
use Rattle.network_laws.specs.History.{after}
use Rattle.network_laws.specs.Demand3.{Step, World, step, history, Allowed, Allows, entry_of}
use Rattle.network_laws.proofs.Opened.{opened}
use Rattle.liveness_laws.specs.Numbers.{rise, epoch_seconds}
use Rattle.liveness_laws.specs.Seconds.{counts, seconds_at}
use Rattle.liveness_laws.specs.Rounds.{Reported}
use Rattle.liveness_laws.specs.Silence.{begin, next}
use Rattle.liveness_laws.specs.SilenceExample.{line, a_second, a_send, an_arrival, in_turn, start, past, falls_silent}
use Rattle.liveness_laws.specs.UnreportedExample.{unreported, last, UnreportedExample}
use Rattle.liveness_laws.proofs.Silence.Example.{below_3, a_second_lem, a_send_lem, an_arrival_lem, begins, same_outcome, still}

-- ---- seconds, and then other calls

again : (World → Step) → ℕ → World → World
again f zero w = w
again f (suc n) w = again f n (step line w (f w))

module _ (a : ℕ) (inside : a < 3) (rest : List (World → Step)) where
  allowed_on : (n : ℕ) (w : World) → Allows line (again (a_second a) n w) (in_turn (again (a_second a) n w) rest) → Allows line w (in_turn w (replicate n (a_second a) ++ rest))
  unfolding Allows again
  allowed_on zero w ok = ok
  allowed_on (suc n) w ok = (a_second_lem a inside w, allowed_on n (step line w (a_second a w)) ok)

  quiet_on : (n : ℕ) (w : World) → (Reported line (again (a_second a) n w) 2 (in_turn (again (a_second a) n w) rest) → ⊥) → Reported line w 2 (in_turn w (replicate n (a_second a) ++ rest)) → ⊥
  unfolding Reported again
  quiet_on zero w not-then = not-then
  quiet_on (suc n) w not-then = λ said. elim said [ inl z ↦ z | inr z ↦ quiet_on n (step line w (a_second a w)) not-then z ]

-- the seconds of host 1 leave the network as it is
waited : (n : ℕ) → again (a_second 1) n begins ≡ begins
unfolding again
waited zero = refl
waited (suc n) = ap (again (a_second 1) n) still ∙ waited n

module _ (rest : List (World → Step)) where
  ends : (n : ℕ) → history line begins (in_turn begins (replicate n (a_second 1) ++ rest)) ≡ history line begins (in_turn begins rest)
  unfolding history
  ends zero = refl
  ends (suc n) = ap (λ (w : World). history line w (in_turn w (replicate n (a_second 1) ++ rest))) still ∙ ends n

  -- what they add at each host
  counted : (b n : ℕ) → seconds_at line begins b (in_turn begins (replicate n (a_second 1) ++ rest)) ≡ n * counts line begins b (a_second 1 begins) + seconds_at line begins b (in_turn begins rest)
  unfolding seconds_at
  counted b zero = omega arith
  counted b (suc n) =
      let more = ap (λ (w : World). seconds_at line w b (in_turn w (replicate n (a_second 1) ++ rest))) still ∙ counted b n in
      omega (arith, more)

-- ---- the other calls

abbrev later : List (World → Step)
later = replicate 119 (a_second 0) ++ a_send 2 1 ∷ an_arrival 0 2 ∷ a_second 0 ∷ replicate epoch_seconds (a_second 2)

abbrev close : World
close = again (a_second 0) 119 begins

abbrev sent : World
sent = step line close (a_send 2 1 close)

abbrev came : World
came = step line sent (an_arrival 0 2 sent)

send_allowed : Allowed line close (a_send 2 1 close)
unfolding opened after step history again start past falls_silent
send_allowed = a_send_lem close 2 (omega arith) 1 refl

arrival_allowed : Allowed line sent (an_arrival 0 2 sent)
unfolding opened after step history aged clock.hold_second effects.second again start past falls_silent
arrival_allowed = an_arrival_lem sent 0 (omega arith) 2 refl refl refl refl

seconds_0 : seconds_at line begins 0 (in_turn begins later) ≡ epoch_seconds
unfolding opened after step history seconds_at aged clock.hold_second effects.second start past falls_silent
seconds_0 = refl

seconds_2 : seconds_at line begins 2 (in_turn begins later) ≡ epoch_seconds
unfolding opened after step history seconds_at aged clock.hold_second effects.second start past falls_silent
seconds_2 = refl

delay_0 : (entry_of line (history line begins (in_turn begins later)) 0 2).delay.0 ≡ pos (rise * 1)
unfolding opened after step history aged clock.hold_second effects.second start past falls_silent
delay_0 = refl

later_allowed : Allows line begins (in_turn begins later)
unfolding Allows
later_allowed =
    allowed_on 0 (omega arith) (a_send 2 1 ∷ an_arrival 0 2 ∷ a_second 0 ∷ replicate epoch_seconds (a_second 2)) 119 begins
    (send_allowed, (arrival_allowed, (a_second_lem 0 (omega arith) came, allowed_on_last (step line came (a_second 0 came)) epoch_seconds)))
  where
    allowed_on_last : (w : World) (n : ℕ) → Allows line w (in_turn w (replicate n (a_second 2)))
    allowed_on_last w zero = tt
    allowed_on_last w (suc n) = (a_second_lem 2 (omega arith) w, allowed_on_last (step line w (a_second 2 w)) n)

later_quiet : Reported line begins 2 (in_turn begins later) → ⊥
unfolding Reported
later_quiet =
    quiet_on 0 (omega arith) (a_send 2 1 ∷ an_arrival 0 2 ∷ a_second 0 ∷ replicate epoch_seconds (a_second 2)) 119 begins
    (λ said. elim said [ inl z ↦ z | inr y ↦ elim y [ inl z ↦ z | inr x ↦ elim x [ inl z ↦ z | inr v ↦ none (step line came (a_second 0 came)) epoch_seconds v ] ] ])
  where
    none : (w : World) (n : ℕ) → Reported line w 2 (in_turn w (replicate n (a_second 2))) → ⊥
    none w zero = λ z. z
    none w (suc n) = λ said. elim said [ inl z ↦ z | inr z ↦ none (step line w (a_second 2 w)) n z ]

-- ---- all of it

all_allowed : Allows line begins unreported
unfolding unreported
all_allowed = allowed_on 1 (omega arith) later epoch_seconds begins (subst (λ (w : World). Allows line w (in_turn w later)) (sym (waited epoch_seconds)) later_allowed)

all_quiet : Reported line begins 2 unreported → ⊥
unfolding unreported
all_quiet = quiet_on 1 (omega arith) later epoch_seconds begins (subst (λ (w : World). Reported line w 2 (in_turn w later) → ⊥) (sym (waited epoch_seconds)) later_quiet)

one : counts line begins 1 (a_second 1 begins) ≡ 1
one = rw (ap (λ (o : Outcome). done o.reply.answer) same_outcome) refl

long : (b : ℕ) → b < 3 → epoch_seconds ≤ seconds_at line begins b unreported
unfolding unreported
long =
    below_3 (λ (b : ℕ). epoch_seconds ≤ seconds_at line begins b unreported)
    (omega (arith, counted later 0 epoch_seconds, seconds_0)) (let c = counted later 1 epoch_seconds in omega (arith, rw one at c)) (omega (arith, counted later 2 epoch_seconds, seconds_2))

pub unreported_example_holds : UnreportedExample
unfolding last unreported
unreported_example_holds =
    record {
      epochs = next begin unreported record { allowed = all_allowed; unreported = all_quiet; long = long };
      still_up = ap (λ (w : World). (entry_of line w 0 2).delay) (ends later epoch_seconds) ∙ ap millis delay_0;
    }
