-- The two rounds of specs/RoundsExample.antt meet every condition; each call is computed.
use mathlib.Core.Path.{◌≡◌, refl, ap}
use mathlib.Core.Bool.{Bool, true, false, cond}
use mathlib.Core.Bool.{false}
use mathlib.Core.List.Memᴰ
use mathlib.Core.List.{List, [], ◌∷◌}
use mathlib.Core.Logic.{inl, inr}
use Prim.Native.Nat.{ℕ, ◌+◌, ◌≤◌, ◌<◌}
use native.Mathlib.Omega.{arith}
use borrow.Author.Tests.{eqb-true}
use lib.Dec.{eqb}
use lib.IntN.{pos}
use Rattle.quantity.specs.Quantity.{millis}
use Rattle.answer.specs.declared.Answer.{Answer}
use Rattle.clock.specs.LineClock.{no_counter}
use Rattle.table.specs.Marks.{only_mark}
use Rattle.host.specs.Walk.{is_open}
use Rattle.network_laws.specs.HostAfter.{message_of}
use Rattle.network_laws.specs.History.{after}
use Rattle.network_laws.specs.Network.{loose, at, initialized, Proper}
use Rattle.network_laws.specs.Demand3.{Step, Message, World, after_at, result, step, history, Allows, Starts, entry_of}
use Rattle.network_laws.specs.TwoNodes.{wire}
use Rattle.network_laws.proofs.Opened.{opened}
use Rattle.network_laws.proofs.Demand3.TwoNodes.{below_2, apart, pair_proper, starts, as_after, reads, delivered}
use Rattle.liveness_laws.specs.Numbers.{round_seconds}
use Rattle.liveness_laws.specs.Seconds.{emptied, seconds_at}
use Rattle.liveness_laws.specs.Rounds.{NoWalks, Speaking, Listening, Reported, Heard, Round, Rounds, begin, next}
use Rattle.liveness_laws.specs.RoundsExample.{both, two, x₁, x₂, x₃, x₄, y₁, y₂, w₁, w₂, w₃, w₄, w₅, start, between, last, RoundsExample}

-- the two ends of the cable
pub ends : (P : ℕ → ℕ → Type 0) → P 0 1 → P 1 1 → (b j a i : ℕ) → wire b j ≡ at a i → P b j
ends P p q b j a i = go (eqb j 1) (eqb b 0) (eqb b 1) refl refl refl
  where
    go : (t u v : Bool) → eqb j 1 ≡ t → eqb b 0 ≡ u → eqb b 1 ≡ v → cond t (cond u (at 1 1) (cond v (at 0 1) loose)) loose ≡ at a i → P b j
    go true true v t u w e = rw (eqb-true j 1 t, eqb-true b 0 u) p
    go true false true t u w e = rw (eqb-true j 1 t, eqb-true b 1 w) q
    go true false false t u w e = absurd (let z : ◌≡◌ {A = ℕ} 0 1 = cc in omega arith)
    go false u v t x w e = absurd (let z : ◌≡◌ {A = ℕ} 0 1 = cc in omega arith)

module _ (w : World) (size : ℕ) where
  abbrev xs : List Step
  xs = x₁ w size ∷ x₂ w size ∷ x₃ w size ∷ x₄ w size ∷ []

  abbrev ys : List Step
  ys = y₁ w size ∷ y₂ w size ∷ []

  -- what was sent
  abbrev of_0 : Message
  of_0 = record { node = 0; link = 1; ms = pos 1000; octets = message_of (result two (w₂ w size) (x₃ w size)) }

  abbrev of_1 : Message
  of_1 = record { node = 1; link = 1; ms = pos 1000; octets = message_of (result two (w₃ w size) (x₄ w size)) }

abbrev e₀ : World
e₀ = emptied start

allowed_1 : Allows two e₀ (xs e₀ 32)
unfolding opened after step Allows start
allowed_1 = (
  record { node_in = omega arith; continues = as_after both e₀ 0 (x₁ e₀ 32).call; timely = tt },
  (
    record { node_in = omega arith; continues = as_after both (w₁ e₀ 32) 1 (x₂ e₀ 32).call; timely = tt },
    (
      record { node_in = omega arith; continues = as_after both (w₂ e₀ 32) 0 (x₃ e₀ 32).call; timely = λ _. reads both (w₂ e₀ 32) 0 no_counter (pos 1000) refl record { lt = tt } },
      (
        record { node_in = omega arith; continues = as_after both (w₃ e₀ 32) 1 (x₄ e₀ 32).call; timely = λ _. reads both (w₃ e₀ 32) 1 no_counter (pos 1000) refl record { lt = tt } },
        tt,
      ),
    ),
  ),
)

listened_1 : Allows two (w₄ e₀ 32) (ys e₀ 32)
unfolding opened after step Allows start
listened_1 = (
  record { node_in = omega arith; continues = as_after both (w₄ e₀ 32) 0 (y₁ e₀ 32).call; timely = delivered both (w₄ e₀ 32) 0 _ (pos 1000) _ (of_1 e₀ 32) 0 (Memᴰ.head refl) refl (reads both (w₄ e₀ 32) 0 no_counter (pos 1000) refl record { lt = tt }) (omega arith) refl },
  (
    record { node_in = omega arith; continues = as_after both (w₅ e₀ 32) 1 (y₂ e₀ 32).call; timely = delivered both (w₅ e₀ 32) 1 _ (pos 1000) _ (of_0 e₀ 32) 0 (Memᴰ.tail (Memᴰ.head refl)) refl (reads both (w₅ e₀ 32) 1 no_counter (pos 1000) refl record { lt = tt }) (omega arith) refl },
    tt,
  ),
)

reported_1 : (b : ℕ) → b < 2 → Reported two e₀ b (xs e₀ 32)
unfolding opened after step Reported start
reported_1 = below_2 (λ (b : ℕ). Reported two e₀ b (xs e₀ 32)) (inl (refl, refl)) (inr (inl (refl, refl)))

heard_1 : (b j a i : ℕ) → wire b j ≡ at a i → Heard two (w₄ e₀ 32) b j (ys e₀ 32)
unfolding opened after step Heard start
heard_1 = ends (λ (b j : ℕ). Heard two (w₄ e₀ 32) b j (ys e₀ 32)) (inl (refl, refl, refl)) (inr (inl (refl, refl, refl)))

over_1 : NoWalks two (history two (w₄ e₀ 32) (ys e₀ 32))
unfolding opened after step history start
over_1 = below_2 (λ (b : ℕ). is_open (after_at two (history two (w₄ e₀ 32) (ys e₀ 32)) b).walk ≡ false) refl refl

round_1 : Round two start (xs e₀ 32) (ys e₀ 32)
unfolding history Speaking Listening seconds_at
round_1 =
    record {
      underway =
          record {
            allowed = allowed_1;
            allowed_then = listened_1;
            speak = (tt, (tt, (tt, (tt, tt))));
            listen = (tt, (tt, tt));
            short = below_2 (λ (b : ℕ). seconds_at two e₀ b (xs e₀ 32) + seconds_at two (w₄ e₀ 32) b (ys e₀ 32) ≤ round_seconds) (omega arith) (omega arith);
          };
      reported = λ b hb. inl (reported_1 b hb);
      heard = heard_1;
      over = over_1;
    }

abbrev e₁ : World
e₁ = emptied between

allowed_2 : Allows two e₁ (xs e₁ 40)
unfolding opened after step Allows start between
allowed_2 = (
  record { node_in = omega arith; continues = as_after both e₁ 0 (x₁ e₁ 40).call; timely = tt },
  (
    record { node_in = omega arith; continues = as_after both (w₁ e₁ 40) 1 (x₂ e₁ 40).call; timely = tt },
    (
      record { node_in = omega arith; continues = as_after both (w₂ e₁ 40) 0 (x₃ e₁ 40).call; timely = λ _. reads both (w₂ e₁ 40) 0 no_counter (pos 1000) refl record { lt = tt } },
      (
        record { node_in = omega arith; continues = as_after both (w₃ e₁ 40) 1 (x₄ e₁ 40).call; timely = λ _. reads both (w₃ e₁ 40) 1 no_counter (pos 1000) refl record { lt = tt } },
        tt,
      ),
    ),
  ),
)

listened_2 : Allows two (w₄ e₁ 40) (ys e₁ 40)
unfolding opened after step Allows start between
listened_2 = (
  record { node_in = omega arith; continues = as_after both (w₄ e₁ 40) 0 (y₁ e₁ 40).call; timely = delivered both (w₄ e₁ 40) 0 _ (pos 1000) _ (of_1 e₁ 40) 0 (Memᴰ.head refl) refl (reads both (w₄ e₁ 40) 0 no_counter (pos 1000) refl record { lt = tt }) (omega arith) refl },
  (
    record { node_in = omega arith; continues = as_after both (w₅ e₁ 40) 1 (y₂ e₁ 40).call; timely = delivered both (w₅ e₁ 40) 1 _ (pos 1000) _ (of_0 e₁ 40) 0 (Memᴰ.tail (Memᴰ.head refl)) refl (reads both (w₅ e₁ 40) 1 no_counter (pos 1000) refl record { lt = tt }) (omega arith) refl },
    tt,
  ),
)

reported_2 : (b : ℕ) → b < 2 → Reported two e₁ b (xs e₁ 40)
unfolding opened after step Reported start between
reported_2 = below_2 (λ (b : ℕ). Reported two e₁ b (xs e₁ 40)) (inl (refl, refl)) (inr (inl (refl, refl)))

heard_2 : (b j a i : ℕ) → wire b j ≡ at a i → Heard two (w₄ e₁ 40) b j (ys e₁ 40)
unfolding opened after step Heard start between
heard_2 = ends (λ (b j : ℕ). Heard two (w₄ e₁ 40) b j (ys e₁ 40)) (inl (refl, refl, refl)) (inr (inl (refl, refl, refl)))

over_2 : NoWalks two (history two (w₄ e₁ 40) (ys e₁ 40))
unfolding opened after step history start between
over_2 = below_2 (λ (b : ℕ). is_open (after_at two (history two (w₄ e₁ 40) (ys e₁ 40)) b).walk ≡ false) refl refl

round_2 : Round two between (xs e₁ 40) (ys e₁ 40)
unfolding history Speaking Listening seconds_at
round_2 =
    record {
      underway =
          record {
            allowed = allowed_2;
            allowed_then = listened_2;
            speak = (tt, (tt, (tt, (tt, tt))));
            listen = (tt, (tt, tt));
            short = below_2 (λ (b : ℕ). seconds_at two e₁ b (xs e₁ 40) + seconds_at two (w₄ e₁ 40) b (ys e₁ 40) ≤ round_seconds) (omega arith) (omega arith);
          };
      reported = λ b hb. inl (reported_2 b hb);
      heard = heard_2;
      over = over_2;
    }

-- ---- all of it

at_0 : (entry_of two last 0 1).delay.0 ≡ pos 100
unfolding opened after step start between last
at_0 = refl

at_1 : (entry_of two last 1 0).delay.0 ≡ pos 100
unfolding opened after step start between last
at_1 = refl

two_proper : Proper two
unfolding opened
two_proper = pair_proper both (apart (only_mark 0) (only_mark 1) refl refl) (below_2 (λ (a : ℕ). (initialized two a).reply.answer ≡ Answer.Done) refl refl)

begins : Starts two start
unfolding start
begins = starts both

rounds_2 : Rounds two start 2 last
unfolding history between last
rounds_2 = next (next begin (xs e₀ 32) (ys e₀ 32) round_1) (xs e₁ 40) (ys e₁ 40) round_2

pub example_holds : RoundsExample
example_holds =
    record {
      proper = two_proper;
      slots = λ a ha. omega arith;
      starts = begins;
      rounds = rounds_2;
      node_0 = ap millis at_0;
      node_1 = ap millis at_1;
    }
