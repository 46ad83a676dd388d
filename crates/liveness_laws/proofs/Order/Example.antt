-- The two rounds of specs/OrderExample.antt meet every condition; each call is computed.
use mathlib.Core.Path.{◌≡◌, refl, ap}
use mathlib.Core.Bool.{false}
use mathlib.Core.List.Memᴰ
use mathlib.Core.List.{List, [], ◌∷◌}
use mathlib.Core.Logic.{inl, inr}
use Prim.Native.Nat.{ℕ, ◌≤◌, ◌<◌}
use native.Mathlib.Omega.{arith}
use lib.IntN.{pos}
use Rattle.quantity.specs.Quantity.{millis}
use Rattle.answer.specs.declared.Answer.{Answer}
use Rattle.clock.specs.LineClock.{no_counter}
use Rattle.table.specs.Marks.{only_mark}
use Rattle.host.specs.Walk.{is_open}
use Rattle.network_laws.specs.HostAfter.{message_of}
use Rattle.network_laws.specs.History.{after}
use Rattle.network_laws.specs.Network.{at, initialized, Proper}
use Rattle.network_laws.specs.Demand3.{Step, Message, World, after_at, result, step, history, Allows, Starts, entry_of}
use Rattle.network_laws.specs.TwoNodes.{wire}
use Rattle.network_laws.proofs.Opened.{opened}
use Rattle.network_laws.proofs.Demand3.TwoNodes.{below_2, apart, pair_proper, starts, as_after, reads, delivered}
use Rattle.liveness_laws.specs.Numbers.{round_seconds}
use Rattle.liveness_laws.specs.Seconds.{emptied, seconds_at}
use Rattle.liveness_laws.specs.Rounds.{NoWalks, Reported, Heard}
use Rattle.liveness_laws.specs.Order.{Stands, AllFresh, nothing_came, OrderedRound, OrderedRounds, begin, next}
use Rattle.liveness_laws.specs.RoundsExample.{both, two}
use Rattle.liveness_laws.specs.OrderExample.{x₁, x₂, x₃, x₄, x₅, x₆, x₇, x₈, w₁, w₂, w₃, w₄, w₅, w₆, w₇, start, between, last, AnyOrderExample}
use Rattle.liveness_laws.proofs.Rounds.Example.{ends}

module _ (w : World) (size : ℕ) where
  abbrev xs : List Step
  xs = x₁ w size ∷ x₂ w size ∷ x₃ w size ∷ x₄ w size ∷ x₅ w size ∷ x₆ w size ∷ x₇ w size ∷ x₈ w size ∷ []

  -- what was sent
  abbrev m₂ : Message
  m₂ = record { node = 0; link = 1; ms = pos 1000; octets = message_of (result two (w₁ w size) (x₂ w size)) }

  abbrev m₅ : Message
  m₅ = record { node = 1; link = 1; ms = pos 1000; octets = message_of (result two (w₄ w size) (x₅ w size)) }

  abbrev m₇ : Message
  m₇ = record { node = 0; link = 1; ms = pos 1000; octets = message_of (result two (w₆ w size) (x₇ w size)) }

abbrev e₀ : World
e₀ = emptied start

allowed_1 : Allows two e₀ (xs e₀ 32)
unfolding opened after step Allows start
allowed_1 = (
  record { node_in = omega arith; continues = as_after both e₀ 0 (x₁ e₀ 32).call; timely = tt },
  (
    record { node_in = omega arith; continues = as_after both (w₁ e₀ 32) 0 (x₂ e₀ 32).call; timely = λ _. reads both (w₁ e₀ 32) 0 no_counter (pos 1000) refl record { lt = tt } },
    (
      record { node_in = omega arith; continues = as_after both (w₂ e₀ 32) 1 (x₃ e₀ 32).call; timely = delivered both (w₂ e₀ 32) 1 _ (pos 1000) _ (m₂ e₀ 32) 0 (Memᴰ.head refl) refl (reads both (w₂ e₀ 32) 1 no_counter (pos 1000) refl record { lt = tt }) (omega arith) refl },
      (
        record { node_in = omega arith; continues = as_after both (w₃ e₀ 32) 1 (x₄ e₀ 32).call; timely = tt },
        (
          record { node_in = omega arith; continues = as_after both (w₄ e₀ 32) 1 (x₅ e₀ 32).call; timely = λ _. reads both (w₄ e₀ 32) 1 no_counter (pos 1000) refl record { lt = tt } },
          (
            record { node_in = omega arith; continues = as_after both (w₅ e₀ 32) 0 (x₆ e₀ 32).call; timely = delivered both (w₅ e₀ 32) 0 _ (pos 1000) _ (m₅ e₀ 32) 0 (Memᴰ.head refl) refl (reads both (w₅ e₀ 32) 0 no_counter (pos 1000) refl record { lt = tt }) (omega arith) refl },
            (
              record { node_in = omega arith; continues = as_after both (w₆ e₀ 32) 0 (x₇ e₀ 32).call; timely = λ _. reads both (w₆ e₀ 32) 0 no_counter (pos 1000) refl record { lt = tt } },
              (
                record { node_in = omega arith; continues = as_after both (w₇ e₀ 32) 1 (x₈ e₀ 32).call; timely = delivered both (w₇ e₀ 32) 1 _ (pos 1000) _ (m₇ e₀ 32) 0 (Memᴰ.head refl) refl (reads both (w₇ e₀ 32) 1 no_counter (pos 1000) refl record { lt = tt }) (omega arith) refl },
                tt,
              ),
            ),
          ),
        ),
      ),
    ),
  ),
)

fresh_1 : AllFresh two e₀ nothing_came (xs e₀ 32)
unfolding opened after step AllFresh Stands start
fresh_1 = (tt, (tt, (record { message = m₂ e₀ 32; number = 0; stands = inl (refl, refl); other_end = refl; a_copy = refl; in_order = omega arith }, (tt, (tt, (record { message = m₅ e₀ 32; number = 1; stands = inl (refl, refl); other_end = refl; a_copy = refl; in_order = omega arith }, (tt, (record { message = m₇ e₀ 32; number = 2; stands = inl (refl, refl); other_end = refl; a_copy = refl; in_order = omega arith }, tt))))))))

reported_1 : (b : ℕ) → b < 2 → Reported two e₀ b (xs e₀ 32)
unfolding opened after step Reported start
reported_1 = below_2 (λ (b : ℕ). Reported two e₀ b (xs e₀ 32)) (inl (refl, refl)) (inr (inr (inr (inl (refl, refl)))))

heard_1 : (b j a i : ℕ) → wire b j ≡ at a i → Heard two e₀ b j (xs e₀ 32)
unfolding opened after step Heard start
heard_1 = ends (λ (b j : ℕ). Heard two e₀ b j (xs e₀ 32)) (inr (inr (inr (inr (inr (inl (refl, refl, refl))))))) (inr (inr (inl (refl, refl, refl))))

over_1 : NoWalks two (history two e₀ (xs e₀ 32))
unfolding opened after step history start
over_1 = below_2 (λ (b : ℕ). is_open (after_at two (history two e₀ (xs e₀ 32)) b).walk ≡ false) refl refl

round_1 : OrderedRound two start (xs e₀ 32)
unfolding history seconds_at
round_1 =
    record {
      begun = record { allowed = allowed_1; fresh = fresh_1; short = below_2 (λ (b : ℕ). seconds_at two e₀ b (xs e₀ 32) ≤ round_seconds) (omega arith) (omega arith) };
      reported = reported_1;
      heard = heard_1;
      over = over_1;
    }

abbrev e₁ : World
e₁ = emptied between

allowed_2 : Allows two e₁ (xs e₁ 40)
unfolding opened after step Allows start between
allowed_2 = (
  record { node_in = omega arith; continues = as_after both e₁ 0 (x₁ e₁ 40).call; timely = tt },
  (
    record { node_in = omega arith; continues = as_after both (w₁ e₁ 40) 0 (x₂ e₁ 40).call; timely = λ _. reads both (w₁ e₁ 40) 0 no_counter (pos 1000) refl record { lt = tt } },
    (
      record { node_in = omega arith; continues = as_after both (w₂ e₁ 40) 1 (x₃ e₁ 40).call; timely = delivered both (w₂ e₁ 40) 1 _ (pos 1000) _ (m₂ e₁ 40) 0 (Memᴰ.head refl) refl (reads both (w₂ e₁ 40) 1 no_counter (pos 1000) refl record { lt = tt }) (omega arith) refl },
      (
        record { node_in = omega arith; continues = as_after both (w₃ e₁ 40) 1 (x₄ e₁ 40).call; timely = tt },
        (
          record { node_in = omega arith; continues = as_after both (w₄ e₁ 40) 1 (x₅ e₁ 40).call; timely = λ _. reads both (w₄ e₁ 40) 1 no_counter (pos 1000) refl record { lt = tt } },
          (
            record { node_in = omega arith; continues = as_after both (w₅ e₁ 40) 0 (x₆ e₁ 40).call; timely = delivered both (w₅ e₁ 40) 0 _ (pos 1000) _ (m₅ e₁ 40) 0 (Memᴰ.head refl) refl (reads both (w₅ e₁ 40) 0 no_counter (pos 1000) refl record { lt = tt }) (omega arith) refl },
            (
              record { node_in = omega arith; continues = as_after both (w₆ e₁ 40) 0 (x₇ e₁ 40).call; timely = λ _. reads both (w₆ e₁ 40) 0 no_counter (pos 1000) refl record { lt = tt } },
              (
                record { node_in = omega arith; continues = as_after both (w₇ e₁ 40) 1 (x₈ e₁ 40).call; timely = delivered both (w₇ e₁ 40) 1 _ (pos 1000) _ (m₇ e₁ 40) 0 (Memᴰ.head refl) refl (reads both (w₇ e₁ 40) 1 no_counter (pos 1000) refl record { lt = tt }) (omega arith) refl },
                tt,
              ),
            ),
          ),
        ),
      ),
    ),
  ),
)

fresh_2 : AllFresh two e₁ nothing_came (xs e₁ 40)
unfolding opened after step AllFresh Stands start between
fresh_2 = (tt, (tt, (record { message = m₂ e₁ 40; number = 0; stands = inl (refl, refl); other_end = refl; a_copy = refl; in_order = omega arith }, (tt, (tt, (record { message = m₅ e₁ 40; number = 1; stands = inl (refl, refl); other_end = refl; a_copy = refl; in_order = omega arith }, (tt, (record { message = m₇ e₁ 40; number = 2; stands = inl (refl, refl); other_end = refl; a_copy = refl; in_order = omega arith }, tt))))))))

reported_2 : (b : ℕ) → b < 2 → Reported two e₁ b (xs e₁ 40)
unfolding opened after step Reported start between
reported_2 = below_2 (λ (b : ℕ). Reported two e₁ b (xs e₁ 40)) (inl (refl, refl)) (inr (inr (inr (inl (refl, refl)))))

heard_2 : (b j a i : ℕ) → wire b j ≡ at a i → Heard two e₁ b j (xs e₁ 40)
unfolding opened after step Heard start between
heard_2 = ends (λ (b j : ℕ). Heard two e₁ b j (xs e₁ 40)) (inr (inr (inr (inr (inr (inl (refl, refl, refl))))))) (inr (inr (inl (refl, refl, refl))))

over_2 : NoWalks two (history two e₁ (xs e₁ 40))
unfolding opened after step history start between
over_2 = below_2 (λ (b : ℕ). is_open (after_at two (history two e₁ (xs e₁ 40)) b).walk ≡ false) refl refl

round_2 : OrderedRound two between (xs e₁ 40)
unfolding history seconds_at
round_2 =
    record {
      begun = record { allowed = allowed_2; fresh = fresh_2; short = below_2 (λ (b : ℕ). seconds_at two e₁ b (xs e₁ 40) ≤ round_seconds) (omega arith) (omega arith) };
      reported = reported_2;
      heard = heard_2;
      over = over_2;
    }

-- ---- all of it

early : (entry_of two between 1 0).delay.0 ≡ pos 100
unfolding opened after step start between
early = refl

at_0 : (entry_of two last 0 1).delay.0 ≡ pos 100
unfolding opened after step start between last
at_0 = refl

at_1 : (entry_of two last 1 0).delay.0 ≡ pos 100
unfolding opened after step start between last
at_1 = refl

two_proper : Proper two
unfolding opened
two_proper = pair_proper both (apart (only_mark 0) (only_mark 1) refl refl) (below_2 (λ (a : ℕ). (initialized two a).reply.answer ≡ Answer.Done) refl refl)

begins : Starts two start
unfolding start
begins = starts both

rounds_1 : OrderedRounds two start 1 between
unfolding history between
rounds_1 = next begin (xs e₀ 32) round_1

rounds_2 : OrderedRounds two start 2 last
unfolding history last
rounds_2 = next rounds_1 (xs e₁ 40) round_2

pub any_example_holds : AnyOrderExample
any_example_holds =
    record {
      proper = two_proper;
      slots = λ a ha. omega arith;
      starts = begins;
      round = rounds_1;
      sooner = ap millis early;
      rounds = rounds_2;
      node_0 = ap millis at_0;
      node_1 = ap millis at_1;
    }
