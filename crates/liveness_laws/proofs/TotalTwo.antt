-- The two rounds of the rounds' example meet every condition of total correctness, because the one cable makes the network one cable wide.
use mathlib.Core.Path.{◌≡◌, refl}
use Prim.Native.Nat.{ℕ, ◌≤◌}
use native.Mathlib.Omega.{arith}
use lib.IntN.{pos, negsuc}
use Rattle.network_laws.specs.History.{after}
use Rattle.network_laws.specs.Demand3.{step, entry_of}
use Rattle.network_laws.proofs.Opened.{opened}
use Rattle.network_laws.proofs.Demand3.TwoNodes.{below_2}
use Rattle.liveness_laws.specs.Hops.{Hops, there, over, Width}
use Rattle.liveness_laws.specs.RoundsExample.{two, start, between, last}
use Rattle.liveness_laws.specs.TotalCorrectness.{Correct}
use Rattle.liveness_laws.specs.TotalExample.{TotalExample}
use Rattle.liveness_laws.proofs.Rounds.Example.{example_holds}
use Rattle.liveness_laws.proofs.Total.{total_correctness}

one_wide : Width two 1
one_wide b c hb hc =
    below_2 (λ (q : ℕ). (h : ℕ) × Hops two c q h × (h ≤ 1))
    (below_2 (λ (p : ℕ). (h : ℕ) × Hops two p 0 h × (h ≤ 1)) (0, there, omega arith) (1, over {j = 1} {i = 1} refl there, omega arith) c hc)
    (below_2 (λ (p : ℕ). (h : ℕ) × Hops two p 1 h × (h ≤ 1)) (1, over {j = 1} {i = 1} refl there, omega arith) (0, there, omega arith) c hc) b hb

right : Correct two last
right =
    let e = example_holds in
    (total_correctness.in_rounds two e.proper (omega arith) e.slots 1 one_wide (omega arith) start e.starts 1 last e.rounds (omega arith)).0

delay_0 : (entry_of two last 0 1).delay.0 ≡ pos 100
unfolding opened after step start between last
delay_0 = refl

offset_0 : (entry_of two last 0 1).offset.0 ≡ pos 500
unfolding opened after step start between last
offset_0 = refl

delay_1 : (entry_of two last 1 0).delay.0 ≡ pos 100
unfolding opened after step start between last
delay_1 = refl

offset_1 : (entry_of two last 1 0).offset.0 ≡ negsuc 499
unfolding opened after step start between last
offset_1 = refl

pub total_example_holds : TotalExample
total_example_holds = record { wide = one_wide; correct = right; delay_0 = delay_0; offset_0 = offset_0; delay_1 = delay_1; offset_1 = offset_1 }
