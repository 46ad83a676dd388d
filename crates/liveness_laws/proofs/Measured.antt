-- What a message of a cable's other end says: its sender's address, and a DELAY of exactly 100 ms, because two ways take at most 100 ms.
use mathlib.Core.Path.{◌≡◌, refl, ap, ◌∙◌}
use mathlib.Core.Bool.{true, false}
use mathlib.Core.List.{List}
use Prim.Native.Nat.{ℕ, ◌+◌, ◌≤◌}
use native.Mathlib.Omega.{arith}
use borrow.Author.Tests.{eq-eqb}
use lib.IntN.{pos, ◌+ℤ◌}
use Rattle.lists.proofs.Tests.{either}
use Rattle.quantity.specs.declared.Millis.{Millis}
use Rattle.quantity.specs.Quantity.{millis, less_millis}
use Rattle.quantity.specs.Words.{zero_word}
use Rattle.quantity.proofs.Ints.{up, lt_no}
use Rattle.wire.specs.declared.Address.{Address}
use Rattle.wire.specs.Octets.{same_address}
use Rattle.wire.specs.Hello.{report_at}
use Rattle.wire.specs.Packet.{hello_of, fields}
use Rattle.wire.proofs.ReadBack.{source_back, tsp_back}
use Rattle.table.specs.Entry.{min_delay}
use Rattle.arrival.specs.Steps.{delay_of, at_least_min}
use Rattle.exchange.proofs.Steps.{delay_exact}
use Rattle.network_laws.specs.Network.{Network, at, Proper}
use Rattle.network_laws.specs.Demand3.{Message}
use Rattle.network_laws.proofs.Demand3.Invariant.{RightMessage, Carries}
use Rattle.liveness_laws.specs.Numbers.{rise, quick_way}

-- the DELAY that a message reports of id i
abbrev pub returned : (i : ℕ) → (octets : List ℕ) → ℕ
returned i o = up (report_at (hello_of o) i).delay.0

-- a message that can be believed
abbrev pub Worded : (octets : List ℕ) → Type 0
Worded o = zero_word (fields o).tsp ≡ false

pub address_same : (a b : Address) → a ≡ b → same_address a b ≡ true
address_same a b z =
    rw (eq-eqb a.first b.first (ap (λ (x : Address). x.first) z), eq-eqb a.second b.second (ap (λ (x : Address). x.second) z), eq-eqb a.third b.third (ap (λ (x : Address). x.third) z), eq-eqb a.fourth b.fourth (ap (λ (x : Address). x.fourth) z)) refl

-- up to 100 becomes 100
exactly : (n : ℕ) → n ≤ 100 → at_least_min (millis (pos n)) ≡ millis (pos rise)
exactly n h =
    either (λ (m : Millis). m ≡ millis (pos rise)) (less_millis (millis (pos n)) min_delay) _ _ (λ _. refl)
    (λ t. let l = lt_no (pos n) (pos 100) t in ap (λ (q : ℕ). millis (pos q)) (omega (arith, l)))

module _ (r : Network) (proper : Proper r) (b j : ℕ) (m : Message) (cable : r.cable b j ≡ at m.node m.link) (right : RightMessage r m) where
  pub source_is : (fields m.octets).source ≡ (r.settings m.node).address
  source_is = ap (λ (o : List ℕ). (fields o).source) right.octets_are ∙ source_back right.destination right.packet right.reports ∙ right.source

  -- DELAY is the sum of two ways of 50 ms at most
  pub exact_delay : r.longest ≤ quick_way → (reading : Millis) (way : ℕ) → way ≤ r.longest → reading.0 ≡ (m.ms +ℤ pos way) +ℤ r.fixed b → Worded m.octets
      → at_least_min (delay_of reading (fields m.octets).tsp) ≡ millis (pos rise)
  exact_delay quick reading way short clock z =
      ap at_least_min (ap millis (delay_exact 16 (omega arith) (r.fixed b) m.ms (fields m.octets).tsp.0 reading.0 carried.way way carried.bits clock (omega (arith, carried.short))))
      ∙ exactly (carried.way + way) (omega (arith, carried.short))
    where
      tsp_read : (fields m.octets).tsp ≡ right.packet.tsp
      tsp_read = ap (λ (o : List ℕ). (fields o).tsp) right.octets_are ∙ tsp_back right.destination right.packet right.reports right.tsp_fits.high right.tsp_fits.low

      carried : Carries r b m.ms (fields m.octets).tsp.0
      carried = rw tsp_read (right.tsp b j (proper.cables b j m.node m.link cable).other_end (rw tsp_read at z))
