-- The ways that steps 2 to 4 can go, and the DELAY that step 5 is left with.
use mathlib.Core.Path.{◌≡◌, refl}
use mathlib.Core.Bool.{Bool, true, false, cond, not, ◌||◌}
use Prim.Native.Nat.{◌≤◌}
use native.Mathlib.Omega.{arith}
use lib.Dec.{eqb}
use lib.IntN.{pos}
use Rattle.lists.proofs.Tests.{either}
use Rattle.quantity.specs.declared.Millis.{Millis}
use Rattle.quantity.specs.declared.Seconds.{Seconds}
use Rattle.quantity.specs.Quantity.{millis, less_millis, sub_millis}
use Rattle.quantity.specs.Words.{of_word, zero_word}
use Rattle.quantity.proofs.Ints.{up, lt_no}
use Rattle.quantity.proofs.Wrap.{wrap_range}
use Rattle.wire.specs.declared.Packet.{Packet}
use Rattle.wire.specs.Octets.{same_address}
use Rattle.table.specs.Forms.{Stage, on, end}
use Rattle.table.specs.Entry.{min_delay, up_to}
use Rattle.table.specs.Update.{own_most}
use Rattle.table.proofs.Ranges.{up_to_lem}
use Rattle.host.specs.declared.Link.{Link}
use Rattle.arrival.specs.declared.Flight.{Flight}
use Rattle.arrival.specs.Steps.{delay_of, step2, step3, measured, new_neighbor, step4, steps2to4, at_least_min}

-- step 4: on broadcast it goes on; point-to-point a new neighbour is stored, and a known one is ended with 10 or goes on
module _ (P : Stage Flight → Type 0) (b : Bool) (h : Seconds) (p : Packet) (r : Millis) (x : Link) where
  pub steps_cases :
      (b ≡ true → P (on (measured b p r x)))
      → (b ≡ false → same_address p.source x.neighbor ≡ false → P (on (new_neighbor p (measured b p r x))))
      → (b ≡ false → same_address p.source x.neighbor ≡ true → zero_word p.tsp || not (eqb h.0 0) ≡ true → P (end (measured b p r x)))
      → (b ≡ false → same_address p.source x.neighbor ≡ true → zero_word p.tsp || not (eqb h.0 0) ≡ false → P (on (measured b p r x)))
      → P (steps2to4 b h p r x)
  unfolding steps2to4 step4 step3 step2
  steps_cases wide new ended known = go b (same_address p.source x.neighbor) (zero_word p.tsp || not (eqb h.0 0)) refl refl refl
    where
      go : (u v w : Bool) → b ≡ u → same_address p.source x.neighbor ≡ v → zero_word p.tsp || not (eqb h.0 0) ≡ w
          → P (cond u (on (measured b p r x)) (cond (not v) (on (new_neighbor p (measured b p r x))) (cond w (end (measured b p r x)) (on (measured b p r x)))))
      go true v w e f g = wide e
      go false false w e f g = new e f
      go false true true e f g = ended e f g
      go false true false e f g = known e f g

-- ---- DELAY

-- raised to 100, it is that of a signed 16-bit word at most
abbrev pub Short : Flight → Type 0
Short f = up_to own_most (at_least_min f.delay) ≡ true

raised : (d : Millis) → up d.0 ≤ 32767 → up_to own_most (at_least_min d) ≡ true
raised d h =
    either (λ (m : Millis). up_to own_most m ≡ true) (less_millis d min_delay) min_delay d (λ _. refl)
    (λ e. up_to_lem 32767 d.0 (omega (arith, lt_no d.0 (pos 100) e, h)))

pub measured_short : (b : Bool) (p : Packet) (r : Millis) (x : Link) → Short (measured b p r x)
unfolding step3 step2
measured_short b p r x =
    either (λ (d : Millis). up_to own_most (at_least_min d) ≡ true) b (millis (pos 0)) (delay_of r p.tsp) (λ _. refl)
    (λ _. raised (delay_of r p.tsp) (omega (arith, wrap_range 16 (omega arith) (sub_millis r (of_word p.tsp)).0)))

pub new_short : (p : Packet) (f : Flight) → Short (new_neighbor p f)
new_short p f = refl
