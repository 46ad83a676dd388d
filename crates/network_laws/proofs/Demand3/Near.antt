-- OFFSETs near the true difference, at 16 bits: of one exchange, and of a report that is passed on. DELAYs are integers of milliseconds.
use mathlib.Core.Path.{◌≡◌}
use Prim.Native.Nat.{ℕ, ◌+◌, ◌*◌, ◌≤◌, ◌<◌}
use native.Mathlib.Omega.{arith}
use lib.IntN.{ℤ, pos, ◌+ℤ◌, ◌-ℤ◌, ◌*ℤ◌, nat_abs}
use lib.Signed.{shr_z, ◌≤ℤ◌}
use lib.Dec.{lit<}
use Rattle.quantity.specs.Words.{wrap}
use Rattle.quantity.proofs.Ints.{up, dn, sum, diff, times, floor, abs, one, to-≤ℤ}
use Rattle.quantity.proofs.Wrap.{wrap_fits}
use Rattle.network_laws.specs.Network.{clock_spread, longest_way, error_parts, delay_parts}
use Rattle.exchange.proofs.Steps.{offset_error}

-- a number that 16 bits hold, signed
pub record Fits16 (z : ℤ) : Type 0 where
  pub high : up z < 32768
  pub low : dn z ≤ 32768

-- o is at most 101/200 of the delay D away from f - g
pub record Near (o f g D : ℤ) : Type 0 where
  pub above : delay_parts * (up o + up g + dn f) + error_parts * dn D ≤ error_parts * up D + delay_parts * (dn o + dn g + up f)
  pub below : delay_parts * (dn o + dn g + up f) + error_parts * dn D ≤ error_parts * up D + delay_parts * (up o + up g + dn f)

-- as the claim says it
pub near_close : (o f g D : ℤ) → Near o f g D → pos (delay_parts * nat_abs (o -ℤ (f -ℤ g))) ≤ℤ (D *ℤ pos error_parts)
near_close o f g D n =
    to-≤ℤ (pos (delay_parts * nat_abs (o -ℤ (f -ℤ g)))) (D *ℤ pos error_parts)
    (omega (arith, n, abs (o -ℤ (f -ℤ g)), one (o -ℤ (f -ℤ g)), diff o (f -ℤ g), diff f g, times D error_parts))

-- the clocks of two nodes are near
pub record Apart (f g : ℤ) : Type 0 where
  pub above : up (f -ℤ g) ≤ clock_spread
  pub below : dn (f -ℤ g) ≤ clock_spread

pub apart : (f g : ℤ) → nat_abs (f -ℤ g) ≤ clock_spread → Apart f g
apart f g h = omega (arith, abs (f -ℤ g))

-- one exchange, with the ways d and e: a DELAY that is 100 at least
module _ (f g : ℤ) (d e : ℕ) (a : Apart f g) (hd : d ≤ longest_way) (he : e ≤ longest_way) where
  abbrev z : ℤ
  z = ((f -ℤ g) -ℤ pos e) +ℤ shr_z (pos (d + e)) 2

  pub offset_fits : Fits16 z
  offset_fits =
      omega
      (arith, sum ((f -ℤ g) -ℤ pos e) (shr_z (pos (d + e)) 2), floor (pos (d + e)) 2 (lit< tt), diff (f -ℤ g) (pos e), one z)

  pub offset_exact : wrap 16 z ≡ z
  offset_exact = wrap_fits 16 (omega arith) z offset_fits.high offset_fits.low

  pub offset_near : (D : ℤ) → d + e + dn D ≤ up D → 100 + dn D ≤ up D → Near z f g D
  offset_near D h k = omega (arith, offset_error f g d e)

-- a report of c's host that a passes on to b: the delays add, the errors add, and under 30,000 the sum of the OFFSETs does not wrap
module _ (fa fb fc o p D E : ℤ) (ap : Apart fc fb) (no : Near o fa fb D) (np : Near p fc fa E) where
  pub relay_near : Near (o +ℤ p) fc fb (D +ℤ E)
  relay_near = omega (arith, sum o p, sum D E)

  relay_fits : up (D +ℤ E) < 30000 + dn (D +ℤ E) → Fits16 (o +ℤ p)
  relay_fits h = omega (arith, relay_near, diff fc fb, one (o +ℤ p))

  pub relay_exact : up (D +ℤ E) < 30000 + dn (D +ℤ E) → wrap 16 (o +ℤ p) ≡ o +ℤ p
  relay_exact h = wrap_fits 16 (omega arith) (o +ℤ p) (relay_fits h).high (relay_fits h).low
