-- The two differences are the clocks' difference plus the one way and less the other, exactly, since the word holds them. The delay has the bits of their difference, which is the sum of the ways; the offset is half of their sum.
use mathlib.Core.Path.{◌≡◌, ◌∙◌, refl, ap}
use mathlib.Core.Bool.{Bool, true}
use mathlib.Core.List.{List, [], ◌∷◌}
use Prim.Native.Nat.{ℕ, ◌+◌, ◌*◌, ◌-◌, ◌^◌, ◌≤◌, ◌<◌}
use native.Mathlib.Omega.{arith}
use borrow.Author.Tests.{eqb-true, le-leb}
use lib.Dec.{lit<}
use lib.IntN.{ℤ, pos, negsuc, neg_ℤ, nat_abs, ◌+ℤ◌, ◌-ℤ◌}
use lib.Signed.{lt_z, le_z, shr_z}
use Rattle.lists.proofs.Tests.{both, Hold}
use Rattle.quantity.specs.Words.{wrap, signed_bits}
use Rattle.quantity.proofs.Ints.{up, dn, same, one, sum, diff, neg, floor, abs, lt_yes, le_yes}
use Rattle.quantity.proofs.Wrap.{Same, wrap_same, wrap_is, wrap_fits}
use Rattle.exchange.specs.Formulas.{tsp, packet_tsp, delay, offset, difference, ntp_delay, ntp_offset}
use Rattle.exchange.specs.HalfDelay.{holds, exchange, all, Measured, HalfDelay}

-- ---- what the conditions say

record Conditions (w : ℕ) (θ d e T1 T2 T3 T4 : ℤ) : Type 0 where
  there : wrap w (T2 -ℤ T1) ≡ wrap w (θ +ℤ d)
  back : wrap w (T3 -ℤ T4) ≡ wrap w (θ -ℤ e)
  way_there : dn d ≤ 0
  way_back : dn e ≤ 0
  there_up : up (θ +ℤ d) < 2 ^ (w - 1)
  there_dn : dn (θ +ℤ d) ≤ 2 ^ (w - 1)
  back_up : up (θ -ℤ e) < 2 ^ (w - 1)
  back_dn : dn (θ -ℤ e) ≤ 2 ^ (w - 1)
  ways_up : up (d +ℤ e) < 2 ^ (w - 1)

holds_range : (w : ℕ) (z : ℤ) → holds w z ≡ true → (up z < 2 ^ (w - 1)) × (dn z ≤ 2 ^ (w - 1))
holds_range w z h =
    let m = pos (2 ^ (w - 1)) in
    let b = both (le_z (neg_ℤ m) z) (lt_z z m) h in
    omega (arith, le_yes (neg_ℤ m) z b.0, lt_yes z m b.1, neg m, one z)

all_hold : (ts : List Bool) → all ts ≡ true → Hold ts
all_hold [] h = tt
all_hold (t ∷ ts) h = let b = both t (all ts) h in (b.0, all_hold ts b.1)

conditions : (w : ℕ) (θ d e T1 T2 T3 T4 : ℤ) → all (exchange w θ d e T1 T2 T3 T4) ≡ true → Conditions w θ d e T1 T2 T3 T4
conditions w θ d e T1 T2 T3 T4 h =
    let t : Hold (exchange w θ d e T1 T2 T3 T4) = all_hold (exchange w θ d e T1 T2 T3 T4) h in
    let there-range = holds_range w (θ +ℤ d) t.1.1.1.1.0 in
    let back-range = holds_range w (θ -ℤ e) t.1.1.1.1.1.0 in
    record {
      there = ap (signed_bits w) (eqb-true _ _ t.0);
      back = ap (signed_bits w) (eqb-true _ _ t.1.0);
      way_there = (le_yes (pos 0) d t.1.1.0).le_dn;
      way_back = (le_yes (pos 0) e t.1.1.1.0).le_dn;
      there_up = there-range.0;
      there_dn = there-range.1;
      back_up = back-range.0;
      back_dn = back-range.1;
      ways_up = (holds_range w (d +ℤ e) t.1.1.1.1.1.1.0).0;
    }

-- ---- the law of both

le_z_of : (a b : ℤ) → up a + dn b ≤ up b + dn a → le_z a b ≡ true
le_z_of (pos a) (pos b) h = le-leb a b (omega (arith, h))
le_z_of (pos a) (negsuc b) h = absurd (omega (arith, h))
le_z_of (negsuc a) (pos b) h = refl
le_z_of (negsuc a) (negsuc b) h = le-leb b a (omega (arith, h))

-- a delay that is the sum of the ways, and an offset that is the true difference plus half of the ways' difference
pub measured : (θ d e z v : ℤ) → dn d ≤ 0 → dn e ≤ 0 → z ≡ d +ℤ e → v ≡ θ +ℤ shr_z (d -ℤ e) 2 → Measured θ d e z v
measured θ d e z v hd he p q =
    record {
      ways = p;
      middle = q;
      half =
          le_z_of (pos (2 * nat_abs (v -ℤ θ))) (z +ℤ pos 1)
          (rw (abs (v -ℤ θ))
          (omega (arith, ap up p, ap dn p, ap up q, ap dn q, sum d e, sum z (pos 1), diff v θ, one (v -ℤ θ), sum θ (shr_z (d -ℤ e) 2), floor (d -ℤ e) 2 (lit< tt), diff d e)));
    }

-- HELLO takes the second difference and half of the delay; that is the true difference plus half of the ways' difference too
pub middle : (θ d e : ℤ) → (θ -ℤ e) +ℤ shr_z (d +ℤ e) 2 ≡ θ +ℤ shr_z (d -ℤ e) 2
middle θ d e =
    same _ _
    (omega
    (arith, diff θ e, sum d e, floor (d +ℤ e) 2 (lit< tt), sum (θ -ℤ e) (shr_z (d +ℤ e) 2), diff d e, floor (d -ℤ e) 2 (lit< tt), sum θ (shr_z (d -ℤ e) 2)))

module _ (w : ℕ) (h : 1 ≤ w) (θ d e T1 T2 T3 T4 : ℤ) (c : Conditions w θ d e T1 T2 T3 T4) where
  there_is : wrap w (T2 -ℤ T1) ≡ θ +ℤ d
  there_is = c.there ∙ wrap_fits w h (θ +ℤ d) c.there_up c.there_dn

  back_is : wrap w (T3 -ℤ T4) ≡ θ -ℤ e
  back_is = c.back ∙ wrap_fits w h (θ -ℤ e) c.back_up c.back_dn

  -- what has the bits of the round trip less the time held is the sum of the ways, kept to w bits
  round : (z : ℤ) → Same w z ((T4 -ℤ T1) -ℤ (T3 -ℤ T2)) → wrap w z ≡ d +ℤ e
  round z s =
      let p = wrap_same w h (T2 -ℤ T1) in
      let q = wrap_same w h (T3 -ℤ T4) in
      wrap_is w h z (d +ℤ e)
      record {
        j = s.j + p.j + q.k;
        k = s.k + p.k + q.j;
        eq =
            omega (
              arith,
              s.eq,
              p.eq,
              q.eq,
              ap up there_is,
              ap dn there_is,
              ap up back_is,
              ap dn back_is,
              diff T2 T1,
              diff T3 T4,
              diff T4 T1,
              diff T3 T2,
              diff (T4 -ℤ T1) (T3 -ℤ T2),
              sum θ d,
              diff θ e,
              sum d e,
            );
      }
      c.ways_up (omega (arith, sum d e, c.way_there, c.way_back))

  -- HELLO
  hello_delay : delay w T1 T2 T3 T4 ≡ d +ℤ e
  hello_delay =
      let b = wrap_same w h (T1 -ℤ T2) in
      let m = wrap_same w h (tsp w T1 T2 +ℤ T3) in
      round (T4 -ℤ packet_tsp w T1 T2 T3)
      record {
        j = b.j + m.j;
        k = b.k + m.k;
        eq =
            omega
            (arith, b.eq, m.eq, diff T1 T2, sum (tsp w T1 T2) T3, diff T4 (packet_tsp w T1 T2 T3), diff T4 T1, diff T3 T2, diff (T4 -ℤ T1) (T3 -ℤ T2));
      }

  -- it lies between θ - e and θ + d
  middle_range : (up (θ +ℤ shr_z (d -ℤ e) 2) < 2 ^ (w - 1)) × (dn (θ +ℤ shr_z (d -ℤ e) 2) ≤ 2 ^ (w - 1))
  middle_range =
      let z = θ +ℤ shr_z (d -ℤ e) 2 in
      omega
      (arith, sum θ (shr_z (d -ℤ e) 2), floor (d -ℤ e) 2 (lit< tt), diff d e, sum θ d, diff θ e, one z, one (θ +ℤ d), one (θ -ℤ e), c.way_there, c.way_back, c.there_up, c.back_dn)

  hello_offset : offset w T1 T2 T3 T4 ≡ θ +ℤ shr_z (d -ℤ e) 2
  hello_offset =
      rw (back_is, hello_delay, middle θ d e) (wrap_fits w h (θ +ℤ shr_z (d -ℤ e) 2) middle_range.0 middle_range.1)

  -- NTP
  ntp_delay_lem : ntp_delay w T1 T2 T3 T4 ≡ d +ℤ e
  ntp_delay_lem =
      let a = wrap_same w h (T4 -ℤ T1) in
      let b = wrap_same w h (T3 -ℤ T2) in
      round (difference w T4 T1 -ℤ difference w T3 T2)
      record {
        j = a.k + b.j;
        k = a.j + b.k;
        eq = omega (arith, a.eq, b.eq, diff (difference w T4 T1) (difference w T3 T2), diff (T4 -ℤ T1) (T3 -ℤ T2));
      }

  ntp_offset_lem : ntp_offset w T1 T2 T3 T4 ≡ θ +ℤ shr_z (d -ℤ e) 2
  ntp_offset_lem =
      rw (there_is, back_is)
      (same _ _
      (omega
      (arith, sum θ d, diff θ e, sum (θ +ℤ d) (θ -ℤ e), floor ((θ +ℤ d) +ℤ (θ -ℤ e)) 2 (lit< tt), diff d e, floor (d -ℤ e) 2 (lit< tt), sum θ (shr_z (d -ℤ e) 2))))

pub half_delay_lem : HalfDelay
unfolding HalfDelay
half_delay_lem w h θ d e T1 T2 T3 T4 t =
    let c = conditions w θ d e T1 T2 T3 T4 t in (
      measured θ d e _ _ c.way_there c.way_back (hello_delay w h θ d e T1 T2 T3 T4 c) (hello_offset w h θ d e T1 T2 T3 T4 c),
      measured θ d e _ _ c.way_there c.way_back (ntp_delay_lem w h θ d e T1 T2 T3 T4 c) (ntp_offset_lem w h θ d e T1 T2 T3 T4 c),
    )
