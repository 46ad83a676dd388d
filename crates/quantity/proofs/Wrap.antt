-- Numbers kept to w bits, signed. "The same w bits" is carried as a congruence, `Same w a b`: a + 2^w j is b + 2^w k. So no remainder is nested in another.
use mathlib.Core.Path.{◌≡◌, ◌∙◌, refl, sym, ap}
use mathlib.Core.Bool.{Bool, true, false, cond}
use Prim.Native.Nat.{ℕ, zero, suc, ◌+◌, ◌*◌, ◌-◌, ◌/◌, ◌%◌, ◌^◌, ◌≤◌, ◌<◌}
use native.Mathlib.Nat.{div-add-mod, mod-lt, mod-eq_of_lt, add-mul-mod_self_left}
use native.Mathlib.Omega.{arith}
use borrow.Author.Tests.{lt-ltb, le-ltb, ltb-true, ltb-false}
use lib.Dec.{ltb}
use lib.IntN.{ℤ, pos, negsuc}
use lib.Pow.{pow_pos}
use Rattle.quantity.specs.Words.{low_bits, signed_bits, wrap}
use Rattle.quantity.proofs.Ints.{up, dn}

pub record Same (w : ℕ) (a b : ℤ) : Type 0 where
  pub j : ℕ
  pub k : ℕ
  pub eq : up a + dn b + 2 ^ w * j ≡ up b + dn a + 2 ^ w * k

double : (w : ℕ) → 1 ≤ w → 2 ^ w ≡ 2 * 2 ^ (w - 1)
double zero h = absurd (omega arith)
double (suc v) h = let e : suc v - 1 ≡ v = omega arith in rw e (omega arith)

-- a remainder below the divisor is the only one
remainder : (n m M j k : ℕ) → n + M * j ≡ m + M * k → m < M → n % M ≡ m
remainder n m M j k e h =
    sym (add-mul-mod_self_left n M j) ∙ ap (λ (x : ℕ). x % M) e ∙ add-mul-mod_self_left m M k ∙ mod-eq_of_lt h

module _ (w : ℕ) (h : 1 ≤ w) where
  -- the low bits of z are z, but for a multiple
  bits_same : (z : ℤ) → Same w z (pos (low_bits w z))
  bits_same (pos n) = record { j = 0; k = n / 2 ^ w; eq = omega (arith, div-add-mod n (2 ^ w)) }
  bits_same (negsuc n) =
      record { j = n / 2 ^ w + 1; k = 0; eq = omega (arith, div-add-mod n (2 ^ w), mod-lt n (pow_pos w)) }

  low_fits : (z : ℤ) → low_bits w z < 2 ^ w
  low_fits (pos n) = mod-lt n (pow_pos w)
  low_fits (negsuc n) = omega (arith, mod-lt n (pow_pos w))

  signed_same : (b : ℕ) → b < 2 ^ w → Same w (pos b) (signed_bits w b)
  signed_same b l = go (ltb b (2 ^ (w - 1)))
    where
      go : (t : Bool) → Same w (pos b) (cond t (pos b) (negsuc (2 ^ w - suc b)))
      go true = record { j = 0; k = 0; eq = omega arith }
      go false = record { j = 0; k = 1; eq = omega arith }

  -- a number kept to w bits is the same bits
  pub wrap_same : (z : ℤ) → Same w z (wrap w z)
  wrap_same z =
      let p = bits_same z in
      let q = signed_same (low_bits w z) (low_fits z) in
      record { j = p.j + q.j; k = p.k + q.k; eq = omega (arith, p.eq, q.eq) }

  signed_pos : (m : ℕ) → m < 2 ^ (w - 1) → signed_bits w m ≡ pos m
  signed_pos m l = rw (lt-ltb m (2 ^ (w - 1)) l)

  signed_neg : (m : ℕ) → suc m ≤ 2 ^ (w - 1) → signed_bits w (2 ^ w - suc m) ≡ negsuc m
  signed_neg m l =
      let d = double w h in
      let e : 2 ^ (w - 1) ≤ 2 ^ w - suc m = omega arith in
      rw (le-ltb (2 ^ w - suc m) (2 ^ (w - 1)) e) (ap negsuc (omega arith))

  -- a z of the same bits as a v that w bits hold is kept as v
  pub wrap_is : (z v : ℤ) → Same w z v → up v < 2 ^ (w - 1) → dn v ≤ 2 ^ (w - 1) → wrap w z ≡ v
  wrap_is (pos n) (pos m) c u l =
      ap (signed_bits w) (remainder n m (2 ^ w) c.j c.k (omega (arith, c.eq)) (omega (arith, double w h))) ∙ signed_pos m u
  wrap_is (pos n) (negsuc m) c u l =
      let d = double w h in
      ap (signed_bits w)
      (remainder n (2 ^ w - suc m) (2 ^ w) (c.j + 1) c.k (omega (arith, c.eq)) (omega (arith, pow_pos w)))
      ∙ signed_neg m l
  wrap_is (negsuc n) (pos m) c u l =
      let d = double w h in
      let r : n % 2 ^ w ≡ 2 ^ w - suc m = remainder n (2 ^ w - suc m) (2 ^ w) (c.k + 1) c.j (omega (arith, c.eq)) (omega (arith, pow_pos w)) in
      ap (signed_bits w) (rw r (omega arith)) ∙ signed_pos m u
  wrap_is (negsuc n) (negsuc m) c u l =
      let d = double w h in
      let r : n % 2 ^ w ≡ m = remainder n m (2 ^ w) c.k c.j (omega (arith, c.eq)) (omega arith) in
      ap (signed_bits w) (rw r) ∙ signed_neg m l

  -- a number that w bits hold is kept as it is
  pub wrap_fits : (z : ℤ) → up z < 2 ^ (w - 1) → dn z ≤ 2 ^ (w - 1) → wrap w z ≡ z
  wrap_fits z = wrap_is z z record { j = 0; k = 0; eq = refl }

  -- and so is what was kept once
  pub wrap_range : (z : ℤ) → (up (wrap w z) < 2 ^ (w - 1)) × (dn (wrap w z) ≤ 2 ^ (w - 1))
  wrap_range z = go (low_bits w z) (low_fits z) (ltb (low_bits w z) (2 ^ (w - 1))) refl
    where
      go : (b : ℕ) → b < 2 ^ w → (t : Bool) → ltb b (2 ^ (w - 1)) ≡ t
          → (up (cond t (pos b) (negsuc (2 ^ w - suc b))) < 2 ^ (w - 1)) × (dn (cond t (pos b) (negsuc (2 ^ w - suc b))) ≤ 2 ^ (w - 1))
      go b l true e = (ltb-true _ _ e, omega arith)
      go b l false e = (pow_pos (w - 1), omega (arith, ltb-false b (2 ^ (w - 1)) e, double w h))
