-- Half of a sum of two words, rounded down, is half of each and the lowest bit that both have.
use Rattle.std.proofs.Common.{◌≡◌, ℕ, zero, suc, ◌+◌, ◌*◌, ◌%◌, ◌<◌, min, ℤ, pos, negsuc, ◌+ℤ◌, refl, ◌∙◌, arith, lit<, w64, SFits, to_z, of_z, bit_and}
use Rattle.std.proofs.lemmas.Int.{to_z-of_z, to_z_pos}
use Rattle.std.proofs.lemmas.Nat.{and_mod, and_mask}
use lib.Signed.{shr_z}
use Rattle.quantity.proofs.Ints.{up, dn, same, one, sum, floor, fits, fits_up, fits_dn}

-- a number is twice its half, and the lowest bit of its word
parity : (a : ℤ) → SFits w64 a → up a + 2 * dn (shr_z a 2) ≡ 2 * up (shr_z a 2) + dn a + of_z w64 a % 2
parity (pos n) f = omega (arith, floor (pos n) 2 (lit< tt))
parity (negsuc n) f = omega (arith, f.sfits, floor (negsuc n) 2 (lit< tt))

common_bit : (m n : ℕ) → bit_and (bit_and m n) 1 ≡ min (m % 2) (n % 2)
common_bit m n = and_mask (bit_and m n) 1 ∙ (and_mod m n 1 ∙ go (m % 2) (n % 2) (omega arith) (omega arith))
  where
    go : (a b : ℕ) → a < 2 → b < 2 → bit_and a b ≡ min a b
    go zero zero h g = refl
    go zero (suc zero) h g = refl
    go (suc zero) zero h g = refl
    go (suc zero) (suc zero) h g = refl
    go zero (suc (suc b)) h g = absurd (omega (arith, g))
    go (suc zero) (suc (suc b)) h g = absurd (omega (arith, g))
    go (suc (suc a)) b h g = absurd (omega (arith, h))

pub mean_is : (a b : ℤ) → SFits w64 a → SFits w64 b
    → to_z w64 (of_z w64 (to_z w64 (of_z w64 (to_z w64 (of_z w64 (shr_z (to_z w64 (of_z w64 a)) 2)) +ℤ to_z w64 (of_z w64 (shr_z (to_z w64 (of_z w64 b)) 2)))) +ℤ to_z w64 (bit_and (bit_and (of_z w64 a) (of_z w64 b)) 1))) ≡ shr_z (a +ℤ b) 2
mean_is a b fa fb =
    let x = shr_z a 2 in
    let y = shr_z b 2 in
    let c = min (of_z w64 a % 2) (of_z w64 b % 2) in
    let ha = floor a 2 (lit< tt) in
    let hb = floor b 2 (lit< tt) in
    let au = fits_up w64 a fa in
    let ad = fits_dn w64 a fa in
    let bu = fits_up w64 b fb in
    let bd = fits_dn w64 b fb in
    let halves = sum x y in
    let all = sum (x +ℤ y) (pos c) in
    let fx : SFits w64 x = fits w64 x (omega arith, omega arith) in
    let fy : SFits w64 y = fits w64 y (omega arith, omega arith) in
    let eq : (x +ℤ y) +ℤ pos c ≡ shr_z (a +ℤ b) 2 =
    same _ _ (omega (arith, parity a fa, parity b fb, sum a b, floor (a +ℤ b) 2 (lit< tt), halves, all)) in
    let fh : SFits w64 (x +ℤ y) = fits w64 (x +ℤ y) (omega (arith, one x, one y, one (x +ℤ y), one a, one b), omega (arith, one x, one y, one (x +ℤ y), one a, one b)) in
    let z = shr_z (a +ℤ b) 2 in
    let fz : SFits w64 z = fits w64 z (omega (arith, sum a b, floor (a +ℤ b) 2 (lit< tt), one z, one a, one b), omega (arith, sum a b, floor (a +ℤ b) 2 (lit< tt), one z, one a, one b)) in
    rw (to_z-of_z w64 a fa, to_z-of_z w64 b fb, to_z-of_z w64 x fx, to_z-of_z w64 y fy, to_z-of_z w64 (x +ℤ y) fh, common_bit (of_z w64 a) (of_z w64 b), to_z_pos w64 c (omega arith), eq)
    (to_z-of_z w64 z fz)
