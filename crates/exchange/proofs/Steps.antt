-- One HELLO exchange, step by step, over the width of the words: each step says which number the word holds, as a congruence, until it is in range. So a list of calls can carry what it knows from a send to an arrival.
use mathlib.Core.Path.{◌≡◌, ◌∙◌, refl, ap}
use Prim.Native.Nat.{ℕ, ◌+◌, ◌*◌, ◌-◌, ◌^◌, ◌≤◌, ◌<◌}
use native.Mathlib.Omega.{arith}
use lib.IntN.{ℤ, pos, nat_abs, ◌+ℤ◌, ◌-ℤ◌}
use lib.Signed.{shr_z}
use Rattle.quantity.specs.Words.{wrap}
use Rattle.quantity.proofs.Ints.{up, dn, same, sum, diff, abs, le_yes}
use Rattle.quantity.proofs.Wrap.{Same, wrap_same, wrap_is, wrap_fits}
use Rattle.exchange.proofs.HalfDelay.{measured, middle}

-- an equation of numbers, as omega reads it
pub read : (a b : ℤ) → a ≡ b → (up a ≡ up b) × (dn a ≡ dn b)
read a b e = (ap up e, ap dn e)

-- time less reading, where the time is s + f and the reading s + d + g
difference : (f g s time reading : ℤ) (d : ℕ) → time ≡ s +ℤ f → reading ≡ (s +ℤ pos d) +ℤ g → time -ℤ reading ≡ (f -ℤ g) -ℤ pos d
difference f g s time reading d p q =
    same _ _ (omega (arith, diff time reading, read _ _ p, read _ _ q, sum s f, sum s (pos d), sum (s +ℤ pos d) g, diff (f -ℤ g) (pos d), diff f g))

module _ (w : ℕ) (h : 1 ≤ w) where
  -- A packet of time s + f is got at the reading s + d + g: TSP there has the bits of f - g - d.
  pub tsp_same : (f g s time reading : ℤ) (d : ℕ) → time ≡ s +ℤ f → reading ≡ (s +ℤ pos d) +ℤ g
      → Same w (wrap w (time -ℤ reading)) ((f -ℤ g) -ℤ pos d)
  tsp_same f g s time reading d p q =
      let c = wrap_same w h (time -ℤ reading) in
      record {
        j = c.k;
        k = c.j;
        eq = omega (arith, c.eq, diff time reading, read _ _ p, read _ _ q, sum s f, sum s (pos d), sum (s +ℤ pos d) g, diff (f -ℤ g) (pos d), diff f g);
      }

  -- and it is that number, where the word holds it
  pub tsp_exact : (f g s time reading : ℤ) (d : ℕ) → time ≡ s +ℤ f → reading ≡ (s +ℤ pos d) +ℤ g
      → up ((f -ℤ g) -ℤ pos d) < 2 ^ (w - 1) → dn ((f -ℤ g) -ℤ pos d) ≤ 2 ^ (w - 1)
      → wrap w (time -ℤ reading) ≡ (f -ℤ g) -ℤ pos d
  tsp_exact f g s time reading d p q u l =
      ap (wrap w) (difference f g s time reading d p q) ∙ wrap_fits w h _ u l

  -- The host with g, whose TSP has those bits, sends at the reading t + g: the packet's TSP has the bits of t + f - d.
  pub word_same : (f g t v reading : ℤ) (d : ℕ) → Same w v ((f -ℤ g) -ℤ pos d) → reading ≡ t +ℤ g
      → Same w (wrap w (v +ℤ reading)) ((t +ℤ f) -ℤ pos d)
  word_same f g t v reading d b q =
      let c = wrap_same w h (v +ℤ reading) in
      record {
        j = b.j + c.k;
        k = b.k + c.j;
        eq = omega (arith, c.eq, b.eq, sum v reading, read _ _ q, sum t g, diff (f -ℤ g) (pos d), diff f g, diff (t +ℤ f) (pos d), sum t f);
      }

  -- That packet is got at the reading t + e + f: DELAY is the sum of the two ways, where the word holds it.
  pub delay_exact : (f t v reading : ℤ) (d e : ℕ) → Same w v ((t +ℤ f) -ℤ pos d) → reading ≡ (t +ℤ pos e) +ℤ f
      → d + e < 2 ^ (w - 1) → wrap w (reading -ℤ v) ≡ pos (d + e)
  delay_exact f t v reading d e b q l =
      wrap_is w h (reading -ℤ v) (pos (d + e))
      record {
        j = b.k;
        k = b.j;
        eq = omega (arith, b.eq, diff reading v, read _ _ q, sum t (pos e), sum (t +ℤ pos e) f, diff (t +ℤ f) (pos d), sum t f);
      }
      (omega arith) (omega arith)

-- The error of OFFSET, formed of the ways d and e: half of their difference, rounded down.
pub record Error (d e : ℕ) (z f g : ℤ) : Type 0 where
  pub above : 2 * (up z + up g + dn f) ≤ d + e + 1 + 2 * (dn z + dn g + up f)
  pub below : 2 * (dn z + dn g + up f) ≤ d + e + 1 + 2 * (up z + up g + dn f)

pub offset_error : (f g : ℤ) (d e : ℕ) → Error d e (((f -ℤ g) -ℤ pos e) +ℤ shr_z (pos (d + e)) 2) f g
offset_error f g d e =
    let θ = f -ℤ g in
    let z = (θ -ℤ pos e) +ℤ shr_z (pos (d + e)) 2 in
    let m = measured θ (pos d) (pos e) (pos (d + e)) z (omega arith) (omega arith) refl (middle θ (pos d) (pos e)) in
    let h : 2 * nat_abs (z -ℤ θ) ≤ d + e + 1 = (le_yes (pos (2 * nat_abs (z -ℤ θ))) (pos (d + e + 1)) m.half).le_up in
    let g' : 2 * (up (z -ℤ θ) + dn (z -ℤ θ)) ≤ d + e + 1 = rw (abs (z -ℤ θ)) at h in
    omega (arith, g', diff z θ, diff f g)
