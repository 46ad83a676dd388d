-- What is kept is good: each packet of the capture passes, because it was a hit.
use mathlib.Core.Path.{◌≡◌, refl, sym, ap, ◌∙◌}
use mathlib.Core.Bool.{true}
use mathlib.Core.List.{List, [], ◌∷◌, ◌++◌}
use Prim.Native.Nat.{ℕ, zero, suc, ◌-◌, ◌<◌}
use native.Mathlib.Numerals.{add-one}
use native.Mathlib.Omega.{arith}
use lib.ListN.{get_or, take, drop}
use lib.Seq.{drop-drop}
use Rattle.capture.specs.Search.{Span, span, passes, hit, found, hits_from, hits}
use Rattle.capture.specs.Capture.{octets_of, packets_of}
use Rattle.capture.specs.Again.{Octets}
use Rattle.capture.proofs.Hits.{hit_size, hit_passes}
use Rattle.capture.proofs.Steps.{found_some}

-- ---- octets

taken_octets : (n : ℕ) (s : List ℕ) → Octets s → Octets (take n s)
taken_octets zero s o = tt
taken_octets (suc n) [] o = tt
taken_octets (suc n) (x ∷ s) o = (o.0, taken_octets n s o.1)

after_octets : (n : ℕ) (s : List ℕ) → Octets s → Octets (drop n s)
after_octets zero s o = o
after_octets (suc n) [] o = tt
after_octets (suc n) (x ∷ s) o = after_octets n s o.1

pub octet_small : (s : List ℕ) (i : ℕ) → Octets s → get_or s i 0 < 256
octet_small [] i o = omega arith
octet_small (x ∷ s) zero o = o.0
octet_small (x ∷ s) (suc i) o = octet_small s i o.1

-- ---- good packets

abbrev pub GoodPackets : List (List ℕ) → Type 0
GoodPackets [] = Unit {0}
GoodPackets (p ∷ ps) = (passes p ≡ true) × Octets p × GoodPackets ps

module _ (input : List ℕ) (octets : Octets input) where
  kept_one : (at n : ℕ) → hit (drop at input) ≡ n → 0 < n → passes (octets_of input (span at n)) ≡ true
  kept_one at n e h =
      let p : 0 < hit (drop at input) = omega arith in
      let size : n ≡ _ = sym e ∙ hit_size (drop at input) p in
      rw (size) (hit_passes (drop at input) p)

  found_good : (at n : ℕ) (hs : List Span) → hit (drop at input) ≡ n → GoodPackets (packets_of input hs) → GoodPackets (packets_of input (found at n ++ hs))
  found_good at zero hs e g = g
  found_good at (suc n) hs e g =
      rw (found_some at (suc n) (omega arith))
      (kept_one at (suc n) e (omega arith), taken_octets (suc n) (drop at input) (after_octets at input octets), g)

  kept_from : (at n : ℕ) (s : List ℕ) → s ≡ drop at input → GoodPackets (packets_of input (hits_from at n s))
  unfolding hits_from
  kept_from at n [] e = tt
  kept_from at (suc n) (o ∷ rest) e = kept_from (suc at) n rest (ap (drop 1) e ∙ drop-drop 1 at input ∙ rw (add-one at))
  kept_from at zero (o ∷ rest) e =
      found_good at (hit (o ∷ rest)) (hits_from (suc at) (hit (o ∷ rest) - 1) rest) (ap hit (sym e))
      (kept_from (suc at) (hit (o ∷ rest) - 1) rest (ap (drop 1) e ∙ drop-drop 1 at input ∙ rw (add-one at)))

  pub kept_good : GoodPackets (packets_of input (hits input))
  unfolding hits
  kept_good = kept_from 0 0 input refl
