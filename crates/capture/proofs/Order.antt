-- The hits stand one behind the other within the input, each as long as the shortest packet, because the search goes on behind each.
use mathlib.Core.Path.{◌≡◌, refl}
use mathlib.Core.List.{List, [], ◌∷◌, ◌++◌}
use Prim.Native.Nat.{ℕ, zero, suc, ◌+◌, ◌-◌, ◌*◌, ◌≤◌, ◌<◌}
use native.Mathlib.Nat.{add-zero, zero-add}
use native.Mathlib.Omega.{arith}
use lib.ListN.{length, length-append}
use Rattle.wire.specs.Packet.{packet_length}
use Rattle.capture.specs.Search.{Span, hit, found, hits_from, hits, gap, gaps, stretches}
use Rattle.capture.specs.code.Survey.{total_size}
use Rattle.capture.proofs.Steps.{found_some, gap_one}
use Rattle.capture.proofs.Hits.{hit_size, hit_shows}

abbrev pub Order : (from end : ℕ) → List Span → Type 0
Order from end [] = from ≤ end
Order from end (h ∷ hs) = (from ≤ h.start) × (packet_length 0 ≤ h.size) × Order (h.start + h.size) end hs

pub order_le : (from end : ℕ) (hs : List Span) → Order from end hs → from ≤ end
order_le from end [] o = o
order_le from end (h ∷ hs) o = omega (arith, o.0, order_le (h.start + h.size) end hs o.2)

pub sooner : (earlier from end : ℕ) (hs : List Span) → earlier ≤ from → Order from end hs → Order earlier end hs
sooner earlier from end [] h o = omega (arith, o)
sooner earlier from end (x ∷ hs) h o = (omega (arith, o.0), o.1, o.2)

pub hit_inside : (s : List ℕ) (n : ℕ) → hit s ≡ suc n → (packet_length 0 ≤ suc n) × (suc n ≤ length s)
hit_inside s n e =
    let p : 0 < hit s = omega arith in
    let w = hit_shows s p in
    (omega (arith, hit_size s p, w.long), omega (arith, hit_size s p, w.fits))

-- by what is found at the first octet
module _ (at o : ℕ) (rest : List ℕ) (end : ℕ) (later : (n : ℕ) → n ≤ length rest → Order (suc at + n) end (hits_from (suc at) n rest)) where
  step : (n : ℕ) → hit (o ∷ rest) ≡ n → Order at end (found at n ++ hits_from (suc at) (n - 1) rest)
  step zero e =
      let z : suc at + 0 ≡ suc at = omega arith in
      sooner at (suc at) end (hits_from (suc at) 0 rest) (omega arith) (rw z at (later 0 (omega arith)))
  step (suc n) e =
      let m : suc n - 1 ≡ n = omega arith in
      let q : suc at + n ≡ at + suc n = omega arith in
      let i = hit_inside (o ∷ rest) n e in
      rw (found_some at (suc n) (omega arith), m) (omega arith, i.0, rw q at (later n (omega (arith, i.1))))

pub order_from : (at n : ℕ) (s : List ℕ) → n ≤ length s → Order (at + n) (at + length s) (hits_from at n s)
unfolding hits_from
order_from at n [] h = omega arith
order_from at (suc n) (o ∷ rest) h =
    let e₁ : suc at + n ≡ at + suc n = omega arith in
    let e₂ : suc at + length rest ≡ at + suc (length rest) = omega arith in
    rw (e₁, e₂) at (order_from (suc at) n rest (omega arith))
order_from at zero (o ∷ rest) h =
    let e₂ : suc at + length rest ≡ at + suc (length rest) = omega arith in
    rw (add-zero at) (step at o rest (at + suc (length rest)) (λ n k. rw e₂ at (order_from (suc at) n rest k)) (hit (o ∷ rest)) refl)

pub hits_order : (s : List ℕ) → Order 0 (length s) (hits s)
unfolding hits
hits_order s = rw (zero-add (length s)) at (order_from 0 0 s (omega arith))

-- ---- how many they are

pub order_total : (from end : ℕ) (hs : List Span) → Order from end hs → (from + total_size hs ≤ end) × (packet_length 0 * length hs ≤ total_size hs)
order_total from end [] o = (omega (arith, o), omega arith)
order_total from end (h ∷ hs) o =
    let t = order_total (h.start + h.size) end hs o.2 in
    (omega (arith, t.0, o.0), omega (arith, t.1, o.1))

gaps_few : (from end : ℕ) (hs : List Span) → length (gaps from end hs) ≤ length hs + 1
gaps_few from end [] = gap_one from end
gaps_few from end (h ∷ hs) =
    let g = gaps (h.start + h.size) end hs in
    omega (arith, length-append (gap from h.start) g, gap_one from h.start, gaps_few (h.start + h.size) end hs)

-- the hits of an input, their octets, and the stretches
pub hits_few : (s : List ℕ) → (packet_length 0 * length (hits s) ≤ total_size (hits s)) × (total_size (hits s) ≤ length s) × (length (stretches s) ≤ length (hits s) + 1)
unfolding stretches
hits_few s =
    let t = order_total 0 (length s) (hits s) (hits_order s) in
    (t.1, omega (arith, t.0), gaps_few 0 (length s) (hits s))
