-- Mending a capture finds its packets where its places say: no hit begins in the number and the places, because their high octets are small and places are multiples of four.
use mathlib.Core.Path.{◌≡◌, refl, sym, ap, ◌∙◌}
use mathlib.Core.Bool.{true}
use mathlib.Core.List.{List, [], ◌∷◌, ◌++◌, append_assoc, flatten}
use mathlib.Core.Logic.{◌⊎◌, inl, inr, ⊎_elim}
use Prim.Native.Nat.{ℕ, suc, ◌+◌, ◌-◌, ◌*◌, ◌/◌, ◌%◌, ◌≤◌, ◌<◌}
use native.Mathlib.Nat.{add-zero}
use native.Mathlib.Omega.{arith}
use borrow.Author.Tests.{le-leb, eq-eqb}
use lib.ListN.{length, length-append, get_or-append}
use lib.Seq.{take-append_seam, drop-append_seam, get_or-append-add}
use Rattle.wire.specs.Octets.{four, octet_at, four_at}
use Rattle.wire.specs.Packet.{packet_length}
use Rattle.capture.specs.Search.{Span, span, passes, hit, hits_from, hits}
use Rattle.capture.specs.Capture.{number_length, heading_length, places, capture_of, packets_of, octets_of, recovered_capture, places_are, places_true_of}
use Rattle.capture.specs.Recover.{longest_input}
use Rattle.capture.specs.Again.{Again}
use Rattle.capture.proofs.Hits.{Shows, packet_shows, packet_total, hit_none, hit_is}
use Rattle.capture.proofs.Steps.{step_miss, from_hit}
use Rattle.capture.proofs.Outputs.{places_long}
use Rattle.capture.proofs.Kept.{GoodPackets, octet_small, kept_good}

-- the packets of a capture, by their places
abbrev spans : (first : ℕ) → List (List ℕ) → List Span
spans at [] = []
spans at (p ∷ ps) = span at (length p) ∷ spans (at + length p) ps

-- ---- the packets, one behind the other

module _ (p : List ℕ) (good : passes p ≡ true) (rest : List ℕ) where
  long : packet_length 0 ≤ length p
  long = omega (arith, (packet_shows p good).long, packet_total p good)

  front : (i : ℕ) → i < 32 → octet_at (p ++ rest) i ≡ octet_at p i
  front i h = get_or-append p rest 0 i (omega (arith, long))

  packet_hit : hit (p ++ rest) ≡ length p
  packet_hit =
      let e₂ = front 2 (omega arith) in
      let e₃ = front 3 (omega arith) in
      hit_is (p ++ rest) (length p) (sym (rw (e₂, e₃) (packet_total p good))) (omega (arith, length-append p rest)) (rw (take-append_seam p rest) good)

  packet_first : (at n : ℕ) → length p ≡ suc n → hits_from at 0 (p ++ rest) ≡ span at (length p) ∷ hits_from (at + length p) 0 rest
  packet_first at n e =
      from_hit at (p ++ rest) n (packet_hit ∙ e)
      ∙ rw (← e, drop-append_seam p rest)

  packet_next : (at : ℕ) → hits_from at 0 (p ++ rest) ≡ span at (length p) ∷ hits_from (at + length p) 0 rest
  packet_next at = packet_first at (length p - 1) (omega (arith, long))

packets_found : (at : ℕ) (ps : List (List ℕ)) → GoodPackets ps → hits_from at 0 (flatten ps) ≡ spans at ps
unfolding flatten hits_from
packets_found at [] g = refl
packets_found at (p ∷ ps) g = packet_next p g.0 (flatten ps) at ∙ ap (λ hs. span at (length p) ∷ hs) (packets_found (at + length p) ps g.2)

-- ---- the number and the places

small : (w : ℕ) → w ≤ longest_input → (w / 256 / 256 / 256 % 256 ≡ 0) × (w / 256 / 256 % 256 ≤ 1)
small w h = (omega arith, omega arith)

-- what stands behind a place: another one, nothing, or a packet
abbrev Follows : List ℕ → Type 0
Follows rest = ((octet_at rest 0 ≡ 0) × (octet_at rest 1 ≤ 1)) ⊎ ((octet_at rest 0 ≡ 69) × (octet_at rest 29 < 256))

module _ (at w : ℕ) (rest : List ℕ) (h : w ≤ longest_input) (f : Follows rest) where
  no_total : Shows (w / 256 % 256 ∷ w % 256 ∷ rest) → ⊥
  no_total s = ⊎_elim (λ z. absurd (omega (arith, z.0, z.1, s.long))) (λ z. absurd (omega (arith, z.0, z.1, s.hosts))) f

  -- a hit begins in none of the first three octets
  three : hits_from at 0 (four w ++ rest) ≡ hits_from (at + 3) 0 (w % 256 ∷ rest)
  three =
      let b = small w h in
      let e : suc (suc (suc at)) ≡ at + 3 = omega arith in
      step_miss at _ _ (hit_none _ (λ s. absurd (omega (arith, s.version, b.0))))
      ∙ step_miss (suc at) _ _ (hit_none _ (λ s. absurd (omega (arith, s.version, b.1))))
      ∙ step_miss (suc (suc at)) _ _ (hit_none _ no_total)
      ∙ rw e

  four_passed : (hit (w % 256 ∷ rest) ≡ 0) → hits_from at 0 (four w ++ rest) ≡ hits_from (at + 4) 0 rest
  four_passed e =
      let q : suc (at + 3) ≡ at + 4 = omega arith in
      three ∙ step_miss (at + 3) _ _ e ∙ rw q

  -- nor in the last octet of a place
  place_passed : w % 4 ≡ 0 → hits_from at 0 (four w ++ rest) ≡ hits_from (at + 4) 0 rest
  place_passed m = four_passed (hit_none _ (λ s. absurd (omega (arith, s.version, m))))

packet_fours : (p : List ℕ) → passes p ≡ true → length p % 4 ≡ 0
packet_fours p good = omega (arith, (packet_shows p good).hosts, packet_total p good)

module _ (behind : List ℕ) (f : Follows behind) where
  follows : (first : ℕ) (ps : List (List ℕ)) → first ≤ longest_input → Follows (places first ps ++ behind)
  follows first [] h = f
  follows first (p ∷ ps) h = inl (small first h)

  places_passed : (at first : ℕ) (ps : List (List ℕ)) → first % 4 ≡ 0 → GoodPackets ps → first + length (flatten ps) ≤ longest_input
      → hits_from at 0 (places first ps ++ behind) ≡ hits_from (at + 4 * length ps) 0 behind
  unfolding flatten
  places_passed at first [] m g h = rw (add-zero at)
  places_passed at first (p ∷ ps) m g h =
      let l = length-append p (flatten ps) in
      let e : at + 4 + 4 * length ps ≡ at + 4 * suc (length ps) = omega arith in
      place_passed at first (places (first + length p) ps ++ behind) (omega arith) (follows (first + length p) ps (omega arith)) m
      ∙ places_passed (at + 4) (first + length p) ps (omega (arith, packet_fours p g.0)) g.2 (omega arith)
      ∙ rw e

-- the number: were its last octet 69, there would be two places behind it, and the second would stand where a header has its fragment word
number_passed : (behind : List ℕ) (ps : List (List ℕ)) → heading_length (length ps) + length (flatten ps) ≤ longest_input
    → hit (length ps % 256 ∷ (places (heading_length (length ps)) ps ++ behind)) ≡ 0
unfolding flatten
number_passed behind [] h = hit_none _ (λ s. absurd (omega (arith, s.version)))
number_passed behind (p ∷ []) h = hit_none _ (λ s. absurd (omega (arith, s.version)))
number_passed behind (p ∷ q ∷ ps) h =
    let n = heading_length (length (p ∷ q ∷ ps)) + length p in
    let l : n ≤ longest_input = omega (arith, length-append p (flatten (q ∷ ps))) in
    hit_none _ (λ s. absurd (omega (arith, s.version, s.fragment, l)))

-- ---- the places are those of the hits

four_back : (n : ℕ) → n ≤ longest_input
    → ((n / 256 / 256 / 256 % 256 * 256 + n / 256 / 256 % 256) * 256 + n / 256 % 256) * 256 + n % 256 ≡ n
four_back n h = omega arith

number_at : (front rest : List ℕ) (i n : ℕ) → length front ≡ i → n ≤ longest_input → four_at (front ++ (four n ++ rest)) i ≡ n
number_at front rest i n e h =
    let s = four n ++ rest in
    let z : i ≡ length front + 0 = omega arith in
    let a : octet_at (front ++ s) i ≡ octet_at s 0 = ap (octet_at (front ++ s)) z ∙ get_or-append-add front s 0 0 in
    let b : octet_at (front ++ s) (i + 1) ≡ octet_at s 1 = rw (← e) (get_or-append-add front s 1 0) in
    let c : octet_at (front ++ s) (i + 2) ≡ octet_at s 2 = rw (← e) (get_or-append-add front s 2 0) in
    let d : octet_at (front ++ s) (i + 3) ≡ octet_at s 3 = rw (← e) (get_or-append-add front s 3 0) in
    rw (a, b, c, d) (four_back n h)

places_right : (front behind : List ℕ) (i first : ℕ) (ps : List (List ℕ)) → length front ≡ i → first + length (flatten ps) ≤ longest_input
    → places_are (front ++ (places first ps ++ behind)) i (spans first ps) ≡ true
unfolding flatten places_are
places_right front behind i first [] e h = refl
places_right front behind i first (p ∷ ps) e h =
    let rest = places (first + length p) ps ++ behind in
    let l = length-append p (flatten ps) in
    let m : i + 4 ≤ length (front ++ (four first ++ rest)) = omega (arith, length-append front (four first ++ rest), length-append (four first) rest) in
    let f : length (front ++ four first) ≡ i + 4 = omega (arith, length-append front (four first)) in
    let later = rw (append_assoc front (four first) rest) at (places_right (front ++ four first) behind (i + 4) (first + length p) ps f (omega arith)) in
    rw (le-leb _ _ m, eq-eqb _ _ (number_at front rest i first e (omega arith))) later

-- ---- and their octets are the packets

packets_back : (front : List ℕ) (at : ℕ) (ps : List (List ℕ)) → length front ≡ at → packets_of (front ++ flatten ps) (spans at ps) ≡ ps
unfolding flatten
packets_back front at [] e = refl
packets_back front at (p ∷ ps) e =
    let f : length (front ++ p) ≡ at + length p = omega (arith, length-append front p) in
    let here : octets_of (front ++ (p ++ flatten ps)) (span at (length p)) ≡ p = rw (← e, drop-append_seam front (p ++ flatten ps), take-append_seam p (flatten ps)) in
    let later = rw (append_assoc front p (flatten ps)) at (packets_back (front ++ p) (at + length p) ps f) in
    rw (here, later)

-- ---- the whole of it

module _ (ps : List (List ℕ)) (good : GoodPackets ps) (short : length (capture_of ps) ≤ longest_input) where
  abbrev n : ℕ
  n = length ps

  abbrev first : ℕ
  first = heading_length n

  abbrev heading : List ℕ
  heading = four n ++ places first ps

  heading_long : length heading ≡ first
  heading_long = omega (arith, length-append (four n) (places first ps), places_long first ps)

  fits : first + length (flatten ps) ≤ longest_input
  unfolding capture_of
  fits = omega (arith, heading_long, length-append heading (flatten ps), short)

  starts : (qs : List (List ℕ)) → GoodPackets qs → Follows (flatten qs)
  unfolding flatten
  starts [] g = inl (refl, omega arith)
  starts (p ∷ qs) g =
      let v = front p g.0 (flatten qs) 0 (omega arith) ∙ (packet_shows p g.0).version in
      let o = front p g.0 (flatten qs) 29 (omega arith) in
      inr (v, omega (arith, o, octet_small p 29 g.1))

  hits_back : hits (capture_of ps) ≡ spans first ps
  unfolding capture_of hits
  hits_back =
      let f = starts ps good in
      let rest = places first ps ++ flatten ps in
      let e : 0 + 4 + 4 * n ≡ first = omega arith in
      ap (hits_from 0 0) (append_assoc (four n) (places first ps) (flatten ps))
      ∙ four_passed 0 n rest (omega (arith, fits)) (follows (flatten ps) f first ps (omega (arith, fits))) (number_passed (flatten ps) ps fits)
      ∙ places_passed (flatten ps) f (0 + 4) first ps (omega arith) good fits
      ∙ ap (λ a. hits_from a 0 (flatten ps)) e
      ∙ packets_found first ps good

  spans_long : (at : ℕ) (qs : List (List ℕ)) → length (spans at qs) ≡ length qs
  spans_long at [] = refl
  spans_long at (p ∷ qs) = ap suc (spans_long (at + length p) qs)

  packets_same : packets_of (capture_of ps) (spans first ps) ≡ ps
  unfolding capture_of
  packets_same = packets_back heading first ps heading_long

  same_capture : recovered_capture (capture_of ps) ≡ capture_of ps
  unfolding recovered_capture
  same_capture = rw hits_back (ap capture_of packets_same)

  apart : capture_of ps ≡ four n ++ (places first ps ++ flatten ps)
  unfolding capture_of
  apart = append_assoc (four n) (places first ps) (flatten ps)

  number_same : four_at (capture_of ps) 0 ≡ length (spans first ps)
  number_same =
      ap (λ l. four_at l 0) apart ∙ number_at [] (places first ps ++ flatten ps) 0 n refl (omega (arith, fits)) ∙ sym (spans_long first ps)

  places_same : places_are (capture_of ps) number_length (spans first ps) ≡ true
  places_same = ap (λ l. places_are l number_length (spans first ps)) apart ∙ places_right (four n) (flatten ps) number_length first ps refl fits

  same_places : places_true_of (capture_of ps) ≡ true
  unfolding places_true_of
  same_places =
      let l : number_length ≤ length (capture_of ps) = omega (arith, ap length apart, length-append (four n) (places first ps ++ flatten ps)) in
      rw (le-leb number_length (length (capture_of ps)) l, hits_back, eq-eqb _ _ number_same, places_same)

pub again : Again
unfolding Again recovered_capture
again input octets short =
    let ps = packets_of input (hits input) in
    let good = kept_good input octets in
    (same_capture ps good short, same_places ps good short)
