-- The second pass: what was put so far and what is left to put make up the outputs, because each turn puts one stretch and one packet behind those before it.
use mathlib.Core.Path.{◌≡◌, refl, sym, ap, ◌∙◌}
use mathlib.Core.List.{List, [], ◌∷◌, ◌++◌, append_assoc, flatten}
use Prim.Native.Nat.{ℕ, ◌+◌, ◌-◌, ◌*◌, ◌≤◌, ◌<◌}
use native.Mathlib.Nat.{zero-add}
use native.Mathlib.Omega.{arith}
use borrow.Author.Tests.{lt-ltb, le-ltb}
use lib.ListN.{length, length-append, length-map}
use Rattle.lists.specs.Lists.{part, over}
use Rattle.lists.proofs.Parts.{part_length, over_twice, over_nothing, over_length}
use Rattle.wire.specs.Octets.{four}
use Rattle.capture.specs.declared.Hit.{Hit}
use Rattle.capture.specs.Search.{Span, span, hits, gap, gaps, stretches, hits_at}
use Rattle.capture.specs.Capture.{number_length, heading_length, places, capture_of, octets_of, packets_of, recovered_capture, span_octets, stretch_list}
use Rattle.capture.specs.code.Next.{IsFirst}
use Rattle.capture.specs.code.Survey.{total_size}
use Rattle.capture.proofs.Order.{Order, order_le, hits_order}
use Rattle.capture.proofs.Over.{over_apart}

-- ---- one stretch

pub gap_some : (from to : ℕ) → from < to → gap from to ≡ span from (to - from) ∷ []
gap_some from to h = rw (lt-ltb from to h)

pub gap_none : (from to : ℕ) → to ≤ from → gap from to ≡ []
gap_none from to h = rw (le-ltb from to h)

pub spans_append : (a b : List Span) → span_octets (a ++ b) ≡ span_octets a ++ span_octets b
spans_append [] b = refl
spans_append (h ∷ a) b = rw (spans_append a b) (sym (append_assoc (four h.start ++ four h.size) (span_octets a) (span_octets b)))

-- ---- the list of stretches, of which those from a place on are left

pub record StretchesAfter (input l₀ l : List ℕ) (at place : ℕ) : Type 0 where
  pub same : length l ≡ length l₀
  pub fits : place + length (span_octets (gaps at (length input) (hits_at at input))) ≡ length (stretch_list input)
  pub left : over l place (span_octets (gaps at (length input) (hits_at at input))) ≡ over l₀ 0 (stretch_list input)

pub stretches_all : (input l : List ℕ) → StretchesAfter input l l 0 0
unfolding stretch_list stretches hits
stretches_all input l = record { same = refl; fits = zero-add _; left = refl }

module _ (input l₀ l : List ℕ) (at place : ℕ) (left : StretchesAfter input l₀ l at place) (room : length (stretch_list input) ≤ length l₀) where
  module _ (h : Hit) (is : IsFirst input at h) where
    abbrev put : List ℕ
    put = span_octets (gap at h.at)

    abbrev behind : List ℕ
    behind = span_octets (gaps (h.at + h.size) (length input) (hits_at (h.at + h.size) input))

    some : span_octets (gaps at (length input) (hits_at at input)) ≡ put ++ behind
    some = rw is.first (spans_append (gap at h.at) _)

    pub stretch_fits : place + length put ≤ length l
    stretch_fits = omega (arith, left.fits, ap length some, length-append put behind, left.same)

    pub stretches_more : (l₁ : List ℕ) → l₁ ≡ over l place put → StretchesAfter input l₀ l₁ (h.at + h.size) (place + length put)
    stretches_more l₁ e =
        record {
          same = ap length e ∙ over_length place l put stretch_fits ∙ left.same;
          fits = omega (arith, left.fits, ap length some, length-append put behind);
          left = rw e (over_twice place l put (omega (arith, stretch_fits)) behind ∙ rw some at left.left);
        }

  -- behind the last hit
  module _ (e : hits_at at input ≡ []) where
    pub last_fits : place + length (span_octets (gap at (length input))) ≤ length l
    last_fits = omega (arith, rw e at left.fits, left.same)

    pub stretches_last : (l₁ : List ℕ) → l₁ ≡ over l place (span_octets (gap at (length input))) → l₁ ≡ over l₀ 0 (stretch_list input)
    stretches_last l₁ f = f ∙ rw e at left.left

-- ---- the capture, of which the packets from a place on are left

abbrev capture_after : (input : List ℕ) → List Span → (place to : ℕ) → List ℕ → List ℕ
capture_after input hs place to c = over (over c place (places to (packets_of input hs))) to (flatten (packets_of input hs))

pub record CaptureAfter (input c₀ c : List ℕ) (at place to : ℕ) : Type 0 where
  pub same : length c ≡ length c₀
  pub heading : place + 4 * length (hits_at at input) ≡ heading_length (length (hits input))
  pub after_heading : heading_length (length (hits input)) ≤ to
  pub fits : to + total_size (hits_at at input) ≤ length c₀
  pub left : capture_after input (hits_at at input) place to c ≡ capture_after input (hits input) number_length (heading_length (length (hits input))) c₀

pub places_long : (at : ℕ) (ps : List (List ℕ)) → length (places at ps) ≡ 4 * length ps
places_long at [] = refl
places_long at (p ∷ ps) = omega (arith, places_long (at + length p) ps, length-append (four at) (places (at + length p) ps))

pub packets_long : (input : List ℕ) (from end : ℕ) (hs : List Span) → end ≤ length input → Order from end hs → length (flatten (packets_of input hs)) ≡ total_size hs
unfolding flatten
packets_long input from end [] h o = refl
packets_long input from end (x ∷ hs) h o =
    let p = octets_of input x in
    let i : x.start + x.size ≤ length input = omega (arith, order_le _ end hs o.2) in
    omega (arith, length-append p (flatten (packets_of input hs)), part_length x.start x.size input i, packets_long input (x.start + x.size) end hs h o.2)

pub capture_long : (input : List ℕ) → length (recovered_capture input) ≡ heading_length (length (hits input)) + total_size (hits input)
unfolding recovered_capture capture_of
capture_long input =
    let ps = packets_of input (hits input) in
    let m : length ps ≡ length (hits input) = length-map (hits input) (octets_of input) in
    let a = places (heading_length (length ps)) ps in
    omega (arith, m, length-append (four (length ps) ++ a) (flatten ps), length-append (four (length ps)) a, places_long (heading_length (length ps)) ps, packets_long input 0 (length input) (hits input) (omega arith) (hits_order input))

pub capture_all : (input c : List ℕ) → length (recovered_capture input) ≤ length c → CaptureAfter input c c 0 number_length (heading_length (length (hits input)))
unfolding hits
capture_all input c h =
    record {
      same = refl;
      heading = refl;
      after_heading = omega arith;
      fits = omega (arith, capture_long input);
      left = refl;
    }

module _ (input c₀ c : List ℕ) (at place to : ℕ) (left : CaptureAfter input c₀ c at place to) where
  pub capture_last : hits_at at input ≡ [] → c ≡ capture_after input (hits input) number_length (heading_length (length (hits input))) c₀
  unfolding flatten
  capture_last e =
      sym (over_nothing place c) ∙ sym (over_nothing to (over c place [])) ∙ rw e at left.left

  module _ (h : Hit) (is : IsFirst input at h) where
    abbrev packet : List ℕ
    packet = part h.at h.size input

    packet_long : length packet ≡ h.size
    packet_long = part_length h.at h.size input is.inside

    abbrev later : List (List ℕ)
    later = packets_of input (hits_at (h.at + h.size) input)

    abbrev later_places : List ℕ
    later_places = places (to + h.size) later

    pub capture_fits : (place + 4 ≤ to) × (to + h.size ≤ length c)
    capture_fits =
        let f = left.fits in
        let e = ap length is.first in
        let t = ap total_size is.first in
        (omega (arith, left.heading, left.after_heading, e), omega (arith, f, t, left.same))

    module _ (c₁ c₂ : List ℕ) (e₁ : c₁ ≡ over c place (four to)) (e₂ : c₂ ≡ over c₁ to packet) where
      long₁ : length c₁ ≡ length c
      long₁ = ap length e₁ ∙ over_length place c (four to) (omega (arith, capture_fits.0, capture_fits.1))

      long₂ : length c₂ ≡ length c
      long₂ = ap length e₂ ∙ over_length to c₁ packet (omega (arith, long₁, packet_long, capture_fits.1)) ∙ long₁

      places_after : place + 4 + length later_places ≤ to
      places_after =
          omega (arith, places_long (to + h.size) later, length-map (hits_at (h.at + h.size) input) (octets_of input), left.heading, left.after_heading, ap length is.first)

      placed : over c₂ (place + 4) later_places ≡ over (over c place (four to ++ later_places)) to packet
      placed =
          ap (λ z. over z (place + 4) later_places) e₂
          ∙ over_apart c₁ later_places packet (place + 4) to places_after (omega (arith, long₁, packet_long, capture_fits.1))
          ∙ ap (λ z. over (over z (place + 4) later_places) to packet) e₁
          ∙ ap (λ z. over z to packet) (over_twice place c (four to) (omega (arith, capture_fits.0, capture_fits.1)) later_places)

      joined : capture_after input (hits_at at input) place to c ≡ over (over c place (four to ++ later_places)) to (packet ++ flatten later)
      unfolding flatten
      joined = rw (is.first, packet_long)

      pub capture_more : CaptureAfter input c₀ c₂ (h.at + h.size) (place + 4) (to + h.size)
      capture_more =
          let x = over c place (four to ++ later_places) in
          let long : length x ≡ length c = over_length place c (four to ++ later_places) (omega (arith, length-append (four to) later_places, places_after, capture_fits.1)) in
          record {
            same = long₂ ∙ left.same;
            heading = omega (arith, left.heading, ap length is.first);
            after_heading = omega (arith, left.after_heading);
            fits = omega (arith, left.fits, ap total_size is.first);
            left =
                ap (λ z. over z (to + h.size) (flatten later)) placed
                ∙ ap (λ k. over (over x to packet) (to + k) (flatten later)) (sym packet_long)
                ∙ over_twice to x packet (omega (arith, long, capture_fits.1)) (flatten later)
                ∙ sym joined
                ∙ left.left;
          }

-- ---- the whole of it

pub capture_whole : (input c c₁ : List ℕ) → length (recovered_capture input) ≤ length c → c₁ ≡ over c 0 (four (length (hits input)))
    → capture_after input (hits input) number_length (heading_length (length (hits input))) c₁ ≡ over c 0 (recovered_capture input)
unfolding recovered_capture capture_of
capture_whole input c c₁ h e =
    let ps = packets_of input (hits input) in
    let n = length (hits input) in
    let m : length ps ≡ n = length-map (hits input) (octets_of input) in
    let a = places (heading_length n) ps in
    let l : length (four n ++ a) ≡ heading_length n = omega (arith, length-append (four n) a, places_long (heading_length n) ps, m) in
    let z : 0 + heading_length n ≡ heading_length n = zero-add (heading_length n) in
    rw (m) (ap (λ x. over (over x number_length a) (heading_length n) (flatten ps)) e
    ∙ ap (λ x. over x (heading_length n) (flatten ps)) (over_twice 0 c (four n) (omega arith) a)
    ∙ ap (λ k. over (over c 0 (four n ++ a)) k (flatten ps)) (sym (ap (λ k. 0 + k) l ∙ z))
    ∙ over_twice 0 c (four n ++ a) (omega arith) (flatten ps))
