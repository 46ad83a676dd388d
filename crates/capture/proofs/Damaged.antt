-- A hit at an octet looks only at octets from there on. So a search that comes to a place goes on from there as if the input began there; and where no hit straddles the place, it comes to it.
use mathlib.Core.Path.{◌≡◌, refl, sym, ap, ◌∙◌}
use mathlib.Core.Bool.{cond}
use mathlib.Core.List.{List, [], ◌∷◌, ◌++◌, map, map-append, append_assoc}
use Prim.Native.Nat.{ℕ, zero, suc, ◌+◌, ◌-◌, ◌≤◌, ◌<◌}
use native.Mathlib.Nat.{add-zero, zero-add}
use native.Mathlib.Omega.{arith}
use borrow.Author.Tests.{le-leb, lt-leb}
use lib.Dec.{leb}
use lib.ListN.{length, length-append}
use Rattle.wire.specs.Packet.{packet_length}
use Rattle.capture.specs.Search.{Span, span, hit, found, hits_from, hits, gap, gaps, stretches, hits_at}
use Rattle.capture.specs.Damage.{Unstraddled, onward, read_from, Damage}
use Rattle.capture.proofs.Steps.{found_some, at_hit}
use Rattle.capture.proofs.Order.{Order, order_le, hit_inside, sooner}
use Rattle.capture.proofs.Outputs.{gap_some, gap_none}
use Rattle.capture.proofs.Covering.{by_gap}

-- ---- shifted

abbrev shift : ℕ → Span → Span
shift p h = span (p + h.start) h.size

abbrev shifted : ℕ → List Span → List Span
shifted p hs = map (shift p) hs

shift_found : (p at n : ℕ) → found (p + at) n ≡ shifted p (found at n)
shift_found p at zero = refl
shift_found p at (suc n) = rw (found_some at (suc n) (omega arith)) (found_some (p + at) (suc n) (omega arith))

hits_shifted : (p at n : ℕ) (s : List ℕ) → hits_from (p + at) n s ≡ shifted p (hits_from at n s)
unfolding hits_from
hits_shifted p at n [] = refl
hits_shifted p at (suc n) (o ∷ rest) =
    let e : suc (p + at) ≡ p + suc at = omega arith in
    ap (λ a. hits_from a n rest) e ∙ hits_shifted p (suc at) n rest
hits_shifted p at zero (o ∷ rest) =
    let e : suc (p + at) ≡ p + suc at = omega arith in
    let n = hit (o ∷ rest) in
    ap (λ l. l ++ hits_from (suc (p + at)) (n - 1) rest) (shift_found p at n)
    ∙ ap (λ l. shifted p (found at n) ++ l) (ap (λ a. hits_from a (n - 1) rest) e ∙ hits_shifted p (suc at) (n - 1) rest)
    ∙ sym (map-append (shift p) (found at n) (hits_from (suc at) (n - 1) rest))

gap_shifted : (p a b : ℕ) → gap (p + a) (p + b) ≡ shifted p (gap a b)
gap_shifted p a b =
    by_gap (λ g. gap (p + a) (p + b) ≡ shifted p g) a b
    (λ l.
    let e : p + b - (p + a) ≡ b - a = omega arith in
    gap_some (p + a) (p + b) (omega arith) ∙ rw e)
    (λ l. gap_none (p + a) (p + b) (omega arith))

gaps_shifted : (p from end : ℕ) (hs : List Span) → gaps (p + from) (p + end) (shifted p hs) ≡ shifted p (gaps from end hs)
gaps_shifted p from end [] = gap_shifted p from end
gaps_shifted p from end (h ∷ hs) =
    let e : p + h.start + h.size ≡ p + (h.start + h.size) = omega arith in
    rw (e, gap_shifted p from h.start, gaps_shifted p (h.start + h.size) end hs) (sym (map-append (shift p) (gap from h.start) _))

-- ---- from a place on

onward_append : (p : ℕ) (a b : List Span) → onward p (a ++ b) ≡ onward p a ++ onward p b
onward_append p [] b = refl
onward_append p (h ∷ a) b =
    let x = cond (leb p h.start) (span (h.start - p) h.size ∷ []) [] in
    ap (λ l. x ++ l) (onward_append p a b) ∙ sym (append_assoc x (onward p a) (onward p b))

onward_shifted : (p : ℕ) (hs : List Span) → onward p (shifted p hs) ≡ hs
onward_shifted p [] = refl
onward_shifted p (h ∷ hs) =
    let e : p + h.start - p ≡ h.start = omega arith in
    rw (le-leb p (p + h.start) (omega arith), e, onward_shifted p hs)

-- those that end before the place are none of them
onward_before : (p from : ℕ) (hs : List Span) → Order from p hs → onward p hs ≡ []
onward_before p from [] o = refl
onward_before p from (h ∷ hs) o =
    let l : h.start < p = omega (arith, o.1, order_le _ p hs o.2) in
    rw (lt-leb p h.start l) (onward_before p (h.start + h.size) hs o.2)

onward_gap : (p from to : ℕ) → to ≤ p → onward p (gap from to) ≡ []
onward_gap p from to h = by_gap (λ g. onward p g ≡ []) from to (λ l. rw (lt-leb p from (omega arith))) (λ l. refl)

onward_gaps : (p from : ℕ) (hs : List Span) → Order from p hs → onward p (gaps from p hs) ≡ []
onward_gaps p from [] o = onward_gap p from p (omega arith)
onward_gaps p from (h ∷ hs) o =
    let l : h.start ≤ p = omega (arith, order_le _ p hs o.2) in
    onward_append p (gap from h.start) _
    ∙ rw (onward_gap p from h.start l) (onward_gaps p (h.start + h.size) hs o.2)

-- ---- the search comes to the place

-- hits: some that end before a place, and later ones
record Splits (from p : ℕ) (hs later : List Span) : Type 0 where
  before : List Span
  order : Order from p before
  split : hs ≡ before ++ later

-- a hit in front of them
one_more : (at n p : ℕ) (hs later : List Span) → packet_length 0 ≤ n → Splits (at + n) p hs later → Splits at p (span at n ∷ hs) later
one_more at n p hs later long c =
    record { before = span at n ∷ c.before; order = (omega arith, long, c.order); split = ap (λ (l : List Span). span at n ∷ l) c.split }

module _ (alike : List ℕ) where
  abbrev Comes : (at kept : ℕ) → List ℕ → Type 0
  Comes at kept front = Splits (at + kept) (at + length front) (hits_from at kept (front ++ alike)) (hits_from (at + length front) 0 alike)

  -- by what is found at the first octet
  module _ (at o : ℕ) (front : List ℕ) (later : (n : ℕ) → n ≤ length front → Unstraddled (suc at + length front) (hits_from (suc at) n (front ++ alike)) → Comes (suc at) n front) where
    there : suc at + length front ≡ at + suc (length front)
    there = omega arith

    first : (n : ℕ) → hit (o ∷ (front ++ alike)) ≡ n
        → Unstraddled (at + suc (length front)) (found at n ++ hits_from (suc at) (n - 1) (front ++ alike))
        → Splits at (at + suc (length front)) (found at n ++ hits_from (suc at) (n - 1) (front ++ alike)) (hits_from (at + suc (length front)) 0 alike)
    first zero e u =
        let c = rw there at (later 0 (omega arith) (rw there u)) in
        record {
          before = c.before;
          order = sooner at (suc at + 0) (at + suc (length front)) c.before (omega arith) c.order;
          split = c.split;
        }
    first (suc n) e u =
        let z : suc n - 1 ≡ n = omega arith in
        let q : suc at + n ≡ at + suc n = omega arith in
        let w = rw (found_some at (suc n) (omega arith), z) at u in
        rw (found_some at (suc n) (omega arith), z)
        (one_more at (suc n) _ _ _ (hit_inside (o ∷ (front ++ alike)) n e).0 (rw (there, q) at (later n (omega (arith, w.0 (omega arith))) (rw there w.1))))

  comes : (at kept : ℕ) (front : List ℕ) → kept ≤ length front → Unstraddled (at + length front) (hits_from at kept (front ++ alike)) → Comes at kept front
  unfolding hits_from
  comes at zero [] h u = record { before = []; order = omega arith; split = rw (add-zero at) }
  comes at (suc kept) [] h u = absurd (omega arith)
  comes at (suc kept) (o ∷ front) h u =
      let e₁ : suc at + kept ≡ at + suc kept = omega arith in
      let e₂ : suc at + length front ≡ at + suc (length front) = omega arith in
      rw (e₁, e₂) at (comes (suc at) kept front (omega arith) (rw e₂ u))
  comes at zero (o ∷ front) h u = rw (add-zero at) (first at o front (λ n k v. comes (suc at) n front k v) (hit (o ∷ (front ++ alike))) refl u)

-- ---- from the place on, all is read as if the input began there

-- a good packet is the first hit
first_kept : (s : List ℕ) (n : ℕ) → hit s ≡ n → 0 < n → (later : List Span) × (hits s ≡ span 0 n ∷ later)
unfolding hits
first_kept s zero e h = absurd (omega arith)
first_kept s (suc n) e h = (hits_at (0 + suc n) s, at_hit s 0 n e)

-- the gaps up to a hit, and those from it on
gaps_append : (from end : ℕ) (a : List Span) (h : Span) (b : List Span) → gaps from end (a ++ h ∷ b) ≡ gaps from h.start a ++ gaps h.start end (h ∷ b)
gaps_append from end [] h b = rw (gap_none h.start h.start (omega arith))
gaps_append from end (x ∷ a) h b =
    rw (gaps_append (x.start + x.size) end a h b) (sym (append_assoc (gap from x.start) _ _))

module _ (front alike : List ℕ) (good : 0 < hit alike) (clear : Unstraddled (length front) (hits (front ++ alike))) where
  abbrev place : ℕ
  place = length front

  come : Splits 0 place (hits (front ++ alike)) (shifted place (hits alike))
  unfolding hits
  come =
      let z : 0 + length front ≡ length front = zero-add (length front) in
      let c = rw z at (comes alike 0 0 front (omega arith) (rw z clear)) in
      record { before = c.before; order = c.order; split = c.split ∙ ap (λ hs. c.before ++ hs) (ap (λ a. hits_from a 0 alike) (sym (add-zero place)) ∙ hits_shifted place 0 0 alike) }

  hits_alike : onward place (hits (front ++ alike)) ≡ hits alike
  hits_alike =
      ap (onward place) come.split ∙ onward_append place come.before _
      ∙ rw (onward_before place 0 come.before come.order) (onward_shifted place (hits alike))

  stretches_split : (n : ℕ) (later : List Span) → hits alike ≡ span 0 n ∷ later
      → stretches (front ++ alike) ≡ gaps 0 place come.before ++ shifted place (stretches alike)
  unfolding stretches
  stretches_split n later e =
      let end = length (front ++ alike) in
      let onwards = gaps (place + 0) end (shifted place (span 0 n ∷ later)) in
      let rest : onwards ≡ shifted place (stretches alike) =
      ap (λ k. gaps (place + 0) k (shifted place (span 0 n ∷ later))) (length-append front alike)
      ∙ gaps_shifted place 0 (length alike) (span 0 n ∷ later)
      ∙ ap (λ hs. shifted place (gaps 0 (length alike) hs)) (sym e) in
      ap (λ hs. gaps 0 end hs) (come.split ∙ ap (λ hs. come.before ++ shifted place hs) e)
      ∙ gaps_append 0 end come.before (shift place (span 0 n)) (shifted place later)
      ∙ ap (λ p. gaps 0 p come.before ++ onwards) (add-zero place)
      ∙ ap (λ l. gaps 0 place come.before ++ l) rest

  stretches_alike : onward place (stretches (front ++ alike)) ≡ stretches alike
  stretches_alike =
      let k = first_kept alike (hit alike) refl good in
      ap (onward place) (stretches_split (hit alike) k.0 k.1) ∙ onward_append place (gaps 0 place come.before) _
      ∙ rw (onward_gaps place 0 come.before come.order) (onward_shifted place (stretches alike))

  read_alike : read_from place (front ++ alike) ≡ record { hits_onward = hits alike; stretches_onward = stretches alike }
  unfolding read_from
  read_alike = rw (hits_alike, stretches_alike)

pub damage : Damage
unfolding Damage
damage damaged undamaged alike good clear clear₂ =
    let k = first_kept alike (hit alike) refl good in
    ((k.0, hits_alike damaged alike good clear ∙ k.1), read_alike damaged alike good clear ∙ sym (read_alike undamaged alike good clear₂))
