-- The list of starts: what is listed so far and what is left to list make it up, and from a start its hit is found again, because the hit's length is in its header.
use mathlib.Core.Path.{◌≡◌, refl, sym, ap, ◌∙◌}
use mathlib.Core.Bool.{Bool, true, false}
use mathlib.Core.List.{List, [], ◌∷◌}
use Prim.Native.Nat.{ℕ, zero, suc, ◌+◌, ◌*◌, ◌≤◌, ◌<◌}
use native.Mathlib.Numerals.{add-one}
use native.Mathlib.Omega.{arith}
use borrow.Author.Tests.{ltb-true, ltb-false}
use lib.Dec.{ltb}
use lib.ListN.{length, take, drop, get_or, set, drop_of_length-le, length-drop, length-set}
use lib.Seq.{drop-cons, take_at, get_or-drop, sets-eq}
use Rattle.lists.specs.Lists.{over}
use Rattle.lists.proofs.Parts.{over_twice, over_nothing}
use Rattle.wire.specs.Octets.{two_at}
use Rattle.wire.specs.Packet.{packet_length}
use Rattle.capture.specs.declared.Hit.{Hit}
use Rattle.capture.specs.Search.{Span, span, hit, hits, hits_at}
use Rattle.capture.specs.code.Next.{IsFirst}
use Rattle.capture.specs.Recover.{longest_input}
use Rattle.capture.specs.code.Survey.{most_hits, starts_of}
use Rattle.capture.proofs.Order.{hits_few}
use Rattle.capture.proofs.Hits.{hit_size, hit_shows}
use Rattle.capture.proofs.Steps.{end_none, at_miss, at_hit, next_found}

-- ---- the first of the hits from a place on

record FirstHit (input : List ℕ) (at : ℕ) (h : Span) (later : List Span) : Type 0 where
  forward : at ≤ h.start
  size : hit (drop h.start input) ≡ h.size
  some : 0 < h.size
  reached : hits_at at input ≡ hits_at h.start input

empty_not : {h : Span} {later : List Span} (l : List Span) → l ≡ [] → l ≡ h ∷ later → ⊥
empty_not l e f = let z : ◌≡◌ {A = ℕ} 0 1 = cc in omega arith

module _ (input : List ℕ) (h : Span) (later : List Span) where
  -- by what is found at a place
  here : (at n : ℕ) → at < length input → hit (drop at input) ≡ n → hits_at at input ≡ h ∷ later
      → (hits_at (at + 1) input ≡ h ∷ later → FirstHit input (at + 1) h later) → FirstHit input at h later
  here at zero l z e next =
      let f = next (sym (at_miss input at l z) ∙ e) in
      record { forward = omega (arith, f.forward); size = f.size; some = f.some; reached = at_miss input at l z ∙ f.reached }
  here at (suc n) l z e next =
      let q : span at (suc n) ≡ h = cc (at_hit input at n z) in
      let start : h.start ≡ at = ap (λ (x : Span). x.start) (sym q) in
      let size : h.size ≡ suc n = ap (λ (x : Span). x.size) (sym q) in
      record { forward = omega arith; size = rw start (z ∙ sym size); some = omega arith; reached = ap (λ a. hits_at a input) (sym start) }

  inside : (at : ℕ) (b : Bool) → ltb at (length input) ≡ b → hits_at at input ≡ h ∷ later
      → (hits_at (at + 1) input ≡ h ∷ later → FirstHit input (at + 1) h later) → FirstHit input at h later
  inside at true t e next = here at (hit (drop at input)) (ltb-true _ _ t) refl e next
  inside at false t e next = absurd (empty_not (hits_at at input) (end_none input at (ltb-false _ _ t)) e)

  first_hit : (fuel at : ℕ) → length input ≤ at + fuel → hits_at at input ≡ h ∷ later → FirstHit input at h later
  first_hit zero at enough e = absurd (empty_not (hits_at at input) (end_none input at (omega arith)) e)
  first_hit (suc fuel) at enough e = inside at (ltb at (length input)) refl e (λ f. first_hit fuel (at + 1) (omega arith) f)

starts_length : (hs : List Span) → length (starts_of hs) ≡ length hs
starts_length [] = refl
starts_length (h ∷ hs) = ap suc (starts_length hs)

-- ---- the list while it is written

pub record StartsAfter (input l₀ l : List ℕ) (at k : ℕ) : Type 0 where
  pub same : length l ≡ length l₀
  pub left : over l k (starts_of (hits_at at input)) ≡ over l₀ 0 (starts_of (hits input))

pub starts_all : (input l : List ℕ) → StartsAfter input l l 0 0
unfolding hits
starts_all input l = record { same = refl; left = refl }

module _ (input l₀ l : List ℕ) (at k : ℕ) (left : StartsAfter input l₀ l at k) where
  pub starts_more : (h : Hit) → IsFirst input at h → k < length l → StartsAfter input l₀ (set l k h.at) (h.at + h.size) (k + 1)
  starts_more h is inside =
      let one : set l k h.at ≡ over l k (h.at ∷ []) = sets-eq (h.at ∷ []) l k (omega arith) in
      record {
        same = length-set l k h.at ∙ left.same;
        left = ap (λ m. over m (k + 1) (starts_of (hits_at (h.at + h.size) input))) one
            ∙ over_twice k l (h.at ∷ []) (omega arith) (starts_of (hits_at (h.at + h.size) input))
            ∙ rw is.first at left.left;
      }

  pub starts_last : hits_at at input ≡ [] → l ≡ over l₀ 0 (starts_of (hits input))
  starts_last e = sym (over_nothing k l) ∙ rw e at left.left

-- no packet has fewer than 32 octets, so the list has a place for each
pub starts_fit : (input : List ℕ) (at k : ℕ) (h : Hit) → IsFirst input at h → k + length (hits_at at input) ≡ length (hits input) → length input ≤ longest_input → k < most_hits
starts_fit input at k h is c short =
    let f = hits_few input in
    omega (arith, ap length is.first, f.0, f.1)

-- the list that was written begins with the starts
pub listed_over : (hs : List Span) (before after : List ℕ) (n : ℕ) → n ≡ length hs → after ≡ over before 0 (starts_of hs) → take n after ≡ starts_of hs
listed_over hs before after n c e =
    ap (take n) e ∙ take_at (starts_of hs) (drop (0 + length (starts_of hs)) before) n (starts_length hs ∙ sym c)

-- ---- the list while it is read

pub record ListedFrom (input starts : List ℕ) (at k : ℕ) : Type 0 where
  pub inside : at ≤ length input
  pub listed : drop k starts ≡ starts_of (hits_at at input)

pub listed_all : (input starts : List ℕ) → starts ≡ starts_of (hits input) → ListedFrom input starts 0 0
unfolding hits
listed_all input starts l = record { inside = omega arith; listed = l }

pub listed_long : (input starts : List ℕ) → starts ≡ starts_of (hits input) → length starts ≡ length (hits input)
listed_long input starts l = ap length l ∙ starts_length (hits input)

pub listed_few : (input starts : List ℕ) → starts ≡ starts_of (hits input) → packet_length 0 * length starts ≤ length input
listed_few input starts l =
    let f = hits_few input in
    omega (arith, listed_long input starts l, f.0, f.1)

-- the start and the length of the next hit
abbrev pub listed_next : (input starts : List ℕ) (k : ℕ) → Hit
listed_next input starts k = record { at = get_or starts k 0; size = two_at input (get_or starts k 0 + 2) }

-- hits from a place on that are not empty, and the first of them
record Head (input starts : List ℕ) (at k : ℕ) : Type 0 where
  head : Span
  later : List Span
  is : hits_at at input ≡ head ∷ later
  start : get_or starts k 0 ≡ head.start

split : (input starts : List ℕ) (at k : ℕ) (hs : List Span) → hits_at at input ≡ hs → get_or starts k 0 ∷ drop (suc k) starts ≡ starts_of hs → Head input starts at k
split input starts at k [] e l = absurd cc
split input starts at k (x ∷ later) e l = record { head = x; later = later; is = e; start = cc }

no_starts : (hs : List Span) → [] ≡ starts_of hs → hs ≡ []
no_starts [] e = refl
no_starts (h ∷ hs) e = absurd cc

module _ (input starts : List ℕ) (at k : ℕ) (left : ListedFrom input starts at k) where
  pub listed_end : length starts ≤ k → hits_at at input ≡ []
  listed_end h = no_starts (hits_at at input) (sym (drop_of_length-le starts h) ∙ left.listed)

  module _ (h : k < length starts) where
    first : Head input starts at k
    first = split input starts at k (hits_at at input) refl (sym (drop-cons starts k 0 h) ∙ left.listed)

    abbrev start : ℕ
    start = get_or starts k 0

    found : FirstHit input at first.head first.later
    found = first_hit input first.head first.later (length input) at (omega arith) first.is

    some : 0 < hit (drop start input)
    some = rw first.start (omega (arith, found.size, found.some))

    size : hit (drop start input) ≡ two_at input (start + 2)
    size =
        let a = get_or-drop start input 2 0 in
        let b = get_or-drop start input 3 0 in
        let m : start + 3 ≡ start + 2 + 1 = omega arith in
        hit_size (drop start input) some ∙ rw (a, b, m)

    pub listed_some : (32 ≤ two_at input (start + 2)) × (start + 32 ≤ length input)
    listed_some =
        let w = hit_shows (drop start input) some in
        let l = length-drop start input in
        (omega (arith, w.long, hit_size (drop start input) some, size), omega (arith, w.long, w.fits))

    next : IsFirst input at (listed_next input starts k)
    next =
        next_found input at start (two_at input (start + 2)) (rw first.start found.forward) (rw first.start found.reached) (sym size) (omega (arith, listed_some.0))

    more : ListedFrom input starts (start + two_at input (start + 2)) (k + 1)
    more =
        let l : start ∷ drop (suc k) starts ≡ starts_of (hits_at at input) = sym (drop-cons starts k 0 h) ∙ left.listed in
        record { inside = next.inside; listed = rw (add-one k) (ap (drop 1) (rw next.first at l)) }

    -- the next hit, by a size that was read
    pub listed_as : (n : ℕ) → n ≡ two_at input (start + 2) → IsFirst input at (record { at = start; size = n }) × ListedFrom input starts (start + n) (k + 1)
    listed_as n e = rw e (next, more)
