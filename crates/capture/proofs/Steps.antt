-- The search, a step at a time: behind a hit, or one octet further.
use mathlib.Core.Path.{◌≡◌, refl, sym, ap, ◌∙◌}
use mathlib.Core.Bool.{Bool, true, false, cond, ◌&&◌, true≢false}
use mathlib.Core.List.{List, [], ◌∷◌}
use Prim.Native.Nat.{ℕ, zero, suc, ◌+◌, ◌-◌, ◌≤◌, ◌<◌}
use native.Mathlib.Omega.{arith}
use native.Mathlib.Numerals.{add-one}
use native.Mathlib.Nat.{add-zero}
use borrow.Author.Tests.{ne_eqb}
use Rattle.std.specs.Prelude.{Option, Some, None}
use lib.Dec.{ltb, eqb}
use lib.ListN.{length, get_or, drop, drop_of_length-le, length-drop}
use lib.Seq.{drop-cons, drop-drop, get_or-drop}
use Rattle.wire.specs.Octets.{octet_at}
use Rattle.wire.specs.Ip.{version_place, version_and_length, protocol_place, hello_protocol}
use Rattle.capture.specs.Search.{Span, span, hit, found, hits_from, hits, hits_at, Searches, gap}
use Rattle.capture.specs.code.Next.{length_found, IsFirst}
use Rattle.capture.proofs.Hits.{hit_none, hit_size, hit_shows}

pub found_some : (at n : ℕ) → 0 < n → found at n ≡ span at n ∷ []
found_some at n h = rw (ne_eqb n 0 (λ q. absurd (omega arith)))

at_most_one : (b : Bool) (h : Span) → length (cond b (h ∷ []) []) ≤ 1
at_most_one true h = omega arith
at_most_one false h = omega arith

pub gap_one : (from to : ℕ) → length (gap from to) ≤ 1
gap_one from to = at_most_one (ltb from to) _

-- after this number of octets of a hit
pub behind : (at n : ℕ) (s : List ℕ) → hits_from at n s ≡ hits_from (at + n) 0 (drop n s)
unfolding hits_from
behind at zero s = rw (add-zero at)
behind at (suc n) [] = refl
behind at (suc n) (o ∷ rest) =
    let e : suc at + n ≡ at + suc n = omega arith in
    behind (suc at) n rest ∙ rw e

pub step_miss : (at o : ℕ) (rest : List ℕ) → hit (o ∷ rest) ≡ 0 → hits_from at 0 (o ∷ rest) ≡ hits_from (suc at) 0 rest
unfolding hits_from
step_miss at o rest e = rw e

pub step_hit : (at o : ℕ) (rest : List ℕ) (n : ℕ) → hit (o ∷ rest) ≡ suc n
    → hits_from at 0 (o ∷ rest) ≡ span at (suc n) ∷ hits_from (at + suc n) 0 (drop (suc n) (o ∷ rest))
unfolding hits_from
step_hit at o rest n e =
    let m : suc at + n ≡ at + suc n = omega arith in
    let z : suc n - 1 ≡ n = omega arith in
    rw (e, found_some at (suc n) (omega arith), z) (ap (λ hs. span at (suc n) ∷ hs) (behind (suc at) n rest ∙ rw m))

pub from_hit : (at : ℕ) (s : List ℕ) (n : ℕ) → hit s ≡ suc n → hits_from at 0 s ≡ span at (suc n) ∷ hits_from (at + suc n) 0 (drop (suc n) s)
from_hit at [] n e =
    let p : 0 < hit [] = omega arith in
    let w = hit_shows [] p in
    absurd (omega (arith, w.fits, w.long))
from_hit at (o ∷ rest) n e = step_hit at o rest n e

module _ (s : List ℕ) (at : ℕ) where
  pub end_none : length s ≤ at → hits_at at s ≡ []
  unfolding hits_from
  end_none h = rw (drop_of_length-le s h)

  pub at_hit : (n : ℕ) → hit (drop at s) ≡ suc n → hits_at at s ≡ span at (suc n) ∷ hits_at (at + suc n) s
  at_hit n e = from_hit at (drop at s) n e ∙ ap (λ l. span at (suc n) ∷ hits_from (at + suc n) 0 l) (drop-drop (suc n) at s)

  pub version_at : octet_at (drop at s) version_place ≡ get_or s at 0
  version_at = get_or-drop at s 0 0 ∙ ap (λ i. get_or s i 0) (add-zero at)

  module _ (h : at < length s) where
    cons : drop at s ≡ get_or s at 0 ∷ drop (suc at) s
    cons = drop-cons s at 0 h

    pub at_miss : hit (drop at s) ≡ 0 → hits_at at s ≡ hits_at (at + 1) s
    at_miss e = rw (add-one, cons) (step_miss at _ _ (ap hit (sym cons) ∙ e))

    pub at_neither : (eqb (get_or s at 0) version_and_length && eqb (get_or s (at + protocol_place) 0) hello_protocol) ≡ false → hits_at at s ≡ hits_at (at + 1) s
    at_neither e =
        at_miss (hit_none (drop at s) (λ w.
        let version : get_or s at 0 ≡ version_and_length = sym version_at ∙ w.version in
        let kind : get_or s (at + protocol_place) 0 ≡ hello_protocol = sym (get_or-drop at s protocol_place 0) ∙ w.kind in
        true≢false (rw (version, kind) at e)))

-- ---- the search as the sentence has it

kept_at : (s : List ℕ) (at n : ℕ) → hit (drop at s) ≡ n → 0 < n → hits_at at s ≡ span at n ∷ hits_at (at + n) s
kept_at s at zero e p = absurd (omega arith)
kept_at s at (suc n) e p = at_hit s at n e

pub searches : Searches
unfolding Searches hits
searches input = (
  refl,
  λ at. record { kept = kept_at input at (hit (drop at input)) refl; passed = at_miss input at; ended = end_none input at },
)

-- ---- the next hit, from what was found out at a place

pub found_nothing : {n : ℕ} → n ≡ 0 → None ≡ length_found n
found_nothing e = sym (ap length_found e)

pub found_none : (n : ℕ) → length_found n ≡ None → n ≡ 0
found_none zero e = refl
found_none (suc n) e = absurd (some_none (length_found (suc n)) refl e)
  where
    some_none : (o : Option ℕ) → o ≡ Some (suc n) → o ≡ None → ⊥
    some_none o a b = let z : Some (suc n) ≡ None = sym a ∙ b in cc

pub found_size : (n size : ℕ) → length_found n ≡ Some size → (size ≡ n) × (0 < size)
found_size zero size e = let z : None ≡ Some size = e in absurd cc
found_size (suc n) size e = let z : suc n ≡ size = cc in (sym z, omega arith)

pub as_found : (n size : ℕ) → 0 < size → size ≡ n → Some size ≡ length_found n
as_found zero size h e = absurd (omega arith)
as_found (suc n) size h e = ap Some e

pub next_found : (s : List ℕ) (from at n : ℕ) → from ≤ at → hits_at from s ≡ hits_at at s → n ≡ hit (drop at s) → 0 < n → IsFirst s from (record { at = at; size = n })
next_found s from at zero forward left e p = absurd (omega arith)
next_found s from at (suc n) forward left e p =
    let w = hit_shows (drop at s) (rw e at p) in
    let l = length-drop at s in
    record {
      forward = forward;
      inside = omega (arith, w.fits, e ∙ hit_size (drop at s) (rw e at p));
      some = p;
      first = left ∙ at_hit s at n (sym e);
    }
