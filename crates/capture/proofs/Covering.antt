-- Hits and the gaps between them cover the input once, because each gap ends where the next hit starts and each starts where the last hit ended.
use mathlib.Core.Path.{◌≡◌, refl, ap}
use mathlib.Core.Bool.{Bool, true, false, cond, ◌&&◌}
use mathlib.Core.List.{List, [], ◌∷◌, ◌++◌}
use Prim.Native.Nat.{ℕ, ◌+◌, ◌-◌, ◌≤◌, ◌<◌}
use native.Mathlib.Omega.{arith}
use borrow.Author.Tests.{ltb-true, ltb-false, lt-ltb, le-ltb, le-leb, lt-leb}
use lib.Dec.{leb, ltb}
use lib.ListN.{length}
use Rattle.capture.specs.Search.{Span, span, hits, gap, gaps, stretches}
use Rattle.capture.specs.Cover.{times, NoneEmpty, ApartFrom, NoneTouching, Covers}
use Rattle.capture.proofs.Order.{Order, hits_order}
use Rattle.capture.proofs.Outputs.{gap_some, gap_none}

-- what holds of a gap with octets and of none holds of any
pub by_gap : (P : List Span → Type 0) (from to : ℕ) → (from < to → P (span from (to - from) ∷ [])) → (to ≤ from → P []) → P (gap from to)
by_gap P from to f g = choose (ltb from to) refl
  where
    choose : (b : Bool) → ltb from to ≡ b → P (gap from to)
    choose true e = rw (gap_some from to (ltb-true from to e)) (f (ltb-true from to e))
    choose false e = rw (gap_none from to (ltb-false from to e)) (g (ltb-false from to e))

module _ (k : ℕ) where
  -- 1 where the octet is below a place
  abbrev below : ℕ → ℕ
  below p = cond (ltb k p) 1 0

  from_to_lem : (a b : ℕ) → a ≤ b → cond (leb a k && ltb k b) 1 0 + below a ≡ below b
  from_to_lem a b h = choose (ltb k a) refl
    where
      choose : (t : Bool) → ltb k a ≡ t → cond (leb a k && ltb k b) 1 0 + below a ≡ below b
      choose true e =
          let l = ltb-true k a e in
          rw (lt-leb a k l, lt-ltb k a l, lt-ltb k b (omega arith))
      choose false e =
          let l = ltb-false k a e in
          rw (le-leb a k l, le-ltb k a l) (omega arith)

  times_append : (a b : List Span) → times k (a ++ b) ≡ times k a + times k b
  times_append [] b = omega arith
  times_append (h ∷ a) b = omega (arith, times_append a b)

  gap_once : (from to : ℕ) → from ≤ to → times k (gap from to) + below from ≡ below to
  gap_once from to h =
      by_gap (λ g. times k g + below from ≡ below to) from to
      (λ l.
      let e : from + (to - from) ≡ to = omega arith in
      rw e (omega (arith, from_to_lem from to h)))
      (λ l.
      let e : from ≡ to = omega arith in
      rw e (omega arith))

  once_from : (from end : ℕ) (hs : List Span) → Order from end hs → times k hs + times k (gaps from end hs) + below from ≡ below end
  once_from from end [] o = omega (arith, gap_once from end o)
  once_from from end (h ∷ hs) o =
      let g = gaps (h.start + h.size) end hs in
      omega (arith, times_append (gap from h.start) g, gap_once from h.start o.0, from_to_lem h.start (h.start + h.size) (omega arith), once_from (h.start + h.size) end hs o.2)

not_empty_append : (a b : List Span) → NoneEmpty a → NoneEmpty b → NoneEmpty (a ++ b)
not_empty_append [] b p q = q
not_empty_append (h ∷ a) b p q = (p.0, not_empty_append a b p.1 q)

hits_filled : (from end : ℕ) (hs : List Span) → Order from end hs → NoneEmpty hs
hits_filled from end [] o = tt
hits_filled from end (h ∷ hs) o = (omega (arith, o.1), hits_filled (h.start + h.size) end hs o.2)

gap_filled : (from to : ℕ) → NoneEmpty (gap from to)
gap_filled from to = by_gap NoneEmpty from to (λ l. (omega arith, tt)) (λ l. tt)

gaps_filled : (from end : ℕ) (hs : List Span) → NoneEmpty (gaps from end hs)
gaps_filled from end [] = gap_filled from end
gaps_filled from end (h ∷ hs) = not_empty_append (gap from h.start) _ (gap_filled from h.start) (gaps_filled (h.start + h.size) end hs)

gaps_apart : (p from end : ℕ) (hs : List Span) → p < from → Order from end hs → ApartFrom p (gaps from end hs)
gaps_apart p from end [] l o = by_gap (ApartFrom p) from end (λ m. (l, tt)) (λ m. tt)
gaps_apart p from end (h ∷ hs) l o =
    by_gap (λ g. ApartFrom p (g ++ gaps (h.start + h.size) end hs)) from h.start
    (λ m. (l, gaps_apart (from + (h.start - from)) (h.start + h.size) end hs (omega (arith, o.1)) o.2))
    (λ m. gaps_apart p (h.start + h.size) end hs (omega (arith, o.0)) o.2)

gaps_not_touching : (from end : ℕ) (hs : List Span) → Order from end hs → NoneTouching (gaps from end hs)
gaps_not_touching from end [] o = by_gap NoneTouching from end (λ m. tt) (λ m. tt)
gaps_not_touching from end (h ∷ hs) o =
    by_gap (λ g. NoneTouching (g ++ gaps (h.start + h.size) end hs)) from h.start
    (λ m. gaps_apart (from + (h.start - from)) (h.start + h.size) end hs (omega (arith, o.1)) o.2)
    (λ m. gaps_not_touching (h.start + h.size) end hs o.2)

pub covers : Covers
unfolding Covers stretches
covers input =
    let o = hits_order input in
    record {
      once = λ k. omega (arith, once_from k 0 (length input) (hits input) o, ap {B = ℕ} (λ (b : Bool). cond b 1 0) (le-ltb k 0 (omega arith)));
      hits_not_empty = hits_filled 0 (length input) (hits input) o;
      stretches_not_empty = gaps_filled 0 (length input) (hits input);
      stretches_not_touching = gaps_not_touching 0 (length input) (hits input) o;
    }
