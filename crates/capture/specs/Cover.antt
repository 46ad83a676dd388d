-- CAPTURE-4: packets and stretches cover the input exactly once; no stretch is empty or touches another.
use Rattle.std.specs.Prelude.{◌≡◌, cond, ◌&&◌, List, [], ◌∷◌, ℕ, ◌+◌, ◌<◌, leb, ltb, length}
use Rattle.capture.specs.Search.{Span, hits, stretches}

-- CAPTURE-4: how many of these contain an octet
abbrev pub times : (octet : ℕ) → List Span → ℕ
times k [] = 0
times k (h ∷ hs) = cond (leb h.start k && ltb k (h.start + h.size)) 1 0 + times k hs

-- CAPTURE-4: none is empty
abbrev pub NoneEmpty : List Span → Type 0
NoneEmpty [] = Unit {0}
NoneEmpty (h ∷ hs) = (0 < h.size) × NoneEmpty hs

-- CAPTURE-4: each starts after the end of the one before it, the first after a place
abbrev pub ApartFrom : (place : ℕ) → List Span → Type 0
ApartFrom p [] = Unit {0}
ApartFrom p (h ∷ hs) = (p < h.start) × ApartFrom (h.start + h.size) hs

-- CAPTURE-4: no two touch
abbrev pub NoneTouching : List Span → Type 0
NoneTouching [] = Unit {0}
NoneTouching (h ∷ hs) = ApartFrom (h.start + h.size) hs

-- CAPTURE-4: each octet is in exactly one packet or stretch
pub record Covered (input : List ℕ) : Type 0 where
  pub once : (octet : ℕ) → times octet (hits input) + times octet (stretches input) ≡ cond (ltb octet (length input)) 1 0
  pub hits_not_empty : NoneEmpty (hits input)
  pub stretches_not_empty : NoneEmpty (stretches input)
  pub stretches_not_touching : NoneTouching (stretches input)

-- CAPTURE-4: for every input
unfoldable pub Covers : Type 0
Covers = (input : List ℕ) → Covered input
