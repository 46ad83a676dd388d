-- CAPTURE-6: damage before a place does not change what is read from there on.
use Rattle.std.specs.Prelude.{◌≡◌, cond, List, [], ◌∷◌, ◌++◌, ℕ, ◌+◌, ◌-◌, ◌≤◌, ◌<◌, leb, length}
use Rattle.capture.specs.Search.{Span, span, hit, hits, stretches}

-- CAPTURE-6: a packet that starts before the place ends there at the latest
abbrev pub Unstraddled : (place : ℕ) → List Span → Type 0
Unstraddled p [] = Unit {0}
Unstraddled p (h ∷ hs) = (h.start < p → h.start + h.size ≤ p) × Unstraddled p hs

-- CAPTURE-6: those that start from a place on, counted from there
abbrev pub onward : (place : ℕ) → List Span → List Span
onward p [] = []
onward p (h ∷ hs) = cond (leb p h.start) (span (h.start - p) h.size ∷ []) [] ++ onward p hs

-- CAPTURE-6: packets and stretches from a place on
pub record Reading : Type 0 where
  pub hits_onward : List Span
  pub stretches_onward : List Span

-- CAPTURE-6: what is read from a place on
unfoldable pub read_from : (place : ℕ) → (input : List ℕ) → Reading
read_from p input = record { hits_onward = onward p (hits input); stretches_onward = onward p (stretches input) }

-- CAPTURE-6: the packet at a place is kept
abbrev pub KeptAt : (place size : ℕ) → (input : List ℕ) → Type 0
KeptAt p n input = (later : List Span) × (onward p (hits input) ≡ span 0 n ∷ later)

-- CAPTURE-6: for every two inputs that are equal from the place on, if a good packet starts there and no packet found reaches across
unfoldable pub Damage : Type 0
Damage =
    (damaged undamaged alike : List ℕ)
    → 0 < hit alike
    → Unstraddled (length damaged) (hits (damaged ++ alike))
    → Unstraddled (length undamaged) (hits (undamaged ++ alike))
    → KeptAt (length damaged) (hit alike) (damaged ++ alike)
    × (read_from (length damaged) (damaged ++ alike) ≡ read_from (length undamaged) (undamaged ++ alike))
