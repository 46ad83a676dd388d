-- CAPTURE-5: recovery of a recovered capture gives the same capture, with the mark true.
use Rattle.std.specs.Prelude.{◌≡◌, true, List, [], ◌∷◌, ℕ, ◌≤◌, ◌<◌, length}
use Rattle.capture.specs.Capture.{recovered_capture, places_true_of}
use Rattle.capture.specs.Recover.{longest_input}

-- CAPTURE-5: each number is an octet
abbrev pub Octets : List ℕ → Type 0
Octets [] = Unit {0}
Octets (o ∷ rest) = (o < 256) × Octets rest

-- CAPTURE-5: for every input whose output has at most 65,536 octets
unfoldable pub Again : Type 0
Again =
    (input : List ℕ) → Octets input → length (recovered_capture input) ≤ longest_input
    → (recovered_capture (recovered_capture input) ≡ recovered_capture input) × (places_true_of (recovered_capture input) ≡ true)
