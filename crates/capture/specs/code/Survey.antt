-- What the search's pass finds out: where the hits start, and how much there is to write.
use Rattle.std.specs.Prelude.{◌≡◌, List, [], ◌∷◌, ℕ, ◌+◌, ◌*◌, length}
use Rattle.lists.specs.Lists.{over}
use Rattle.capture.specs.declared.Survey.{Survey}
use Rattle.capture.specs.Search.{Span, hits, stretches}
use Rattle.capture.specs.Capture.{number_length, heading_length}

abbrev pub total_size : List Span → ℕ
total_size [] = 0
total_size (h ∷ hs) = h.size + total_size hs

unfoldable pub survey_of : List ℕ → Survey
survey_of input =
    record {
      hits = length (hits input);
      octets = total_size (hits input);
      stretches = length (stretches input);
    }

-- the most hits of an input
abbrev pub most_hits : ℕ
most_hits = 2048

-- where hits start
abbrev pub starts_of : List Span → List ℕ
starts_of [] = []
starts_of (h ∷ hs) = h.start ∷ starts_of hs

-- what the pass returns, and the list of starts afterwards
pub record Surveyed (input before : List ℕ) (s : Survey) (after : List ℕ) : Type 0 where
  pub counts : s ≡ survey_of input
  pub listed : after ≡ over before 0 (starts_of (hits input))

-- the octets of the capture and of the list of stretches
abbrev pub capture_length_of : Survey → ℕ
capture_length_of s = heading_length s.hits + s.octets

abbrev pub stretches_length_of : Survey → ℕ
stretches_length_of s = 2 * number_length * s.stretches
