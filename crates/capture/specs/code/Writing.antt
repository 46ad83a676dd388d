-- What the pass over the hits asks: the outputs fit, and the list is that of the hits' starts.
use Rattle.std.specs.Prelude.{◌≡◌, List, ℕ, ◌≤◌, length}
use Rattle.capture.specs.Search.{hits}
use Rattle.capture.specs.Capture.{recovered_capture, stretch_list}
use Rattle.capture.specs.Recover.{longest_input}
use Rattle.capture.specs.code.Survey.{starts_of}

pub record Room (input capture stretches starts : List ℕ) : Type 0 where
  pub short : length input ≤ longest_input
  pub listed : starts ≡ starts_of (hits input)
  pub capture_fits : length (recovered_capture input) ≤ length capture
  pub stretches_fit : length (stretch_list input) ≤ length stretches
