-- CAPTURE-7: recovery: from an input and two buffers to what it returns and the buffers afterwards.
use Rattle.std.specs.Prelude.{◌≡◌, cond, ◌||◌, List, ℕ, ◌≤◌, ltb, length, Result, Ok, Err}
use Rattle.lists.specs.Lists.{over}
use Rattle.capture.specs.declared.Refusal.{Refusal}
use Rattle.capture.specs.declared.Refusal.TheVariants.{ShortBuffer, CaptureLength}
use Rattle.capture.specs.declared.Recovered.{Recovered}
use Rattle.capture.specs.Capture.{recovered_capture, stretch_list, places_true_of}

-- CAPTURE-7: the longest input
abbrev pub longest_input : ℕ
longest_input = 65536

-- CAPTURE-7: the most octets of a recovered capture
abbrev pub longest_capture : ℕ
longest_capture = 73732

-- CAPTURE-7: the most octets of a list of stretches
abbrev pub longest_stretches : ℕ
longest_stretches = 16392

-- CAPTURE-7: what is returned, and the two buffers afterwards
pub record Outcome : Type 0 where
  pub recovered : Result Recovered Refusal
  pub capture : List ℕ
  pub stretches : List ℕ

-- CAPTURE-7: a refusal changes no buffer
abbrev pub refused : Refusal → (capture stretches : List ℕ) → Outcome
refused r capture stretches =
    record { recovered = Err r; capture = capture; stretches = stretches }

-- CAPTURE-4, CAPTURE-5: both outputs are written; the octets after them stay
abbrev pub written : (input capture stretches : List ℕ) → Outcome
written input capture stretches =
    record {
      recovered = Ok (record {
        capture_length = length (recovered_capture input);
        stretches_length = length (stretch_list input);
        places_true = places_true_of input;
      });
      capture = over capture 0 (recovered_capture input);
      stretches = over stretches 0 (stretch_list input);
    }

-- CAPTURE-7, ANSWER-27, ANSWER-2: 27, then 2, else the outputs
unfoldable pub recover : (input capture stretches : List ℕ) → Outcome
recover input capture stretches =
    cond (ltb longest_input (length input)) (refused CaptureLength capture stretches)
    (cond (ltb (length capture) (length (recovered_capture input)) || ltb (length stretches) (length (stretch_list input))) (refused ShortBuffer capture stretches)
    (written input capture stretches))

-- CAPTURE-7: an outcome as a caller sees it
pub record Leaves (o : Outcome) (m : Result Recovered Refusal) (c s : List ℕ) : Type 0 where
  pub recovered : m ≡ o.recovered
  pub capture : c ≡ o.capture
  pub stretches : s ≡ o.stretches

-- CAPTURE-7: for every input of at most 65,536 octets, these bounds are long enough
unfoldable pub Bounded : Type 0
Bounded =
    (input : List ℕ) → length input ≤ longest_input
    → (length (recovered_capture input) ≤ longest_capture) × (length (stretch_list input) ≤ longest_stretches)
