-- REPLY-5, CAPTURE-5, CAPTURE-7: what the exported recovery returns.
use Rattle.std.specs.Prelude.{false, Result, Ok, Err}
use Rattle.capture.specs.declared.Refusal.{Refusal}
use Rattle.capture.specs.declared.Recovered.{Recovered as Written}
use Rattle.capture.specs.Answer.{number}
use Rattle.capture.specs.Recover.{Outcome}
use Rattle.hello.specs.declared.captures.Recovered.{Recovered}

-- CAPTURE-7: a refusal returns its number and zeros
abbrev pub refusal : Refusal → Recovered
refusal r = record { answer = number r; capture_length = 0; stretches_length = 0; places_true = false }

-- REPLY-5: the number of the answer, 0 if it was done, and its values
abbrev pub answered : Result Written Refusal → Recovered
answered (Ok m) =
    record {
      answer = 0;
      capture_length = m.capture_length;
      stretches_length = m.stretches_length;
      places_true = m.places_true;
    }
answered (Err r) = refusal r

-- REPLY-5: what is returned of an outcome
abbrev pub recovered_returned : Outcome → Recovered
recovered_returned o = answered o.recovered
