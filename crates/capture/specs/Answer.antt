-- ANSWER-27: the refusals of recovery.
use Rattle.std.specs.Prelude.{ℕ}
use Rattle.capture.specs.declared.Refusal.{Refusal}
use Rattle.capture.specs.declared.Refusal.TheVariants.{ShortBuffer, CaptureLength}

-- ANSWER-27, REPLY-5: the number of each refusal
abbrev pub number : Refusal → ℕ
number ShortBuffer = 2  -- the outputs don't fit
number CaptureLength = 27  -- an input over 65,536 octets
