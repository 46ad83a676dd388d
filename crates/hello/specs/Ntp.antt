-- REPLY-5, NTP-7: what the exported NTP functions return; values are zero at a refusal.
use Rattle.std.specs.Prelude.{ℕ, pos, List, replicate, Result, Ok, Err}
use Rattle.ntp.specs.declared.Answer.{Answer}
use Rattle.ntp.specs.declared.Header.{Header}
use Rattle.ntp.specs.declared.Outcome.{Outcome}
use Rattle.ntp.specs.Answer.{number}
use Rattle.ntp.specs.Dispatch.{action_number}
use Rattle.ntp.specs.Header.{header_length}
use Rattle.ntp.specs.Octets.{exponent, timestamp}
use Rattle.hello.specs.declared.ntp_calls.NtpRead.{NtpRead}
use Rattle.hello.specs.declared.ntp_calls.NtpWritten.{NtpWritten}
use Rattle.hello.specs.declared.ntp_calls.NtpOutcome.{NtpOutcome}

-- NTP-7: a header of zeros
abbrev pub zero_header : Header
zero_header =
    record {
      leap = 0;
      version = 0;
      mode = 0;
      stratum = 0;
      poll = exponent (pos 0);
      precision = exponent (pos 0);
      root_delay = 0;
      root_dispersion = 0;
      reference_id = 0;
      reference = timestamp 0;
      origin = timestamp 0;
      receive = timestamp 0;
      transmit = timestamp 0;
    }

-- REPLY-5: what reading returns
abbrev pub read_returned : Result Header Answer → NtpRead
read_returned (Ok h) = record { answer = 0; header = h }
read_returned (Err a) = record { answer = number a; header = zero_header }

-- REPLY-5: what writing returns
abbrev pub written_returned : Result (List ℕ) Answer → NtpWritten
written_returned (Ok octets) = record { answer = 0; octets = octets }
written_returned (Err a) = record { answer = number a; octets = replicate header_length 0 }

-- REPLY-5: what receiving returns
abbrev pub outcome_returned : Outcome → NtpOutcome
outcome_returned o =
    record { answer = number o.answer; action = action_number o.action; offset = o.offset; delay = o.delay; association = o.association }
