-- ANSWER-23 to ANSWER-26: the answers of NTP.
use Rattle.std.specs.Prelude.{ℕ}
use Rattle.ntp.specs.declared.Answer.{Answer}
use Rattle.ntp.specs.declared.Answer.TheVariants.{Done, NtpLength, NtpVersion, NtpMode, NtpTimestamp}

-- ANSWER-23, ANSWER-24, ANSWER-25, ANSWER-26, NTP-7, REPLY-5: the number of each answer
abbrev pub number : Answer → ℕ
number Done = 0
number NtpLength = 23
number NtpVersion = 24
number NtpMode = 25
number NtpTimestamp = 26
