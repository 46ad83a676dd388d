-- ANSWER-0 to ANSWER-17: the number of each answer of the calls on a host.
use Rattle.std.specs.Prelude.{ℕ}
use Rattle.answer.specs.declared.Answer.{Answer}
use Rattle.answer.specs.declared.Answer.TheVariants.{Done, Setting, ShortBuffer, IpForm, IpChecksum, Protocol, HelloForm, HelloChecksum, OtherLayout, LoopedLine, DelayNotValid, NoHost, OutOfRange, HostDown, InWalk, NoWalk}

-- ANSWER-0, ANSWER-1, ANSWER-2, ANSWER-3, ANSWER-4, ANSWER-5, ANSWER-6, ANSWER-7, ANSWER-8, ANSWER-9, ANSWER-10, ANSWER-11, ANSWER-12, ANSWER-13, ANSWER-16, ANSWER-17, REPLY-5: the number of each answer
abbrev pub number : Answer → ℕ
number Done = 0  -- done
number Setting = 1  -- a setting outside the above
number ShortBuffer = 2  -- send buffer shorter than the message
number IpForm = 3  -- IP form
number IpChecksum = 4  -- IP checksum
number Protocol = 5  -- protocol is not 63
number HelloForm = 6  -- HELLO form
number HelloChecksum = 7  -- HELLO checksum
number OtherLayout = 8  -- another layout of ids
number LoopedLine = 9  -- looped line
number DelayNotValid = 10  -- delay not valid (step 4)
number NoHost = 11  -- no host or net for the address
number OutOfRange = 12  -- seat, link or places not there, or something lent out of range
number HostDown = 13  -- lookup: host is down
number InWalk = 16  -- seat is in the middle of a walk
number NoWalk = 17  -- step asked with no walk open
