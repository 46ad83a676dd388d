-- NTP-4, NTP-5: what an association does with a packet.
use Rattle.std.specs.Prelude.{ℕ, Bool, cond, not, ◌&&◌, List, pos, ◌==◌, nat_le, Result, Ok, Err}
use Rattle.ntp.specs.declared.Action.{Action}
use Rattle.ntp.specs.declared.Action.TheVariants.{Discard, Process}
use Rattle.ntp.specs.declared.Answer.{Answer}
use Rattle.ntp.specs.declared.Answer.TheVariants.{Done, NtpMode, NtpTimestamp}
use Rattle.ntp.specs.declared.Association.{Association}
use Rattle.ntp.specs.declared.Header.{Header}
use Rattle.ntp.specs.declared.Outcome.{Outcome}
use Rattle.ntp.specs.declared.Timestamp.{Timestamp}
use Rattle.ntp.specs.Header.{read}
use Rattle.ntp.specs.Times.{interval, later, offset, delay}
use Rattle.ntp.specs.Dispatch.{is_process, last_association, dispatch}

-- ---- what comes of it

-- NTP-5: an answer and an action; the association stays, offset and delay are zero
abbrev pub idle : Answer → Action → Association → Outcome
idle answer returned a =
    record { answer = answer; action = returned; offset = interval (pos 0); delay = interval (pos 0); association = a }

-- NTP-7: a refusal: no action either
abbrev pub refused : Answer → Association → Outcome
refused answer a = idle answer Discard a

-- NTP-5, NTP-2: a packet that passes: offset and delay, and its transmit time is saved
abbrev pub processed : Association → Header → Timestamp → Outcome
processed a h destination =
    record {
      answer = Done;
      action = Process;
      offset = offset h.origin h.receive h.transmit destination;
      delay = delay h.origin h.receive h.transmit destination;
      association = record { number = a.number; transmit = a.transmit; saved = h.transmit };
    }

-- ---- the four timestamp tests of source document 002

-- NTP-4: test 1: the transmit time is not zero
abbrev pub sent : Header → Bool
sent h = not (h.transmit.0 == 0)

-- NTP-4: test 2: the origin time is our last transmit time
abbrev pub answers : Association → Header → Bool
answers a h = h.origin.0 == a.transmit.0

-- NTP-4: test 3: the transmit time is not the saved one
abbrev pub fresh : Association → Header → Bool
fresh a h = not (h.transmit.0 == a.saved.0)

-- NTP-4: test 4: the destination time is later than the origin time
abbrev pub after : Header → Timestamp → Bool
after h destination = later destination h.origin

-- NTP-4: all four tests
unfoldable pub passes : Association → Header → Timestamp → Bool
passes a h destination = sent h && answers a h && fresh a h && after h destination

-- ---- the order: 23, 24, 25, 26

-- NTP-5, NTP-7, NTP-3: 25, then the action of the table; for Process 26, or processed
unfoldable pub dispatched : Association → Header → Timestamp → Outcome
dispatched a h destination =
    cond (not (nat_le a.number last_association)) (refused NtpMode a)
    (cond (not (is_process (dispatch a.number h.mode))) (idle Done (dispatch a.number h.mode) a)
    (cond (not (passes a h destination)) (refused NtpTimestamp a)
    (processed a h destination)))

-- NTP-7: a header that was read, or its refusal
abbrev pub received : Association → Result Header Answer → Timestamp → Outcome
received a (Err answer) destination = refused answer a
received a (Ok h) destination = dispatched a h destination

-- NTP-7: receive: 23, 24, 25, 26 in this order
unfoldable pub receive : Association → List ℕ → Timestamp → Outcome
receive a octets destination = received a (read octets) destination
