-- The law of every width, at 64 bits.
use Rattle.std.proofs.Common.{pos, arith}
use Rattle.exchange.specs.HalfDelay.{HalfDelay}
use Rattle.exchange.proofs.HalfDelay.{half_delay_lem}
use Rattle.ntp.specs.HalfDelay.{NtpHalfDelay}
use Rattle.ntp.proofs.ntp_half_delay.Goals as goal

ntp_half_delay_lem : NtpHalfDelay
unfolding NtpHalfDelay HalfDelay
ntp_half_delay_lem a h t θ d e c =
    (half_delay_lem 64 (omega arith) θ d e (pos h.origin.0) (pos h.receive.0) (pos h.transmit.0) (pos t.0) c).1

pub returns : goal.returns
returns c = ntp_half_delay_lem
