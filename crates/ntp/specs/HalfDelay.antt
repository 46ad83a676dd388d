-- NTP-6: the half-delay bound of NTP, for an exchange whose second packet is processed.
use Rattle.std.specs.Prelude.{◌≡◌, true, ℤ, pos}
use Rattle.exchange.specs.HalfDelay.{exchange, all, Measured}
use Rattle.ntp.specs.declared.Association.{Association}
use Rattle.ntp.specs.declared.Header.{Header}
use Rattle.ntp.specs.declared.Timestamp.{Timestamp}
use Rattle.ntp.specs.Receive.{processed}

-- NTP-6: for every exchange with a server θ ahead, a request of d and an answer of e
unfoldable pub NtpHalfDelay : Type 0
NtpHalfDelay =
    (a : Association) (h : Header) (destination : Timestamp) (θ d e : ℤ)
    → all (exchange 64 θ d e (pos h.origin.0) (pos h.receive.0) (pos h.transmit.0) (pos destination.0)) ≡ true
    → Measured θ d e (processed a h destination).delay.0 (processed a h destination).offset.0
