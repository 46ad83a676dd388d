-- NTP-6: the half-delay bound of HELLO for a point-to-point exchange, with DELAY of step 3.
use Rattle.std.specs.Prelude.{◌≡◌, true, false, ℤ}
use Rattle.exchange.specs.Formulas.{packet_tsp}
use Rattle.exchange.specs.HalfDelay.{exchange, all, Measured}
use Rattle.wire.specs.declared.Packet.{Packet}
use Rattle.arrival.specs.declared.Flight.{Flight}
use Rattle.arrival.specs.Steps.{step3}

-- NTP-6: for every packet whose TSP the neighbour's send computed, with θ ahead and ways d and e
unfoldable pub HelloHalfDelay : Type 0
HelloHalfDelay =
    (p : Packet) (f : Flight) (θ d e T1 T2 : ℤ) → p.tsp.0 ≡ packet_tsp 16 T1 T2 p.time.0
    → all (exchange 16 θ d e T1 T2 p.time.0 f.reading.0) ≡ true
    → Measured θ d e (step3 false p f).delay.0 (step3 false p f).offset.0
