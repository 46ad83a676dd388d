-- The law of every width, at 16 bits.
use native.Mathlib.Omega.{arith}
use Rattle.exchange.specs.HalfDelay.{HalfDelay}
use Rattle.exchange.proofs.HalfDelay.{half_delay_lem}
use Rattle.arrival.specs.Steps.{step3}
use Rattle.network_laws.specs.HalfDelay.{HelloHalfDelay}
use Rattle.network_laws.proofs.hello_half_delay.Goals as goal

hello-half-delay : HelloHalfDelay
unfolding HelloHalfDelay HalfDelay step3
hello-half-delay p f θ d e T1 T2 tsp c =
    rw tsp (half_delay_lem 16 (omega arith) θ d e T1 T2 p.time.0 f.reading.0 c).0

pub returns : goal.returns
returns c = hello-half-delay
