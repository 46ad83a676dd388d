-- LIVE-7: the network of the example of silence. Host 2 is heard, but does not report itself; after an epoch host 0 has it at the least DELAY of the law. By computing.
use Rattle.std.specs.Prelude.{◌≡◌, List, ◌∷◌, ◌++◌, ◌*◌, pos, replicate}
use Rattle.quantity.specs.Quantity.{millis}
use Rattle.network_laws.specs.Demand3.{Step, World, history, entry_of}
use Rattle.liveness_laws.specs.Numbers.{rise, epoch_seconds}
use Rattle.liveness_laws.specs.Seconds.{emptied}
use Rattle.liveness_laws.specs.Silence.{Epochs}
use Rattle.liveness_laws.specs.SilenceExample.{line, a_second, a_send, an_arrival, in_turn, falls_silent}
use Rattle.liveness_laws.specs.Unreported.{UnreportedEpoch}

-- LIVE-7: the epoch: 120 seconds of host 1, 119 of host 0, a message of host 2 to host 0, the last second of host 0, 120 seconds of host 2
unfoldable pub unreported : List Step
unreported =
    in_turn (emptied falls_silent)
    (replicate epoch_seconds (a_second 1) ++ replicate 119 (a_second 0) ++ a_send 2 1 ∷ an_arrival 0 2 ∷ a_second 0 ∷ replicate epoch_seconds (a_second 2))

-- LIVE-7: after the epoch
unfoldable pub last : World
last = history line (emptied falls_silent) unreported

-- LIVE-7: the past is that of the example of silence; the epoch meets every condition, and host 2 is up at host 0, at 100 ms
pub record UnreportedExample : Type 0 where
  pub epochs : Epochs line (UnreportedEpoch line 2) falls_silent 1 last
  pub still_up : (entry_of line last 0 2).delay ≡ millis (pos (rise * 1))
