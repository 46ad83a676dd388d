-- LIVE-6: two hosts and a cable, one cable wide. Two rounds make both tables right, with OFFSETs of 500 and -500 ms, the true difference.
use Rattle.std.specs.Prelude.{◌≡◌, pos, negsuc}
use Rattle.network_laws.specs.Demand3.{entry_of}
use Rattle.liveness_laws.specs.Hops.{Width}
use Rattle.liveness_laws.specs.RoundsExample.{two, last}
use Rattle.liveness_laws.specs.TotalCorrectness.{Correct}

-- LIVE-6: it meets every condition, and the entries are right
pub record TotalExample : Type 0 where
  pub wide : Width two 1
  pub correct : Correct two last
  pub delay_0 : (entry_of two last 0 1).delay.0 ≡ pos 100
  pub offset_0 : (entry_of two last 0 1).offset.0 ≡ pos 500
  pub delay_1 : (entry_of two last 1 0).delay.0 ≡ pos 100
  pub offset_1 : (entry_of two last 1 0).offset.0 ≡ negsuc 499
