-- Each field of the effect is fresh, as the definition says.
use Rattle.lists.proofs.Tests.{both, is_not}
use Rattle.host.proofs.Sound.{sound}
use Rattle.calls.specs.Effects as definition
use Rattle.calls.proofs.effects.initialize.Goals as goal

pub fresh-requires-clause-pos_value : goal.fresh-requires-clause-pos_value
fresh-requires-clause-pos_value c = is_not _ (both _ _ (sound _ c.requires).time).0

pub fresh-requires-clause-day_millis_value : goal.fresh-requires-clause-day_millis_value
fresh-requires-clause-day_millis_value c = (both _ _ (sound _ c.requires).time).1
