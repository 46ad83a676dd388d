-- The number of the newest message of a link never falls: Order/Newest.antt.
use Rattle.liveness_laws.proofs.Order.Newest.{newest_in_order}
use Rattle.liveness_laws.proofs.newest_in_order.Goals as goal

pub returns : goal.returns
returns c = newest_in_order
