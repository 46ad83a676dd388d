-- Every call of a round in any order keeps what the entries are to each other across the cables, and at its end one cable more is known: Order/Law.antt.
use Rattle.liveness_laws.proofs.Order.Law.{any_order}
use Rattle.liveness_laws.proofs.any_order.Goals as goal

pub returns : goal.returns
returns c = any_order
