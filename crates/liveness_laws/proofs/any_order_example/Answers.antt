-- Two rounds of eight calls, computed: Order/Example.antt.
use Rattle.liveness_laws.proofs.Order.Example.{any_example_holds}
use Rattle.liveness_laws.proofs.any_order_example.Goals as goal

pub returns : goal.returns
returns c = any_example_holds
