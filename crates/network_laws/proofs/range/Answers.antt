-- Each rule keeps clock, links and entries in range: Demand1/Range.antt.
use Rattle.network_laws.proofs.Demand1.Range.{range_holds}
use Rattle.network_laws.proofs.range.Goals as goal

pub returns : goal.returns
returns c = range_holds
