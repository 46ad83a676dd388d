-- No call except an opening opens a walk: Unopened.antt.
use Rattle.liveness_laws.proofs.Unopened.{without_walks}
use Rattle.liveness_laws.proofs.without_walks.Goals as goal

pub returns : goal.returns
returns c = without_walks
