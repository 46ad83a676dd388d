-- The statement of `joins` is the lemma `joins-hold`; the function has no body.
use Rattle.bench_laws.proofs.Joined.{joins_hold}
use Rattle.bench_laws.proofs.joins.Goals as goal

pub returns : goal.returns
returns c = joins_hold
