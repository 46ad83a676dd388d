-- The statement of `bound` is the lemma `bound-holds`; the function has no body.
use Rattle.bench_laws.proofs.BoundHolds.{bound_holds}
use Rattle.bench_laws.proofs.bound.Goals as goal

pub returns : goal.returns
returns c = bound_holds
