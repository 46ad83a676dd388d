-- The statement of `stays` is the lemma `stays-hold`; the function has no body.
use Rattle.bench_laws.proofs.Joined.{stays_hold}
use Rattle.bench_laws.proofs.stays.Goals as goal

pub returns : goal.returns
returns c = stays_hold
