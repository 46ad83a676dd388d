-- The statement of `calls` is the lemma `calls-hold`; the function has no body.
use Rattle.bench_laws.proofs.CallsHold.{calls_hold}
use Rattle.bench_laws.proofs.calls.Goals as goal

pub returns : goal.returns
returns c = calls_hold
