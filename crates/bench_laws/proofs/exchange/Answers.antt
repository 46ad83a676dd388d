-- The statement of `exchange` is the lemma `exchange-holds`; the function has no body.
use Rattle.bench_laws.proofs.Exchanged.{exchange_holds}
use Rattle.bench_laws.proofs.exchange.Goals as goal

pub returns : goal.returns
returns c = exchange_holds
