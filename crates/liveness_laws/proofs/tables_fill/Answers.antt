-- Every call of a round keeps what is known of an entry, and at its end one cable more is known: Rounds/Law.antt.
use Rattle.liveness_laws.proofs.Rounds.Law.{tables_fill}
use Rattle.liveness_laws.proofs.tables_fill.Goals as goal

pub returns : goal.returns
returns c = tables_fill
