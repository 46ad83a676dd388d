-- `LineCalls` has the proof.
use Rattle.network_laws.proofs.LineCalls.{line_calls_hold}
use Rattle.network_laws.proofs.line_calls.Goals as goal

pub returns : goal.returns
returns c = line_calls_hold
