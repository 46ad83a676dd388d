-- `NeverBack` has the proof.
use Rattle.clock_laws.proofs.NeverBack.{never_back_holds}
use Rattle.clock_laws.proofs.never_back.Goals as goal

pub returns : goal.returns
returns c = never_back_holds
