-- `Moved` has the proof.
use Rattle.clock_laws.proofs.Moved.{clock_moves_hold}
use Rattle.clock_laws.proofs.clock_moves.Goals as goal

pub returns : goal.returns
returns c = clock_moves_hold
