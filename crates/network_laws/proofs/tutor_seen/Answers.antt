-- The lookups are computed: TutorSeen.antt.
use Rattle.network_laws.proofs.TutorSeen.{tutor_seen}
use Rattle.network_laws.proofs.tutor_seen.Goals as goal

pub returns : goal.returns
returns c = tutor_seen
