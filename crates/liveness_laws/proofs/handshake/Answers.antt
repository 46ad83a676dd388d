-- Steps 2 to 4 by their ways, and a send: OneLink.antt.
use Rattle.liveness_laws.proofs.OneLink.{handshake_holds}
use Rattle.liveness_laws.proofs.handshake.Goals as goal

pub returns : goal.returns
returns c = handshake_holds
