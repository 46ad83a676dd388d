-- Proved in `SendKeeps`.
use Rattle.calls.proofs.SendKeeps.{every_send_keeps}
use Rattle.calls.proofs.send_keeps.Goals as goal

pub returns : goal.returns
returns c = every_send_keeps
