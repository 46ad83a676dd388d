-- `EachBox` has the proof.
use Rattle.network_laws.proofs.EachBox.{each_box_holds}
use Rattle.network_laws.proofs.each_box.Goals as goal

pub returns : goal.returns
returns c = each_box_holds
