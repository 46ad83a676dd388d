-- An id that is found, or id 0.
use Rattle.host.proofs.Found.{find_has_place}
use Rattle.walk.proofs.boxes.box5.Goals as goal

pub to_neighbor-requires : goal.to_neighbor-requires
to_neighbor-requires c = rw c.found_for-found.ensures (find_has_place c.args.t.now c.args.h.host.settings _ c.args.h.good c.requires.rows)
