-- A neighbour that is found has a place.
use Rattle.host.proofs.Found.{find_has_place}
use Rattle.arrival.proofs.step5.Goals as goal

pub no_table-requires : goal.no_table-requires
no_table-requires c = rw c.found_for-found.ensures (find_has_place c.args.t.now c.args.h.settings _ c.requires.0 c.requires.1)
