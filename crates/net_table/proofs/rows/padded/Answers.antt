-- Zeros after the first n are as many as are left.
use mathlib.Core.Path.{ap}
use mathlib.Core.List.{List, ◌++◌}
use lib.ListN.{length}
use Rattle.std.proofs.lemmas.List.{drop-replicate}
use Rattle.route.specs.declared.Row.{Row}
use Rattle.net_table.specs.Table.{zero_row}
use Rattle.net_table.proofs.rows.padded.Goals as goal

pub returns : goal.returns
returns c =
    let rows = c.args.rows.now in
    rw (c.copy_from_slice.ensures.after, c.none-all.ensures) (ap (λ (l : List Row). rows ++ l) (drop-replicate (length rows) 32 zero_row))
