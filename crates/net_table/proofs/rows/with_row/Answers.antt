-- A row put after the others is one more at their end.
use Rattle.net_table.specs.Table.{zero_row}
use Rattle.net_table.proofs.Padded.{one_more}
use Rattle.net_table.proofs.rows.with_row.Goals as goal

pub returns : goal.returns
returns c = rw c.padded-all.ensures (one_more zero_row 32 c.args.rows.now c.args.row c.requires)
