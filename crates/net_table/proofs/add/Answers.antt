-- An id below NHOSTS fits an octet.
use mathlib.Core.Path.{◌∙◌, sym}
use native.Mathlib.Omega.{arith}
use Rattle.net_table.proofs.Tables.{most_hosts}
use Rattle.net_table.proofs.add.Goals as goal

pub overflow_cast-row : goal.overflow_cast-row
overflow_cast-row c = omega (arith, c.if-id-table.false, most_hosts c.args.table.now (sym c.is_bad.ensures ∙ c.if-is_bad.false))
