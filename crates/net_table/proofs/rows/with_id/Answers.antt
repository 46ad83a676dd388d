-- A row in use is that of the padded rows.
use mathlib.Core.Path.{◌∙◌, ap}
use Prim.Native.Nat.{◌-◌, ◌<◌}
use native.Mathlib.Omega.{arith}
use lib.ListN.{length, set, replicate, get_or-append}
use Rattle.route.specs.declared.Row.{Row}
use Rattle.net_table.specs.Table.{zero_row, padded}
use Rattle.net_table.specs.Tutor.{row_at}
use Rattle.net_table.proofs.Padded.{in_place}
use Rattle.net_table.proofs.rows.with_id.Goals as goal

pub returns : goal.returns
returns c =
    let rows = c.args.rows.now in
    let i = c.args.k - 1 in
    let here : i < length rows = omega (arith, c.requires.le_k, c.requires.k_bound) in
    rw c.padded-all.ensures
    (ap (λ (r : Row). set (padded rows) i record { net = r.net; host = c.args.id }) (get_or-append rows (replicate (32 - length rows) zero_row) zero_row i here)
    ∙ in_place zero_row 32 rows record { net = (row_at c.args.k rows).net; host = c.args.id } i here)
