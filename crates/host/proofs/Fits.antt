-- What settings that fit the class's table have, and what a table that is not bad then has of them.
use mathlib.Core.Path.{◌≡◌}
use mathlib.Core.Bool.{true, false}
use borrow.Author.Tests.{eqb-true}
use lib.Dec.{eqb}
use Rattle.lists.proofs.Tests.{both}
use Rattle.net_table.specs.declared.NetTable.{NetTable}
use Rattle.net_table.specs.Table.{table_bad}
use Rattle.net_table.proofs.Tables as tables
use Rattle.host.specs.declared.Settings.{Settings}
use Rattle.host.specs.Settings.{settings_good, settings_fit}
use Rattle.host.specs.code.Returned.{RowsBelow}

pub fits_good : (t : NetTable) (s : Settings) → settings_fit t s ≡ true → settings_good s ≡ true
fits_good t s e = (both (settings_good s) (eqb s.layout.nhosts t.nhosts) e).0

pub fits_hosts : (t : NetTable) (s : Settings) → settings_fit t s ≡ true → s.layout.nhosts ≡ t.nhosts
fits_hosts t s e = eqb-true s.layout.nhosts t.nhosts (both (settings_good s) (eqb s.layout.nhosts t.nhosts) e).1

-- the ids of its rows are below NHOSTS, which is also the settings'
pub rows_below : (t : NetTable) (s : Settings) → table_bad t ≡ false → settings_fit t s ≡ true → RowsBelow t s
rows_below t s fair fit = rw (fits_hosts t s fit) (tables.good t fair).ids
