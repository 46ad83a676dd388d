-- What a table that is not bad has, and what the lists of rows have after a call.
use mathlib.Core.Path.{◌≡◌}
use mathlib.Core.Bool.{true, false, not, ◌||◌}
use Prim.Native.Nat.{◌≤◌}
use borrow.Author.Tests.{ltb-false}
use lib.Dec.{ltb}
use Rattle.lists.proofs.Tests.{neither, is_so}
use Rattle.route.specs.Find.{ids_below}
use Rattle.net_table.specs.declared.NetTable.{NetTable}
use Rattle.net_table.specs.Table.{standing, nhosts_bad, table_bad}

pub record Good (t : NetTable) : Type 0 where
  pub few : ltb 32 t.net.count ≡ false
  pub some : ltb t.nhosts 1 ≡ false
  pub most : ltb 255 t.nhosts ≡ false
  pub ids : ids_below t.nhosts (standing t) ≡ true

pub good : (t : NetTable) → table_bad t ≡ false → Good t
unfolding table_bad
good t e =
    let a = neither (ltb 32 t.net.count || nhosts_bad t.nhosts) (not (ids_below t.nhosts (standing t))) e in
    let b = neither (ltb 32 t.net.count) (nhosts_bad t.nhosts) a.0 in
    let h = neither (ltb t.nhosts 1) (ltb 255 t.nhosts) b.1 in
    record { few = b.0; some = h.0; most = h.1; ids = is_so (ids_below t.nhosts (standing t)) a.1 }

pub most_hosts : (t : NetTable) → table_bad t ≡ false → t.nhosts ≤ 255
most_hosts t e = ltb-false 255 t.nhosts (good t e).most
