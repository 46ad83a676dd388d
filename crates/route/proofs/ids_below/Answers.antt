-- All rows in use pass the test.
use Rattle.std.proofs.Common.{rules, tests, ◌∙◌}
use Rattle.std.specs.Prelude.{ltb}
use Rattle.std.proofs.lemmas.Iterator.{YieldsList-from_slice}
use Rattle.std.proofs.lemmas.Iterator.Search.{all_from_yields_List}
use Rattle.route.specs.declared.Row.{Row}
use Rattle.route.specs.Find.{rows_of}
use Rattle.route.proofs.Rows.{all_below}
use Rattle.route.proofs.ids_below.Goals as goal

pub returns : goal.returns
returns c =
    let rows = rows_of c.args.table.now in
    all_from_yields_List (λ (r : Row). ltb r.host c.args.n) _ _ c.all.result c.all.ensures.ran (YieldsList-from_slice rows cc) (λ x b q k. search (rules, tests))
    ∙ all_below c.args.n rows
