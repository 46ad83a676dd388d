-- `all` answers as `list_all` of std, which is the test of the definition.
use mathlib.Core.Path.{◌∙◌}
use mathlib.Core.List.{List}
use Prim.Native.Nat.{ℕ}
use lib.Dec.{leb}
use Rattle.std.proofs.Common.{rules, tests}
use Rattle.std.proofs.lemmas.Iterator.{YieldsList-from_slice}
use Rattle.std.proofs.lemmas.Iterator.Search.{all_from_yields_List}
use Rattle.lists.specs.Lists.{part}
use Rattle.bench_file.specs.Settings.{marks_good}
use Rattle.bench_file.proofs.Each.{every_is}
use Rattle.bench_file.proofs.hosts.marks_good.Goals as goal

pub returns : goal.returns
unfolding marks_good
returns c =
    let a = c.args in
    let marks : List ℕ = part 65 256 a.octets.now in
    all_from_yields_List (λ (m : ℕ). leb m 1) _ _ c.all.result c.all.ensures.ran (YieldsList-from_slice marks cc) (λ x b q k. search (rules, tests))
    ∙ every_is (λ (m : ℕ). leb m 1) marks
