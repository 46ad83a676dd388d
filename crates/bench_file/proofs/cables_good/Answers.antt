-- `all` tests the cables' numbers as the definition does.
use Rattle.std.proofs.Common.{rules, tests}
use Rattle.bench_file.specs.Absent.{cable_good, cables_good}
use Rattle.bench_file.proofs.Each.{all_below}
use Rattle.bench_file.proofs.cables_good.Goals as goal

pub returns : goal.returns
unfolding cables_good
returns c = let a = c.args in all_below (cable_good a.file.now a.header) a.header.cables c.all.ensures.ran (λ x b q k. search (rules, tests))
