-- `all` tests the events' numbers as the definition does.
use Rattle.std.proofs.Common.{rules, tests, ℕ}
use Rattle.bench_file.specs.Records.{event_at}
use Rattle.bench_file.specs.Absent.{event_good, events_good}
use Rattle.bench_file.proofs.Each.{all_below}
use Rattle.bench_file.proofs.events_good.Goals as goal

pub returns : goal.returns
unfolding events_good
returns c =
    let a = c.args in
    all_below (λ (k : ℕ). event_good a.header (event_at a.file.now a.header k)) a.header.events c.all.ensures.ran (λ x b q k. search (rules, tests))
