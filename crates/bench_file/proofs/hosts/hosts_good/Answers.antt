-- `all` tests the hosts' numbers as the definition does.
use Rattle.std.proofs.Common.{rules, tests, ℕ}
use Rattle.bench_file.specs.Settings.{host_record, host_good, hosts_good}
use Rattle.bench_file.proofs.Each.{all_below}
use Rattle.bench_file.proofs.hosts.hosts_good.Goals as goal

pub returns : goal.returns
unfolding hosts_good
returns c =
    let a = c.args in
    all_below (λ (k : ℕ). host_good a.table (host_record a.file.now k)) a.header.hosts c.all.ensures.ran (λ x b q k. search (rules, tests))
