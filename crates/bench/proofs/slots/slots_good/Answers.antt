-- `all` tests the slots' numbers as the definition does.
use Rattle.std.proofs.Common.{rules, tests}
use Rattle.bench_file.proofs.Each.{all_below}
use Rattle.bench.specs.Slots.{slot_good, slots_good}
use Rattle.bench.proofs.slots.slots_good.Goals as goal

pub returns : goal.returns
unfolding slots_good
returns c = let a = c.args in all_below (slot_good a.h a.octets.now) 32 c.all.ensures.ran (λ x b q k. search (rules, tests))
