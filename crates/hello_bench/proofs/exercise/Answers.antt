-- A bench that was set up has a file with a header, of at most 16 hosts.
use native.Mathlib.Omega.{arith}
use Rattle.hello_bench.proofs.Answered.{headed}
use Rattle.hello_bench.proofs.exercise.Goals as goal

pub read_header-h-requires : goal.read_header-h-requires
read_header-h-requires g c = (headed c.args.file.now _ _ _ _ c.set_up-answer.ensures.0 c.from-n.ensures (omega arith)).0

pub events-requires : goal.events-requires
events-requires g c = rw c.read_header-h.ensures (headed c.args.file.now _ _ _ _ c.set_up-answer.ensures.0 c.from-n.ensures (omega arith)).1

pub clocks-requires : goal.clocks-requires
clocks-requires g c = rw c.read_header-h.ensures (headed c.args.file.now _ _ _ _ c.set_up-answer.ensures.0 c.from-n.ensures (omega arith)).1.few_hosts

pub own_entries-requires : goal.own_entries-requires
own_entries-requires g c = rw c.read_header-h.ensures (headed c.args.file.now _ _ _ _ c.set_up-answer.ensures.0 c.from-n.ensures (omega arith)).1.few_hosts
