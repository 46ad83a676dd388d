-- The guard, then the inspection.
use mathlib.Core.Path.{refl}
use Rattle.calls.specs.Perform as definition
use Rattle.calls.proofs.HostAfter.{on_a_link, after_inspected}
use Rattle.calls.proofs.Guarding.{passes, refuses}
use Rattle.calls.proofs.inspect.Goals as goal

pub returns-then-refuses : goal.returns-then-refuses
returns-then-refuses c =
    refuses (definition.inspect c.args.link c.args.packet.now) _ refl c.guard-g.ensures c.refuses.ensures c.if-refuses.true c.plainly.ensures

pub invariant_of-i : goal.invariant_of-i
invariant_of-i c =
    let on = passes (definition.inspect c.args.link c.args.packet.now) _ refl c.guard-g.ensures c.refuses.ensures c.if-refuses.false in
    let z = on_a_link _ c.args.link c.args.packet.now on in
    record { from_one = z.0; to_eight = z.1 }

pub returns : goal.returns
returns c =
    let on = passes (definition.inspect c.args.link c.args.packet.now) _ refl c.guard-g.ensures c.refuses.ensures c.if-refuses.false in
    rw (c.inspect.ensures) (after_inspected _ c.args.link c.args.packet.now on)
