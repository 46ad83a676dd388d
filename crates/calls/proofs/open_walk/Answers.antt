-- The guard; then the walk by value, and the copy of the packet.
use mathlib.Core.Path.{refl}
use Rattle.calls.specs.Perform.{open_walk}
use Rattle.calls.proofs.Opened.{openable, opened}
use Rattle.calls.proofs.Guarding.{passes, refuses}
use Rattle.calls.proofs.open_walk.Goals as goal

pub returns-then-refuses : goal.returns-then-refuses
returns-then-refuses c =
    refuses (open_walk c.args.link c.args.packet.now) _ refl c.guard-g.ensures c.refuses.ensures c.if-refuses.true c.plainly.ensures

pub invariant_of-i : goal.invariant_of-i
invariant_of-i c =
    let on = passes (open_walk c.args.link c.args.packet.now) _ refl c.guard-g.ensures c.refuses.ensures c.if-refuses.false in
    let z = openable _ c.args.link c.args.packet.now on in
    record { from_one = z.0; to_eight = z.1 }

pub keep-requires : goal.keep-requires
keep-requires c =
    let on = passes (open_walk c.args.link c.args.packet.now) _ refl c.guard-g.ensures c.refuses.ensures c.if-refuses.false in
    (opened _ c.args.link c.args.packet.now on _ c.opened_by-p.ensures).room

pub returns : goal.returns
returns c =
    let on = passes (open_walk c.args.link c.args.packet.now) _ refl c.guard-g.ensures c.refuses.ensures c.if-refuses.false in
    rw (c.keep.ensures) (opened _ c.args.link c.args.packet.now on _ c.opened_by-p.ensures).left
