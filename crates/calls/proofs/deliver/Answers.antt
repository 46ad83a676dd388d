-- The guard; then the arrival by value, its ids placed, and the loop that updates the entries. Clock and links are stored.
use mathlib.Core.Path.{ap}
use Rattle.host.specs.declared.guard.Scope.TheVariants.{OnLink}
use Rattle.calls.specs.Perform as definition
use Rattle.calls.proofs.Delivered.{host_good, deliverable, delivered}
use Rattle.calls.proofs.Guarding.{passes, refuses}
use Rattle.calls.proofs.deliver.Goals as goal

pub returns-then-refuses : goal.returns-then-refuses
returns-then-refuses c =
    refuses (definition.deliver c.args.delivery c.args.packet.now) _ (ap OnLink c.on_link.ensures) c.guard-g.ensures c.refuses.ensures c.if-refuses.true c.plainly.ensures

pub invariant_of-h : goal.invariant_of-h
invariant_of-h c =
    let on = passes (definition.deliver c.args.delivery c.args.packet.now) _ (ap OnLink c.on_link.ensures) c.guard-g.ensures c.refuses.ensures c.if-refuses.false in
    rw c.host_of.ensures (host_good _ c.args.delivery c.args.packet.now on)

pub deliver-p-requires : goal.deliver-p-requires
deliver-p-requires c =
    let on = passes (definition.deliver c.args.delivery c.args.packet.now) _ (ap OnLink c.on_link.ensures) c.guard-g.ensures c.refuses.ensures c.if-refuses.false in
    rw c.host_of.ensures (deliverable _ c.args.delivery c.args.packet.now on)

pub updates_at-w-requires : goal.updates_at-w-requires
updates_at-w-requires c =
    let on = passes (definition.deliver c.args.delivery c.args.packet.now) _ (ap OnLink c.on_link.ensures) c.guard-g.ensures c.refuses.ensures c.if-refuses.false in
    (delivered _ c.args.delivery c.args.packet.now on _ (rw c.host_of.ensures at c.deliver-p.ensures)).ids

pub update_all-requires : goal.update_all-requires
update_all-requires c =
    let on = passes (definition.deliver c.args.delivery c.args.packet.now) _ (ap OnLink c.on_link.ensures) c.guard-g.ensures c.refuses.ensures c.if-refuses.false in
    rw (c.updates_at-w.ensures) (delivered _ c.args.delivery c.args.packet.now on _ (rw c.host_of.ensures at c.deliver-p.ensures)).there

pub returns : goal.returns
returns c =
    let on = passes (definition.deliver c.args.delivery c.args.packet.now) _ (ap OnLink c.on_link.ensures) c.guard-g.ensures c.refuses.ensures c.if-refuses.false in
    rw (c.update_all.ensures.0, c.update_all.ensures.1, c.updates_at-w.ensures) (delivered _ c.args.delivery c.args.packet.now on _ (rw c.host_of.ensures at c.deliver-p.ensures)).left
