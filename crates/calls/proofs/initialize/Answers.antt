-- The guard; then the plan by value, its ids placed, and the loop that makes the entries fresh. Clock, links and walk are stored.
use mathlib.Core.Path.{refl}
use Rattle.calls.specs.declared.Request.TheVariants.{Initialize}
use Rattle.host.specs.CallState.{call_state}
use Rattle.host.specs.declared.guard.Scope.TheVariants.{Places}
use Rattle.calls.specs.Perform.{ask}
use Rattle.host.proofs.Guarded.{passed}
use Rattle.calls.proofs.Performed.{worked}
use Rattle.calls.proofs.Renewed.{guard_is, places_fresh}
use Rattle.calls.proofs.Guarding.{passes, refuses}
use Rattle.calls.proofs.initialize.Goals as goal

pub returns-then-refuses : goal.returns-then-refuses
returns-then-refuses c =
    let x = call_state c.args.settings.now c.args.net_table.now c.args.number c.args.clock.now c.args.links.now c.args.walk.now c.args.copy.now c.args.entries.now in
    refuses (ask Initialize) x refl (guard_is x _ c.guard_initialize-g.ensures) c.refuses.ensures c.if-refuses.true c.plainly.ensures

pub initialize-p-requires : goal.initialize-p-requires
initialize-p-requires c =
    let x = call_state c.args.settings.now c.args.net_table.now c.args.number c.args.clock.now c.args.links.now c.args.walk.now c.args.copy.now c.args.entries.now in
    let on = passes (ask Initialize) x refl (guard_is x _ c.guard_initialize-g.ensures) c.refuses.ensures c.if-refuses.false in
    (passed Places x on).settings

pub placed-w-requires : goal.placed-w-requires
placed-w-requires c =
    let x = call_state c.args.settings.now c.args.net_table.now c.args.number c.args.clock.now c.args.links.now c.args.walk.now c.args.copy.now c.args.entries.now in
    let on = passes (ask Initialize) x refl (guard_is x _ c.guard_initialize-g.ensures) c.refuses.ensures c.if-refuses.false in
    rw (c.initialize-p.ensures) (worked x Initialize on).ids

pub fresh_all-requires : goal.fresh_all-requires
fresh_all-requires c =
    let x = call_state c.args.settings.now c.args.net_table.now c.args.number c.args.clock.now c.args.links.now c.args.walk.now c.args.copy.now c.args.entries.now in
    let on = passes (ask Initialize) x refl (guard_is x _ c.guard_initialize-g.ensures) c.refuses.ensures c.if-refuses.false in
    rw (c.placed-w.ensures, c.initialize-p.ensures) (places_fresh x on)

pub returns : goal.returns
returns c =
    let x = call_state c.args.settings.now c.args.net_table.now c.args.number c.args.clock.now c.args.links.now c.args.walk.now c.args.copy.now c.args.entries.now in
    let on = passes (ask Initialize) x refl (guard_is x _ c.guard_initialize-g.ensures) c.refuses.ensures c.if-refuses.false in
    rw (c.fresh_all.ensures, c.placed-w.ensures, c.initialize-p.ensures) (worked x Initialize on).left
