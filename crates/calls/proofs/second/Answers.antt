-- The guard, then the plan by value, its ids placed, and the loop that changes the entries; the clock is stored.
use mathlib.Core.Path.{refl}
use Rattle.calls.specs.declared.Request.TheVariants.{Second}
use Rattle.calls.specs.Perform.{ask}
use Rattle.calls.proofs.HostAfter.{after_aged, second_still}
use Rattle.calls.proofs.Guarding.{passes, refuses}
use Rattle.calls.proofs.second.Goals as goal

pub returns-then-refuses : goal.returns-then-refuses
returns-then-refuses c =
    refuses (ask Second) _ refl c.guard-g.ensures c.refuses.ensures c.if-refuses.true c.plainly.ensures

pub placed-w-requires : goal.placed-w-requires
placed-w-requires c =
    let on = passes (ask Second) _ refl c.guard-g.ensures c.refuses.ensures c.if-refuses.false in
    (after_aged _ Second on second_still _ (rw c.host_of.ensures at c.second-p.ensures)).ids

pub change_all-requires : goal.change_all-requires
change_all-requires c =
    let on = passes (ask Second) _ refl c.guard-g.ensures c.refuses.ensures c.if-refuses.false in
    rw (c.placed-w.ensures) (after_aged _ Second on second_still _ (rw c.host_of.ensures at c.second-p.ensures)).places

pub returns : goal.returns
returns c =
    let on = passes (ask Second) _ refl c.guard-g.ensures c.refuses.ensures c.if-refuses.false in
    rw (c.change_all.ensures, c.placed-w.ensures) (after_aged _ Second on second_still _ (rw c.host_of.ensures at c.second-p.ensures)).left
