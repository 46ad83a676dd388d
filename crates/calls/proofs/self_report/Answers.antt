-- The guard, then the plan by value, its ids placed, and the loop that changes the entries; the clock is stored.
use mathlib.Core.Path.{refl}
use Rattle.calls.specs.declared.Request.TheVariants.{SelfReport}
use Rattle.calls.specs.Perform.{ask}
use Rattle.calls.proofs.HostAfter.{host_good, after_aged, self_report_still}
use Rattle.calls.proofs.Guarding.{passes, refuses}
use Rattle.calls.proofs.self_report.Goals as goal

pub returns-then-refuses : goal.returns-then-refuses
returns-then-refuses c =
    refuses (ask (SelfReport c.args.counter)) _ refl c.guard-g.ensures c.refuses.ensures c.if-refuses.true c.plainly.ensures

pub invariant_of-h : goal.invariant_of-h
invariant_of-h c =
    let on = passes (ask (SelfReport c.args.counter)) _ refl c.guard-g.ensures c.refuses.ensures c.if-refuses.false in
    rw c.host_of.ensures (host_good _ on)

pub placed-w-requires : goal.placed-w-requires
placed-w-requires c =
    let on = passes (ask (SelfReport c.args.counter)) _ refl c.guard-g.ensures c.refuses.ensures c.if-refuses.false in
    (after_aged _ (SelfReport c.args.counter) on (self_report_still c.args.counter) _ (rw c.host_of.ensures at c.self_report-p.ensures)).ids

pub change_all-requires : goal.change_all-requires
change_all-requires c =
    let on = passes (ask (SelfReport c.args.counter)) _ refl c.guard-g.ensures c.refuses.ensures c.if-refuses.false in
    rw (c.placed-w.ensures) (after_aged _ (SelfReport c.args.counter) on (self_report_still c.args.counter) _ (rw c.host_of.ensures at c.self_report-p.ensures)).places

pub returns : goal.returns
returns c =
    let on = passes (ask (SelfReport c.args.counter)) _ refl c.guard-g.ensures c.refuses.ensures c.if-refuses.false in
    rw (c.change_all.ensures, c.placed-w.ensures) (after_aged _ (SelfReport c.args.counter) on (self_report_still c.args.counter) _ (rw c.host_of.ensures at c.self_report-p.ensures)).left
