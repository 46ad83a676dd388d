-- The guard, then the plan by value; the clock is stored.
use mathlib.Core.Path.{refl}
use Rattle.calls.specs.declared.Request.TheVariants.{Adjust}
use Rattle.calls.specs.Perform.{ask}
use Rattle.calls.proofs.HostAfter.{host_good, after_timed, adjust_quiet}
use Rattle.calls.proofs.Guarding.{passes, refuses}
use Rattle.calls.proofs.adjust.Goals as goal

pub returns-then-refuses : goal.returns-then-refuses
returns-then-refuses c =
    refuses (ask (Adjust c.args.count)) _ refl c.guard-g.ensures c.refuses.ensures c.if-refuses.true c.plainly.ensures

pub invariant_of-h : goal.invariant_of-h
invariant_of-h c =
    let on = passes (ask (Adjust c.args.count)) _ refl c.guard-g.ensures c.refuses.ensures c.if-refuses.false in
    rw c.host_of.ensures (host_good _ on)

pub returns : goal.returns
returns c =
    let on = passes (ask (Adjust c.args.count)) _ refl c.guard-g.ensures c.refuses.ensures c.if-refuses.false in
    after_timed _ (Adjust c.args.count) on (adjust_quiet c.args.count) _ (rw c.host_of.ensures at c.adjust-p.ensures)
