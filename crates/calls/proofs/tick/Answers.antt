-- The guard, then the plan by value; the clock is stored.
use mathlib.Core.Path.{refl}
use Rattle.calls.specs.declared.Request.TheVariants.{Tick}
use Rattle.calls.specs.Perform.{ask}
use Rattle.calls.proofs.HostAfter.{host_good, after_timed, tick_quiet}
use Rattle.calls.proofs.Guarding.{passes, refuses}
use Rattle.calls.proofs.tick.Goals as goal

pub returns-then-refuses : goal.returns-then-refuses
returns-then-refuses c =
    refuses (ask (Tick c.args.count)) _ refl c.guard-g.ensures c.refuses.ensures c.if-refuses.true c.plainly.ensures

pub invariant_of-h : goal.invariant_of-h
invariant_of-h c =
    let on = passes (ask (Tick c.args.count)) _ refl c.guard-g.ensures c.refuses.ensures c.if-refuses.false in
    rw c.host_of.ensures (host_good _ on)

pub returns : goal.returns
returns c =
    let on = passes (ask (Tick c.args.count)) _ refl c.guard-g.ensures c.refuses.ensures c.if-refuses.false in
    after_timed _ (Tick c.args.count) on (tick_quiet c.args.count) _ (rw c.host_of.ensures at c.tick-p.ensures)
