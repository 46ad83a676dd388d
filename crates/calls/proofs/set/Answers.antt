-- The guard, then the plan by value; the clock is stored.
use mathlib.Core.Path.{refl, subst}
use lib.IntN.{ℤ}
use mir.ValLaws.{to_z-of_z}
use mir.Syntax.{w32}
use mir.Val.{SFits}
use borrow.Author.Rules.{rules}
use Rattle.host.specs.CallState.{host}
use Rattle.calls.specs.code.Planned.{Timely}
use Rattle.calls.specs.declared.Request.TheVariants.{Set}
use Rattle.calls.specs.Perform.{ask}
use Rattle.calls.proofs.HostAfter.{host_good, after_timed, set_quiet}
use Rattle.calls.proofs.Guarding.{passes, refuses}
use Rattle.calls.proofs.set.Goals as goal

pub returns-then-refuses : goal.returns-then-refuses
returns-then-refuses c =
    refuses (ask (Set c.args.ms c.args.count)) _ refl c.guard-g.ensures c.refuses.ensures c.if-refuses.true c.plainly.ensures

pub invariant_of-h : goal.invariant_of-h
invariant_of-h c =
    let on = passes (ask (Set c.args.ms c.args.count)) _ refl c.guard-g.ensures c.refuses.ensures c.if-refuses.false in
    rw c.host_of.ensures (host_good _ on)

pub returns : goal.returns
returns c =
    let on = passes (ask (Set c.args.ms c.args.count)) _ refl c.guard-g.ensures c.refuses.ensures c.if-refuses.false in
    let f : SFits w32 c.args.ms = search rules in
    let is = subst (λ (z : ℤ). Timely c.set-p.result (Set z c.args.count) (host c.args.settings.now c.args.clock.now c.args.links.now)) (to_z-of_z w32 c.args.ms f) (rw c.host_of.ensures at c.set-p.ensures) in
    after_timed _ (Set c.args.ms c.args.count) on (set_quiet c.args.ms c.args.count) _ is
