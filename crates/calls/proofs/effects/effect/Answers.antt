-- Each request's planner meets the definition of that request.
use mathlib.Core.Path.{◌∙◌, ap}
use lib.IntN.{ℤ}
use mir.ValLaws.{to_z-of_z}
use mir.Syntax.{w32}
use mir.Val.{SFits}
use Rattle.quantity.specs.Quantity.{millis}
use Rattle.host.specs.declared.Links.{Links}
use Rattle.host.specs.declared.walk.Walk.{Walk}
use Rattle.host.specs.declared.Effect.{Effect}
use Rattle.host.specs.Effect.{answers}
use Rattle.calls.specs.declared.plans.Timed.{Timed}
use Rattle.calls.specs.declared.plans.Aged.{Aged}
use Rattle.calls.specs.Effects as definition
use borrow.Author.Rules.{rules}
use Rattle.calls.proofs.effects.effect.Goals as goal

abbrev timed : Links → Walk → Timed → Effect
timed l w p = answers p.reply p.clock l w

abbrev aged : Links → Walk → Aged → Effect
aged l w p = record { reply = p.reply; clock = p.clock; links = l; walk = w; work = p.work }

pub returns-in-Tick : goal.returns-in-Tick
unfolding definition.tick
returns-in-Tick c =
    let a = c.args in
    rw c.in-Tick.is
    (c.timed.ensures ∙ ap (timed a.host.links a.w) (c.tick.ensures a.t.now a.w a.copy.now a.e))

pub returns-in-Adjust : goal.returns-in-Adjust
unfolding definition.adjust
returns-in-Adjust c =
    let a = c.args in
    rw c.in-Adjust.is
    (c.timed-in-Adjust.ensures ∙ ap (timed a.host.links a.w) (c.adjust.ensures a.t.now a.w a.copy.now a.e))

pub returns-in-Set : goal.returns-in-Set
unfolding definition.set_by
returns-in-Set c =
    let a = c.args in
    let ms = c.in-Set.ms in
    let f : SFits w32 ms = search rules in
    rw c.in-Set.is
    (c.timed-in-Set.ensures
    ∙ ap (timed a.host.links a.w) (c.set.ensures a.t.now a.w a.copy.now a.e)
    ∙ ap (λ (z : ℤ). definition.set_by (millis z) c.in-Set.n a.host a.w) (to_z-of_z w32 ms f))

pub returns-in-Read : goal.returns-in-Read
unfolding definition.read
returns-in-Read c =
    let a = c.args in
    rw c.in-Read.is
    (c.timed-in-Read.ensures ∙ ap (timed a.host.links a.w) (c.read.ensures a.t.now a.w a.copy.now a.e))

pub returns-in-Second : goal.returns-in-Second
unfolding definition.second
returns-in-Second c =
    let a = c.args in
    rw c.in-Second.is
    (c.aged.ensures ∙ ap (aged a.host.links a.w) (c.second.ensures a.t.now a.w a.copy.now a.e))

pub returns-in-Lookup : goal.returns-in-Lookup
unfolding definition.lookup
returns-in-Lookup c = rw (c.in-Lookup.is, ← c.found_for.ensures, ← c.looked.ensures) c.answers.ensures
