-- The tests before the scan, the scan of the entries, and the tests after it are the guard's definition.
use mathlib.Core.Path.{sym, ap, ◌∙◌}
use Rattle.host.specs.CallState.{call_state}
use Rattle.host.proofs.Judged.{held_in, looks, guarded}
use Rattle.host.proofs.guard.guard.Goals as goal

pub all_in_range-requires : goal.all_in_range-requires
all_in_range-requires c =
    let a = c.args in
    let x = call_state a.settings.now a.net_table.now a.number a.clock.now a.links.now a.walk.now a.copy.now a.entries.now in
    held_in x a.scope c.in-Some.scan (sym c.held.ensures ∙ c.in-Some.is)

pub returns-in_default : goal.returns-in_default
returns-in_default c =
    let a = c.args in
    let x = call_state a.settings.now a.net_table.now a.number a.clock.now a.links.now a.walk.now a.copy.now a.entries.now in
    guarded x a.scope _ (ap (looks x) (sym c.held.ensures ∙ c.in_default.is))

pub returns-then-not-all_in_range : goal.returns-then-not-all_in_range
returns-then-not-all_in_range c =
    let a = c.args in
    let x = call_state a.settings.now a.net_table.now a.number a.clock.now a.links.now a.walk.now a.copy.now a.entries.now in
    guarded x a.scope _ (ap (looks x) (sym c.held.ensures ∙ c.in-Some.is) ∙ sym c.all_in_range.ensures ∙ c.if-not-all_in_range.true)

pub returns : goal.returns
returns c =
    let a = c.args in
    let x = call_state a.settings.now a.net_table.now a.number a.clock.now a.links.now a.walk.now a.copy.now a.entries.now in
    c.judged.ensures ∙ guarded x a.scope _ (ap (looks x) (sym c.held.ensures ∙ c.in-Some.is) ∙ sym c.all_in_range.ensures ∙ c.if-not-all_in_range.false)
