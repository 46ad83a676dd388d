-- The clock is set by the count of ms, whatever links, walk and table are.
use mir.ValLaws.{to_z-of_z}
use mir.Syntax.{w32}
use mir.Val.{SFits}
use Rattle.calls.specs.Effects as definition
use borrow.Author.Rules.{rules}
use Rattle.calls.proofs.plans.set.Goals as goal

pub returns : goal.returns
unfolding definition.set_by
returns c t w o e =
    let a = c.args in
    let f : SFits w32 a.ms = search rules in
    rw (c.plainly.ensures, c.set_by.ensures, c.from.ensures, to_z-of_z w32 a.ms f)
