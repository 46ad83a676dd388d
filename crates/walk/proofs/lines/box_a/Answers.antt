-- By how line (a) comes out.
use mathlib.Core.Path.{◌∙◌, sym, ap}
use Rattle.table.specs.declared.Update.{Update}
use Rattle.table.specs.Forms.{flow_of}
use Rattle.table.specs.Update.{line_a}
use Rattle.walk.proofs.Outcomes.{a_ends, a_goes_on}
use Rattle.walk.proofs.lines.box_a.Goals as goal

pub returns-in-Break : goal.returns-in-Break
returns-in-Break c = rw (c.next_id.ensures, c.nothing.ensures) (a_ends _ _ _ _ _ _ (sym c.in-Break.is ∙ c.line_a.ensures ∙ ap (λ (u : Update). flow_of (line_a u c.args.e)) c.line_update.ensures.0))

pub returns-in-Continue : goal.returns-in-Continue
returns-in-Continue c = rw (c.onward.ensures, c.nothing-in-Continue.ensures, c.at.ensures) (a_goes_on _ _ _ _ _ _ (sym c.in-Continue.is ∙ c.line_a.ensures ∙ ap (λ (u : Update). flow_of (line_a u c.args.e)) c.line_update.ensures.0))
