-- By how line (c) comes out.
use mathlib.Core.Path.{◌∙◌, sym, ap}
use Rattle.table.specs.declared.Update.{Update}
use Rattle.table.specs.Forms.{flow_of}
use Rattle.table.specs.Update.{line_c}
use Rattle.walk.proofs.Outcomes.{c_ends, c_goes_on}
use Rattle.walk.proofs.lines.box_c.Goals as goal

pub returns-in-Break : goal.returns-in-Break
returns-in-Break c = rw (c.next_id.ensures, c.put.ensures) (c_ends _ _ _ _ _ _ (sym c.in-Break.is ∙ c.line_c.ensures ∙ ap (λ (u : Update). flow_of (line_c u c.args.e)) c.line_update.ensures.0))

pub returns-in-Continue : goal.returns-in-Continue
returns-in-Continue c = rw c.after_c.ensures (c_goes_on _ _ _ _ _ _ (sym c.in-Continue.is ∙ c.line_c.ensures ∙ ap (λ (u : Update). flow_of (line_c u c.args.e)) c.line_update.ensures.0))
