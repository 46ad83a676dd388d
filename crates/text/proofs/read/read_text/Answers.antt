-- A text of the form is refused for its numbers alone; what passes is put together.
use mathlib.Core.Path.{sym, ◌∙◌}
use native.Mathlib.Omega.{arith}
use borrow.Author.Tests.{not-true, not-false}
use Rattle.text.proofs.Verdict.{bad_form, first_range, rows_range, few, text_read}
use Rattle.text.proofs.read.read_text.Goals as goal

pub returns-in_default : goal.returns-in_default
returns-in_default c = bad_form c.args.text.now c.in_default.ensures

pub returns-then-not-first_fits : goal.returns-then-not-first_fits
returns-then-not-first_fits c = first_range c.in-Some.ensures (sym c.first_fits.ensures ∙ c.if-not-first_fits.true)

pub returns-then-not-rows : goal.returns-then-not-rows
returns-then-not-rows c = rows_range c.in-Some.ensures (not-true _ c.if-not-rows.true)

pub put_checksum-requires-clause-n_in_bounds : goal.put_checksum-requires-clause-n_in_bounds
put_checksum-requires-clause-n_in_bounds c = omega (arith, few c.in-Some.ensures (sym c.first_fits.ensures ∙ c.if-not-first_fits.false))

pub returns : goal.returns
returns c =
    text_read c.in-Some.ensures (sym c.first_fits.ensures ∙ c.if-not-first_fits.false) c.put_fixed.new.message c.put_checksum.new.message (omega arith) c.put_checksum.array_long (not-false _ c.if-not-rows.false) c.put_fixed.ensures c.put_checksum.ensures
