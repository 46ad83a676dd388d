-- A row that fits is put, one that does not is not.
use mathlib.Core.Path.{sym, ◌∙◌}
use native.Mathlib.Omega.{arith}
use Rattle.text.specs.code.Reading.{row_returned}
use Rattle.text.proofs.Ranges.{row_put}
use Rattle.text.proofs.read.put_row.Goals as goal

pub returns : goal.returns
returns c = let a = c.args in rw c.if-not-fit.false (row_put a.message.now _ _ a.i _ (row_returned a.r) (omega arith) (omega arith) (sym c.row_fits.ensures ∙ c.if-not-row_fits.false) c.put_two.ensures c.offset_bits.ensures c.put_two-2.ensures)
