-- The lines read are rows, counted, and in their places while all fit.
use native.Mathlib.Omega.{arith}
use borrow.Author.Tests.{eqb-true, eqb-false}
use mathlib.Core.Path.{sym, ◌∙◌}
use Rattle.text.proofs.RowsLoop.{reading_none, reading_more, form_open, form_other, rows_read}
use Rattle.text.proofs.read.read_rows.Goals as goal

pub loop-rest-init : goal.loop-rest-init
loop-rest-init c = (omega arith, reading_none _ _)

pub returns-in_err-line : goal.returns-in_err-line
returns-in_err-line c =
    let some = eqb-false _ _ (sym c.is_empty.ensures ∙ c.loop-rest-test.true) in
    rw c.from_residual.ensures (form_open c.loop-rest.invariant.1 (omega arith) c.in_err-line.ensures)

pub returns-in_err-row : goal.returns-in_err-row
returns-in_err-row c = rw c.from_residual-in_err-row.ensures (form_other c.loop-rest.invariant.1 c.in_ok-line.ensures c.in_err-row.ensures)

pub loop-rest-preserved : goal.loop-rest-preserved
loop-rest-preserved c =
    let cut = c.in_ok-line.ensures in
    (omega (arith, cut.whole, c.loop-rest.invariant.0), reading_more (omega arith) c.loop-rest.invariant.1 cut c.in_ok-row.ensures c.put_row-fit.ensures)

pub returns : goal.returns
returns c =
    let none = eqb-true _ _ (sym c.is_empty.ensures ∙ c.loop-rest-test.false) in
    rows_read none (omega (arith, c.loop-rest.invariant.0)) c.loop-rest.invariant.1
