-- The tests come in the definition's order.
use native.Mathlib.Omega.{arith}
use Rattle.text.proofs.Verdict.{nothing_read, first_refused, rows_refused, count_refused, form_read}
use Rattle.text.proofs.read.read_form.Goals as goal

pub returns-in_err-line : goal.returns-in_err-line
returns-in_err-line c = rw c.from_residual.ensures (nothing_read c.args.text.now c.in_err-line.ensures)

pub returns-in_err-first : goal.returns-in_err-first
returns-in_err-first c = rw c.from_residual-in_err-first.ensures (first_refused c.in_ok-line.ensures c.in_err-first.ensures)

pub returns-in_err-rows : goal.returns-in_err-rows
returns-in_err-rows c = rw c.from_residual-in_err-rows.ensures (rows_refused c.in_ok-line.ensures c.in_ok-first.ensures c.in_err-rows.ensures)

pub returns-then-rows-first : goal.returns-then-rows-first
returns-then-rows-first c = count_refused c.in_ok-line.ensures c.in_ok-first.ensures c.in_ok-rows.ensures (omega arith) c.if-rows-first.true

pub returns : goal.returns
returns c = form_read c.in_ok-line.ensures c.in_ok-first.ensures c.in_ok-rows.ensures (omega arith) c.if-rows-first.false
