-- A field, then a signed number.
use mathlib.Core.List.{[]}
use Rattle.text.specs.Numerals.{is_signed}
use Rattle.text.proofs.LineWords.{row_bad, row_there}
use Rattle.text.proofs.scan.read_row.Goals as goal

pub returns-in_err-delay : goal.returns-in_err-delay
returns-in_err-delay c = rw c.from_residual.ensures (c.in_err-delay.ensures is_signed [])

pub returns-in_err-offset : goal.returns-in_err-offset
returns-in_err-offset c = rw c.from_residual-in_err-offset.ensures (row_bad c.in_ok-delay.ensures c.in_err-offset.ensures)

pub returns : goal.returns
returns c = row_there c.in_ok-offset.offset c.in_ok-delay.ensures c.in_ok-offset.ensures
