-- Four fields, one after the other, then a number.
use mathlib.Core.List.{[], ◌∷◌}
use Rattle.text.specs.Numerals.{is_numeral}
use Rattle.text.proofs.LineWords.{numbers_second, numbers_third, numbers_fourth, numbers_last, numbers_there}
use Rattle.text.proofs.scan.read_numbers.Goals as goal

pub returns-in_err-date : goal.returns-in_err-date
returns-in_err-date c = rw c.from_residual.ensures (c.in_err-date.ensures is_numeral (is_numeral ∷ is_numeral ∷ is_numeral ∷ []))

pub returns-in_err-time : goal.returns-in_err-time
returns-in_err-time c = rw c.from_residual-in_err-time.ensures (numbers_second c.in_ok-date.ensures c.in_err-time.ensures)

pub returns-in_err-tsp : goal.returns-in_err-tsp
returns-in_err-tsp c = rw c.from_residual-in_err-tsp.ensures (numbers_third c.in_ok-date.ensures c.in_ok-time.ensures c.in_err-tsp.ensures)

pub returns-in_err-base : goal.returns-in_err-base
returns-in_err-base c = rw c.from_residual-in_err-base.ensures (numbers_fourth c.in_ok-date.ensures c.in_ok-time.ensures c.in_ok-tsp.ensures c.in_err-base.ensures)

pub returns-in_err-count : goal.returns-in_err-count
returns-in_err-count c = rw c.from_residual-in_err-count.ensures (numbers_last c.in_ok-date.ensures c.in_ok-time.ensures c.in_ok-tsp.ensures c.in_ok-base.ensures c.in_err-count.ensures)

pub returns : goal.returns
returns c = numbers_there c.in_ok-date.ensures c.in_ok-time.ensures c.in_ok-tsp.ensures c.in_ok-base.ensures c.in_ok-count.count c.in_ok-count.ensures.0 c.in_ok-count.ensures.1
