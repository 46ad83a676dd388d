-- One digit, or several with another first than zero.
use mathlib.Core.Path.{sym, ◌∙◌}
use native.Mathlib.Omega.{arith}
use borrow.Author.Tests.{eqb-true, eqb-false}
use Rattle.text.proofs.Readings.{same_test, nothing, one_digit, zero_ahead, many_digits}
use Rattle.text.specs.Numerals.{all_digits, is_numeral}
use Rattle.text.proofs.scan.read_number.Goals as goal

pub returns-then-is_empty : goal.returns-then-is_empty
returns-then-is_empty c = nothing c.args.s.now (eqb-true _ _ (sym c.is_empty.ensures ∙ c.if-is_empty.true))

pub returns-then-s-eq1 : goal.returns-then-s-eq1
returns-then-s-eq1 c = let s = c.args.s.now in same_test all_digits is_numeral s _ (one_digit s c.if-s-eq1.true) c.digits.ensures

pub returns-then-s-eq48 : goal.returns-then-s-eq48
returns-then-s-eq48 c = let h = eqb-false _ _ (sym c.is_empty.ensures ∙ c.if-is_empty.false) in zero_ahead c.args.s.now (omega arith) c.if-s-eq48.true

pub returns : goal.returns
returns c =
    let s = c.args.s.now in
    let h = eqb-false _ _ (sym c.is_empty.ensures ∙ c.if-is_empty.false) in
    same_test all_digits is_numeral s _ (many_digits s (omega arith) c.if-s-eq48.false) c.digits-2.ensures
