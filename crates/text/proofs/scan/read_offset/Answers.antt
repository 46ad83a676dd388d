-- A sign and a number that is not zero, or a number.
use mathlib.Core.Path.{sym, ◌∙◌}
use borrow.Author.Tests.{eqb-true}
use Rattle.text.proofs.Readings.{from_on, empty_offset, minus_none, minus_zero, minus_offset, plain_none, plain_offset}
use Rattle.text.proofs.scan.read_offset.Goals as goal

pub returns-then-is_empty : goal.returns-then-is_empty
returns-then-is_empty c = empty_offset c.args.s.now (eqb-true _ _ (sym c.is_empty.ensures ∙ c.if-is_empty.true))

pub returns-in_err-size : goal.returns-in_err-size
returns-in_err-size c = rw c.from_residual.ensures (plain_none c.args.s.now c.if-s-ne45.true c.in_err-size.ensures)

pub returns-then-s-ne45 : goal.returns-then-s-ne45
returns-then-s-ne45 c = plain_offset c.args.s.now c.in_ok-size.size c.if-s-ne45.true c.in_ok-size.ensures.0 c.in_ok-size.ensures.1

pub returns-in_err-size-2 : goal.returns-in_err-size-2
returns-in_err-size-2 c = let s = c.args.s.now in rw c.from_residual-in_err-size-2.ensures (minus_none s c.if-s-ne45.false (rw (from_on 1 s) at c.in_err-size-2.ensures))

pub returns-then-size-eq0 : goal.returns-then-size-eq0
returns-then-size-eq0 c = let s = c.args.s.now in minus_zero s _ c.if-s-ne45.false c.if-size-eq0.true (rw (from_on 1 s) at c.in_ok-size-2.ensures.1)

pub returns : goal.returns
returns c = let s = c.args.s.now in minus_offset s _ c.if-s-ne45.false c.if-size-eq0.false (rw (from_on 1 s) at c.in_ok-size-2.ensures.0) (rw (from_on 1 s) at c.in_ok-size-2.ensures.1)
