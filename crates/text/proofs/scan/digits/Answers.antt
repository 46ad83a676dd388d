-- The digits passed are digits, and the number so far is theirs.
use native.Mathlib.Omega.{arith}
use mathlib.Core.Path.{refl, sym, ◌∙◌}
use Prim.Native.Nat.{◌≤◌}
use lib.ListN.{length}
use lib.Seq.{take_all}
use Rattle.text.specs.Numerals.{value}
use Rattle.text.proofs.Values.{digits_more, digits_stop, digits_end, value_more}
use Rattle.text.proofs.scan.digits.Goals as goal

pub loop-c-init : goal.loop-c-init
unfolding value
loop-c-init c = (refl, refl)

pub returns-then-not-is_ascii_digit : goal.returns-then-not-is_ascii_digit
returns-then-not-is_ascii_digit c =
    let l = c.loop-c in
    l.invariant.0 ∙ digits_stop c.args.s.now l.c-index c.loop-c-test.true (sym c.is_ascii_digit.ensures.value ∙ c.if-not-is_ascii_digit.true)

pub loop-c-preserved : goal.loop-c-preserved
loop-c-preserved c =
    let s = c.args.s.now in
    let l = c.loop-c in
    let t = c.loop-c-test.true in
    (l.invariant.0 ∙ digits_more s l.c-index t (sym c.is_ascii_digit.ensures.value ∙ c.if-not-is_ascii_digit.false), rw (value_more s l.c-index t) (c.more-value.ensures _ l.invariant.1))

pub returns : goal.returns
returns c =
    let s = c.args.s.now in
    let l = c.loop-c in
    let h : length s ≤ l.c-index = omega arith in
    (l.invariant.0 ∙ digits_end s l.c-index h, rw (take_all l.c-index s h) at l.invariant.1)
