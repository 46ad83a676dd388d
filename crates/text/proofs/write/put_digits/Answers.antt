-- The digits are written from the last to the first. Those that remain, with those written, are the number.
use mathlib.Core.Path.{sym, ◌∙◌}
use native.Mathlib.Omega.{arith}
use lib.ListN.{length-set}
use Rattle.text.proofs.Puts.{digits_turn, digits_none}
use Rattle.text.proofs.write.put_digits.Goals as goal

pub loop-j-preserved : goal.loop-j-preserved
loop-j-preserved c =
    let l = c.loop-j in
    let a = c.args in
    (simp length-set l.invariant.0, digits_turn l.text a.at l.j l.rest (omega arith) (omega arith) ∙ l.invariant.1)

pub returns : goal.returns
returns c = let l = c.loop-j in let a = c.args in sym (digits_none l.text a.at l.j l.rest (omega arith)) ∙ l.invariant.1
