-- The digits are as many as the width says, at most ten.
use native.Mathlib.Omega.{arith}
use mathlib.Core.Path.{ap, ◌∙◌}
use Prim.Native.Nat.{ℕ, ◌+◌}
use Rattle.lists.specs.Lists.{over}
use Rattle.text.specs.Numerals.{digits, numeral}
use Rattle.text.proofs.Widths.{width_held, numeral_length}
use Rattle.text.proofs.Puts.{put}
use Rattle.text.proofs.write.put_number.Goals as goal

pub put_digits-requires : goal.put_digits-requires
put_digits-requires c = omega (arith, width_held c.args.n)

pub overflow_add-result : goal.overflow_add-result
overflow_add-result c = omega (arith, width_held c.args.n)

pub returns-clause-put : goal.returns-clause-put
returns-clause-put c =
    let a = c.args in
    let w = c.width-k in
    let h = width_held a.n in
    put _ _ a.at (a.at + w.result) (numeral a.n) (omega (arith, numeral_length a.n)) (omega arith) (c.put_digits.ensures ∙ ap (λ (k : ℕ). over a.text.now a.at (digits k a.n)) w.ensures)

pub returns-clause-upper_bound : goal.returns-clause-upper_bound
returns-clause-upper_bound c =
    let h = width_held c.args.n in
    omega arith
