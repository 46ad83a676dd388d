-- The hits from the start on are those from `at` on, because every place passed has no hit.
use mathlib.Core.Path.{◌≡◌, sym, ◌∙◌}
use native.Mathlib.Omega.{arith}
use Rattle.capture.proofs.Steps.{at_miss, end_none, found_none, found_size, next_found}
use Rattle.capture.proofs.search.next.Goals as goal

pub returns-in-Some : goal.returns-in-Some
returns-in-Some c =
    let l = c.loop-at in
    let f = found_size _ _ (sym c.hit_at.ensures ∙ c.in-Some.is) in
    next_found c.args.input.now c.args.from l.at c.in-Some.size (omega arith) l.invariant f.0 f.1

pub loop-at-preserved : goal.loop-at-preserved
loop-at-preserved c =
    let l = c.loop-at in
    l.invariant ∙ at_miss c.args.input.now l.at (omega arith) (found_none _ (sym c.hit_at.ensures ∙ c.in_default.is))

pub returns-then-end-input : goal.returns-then-end-input
returns-then-end-input c = c.loop-at.invariant ∙ end_none c.args.input.now c.loop-at.at (omega arith)

pub loop-end-preserved : goal.loop-end-preserved
loop-end-preserved c =
    let e : c.loop-at.at ≡ c.loop-end.end = omega arith in
    let n = c.leap-start.ensures in
    (omega (arith, n.forward), omega (arith, n.inside), omega arith, rw e at c.loop-at.invariant ∙ n.none)

pub loop-end-smaller : goal.loop-end-smaller
loop-end-smaller c = omega (arith, c.leap-start.ensures.forward, c.leap-start.ensures.inside)
