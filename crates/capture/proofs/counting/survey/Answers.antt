-- What was counted and listed, with what remains, is all of the input.
use Prim.Native.Nat.{◌<◌}
use native.Mathlib.Omega.{arith}
use lib.ListN.{length}
use Rattle.capture.specs.code.Next.{IsFirst}
use Rattle.capture.proofs.HostAfter.{all_left, after_more, after_last, counts_more}
use Rattle.capture.proofs.Listed.{starts_all, starts_more, starts_last, starts_fit}
use Rattle.capture.proofs.counting.survey.Goals as goal

pub loop-hit-init : goal.loop-hit-init
loop-hit-init c = record { inside = omega arith; few = (omega arith, omega arith, omega arith); counted = all_left _; listed = starts_all _ _ }

pub bounds-starts-s : goal.bounds-starts-s
bounds-starts-s c =
    let a = c.args in
    let l = c.loop-hit in
    omega (arith, starts_fit a.input.now l.at l.s.hits c.in-Some.hit c.in-Some.ensures l.invariant.counted.hits_after c.requires.0, l.invariant.listed.same, c.requires.1)

pub loop-hit-smaller : goal.loop-hit-smaller
loop-hit-smaller c =
    let h : IsFirst c.args.input.now c.loop-hit.at c.in-Some.hit = c.in-Some.ensures in
    omega (arith, h.forward, h.inside, h.some)

pub loop-hit-preserved : goal.loop-hit-preserved
loop-hit-preserved c =
    let a = c.args in
    let l = c.loop-hit in
    let h = c.in-Some.hit in
    let is : IsFirst a.input.now l.at h = c.in-Some.ensures in
    let fits = starts_fit a.input.now l.at l.s.hits h is l.invariant.counted.hits_after c.requires.0 in
    let k : l.s.hits < length l.starts = omega (arith, fits, l.invariant.listed.same, c.requires.1) in
    record {
      inside = is.inside;
      few = counts_more a.input.now l.at l.s l.invariant.counted h is c.stretch_count.result c.stretch_count.ensures.0 l.invariant.few;
      counted = after_more a.input.now l.at l.s l.invariant.counted h is c.stretch_count.result c.stretch_count.ensures.0;
      listed = starts_more a.input.now _ l.starts l.at l.s.hits l.invariant.listed h is k;
    }

pub returns : goal.returns
returns c =
    let a = c.args in
    let l = c.loop-hit in
    record {
      counts = after_last a.input.now l.at l.s l.invariant.counted c.in_default.ensures _ c.stretch_count-2.ensures.0;
      listed = starts_last a.input.now _ l.starts l.at l.s.hits l.invariant.listed c.in_default.ensures;
    }
