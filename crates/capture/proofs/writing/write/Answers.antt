-- What was written, with what remains, is both outputs.
use mathlib.Core.Path.{◌≡◌, ap, ◌∙◌}
use Prim.Native.Nat.{◌+◌, ◌-◌, ◌*◌, ◌≤◌}
use native.Mathlib.Omega.{arith}
use lib.ListN.{length, get_or}
use Rattle.lists.specs.Lists.{over}
use Rattle.lists.proofs.Parts.{part_length}
use Rattle.wire.specs.Octets.{four}
use Rattle.capture.specs.Search.{hits}
use Rattle.capture.specs.Capture.{recovered_capture}
use Rattle.capture.proofs.Listed.{listed_all, listed_long, listed_end, listed_some, listed_as}
use Rattle.capture.proofs.Outputs.{capture_long, capture_all, capture_fits, capture_more, capture_last, capture_whole, stretches_all, stretch_fits, stretches_more, last_fits, stretches_last}
use Rattle.capture.proofs.writing.write.Goals as goal

pub put_four-requires : goal.put_four-requires
put_four-requires c = omega (arith, c.requires.capture_fits, capture_long c.args.input.now)

pub overflow_add-to : goal.overflow_add-to
overflow_add-to c = omega (arith, c.requires.capture_fits, listed_long c.args.input.now c.args.starts.now c.requires.listed, capture_long c.args.input.now)

pub loop-k-init : goal.loop-k-init
loop-k-init c =
    let a = c.args in
    let p = c.requires in
    let fits : length (recovered_capture a.input.now) ≤ length c.put_four.new.s = omega (arith, p.capture_fits) in
    record {
      listed = listed_all a.input.now a.starts.now p.listed;
      packets = rw (listed_long a.input.now a.starts.now p.listed) (capture_all a.input.now _ fits);
      passed = stretches_all a.input.now _;
    }

pub two_at-size-requires : goal.two_at-size-requires
two_at-size-requires c =
    let l = c.loop-k in
    omega (arith, (listed_some c.args.input.now c.args.starts.now l.at l.k l.invariant.listed (omega arith)).1)

pub put_stretch-end-requires : goal.put_stretch-end-requires
put_stretch-end-requires c =
    let a = c.args in
    let l = c.loop-k in
    let n = listed_as a.input.now a.starts.now l.at l.k l.invariant.listed (omega arith) c.two_at-size.result c.two_at-size.ensures in
    stretch_fits a.input.now _ l.stretches l.at l.end l.invariant.passed c.requires.stretches_fit _ n.0

pub put_four-requires-in-loop-k : goal.put_four-requires-in-loop-k
put_four-requires-in-loop-k c =
    let a = c.args in
    let l = c.loop-k in
    let n = listed_as a.input.now a.starts.now l.at l.k l.invariant.listed (omega arith) c.two_at-size.result c.two_at-size.ensures in
    omega (arith, capture_fits a.input.now _ l.capture l.at (4 + 4 * l.k) l.to l.invariant.packets _ n.0)

pub slice_bounds-copy-end : goal.slice_bounds-copy-end
slice_bounds-copy-end c =
    let a = c.args in
    let l = c.loop-k in
    let n = listed_as a.input.now a.starts.now l.at l.k l.invariant.listed (omega arith) c.two_at-size.result c.two_at-size.ensures in
    omega (arith, n.0.inside)

pub copy-requires : goal.copy-requires
copy-requires c =
    let a = c.args in
    let l = c.loop-k in
    let size = c.two_at-size.result in
    let start = get_or a.starts.now l.k 0 in
    let n = listed_as a.input.now a.starts.now l.at l.k l.invariant.listed (omega arith) size c.two_at-size.ensures in
    let f = capture_fits a.input.now _ l.capture l.at (4 + 4 * l.k) l.to l.invariant.packets _ n.0 in
    let e : start + size - start ≡ size = omega arith in
    rw e (omega (arith, f.1, part_length start size a.input.now n.0.inside))

pub loop-k-preserved : goal.loop-k-preserved
loop-k-preserved c =
    let a = c.args in
    let l = c.loop-k in
    let size = c.two_at-size.result in
    let start = get_or a.starts.now l.k 0 in
    let n = listed_as a.input.now a.starts.now l.at l.k l.invariant.listed (omega arith) size c.two_at-size.ensures in
    let e : start + size - start ≡ size = omega arith in
    let m : 4 + 4 * l.k + 4 ≡ 4 + 4 * (l.k + 1) = omega arith in
    record {
      listed = n.1;
      packets = rw m at (capture_more a.input.now _ l.capture l.at (4 + 4 * l.k) l.to l.invariant.packets _ n.0 _ _ c.put_four-in-loop-k.ensures (c.copy.ensures ∙ rw e));
      passed = rw c.put_stretch-end.ensures.0 (stretches_more a.input.now _ l.stretches l.at l.end l.invariant.passed c.requires.stretches_fit _ n.0 _ c.put_stretch-end.ensures.1);
    }

pub put_stretch-requires : goal.put_stretch-requires
put_stretch-requires c =
    let a = c.args in
    let l = c.loop-k in
    last_fits a.input.now _ l.stretches l.at l.end l.invariant.passed c.requires.stretches_fit (listed_end a.input.now a.starts.now l.at l.k l.invariant.listed (omega arith))

pub returns : goal.returns
returns c =
    let a = c.args in
    let p = c.requires in
    let l = c.loop-k in
    let e = listed_end a.input.now a.starts.now l.at l.k l.invariant.listed (omega arith) in
    let put : c.put_four.new.s ≡ over a.capture.now 0 (four (length (hits a.input.now))) = c.put_four.ensures ∙ ap (λ k. over a.capture.now 0 (four k)) (listed_long a.input.now a.starts.now p.listed) in (
      capture_last a.input.now _ l.capture l.at (4 + 4 * l.k) l.to l.invariant.packets e ∙ capture_whole a.input.now a.capture.now _ p.capture_fits put,
      stretches_last a.input.now _ l.stretches l.at l.end l.invariant.passed p.stretches_fit e _ c.put_stretch.ensures.1,
    )
