-- The tests are those of the definition, by what the search found.
use mathlib.Core.Path.{refl, sym}
use native.Mathlib.Omega.{arith}
use lib.Seq.{length-take-le}
use Rattle.capture.specs.Search.{hits}
use Rattle.capture.proofs.Listed.{listed_over}
use Rattle.capture.proofs.Mending.{hits_returned, capture_returned, stretches_returned, returned_small, returned_few, recover_long, recover_capture, recover_stretches, recover_written, leaves}
use Rattle.capture.proofs.recover.Goals as goal

pub returns-then-input-gt-LONGEST : goal.returns-then-input-gt-LONGEST
returns-then-input-gt-LONGEST c =
    let a = c.args in
    leaves _ _ _ _ _ (recover_long a.input.now a.capture.now a.stretches.now (omega arith)) refl refl refl

pub overflow_mul-capture_length : goal.overflow_mul-capture_length
overflow_mul-capture_length c = omega (arith, returned_small c.args.input.now _ c.survey-s.ensures.counts (omega arith))

pub overflow_add-capture_length : goal.overflow_add-capture_length
overflow_add-capture_length c = omega (arith, returned_small c.args.input.now _ c.survey-s.ensures.counts (omega arith))

pub overflow_add-capture_length-2 : goal.overflow_add-capture_length-2
overflow_add-capture_length-2 c = omega (arith, returned_small c.args.input.now _ c.survey-s.ensures.counts (omega arith))

pub returns-then-capture-capture_length : goal.returns-then-capture-capture_length
returns-then-capture-capture_length c =
    let a = c.args in
    let returned = capture_returned a.input.now _ c.survey-s.ensures.counts in
    leaves _ _ _ _ _ (recover_capture a.input.now a.capture.now a.stretches.now (omega arith) (omega arith)) refl refl refl

pub overflow_mul-stretches_length-2 : goal.overflow_mul-stretches_length-2
overflow_mul-stretches_length-2 c = omega (arith, returned_small c.args.input.now _ c.survey-s.ensures.counts (omega arith))

pub returns-then-stretches-stretches_length : goal.returns-then-stretches-stretches_length
returns-then-stretches-stretches_length c =
    let a = c.args in
    let returned = capture_returned a.input.now _ c.survey-s.ensures.counts in
    let returned₂ = stretches_returned a.input.now _ c.survey-s.ensures.counts in
    leaves _ _ _ _ _ (recover_stretches a.input.now a.capture.now a.stretches.now (omega arith) (omega arith) (omega arith)) refl refl refl

pub slice_bounds-starts-end : goal.slice_bounds-starts-end
slice_bounds-starts-end c = omega (arith, returned_few c.args.input.now _ c.survey-s.ensures.counts (omega arith))

pub slice_bounds-starts-end-2 : goal.slice_bounds-starts-end-2
slice_bounds-starts-end-2 c = sym (length-take-le _ _ (omega (arith, returned_few c.args.input.now _ c.survey-s.ensures.counts (omega arith))))

pub write-requires : goal.write-requires
write-requires c =
    let input = c.args.input.now in
    let e = c.survey-s.ensures.counts in
    record {
      short = omega arith;
      listed = listed_over (hits input) _ _ _ (hits_returned input _ e) c.survey-s.ensures.listed;
      capture_fits = omega (arith, capture_returned input _ e);
      stretches_fit = omega (arith, stretches_returned input _ e);
    }

pub marked-requires : goal.marked-requires
marked-requires c =
    let input = c.args.input.now in
    listed_over (hits input) _ _ _ (hits_returned input _ c.survey-s.ensures.counts) c.survey-s.ensures.listed

pub returns : goal.returns
returns c =
    let a = c.args in
    let e = c.survey-s.ensures.counts in
    let returned = capture_returned a.input.now _ e in
    let returned₂ = stretches_returned a.input.now _ e in
    leaves _ _ _ _ _
    (recover_written a.input.now a.capture.now a.stretches.now (omega arith) (omega arith) (omega arith))
    (rw (returned, returned₂, c.marked.ensures))
    c.write.ensures.0
    c.write.ensures.1
