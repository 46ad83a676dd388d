-- The lengths that the mender returns are those of octets that its outputs have.
use mathlib.Core.Path.{sym}
use native.Mathlib.Omega.{arith}
use lib.Seq.{length-take-le}
use Rattle.capture.proofs.Mending.{told_fits}
use Rattle.hello_mend.proofs.main.Goals as goal

pub slice_bounds-output-end : goal.slice_bounds-output-end
slice_bounds-output-end c = omega (arith, (told_fits _ _ _ _ _ _ _ c.recover.ensures c.in-Ok.is).0)

pub slice_bounds-write_all-end : goal.slice_bounds-write_all-end
slice_bounds-write_all-end c = sym (length-take-le _ _ (omega (arith, (told_fits _ _ _ _ _ _ _ c.recover.ensures c.in-Ok.is).0)))

pub slice_bounds-stretches-end : goal.slice_bounds-stretches-end
slice_bounds-stretches-end c = omega (arith, (told_fits _ _ _ _ _ _ _ c.recover.ensures c.in-Ok.is).1)

pub slice_bounds-report-end : goal.slice_bounds-report-end
slice_bounds-report-end c = sym (length-take-le _ _ (omega (arith, (told_fits _ _ _ _ _ _ _ c.recover.ensures c.in-Ok.is).1)))
