-- The pieces of the text are the first, then those of what follows the mark.
use Rattle.text.proofs.Readings.{from_on}
use Rattle.text.proofs.Cuts.{cut_open, cut_there}
use Prim.Native.Nat.{◌+◌}
use mathlib.Core.Path.{sym}
use Rattle.text.proofs.scan.cut_once.Goals as goal

pub returns-in_err-end : goal.returns-in_err-end
returns-in_err-end c = rw c.from_residual.ensures (cut_open c.args.mark c.args.s.now (sym c.in_err-end.ensures))

pub returns : goal.returns
returns c =
    let s = c.args.s.now in
    let e = c.in_ok-end.end in
    rw (from_on (e + 1) s) (cut_there c.args.mark s e (sym c.in_ok-end.ensures))
