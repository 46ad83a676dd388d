-- The rows that remain, with those written, are all rows.
use native.Mathlib.Omega.{arith}
use mathlib.Core.Path.{◌≡◌}
use Prim.Native.Nat.{◌+◌, ◌*◌}
use Rattle.text.proofs.Lines.{after_less, all_put}
use Rattle.text.proofs.write.put_rows.Goals as goal

pub loop-host-preserved : goal.loop-host-preserved
loop-host-preserved c =
    let l = c.loop-host in
    let next : 12 + 4 * (l.host + 1) ≡ 12 + 4 * l.host + 4 = omega arith in
    (omega arith, omega arith, rw next (after_less (omega arith) l.invariant.2 c.two_at.ensures c.two_at-in-loop-host.ensures c.put_row-end.ensures.put))

pub returns : goal.returns
returns c = all_put (omega arith) (omega arith) c.loop-host.invariant.2
