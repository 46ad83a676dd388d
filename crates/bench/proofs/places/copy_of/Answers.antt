-- The slice is as long as the longest packet.
use mathlib.Core.Path.{◌≡◌}
use Prim.Native.Nat.{◌+◌, ◌-◌, ◌*◌}
use native.Mathlib.Omega.{arith}
use Rattle.bench.proofs.places.copy_of.Goals as goal

pub returns : goal.returns
returns c =
    let n : 1052 * c.args.host + 1052 - 1052 * c.args.host ≡ 1052 = omega arith in
    rw n
