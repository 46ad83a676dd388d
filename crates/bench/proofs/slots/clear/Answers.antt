-- `fill` writes a zero for each of the first n octets.
use mathlib.Core.Path.{ap, ◌∙◌}
use mathlib.Core.List.{List, ◌++◌}
use Prim.Native.Nat.{ℕ}
use lib.ListN.{take, drop}
use Rattle.std.proofs.Common.{rules}
use Rattle.bench.proofs.Zeros.{zero_each}
use Rattle.bench.proofs.slots.clear.Goals as goal

pub returns : goal.returns
returns c =
    let a = c.args in
    ap (λ (l : List ℕ). l ++ drop a.n a.octets.now) (c.fill.ensures.after (λ y e. search rules) ∙ zero_each (take a.n a.octets.now))
