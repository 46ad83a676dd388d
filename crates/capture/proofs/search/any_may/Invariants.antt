use mathlib.Core.Path.{◌≡◌}
use mathlib.Core.Bool.{false}
use Prim.Native.Nat.{◌+◌}
use Rattle.capture.specs.Search.{hits_at}
use Rattle.capture.proofs.search.any_may.Given as goal

abbrev pub invariant-loop-i : goal.invariant-loop-i
invariant-loop-i l = l.any ≡ false → hits_at l.at l.input ≡ hits_at (l.at + l.i) l.input
