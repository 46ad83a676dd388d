use mathlib.Core.Path.{◌≡◌}
use mathlib.Core.Bool.{true}
use Prim.Native.Nat.{◌-◌, ◌*◌}
use Rattle.table.proofs.ByWords.{passed}
use Rattle.table.proofs.entries.all_in_range.Given as goal

abbrev pub invariant-loop-k : goal.invariant-loop-k
invariant-loop-k l = passed l.w l.entries (l.w.end - l.w.first - (l.w.end - l.w.first - 64 * l.k)) ≡ true
