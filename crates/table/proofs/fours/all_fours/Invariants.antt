use mathlib.Core.Path.{◌≡◌}
use mathlib.Core.Bool.{true}
use Prim.Native.Nat.{◌*◌}
use Rattle.table.specs.code.Words.{as_in_word}
use Rattle.table.proofs.Reading.{good_to}
use Rattle.table.proofs.fours.all_fours.Given as goal

abbrev pub invariant-loop-k : goal.invariant-loop-k
invariant-loop-k l = good_to l.entries l.w.first (as_in_word l.w.word) (4 * l.k) ≡ true
