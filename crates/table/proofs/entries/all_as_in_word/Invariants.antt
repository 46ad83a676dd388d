use mathlib.Core.Path.{◌≡◌}
use mathlib.Core.Bool.{true}
use Prim.Native.Nat.{◌-◌}
use Rattle.table.specs.code.Words.{as_in_word}
use Rattle.table.proofs.Reading.{good_to}
use Rattle.table.proofs.entries.all_as_in_word.Given as goal

abbrev pub invariant-loop-i : goal.invariant-loop-i
invariant-loop-i l = good_to l.entries l.w.first (as_in_word l.w.word) (l.i - l.w.first) ≡ true
