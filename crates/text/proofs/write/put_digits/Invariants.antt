use mathlib.Core.Path.{◌≡◌}
use lib.ListN.{length}
use Rattle.lists.specs.Lists.{over}
use Rattle.text.specs.Numerals.{digits}
use Rattle.text.proofs.write.put_digits.Given as goal

abbrev pub invariant-loop-j : goal.invariant-loop-j
invariant-loop-j l = (length l.text ≡ length l.initial.text) × (over l.text l.at (digits l.j l.rest) ≡ over l.initial.text l.at (digits l.k l.n))
