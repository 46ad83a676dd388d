use mathlib.Core.Path.{◌≡◌}
use lib.ListN.{take, drop}
use Rattle.text.specs.Numerals.{all_digits, value}
use Rattle.text.specs.code.Scan.{Stands}
use Rattle.text.proofs.scan.digits.Given as goal

abbrev pub invariant-loop-c : goal.invariant-loop-c
invariant-loop-c l = (all_digits l.s ≡ all_digits (drop l.c-index l.s)) × Stands l.value (value (take l.c-index l.s))
