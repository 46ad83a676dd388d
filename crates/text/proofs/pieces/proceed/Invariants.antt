use mathlib.Core.Path.{◌≡◌}
use mathlib.Core.List.{List, ◌++◌}
use Prim.Native.Nat.{ℕ, ◌+◌, ◌<◌}
use lib.ListN.{length, drop}
use Rattle.text.specs.code.Scan.{large}
use Rattle.text.specs.code.Pieces.{form_from}
use Rattle.text.proofs.pieces.proceed.Given as goal

abbrev pub invariant-loop-c : goal.invariant-loop-c
invariant-loop-c l = (text : List ℕ) → length l.piece + length text < large → form_from l.initial.known (l.piece ++ text) ≡ form_from l.known (drop l.c-index l.piece ++ text)
