-- What was known before the piece decides the text with the piece as what is known now decides the rest of it.
use mathlib.Core.Path.{◌≡◌, ap, ◌∙◌}
use mathlib.Core.List.{List, [], ◌++◌}
use Prim.Native.Nat.{ℕ, ◌+◌, ◌≤◌, ◌<◌}
use native.Mathlib.Omega.{arith}
use lib.ListN.{length, drop, drop_of_length-le}
use Rattle.text.specs.code.Scan.{large}
use Rattle.text.specs.code.Pieces.{form_from}
use Rattle.text.proofs.LongText.{more_known}
use Rattle.text.proofs.pieces.proceed.Goals as goal

pub returns : goal.returns
returns c =
    let piece = c.args.piece.now in
    let at = c.loop-c in
    let h : length piece ≤ at.c-index = omega arith in
    let d : drop at.c-index piece ≡ [] = drop_of_length-le piece h in
    more_known _ _ piece (λ (text : List ℕ) (h : length piece + length text < large). at.invariant text h ∙ ap (λ (z : List ℕ). form_from at.known (z ++ text)) d)
