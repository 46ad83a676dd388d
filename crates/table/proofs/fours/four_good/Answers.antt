-- First DELAY and time of the four, then the other fields with the four bits of the word.
use mathlib.Core.Path.{refl, sym, ◌∙◌}
use Prim.Native.Nat.{◌*◌, ◌/◌, ◌^◌}
use Rattle.table.proofs.FourAtOnce.{four_in_word}
use Rattle.table.proofs.fours.four_good.Goals as goal

pub returns-then-four_wide : goal.returns-then-four_wide
returns-then-four_wide c =
    let a = c.args in
    let yes = sym c.four_wide.ensures ∙ c.if-four_wide.true in
    c.four_marked.ensures ∙ rw yes at (four_in_word a.a a.b a.c a.d a.word a.k (a.word / 2 ^ (4 * a.k)) refl c.requires)

pub returns-else-four_wide : goal.returns-else-four_wide
returns-else-four_wide c =
    let a = c.args in
    let no = sym c.four_wide.ensures ∙ c.if-four_wide.false in
    c.if-four_wide.false ∙ rw no at (four_in_word a.a a.b a.c a.d a.word a.k (a.word / 2 ^ (4 * a.k)) refl c.requires)
