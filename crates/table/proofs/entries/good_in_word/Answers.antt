-- The entries of a word pass if its groups of four do, and the entries after them.
use mathlib.Core.Path.{sym, ap, subst, ◌∙◌}
use mathlib.Core.Bool.{Bool, ◌&&◌}
use Rattle.table.specs.declared.entries.Stretch.{Stretch}
use Rattle.table.specs.code.Words.{stretch_of, StretchFits, all_as_in_word}
use Rattle.table.specs.code.Fours.{rest_of, all_fours}
use Rattle.table.proofs.ByWords.{stretch_fits}
use Rattle.table.proofs.WordByFours.{rest_fits, by_fours}
use Rattle.table.proofs.entries.good_in_word.Goals as goal

pub all_fours-requires : goal.all_fours-requires
all_fours-requires c =
    let a = c.args in
    subst (λ (x : Stretch). StretchFits x a.entries.now) (sym c.stretch_of-v.ensures) (stretch_fits a.entries.now a.k a.w c.requires.places c.requires.word)

pub all_as_in_word-requires : goal.all_as_in_word-requires
all_as_in_word-requires c =
    let a = c.args in
    let fits = stretch_fits a.entries.now a.k a.w c.requires.places c.requires.word in
    rw (c.rest_of.ensures, c.stretch_of-v.ensures) (rest_fits a.entries.now (stretch_of a.k a.w) fits)

pub returns-then-all_fours : goal.returns-then-all_fours
returns-then-all_fours c =
    let a = c.args in
    let s = stretch_of a.k a.w in
    let fits = stretch_fits a.entries.now a.k a.w c.requires.places c.requires.word in
    let fours = ap (λ (x : Stretch). all_fours x a.entries.now) (sym c.stretch_of-v.ensures) ∙ sym c.all_fours.ensures ∙ c.if-all_fours.true in
    c.all_as_in_word.ensures ∙ ap (λ (x : Stretch). all_as_in_word x a.entries.now) (c.rest_of.ensures ∙ ap rest_of c.stretch_of-v.ensures)
    ∙ ap (λ (b : Bool). b && all_as_in_word (rest_of s) a.entries.now) (sym fours) ∙ by_fours a.entries.now s fits

pub returns-else-all_fours : goal.returns-else-all_fours
returns-else-all_fours c =
    let a = c.args in
    let s = stretch_of a.k a.w in
    let fits = stretch_fits a.entries.now a.k a.w c.requires.places c.requires.word in
    let fours = ap (λ (x : Stretch). all_fours x a.entries.now) (sym c.stretch_of-v.ensures) ∙ sym c.all_fours.ensures ∙ c.if-all_fours.false in
    c.if-all_fours.false ∙ ap (λ (b : Bool). b && all_as_in_word (rest_of s) a.entries.now) (sym fours) ∙ by_fours a.entries.now s fits
