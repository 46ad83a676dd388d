-- After k turns the first k fours pass.
use mathlib.Core.Path.{sym, ◌∙◌}
use Prim.Native.Nat.{◌+◌, ◌-◌, ◌*◌, ◌/◌}
use native.Mathlib.Omega.{arith}
use Rattle.table.specs.code.Words.{as_in_word}
use Rattle.table.proofs.Reading.{four_more, fails}
use Rattle.table.proofs.fours.all_fours.Goals as goal

pub loop-k-preserved : goal.loop-k-preserved
loop-k-preserved c =
    let w = c.args.w in
    let more = c.loop-k-test.true in
    let inside = c.requires.places.inside in
    let rising = c.requires.places.rising in
    sym (four_more c.args.entries.now w.first (as_in_word w.word) c.loop-k.k _ (omega (arith, more, inside, rising)) c.loop-k.invariant c.four_at.ensures)
    ∙ c.if-not-four_at.false

pub returns-then-not-four_at : goal.returns-then-not-four_at
returns-then-not-four_at c =
    let w = c.args.w in
    let k = c.loop-k.k in
    let more = c.loop-k-test.true in
    let inside = c.requires.places.inside in
    let rising = c.requires.places.rising in
    fails c.args.entries.now w.first (as_in_word w.word) (4 * (k + 1)) (4 * ((w.end - w.first) / 4)) (omega (arith, more)) (omega (arith, inside, rising))
    (sym (four_more c.args.entries.now w.first (as_in_word w.word) k _ (omega (arith, more, inside, rising)) c.loop-k.invariant c.four_at.ensures)
    ∙ c.if-not-four_at.true)
