-- After each turn the entries so far pass.
use mathlib.Core.Path.{sym, ◌∙◌}
use Prim.Native.Nat.{◌+◌, ◌-◌, ◌<◌}
use native.Mathlib.Omega.{arith}
use lib.ListN.{length}
use Rattle.table.specs.code.Words.{as_in_word}
use Rattle.table.proofs.Reading.{one_more, fails}
use Rattle.table.proofs.entries.all_as_in_word.Goals as goal

pub loop-i-preserved : goal.loop-i-preserved
loop-i-preserved c =
    let w = c.args.w in
    let i = c.loop-i.i in
    let inside : i < length c.args.entries.now = omega (arith, c.loop-i-test.true, c.requires.inside) in
    sym (one_more c.args.entries.now w.first (as_in_word w.word) i _ _ c.loop-i.auto.i inside c.loop-i.invariant c.as_in_word.ensures)
    ∙ c.if-not-as_in_word.false

pub returns-then-not-as_in_word : goal.returns-then-not-as_in_word
returns-then-not-as_in_word c =
    let w = c.args.w in
    let i = c.loop-i.i in
    let inside : i < length c.args.entries.now = omega (arith, c.loop-i-test.true, c.requires.inside) in
    fails c.args.entries.now w.first (as_in_word w.word) (i + 1 - w.first) (w.end - w.first) (omega (arith, c.loop-i-test.true, c.loop-i.auto.i))
    (omega (arith, c.requires.rising, c.requires.inside))
    (sym (one_more c.args.entries.now w.first (as_in_word w.word) i _ _ c.loop-i.auto.i inside c.loop-i.invariant c.as_in_word.ensures)
    ∙ c.if-not-as_in_word.true)
