-- After k turns the entries of the first k words pass. The last word ends at the last entry.
use mathlib.Core.Path.{sym, ◌∙◌}
use Prim.Native.Nat.{◌+◌}
use native.Mathlib.Omega.{arith}
use Rattle.table.proofs.Reading.{word_more, words_done, words_fail}
use Rattle.table.proofs.entries.all_in_range.Goals as goal

pub loop-k-preserved : goal.loop-k-preserved
loop-k-preserved c =
    let more = c.loop-k-test.true in
    sym (word_more c.args.entries.now c.args.w c.requires c.loop-k.k _ (omega (arith, more)) c.loop-k.invariant c.good_in_word.ensures) ∙ c.if-not-good_in_word.false

pub returns-then-not-good_in_word : goal.returns-then-not-good_in_word
returns-then-not-good_in_word c =
    let w = c.args.w in
    let entries = c.args.entries.now in
    let k = c.loop-k.k in
    let more = c.loop-k-test.true in
    words_fail entries w c.requires (k + 1)
    (sym (word_more entries w c.requires k _ (omega (arith, more)) c.loop-k.invariant c.good_in_word.ensures) ∙ c.if-not-good_in_word.true)

pub returns : goal.returns
returns c =
    let w = c.args.w in
    let past = c.loop-k-test.false in
    sym c.loop-k.invariant ∙ words_done c.args.entries.now w c.requires c.loop-k.k (omega (arith, past))
