-- The joined bits of the four numbers decide.
use borrow.Author.Tests.{le-ltb}
use Rattle.table.proofs.FourAtOnce.{some_large, all_small}
use Rattle.table.proofs.fours.four_small.Goals as goal

pub returns-then-all-lt1048576 : goal.returns-then-all-lt1048576
returns-then-all-lt1048576 c =
    let a = c.args in
    all_small a.a a.b a.c a.d _ _ _ _ c.over.ensures c.over-2.ensures c.over-3.ensures c.over-4.ensures c.if-all-lt1048576.true

pub returns-else-all-lt1048576 : goal.returns-else-all-lt1048576
returns-else-all-lt1048576 c =
    let a = c.args in
    rw (le-ltb _ _ c.if-all-lt1048576.false) (some_large a.a a.b a.c a.d _ _ _ _ c.over.ensures c.over-2.ensures c.over-3.ensures c.over-4.ensures c.if-all-lt1048576.false)
