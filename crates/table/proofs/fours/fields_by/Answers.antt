-- The mark's bits differ from the given mark's, or the mark is the given one.
use Prim.Native.Nat.{◌<◌, ◌%◌}
use native.Mathlib.Omega.{arith}
use lib.Bits.{xor_lt}
use Rattle.table.proofs.FourAtOnce.{by_mark_good}
use borrow.Author.Rules.{rules}
use Rattle.table.proofs.fours.fields_by.Goals as goal

pub returns : goal.returns
returns c =
    let a = c.args in
    let few : a.e.ttl.0 < 65536 = search rules in
    let less : a.e.pid < 256 = search rules in
    let known = c.fields.ensures in
    (rw known.0 (by_mark_good a.e.ttl.0 a.e.pid a.e.here (a.bits % 2) few less), xor_lt 32 _ _ known.1.1 (omega arith))
