-- One way through `put_fixed`: rewriting by the contracts of `put_words`, `unsigned`, `put_four`, `bits` gives the definition. Bounds follow by linear arithmetic.
use mathlib.Core.Path.{refl}
use native.Mathlib.Omega.{arith}
use Rattle.wire.proofs.Stores.{fixed_put}
use borrow.Author.Rules.{rules}
use Rattle.wire.proofs.hello.put_fixed.Goals as goal

pub returns : goal.returns
returns c =
    let a = c.args in
    fixed_put a.hello.now _ _ _ _ _ _ a.p (omega arith) (search rules) (search rules)
    c.put_words.ensures c.unsigned.ensures c.put_four.ensures c.bits.ensures refl c.put_words-2.ensures
