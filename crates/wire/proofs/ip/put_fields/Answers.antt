-- One way through `put_fields`: rewriting by the contracts of `put_words`, `put_address` gives the definition. Bounds follow by linear arithmetic.
use native.Mathlib.Omega.{arith}
use Rattle.wire.proofs.Stores.{fields_put}
use Rattle.wire.proofs.ip.put_fields.Goals as goal

pub returns : goal.returns
returns c =
    let a = c.args in
    fields_put a.packet.now _ _ _ _ _ a.total a.source a.destination (omega arith)
    c.put_words.ensures c.put_words-2.ensures c.put_words-3.ensures c.put_address.ensures c.put_address-2.ensures
