-- The header with a checksum of zero, then the HELLO, then the checksum of the header.
use mathlib.Core.Path.{refl}
use native.Mathlib.Omega.{arith}
use Rattle.octets.proofs.Each.{of_places}
use Rattle.wire.proofs.Stores.{packet_sealed}
use Rattle.wire.proofs.seal.Goals as goal

pub returns : goal.returns
returns c =
    let a = c.args in
    let header = c.put_fields in
    packet_sealed a.buffer.now header.new.packet c.seal.new.hello _ _ _ a.destination a.p (omega arith) c.length-total.ensures
    header.ensures (of_places header.new.packet (λ i. (c.slice_known-2-1.given i).fits)) c.seal.ensures refl c.seal-2.ensures
