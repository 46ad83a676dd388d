-- All fields are written, with zero for the checksum, which changes no sum; then the checksum is put in its place.
use mathlib.Core.Path.{◌≡◌, ap, ◌∙◌}
use Rattle.checksum.specs.Checksum.{checksum_of}
use Rattle.octets.proofs.Each.{of_places}
use Rattle.wire.specs.code.Sealing.{sealed_rest}
use Rattle.wire.proofs.Stores.{fixed_part, hello_checksum_lem, checksum_put, hello_put}
use Rattle.wire.proofs.hello.seal.Goals as goal

pub returns : goal.returns
returns c =
    let a = c.args in
    let b = a.hello.now in
    let p = a.p in
    let l = c.put_fixed.new.hello in
    let fixed = c.put_fixed.ensures in
    let n = c.length-n.result in
    let part = fixed_part b l n p c.length-n.ensures fixed in
    let checksum : c.complement-sum.result ≡ checksum_of (sealed_rest p b) =
    c.complement-sum.ensures ∙ ap checksum_of part ∙ hello_checksum_lem b l p fixed (of_places l (λ i. (c.slice_known-2-1.given i).fits)) in
    hello_put b _ _ p (checksum_put b l _ _ p fixed c.put_two.ensures) checksum
