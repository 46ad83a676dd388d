-- One way through `fields`: rewriting by the contracts of `address_at`, `two_at`, `four_at`, `from` and others gives the definition.
use Rattle.wire.proofs.Parsing.{fields_read, four_octets}
use lib.ListN.{length, take, drop}
use Prim.Native.Nat.{◌-◌, ◌<◌, ◌^◌}
use Rattle.wire.proofs.Parts.{from_on}
use borrow.Author.Rules.{rules}
use Rattle.wire.proofs.fields.Goals as goal

pub returns : goal.returns
returns c =
    let s = c.args.packet.now in
    let time = c.from.ensures in
    let n = c.four_at-time.result in
    let small : n < 2 ^ 32 = search rules in (
      fields_read s (take (length s - 20) (drop 20 s)) _ _ _ _ _ _ (from_on 20 s)
          c.address_at-source.ensures c.two_at-date.ensures c.four_at-time.ensures c.two_at-tsp.ensures time c.of_bits.ensures,
      four_octets _ n time small,
    )
