-- If the first part has an even length, the sum of a list is that of its two parts. Carries may be added in at any time.
use Rattle.std.proofs.Common.{◌*◌, ◌/◌, length, ap, ◌∙◌, arith}
use Rattle.checksum.specs.code.EndAround.{end_around, low_sum}
use Rattle.checksum.proofs.LowFirst.{halved}
use Rattle.checksum.proofs.fours.+long.Goals as goal

pub returns : goal.returns
returns t c =
    let s = c.args.s.now in
    let p = c.split_at.ensures in
    c.end_around-2.ensures
    ∙ halved s (length s / 4 * 2) c.long.result c.long-2.result (omega arith) (omega arith) (c.long.ensures ∙ ap (λ l. end_around (low_sum l)) p.front) (c.long-2.ensures ∙ ap (λ l. end_around (low_sum l)) p.back)
