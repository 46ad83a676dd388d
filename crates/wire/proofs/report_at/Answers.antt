-- One way through `report_at`: rewriting by the contract of `report` gives the definition.
use Rattle.wire.proofs.Parts.{from_on}
use Rattle.wire.proofs.report_at.Goals as goal

pub returns : goal.returns
returns c =
    let r = c.report.ensures in
    (rw (from_on 20 c.args.packet.now) at r.0, r.1)
