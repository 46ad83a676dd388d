-- 10, or on.
use mathlib.Core.Path.{◌≡◌, ◌∙◌, sym}
use Rattle.walk.proofs.Outcomes.{four_ends, four_goes_on}
use Rattle.host.specs.State.{broadcast}
use Rattle.std.specs.declared.ops.ControlFlow.TheVariants.{Continue, Break}
use Rattle.arrival.specs.Steps.{step4}
use Rattle.table.specs.Forms.{flow_of}
use Rattle.walk.specs.Boxes.{in_flight}
use Rattle.walk.proofs.boxes.box4.Goals as goal

pub returns-in-Break : goal.returns-in-Break
returns-in-Break c =
    let a = c.args in
    let came : Break c.in-Break.f ≡ flow_of (step4 (broadcast a.h.settings a.w.walk.link) a.h.clock.hold a.p (in_flight a.h.links a.w.walk)) = rw (← c.in_flight.ensures, ← c.link.ensures, ← c.broadcast.ensures) (sym c.in-Break.is ∙ c.step4.ensures) in
    rw (c.ended.ensures, c.nothing.ensures, c.storing.ensures) (four_ends a.p a.h a.w.walk _ came)

pub returns-in-Continue : goal.returns-in-Continue
returns-in-Continue c =
    let a = c.args in
    let came : Continue c.in-Continue.f ≡ flow_of (step4 (broadcast a.h.settings a.w.walk.link) a.h.clock.hold a.p (in_flight a.h.links a.w.walk)) = rw (← c.in_flight.ensures, ← c.link.ensures, ← c.broadcast.ensures) (sym c.in-Continue.is ∙ c.step4.ensures) in
    rw (c.onward.ensures, c.nothing-in-Continue.ensures, c.storing-in-Continue.ensures, c.at.ensures, c.holding.ensures) (four_goes_on a.p a.h a.w.walk _ came)
