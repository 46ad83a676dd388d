-- The inspection, then the walk.
use Rattle.std.specs.Prelude.{Ok}
use mathlib.Core.Path.{◌∙◌, sym, subst}
use native.Mathlib.Omega.{arith}
use Rattle.host.proofs.Inspected.{Fits, inspected_fits}
use Rattle.walk.specs.Opening.{opening}
use Rattle.walk.proofs.opened_by.Goals as goal

pub returns-in-Ok : goal.returns-in-Ok
unfolding opening
returns-in-Ok c =
    let a = c.args in
    let fits : Fits a.s.now a.packet.now (Ok c.in-Ok.p) = subst (Fits a.s.now a.packet.now) (sym c.inspect.ensures.0 ∙ c.in-Ok.is) (inspected_fits a.s.now a.link.number a.packet.now) in
    (rw (sym c.inspect.ensures.0 ∙ c.in-Ok.is, c.returns_place.ensures, c.opened_on.ensures, c.length-n.ensures ∙ fits.whole), omega (arith, c.length-n.ensures))
