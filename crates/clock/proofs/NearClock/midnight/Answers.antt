-- A CLOCK within its day rests.
use mathlib.Core.Path.{◌∙◌, sym}
use Rattle.clock.proofs.Midnight.{at_rest}
use Rattle.clock.proofs.NearClock.midnight.Goals as goal

pub returns : goal.returns
returns c =
    let not-over = sym c.exceeds_day.ensures ∙ c.if-exceeds_day.false in
    let not-under = sym c.below_zero.ensures ∙ c.if-below_zero.false in
    sym (at_rest c.args.hold_interval c.args.n c.args.self.clock not-over not-under)
