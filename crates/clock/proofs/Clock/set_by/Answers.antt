-- CLOCK and 32 bits of milliseconds are far below 2^62 units, so the sum fits; each branch is a case of the definition.
use native.Mathlib.Omega.{arith}
use mir.Syntax.{w32}
use mathlib.Core.Path.{◌≡◌}
use mathlib.Core.Bool.{true}
use lib.IntN.{◌+ℤ◌}
use mir.Val.{SFits}
use Rattle.quantity.specs.Quantity.{units_per_milli, to_units}
use Rattle.quantity.proofs.Ints.{times, sum, fits_up, fits_dn}
use Rattle.clock.specs.Clock.{set_by, clock_in_range}
use Rattle.clock.proofs.Bounds.{range_says, nearby, Off, off_fits}
use Rattle.quantity.specs.declared.Millis.{Millis}
use Rattle.clock.specs.declared.Clock.{Clock}
use Rattle.clock.specs.code.Near.{Near}
use Rattle.clock.proofs.Clock.set_by.Goals.{then-slews, else-slews}
use Rattle.clock.proofs.Clock.set_by.Goals as goal

module _ (c : Clock) (m : Millis) (e : clock_in_range c ≡ true) (f : SFits w32 m.0) where
  sum-off : Off (c.clock.0 +ℤ (to_units m).0)
  sum-off =
      let r = range_says c e in
      let u = fits_up w32 m.0 f in
      let d = fits_dn w32 m.0 f in
      let t = times m.0 units_per_milli in
      let s = sum c.clock.0 (to_units m).0 in
      omega arith

pub add-requires : goal.add-requires
add-requires c = rw c.of_millis-moved.ensures (off_fits _ (sum-off c.args.self c.args.ms c.requires.self_value c.requires.sfits))

pub invariant_of-midnight : goal.invariant_of-midnight
invariant_of-midnight c =
    let a = c.args in
    let r = range_says a.self c.requires.self_value in
    let o = sum-off a.self a.ms c.requires.self_value c.requires.sfits in
    let near : Near c.if-slews.c = elim c.if-slews.branch [
      | then-slews w ↦ rw w.c-is (nearby _ (omega arith) r.rest.dated)
      | else-slews w ↦ rw (w.c-is, w.add.ensures, c.of_millis-moved.ensures) (nearby _ o r.rest.dated)
    ] in
    record { near = near }

pub returns : goal.returns
unfolding set_by
returns c = elim c.if-slews.branch [
  | then-slews w ↦ rw (← c.slews.ensures, w.if-slews.true) (rw (w.c-is, c.of_millis-moved.ensures) at c.midnight.ensures)
  | else-slews w ↦ rw (← c.slews.ensures, w.if-slews.false) (rw (w.c-is, w.add.ensures, c.of_millis-moved.ensures) at c.midnight.ensures)
]
