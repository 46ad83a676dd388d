-- CLOCK and DELTA in range and the share, which is no further off than DELTA, have sums that fit.
use native.Mathlib.Omega.{arith}
use lib.Dec.{lit<}
use mathlib.Core.Path.{◌≡◌}
use mathlib.Core.Bool.{true}
use lib.IntN.{◌+ℤ◌}
use Rattle.quantity.proofs.Ints.{sum, floor}
use Rattle.clock.specs.Clock.{adjust, share, clock_in_range}
use Rattle.clock.proofs.Bounds.{range_says, nearby, Off, off_fits}
use Rattle.clock.specs.declared.Clock.{Clock}
use Rattle.clock.proofs.Clock.adjusted.Goals as goal

module _ (c : Clock) (e : clock_in_range c ≡ true) where
  sum-off : Off (c.clock.0 +ℤ (share c).0)
  sum-off =
      let r = range_says c e in
      let f = floor c.delta.0 128 (lit< tt) in
      let s = sum c.clock.0 (share c).0 in
      omega arith

pub add-requires : goal.add-requires
add-requires c = rw c.share-share.ensures (off_fits _ (sum-off c.args.self c.requires))

pub invariant_of-midnight : goal.invariant_of-midnight
invariant_of-midnight c =
    let dated = (range_says c.args.self c.requires).rest.dated in
    record { near = rw (c.add.ensures, c.share-share.ensures) (nearby _ (sum-off c.args.self c.requires) dated) }

pub returns : goal.returns
unfolding adjust
returns c = rw (c.add.ensures, c.sub.ensures, c.share-share.ensures) at c.midnight.ensures
