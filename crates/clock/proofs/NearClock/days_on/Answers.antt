-- The loop is the while of the definition: each turn brings CLOCK a day nearer, and keeps it near enough for the next.
use mathlib.Core.Path.{refl}
use Prim.Native.Nat.{◌<◌, ◌^◌}
use borrow.Author.Rules.{rules}
use Rattle.clock.specs.Midnight.{days_on}
use Rattle.clock.proofs.Turns.{on}
use Rattle.clock.proofs.While.{turn_falls, turn_keeps, loop_ends}
use Rattle.clock.proofs.NearClock.days_on.Goals as goal

pub loop-hold_interval-init : goal.loop-hold_interval-init
loop-hold_interval-init c =
    let few : c.args.n.0 < 2 ^ 16 = search rules in
    ((few, c.args.self.near), refl)

pub invariant_of-c : goal.invariant_of-c
invariant_of-c c = record { near = c.loop-hold_interval.invariant.0.1 }

pub loop-hold_interval-smaller : goal.loop-hold_interval-smaller
loop-hold_interval-smaller c = turn_falls (on c.args.hold_interval c.args.n) c.args.self.clock c.loop-hold_interval.c.0 c.exceeds_day.ensures c.loop-hold_interval-test.true
    c.day_on-c.ensures

pub loop-hold_interval-preserved : goal.loop-hold_interval-preserved
loop-hold_interval-preserved c = turn_keeps (on c.args.hold_interval c.args.n) c.args.self.clock c.loop-hold_interval.c.0 c.exceeds_day.ensures c.loop-hold_interval-test.true
    c.day_on-c.ensures c.loop-hold_interval.invariant

pub returns : goal.returns
unfolding days_on
returns c = loop_ends (on c.args.hold_interval c.args.n) c.args.self.clock c.loop-hold_interval.c.0 c.exceeds_day.ensures c.loop-hold_interval-test.false c.loop-hold_interval.invariant
