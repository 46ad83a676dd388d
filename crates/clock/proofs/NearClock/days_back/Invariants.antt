use Rattle.clock.specs.Midnight.{days_away}
use Rattle.clock.proofs.Turns.{back}
use Rattle.clock.proofs.While.{Going}
use Rattle.clock.proofs.NearClock.days_back.Given as goal

abbrev pub invariant-loop-hold_interval : goal.invariant-loop-hold_interval
invariant-loop-hold_interval l = Going (back l.hold_interval l.n) l.initial.c.0 l.c.0

abbrev pub decreases-loop-hold_interval : goal.decreases-loop-hold_interval
decreases-loop-hold_interval l = days_away l.n l.c.0
