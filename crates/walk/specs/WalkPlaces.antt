-- WALK-2, WALK-3: what a walk stores between its boxes, and its next place.
use Rattle.std.specs.Prelude.{ℕ}
use Rattle.quantity.specs.declared.Millis.{Millis}
use Rattle.quantity.specs.declared.Count.{Count}
use Rattle.quantity.specs.Words.{to_word, of_word}
use Rattle.answer.specs.declared.Answer.{Answer}
use Rattle.clock.specs.declared.Clock.{Clock}
use Rattle.table.specs.declared.entries.Changes.{Changes}
use Rattle.host.specs.declared.Links.{Links}
use Rattle.host.specs.declared.Effect.{Effect}
use Rattle.host.specs.declared.walk.Walk.{Walk}
use Rattle.host.specs.State.{link_of, with_link}
use Rattle.host.specs.Reply.{plainly, returns_place}
use Rattle.host.specs.Walk.{no_walk}
use Rattle.arrival.specs.declared.Flight.{Flight}
use Rattle.arrival.specs.Steps.{at_least_min}

-- ---- the arrival in flight, as a walk holds it between its boxes

-- WALK-2: the arrival as a walk stores it between boxes
abbrev pub in_flight : Links → Walk → Flight
in_flight l w = record { reading = w.reading; link = link_of l w.link; delay = of_word w.delay; offset = w.offset }

-- WALK-3: the link after a step
abbrev pub storing : Flight → Walk → Links → Links
storing f w l = with_link w.link f.link l

-- WALK-6: box 1 stores the count and our reading
abbrev pub holding_reading : Count → Millis → Walk → Walk
holding_reading n r w =
    record { opened = w.opened; link = w.link; step = w.step; line = w.line; id = w.id; length = w.length; count = n; reading = r; delay = w.delay; offset = w.offset }

-- WALK-3: box 3 stores DELAY and OFFSET
abbrev pub holding : Flight → Walk → Walk
holding f w =
    record { opened = w.opened; link = w.link; step = w.step; line = w.line; id = w.id; length = w.length; count = w.count; reading = w.reading; delay = to_word f.delay; offset = f.offset }

-- WALK-3, ARRIVE-5: box 5 raises DELAY to at least 100
abbrev pub raised : Walk → Walk
raised w =
    record { opened = w.opened; link = w.link; step = w.step; line = w.line; id = w.id; length = w.length; count = w.count; reading = w.reading; delay = to_word (at_least_min (of_word w.delay)); offset = w.offset }

-- ---- the next place: a step, or in step 5 a line (1 to 4 for a to d) of an id

-- WALK-2: a walk at another place
abbrev pub at : (step line id : ℕ) → Walk → Walk
at n m i w =
    record { opened = w.opened; link = w.link; step = n; line = m; id = i; length = w.length; count = w.count; reading = w.reading; delay = w.delay; offset = w.offset }

-- WALK-2: a walk at a step
abbrev pub at_step : ℕ → Walk → Walk
at_step n w = at n 0 0 w

-- WALK-2: a walk at a line of an id
abbrev pub at_line : (line id : ℕ) → Walk → Walk
at_line m i w = at 5 m i w

-- WALK-7: the walk continues, and the next place is returned
abbrev pub onward : Walk → Clock → Links → Changes → Effect
onward w c l work = record { reply = returns_place w.step w.line w.id; clock = c; links = l; walk = w; work = work }

-- WALK-7: the walk ends, and no place is returned
abbrev pub ended : Answer → Clock → Links → Changes → Effect
ended a c l work = record { reply = plainly a; clock = c; links = l; walk = no_walk; work = work }
