-- CALL-4: what a call results in: the reply, the clock, the links and the walk, and what changes in which entries.
use Rattle.std.specs.Prelude.{ℕ, ◌+◌}
use Rattle.clock.specs.declared.Clock.{Clock}
use Rattle.table.specs.declared.entries.Change.{Change}
use Rattle.table.specs.declared.entries.Change.TheVariants.{Fresh}
use Rattle.table.specs.declared.entries.Changes.{Changes}
use Rattle.table.specs.Marks.{no_marks}
use Rattle.host.specs.declared.Settings.{Settings}
use Rattle.host.specs.declared.Links.{Links}
use Rattle.host.specs.declared.walk.Walk.{Walk}
use Rattle.host.specs.declared.Reply.{Reply}
use Rattle.host.specs.declared.Effect.{Effect}
use Rattle.host.specs.State.{host_count}

-- ---- what becomes of the entries: nothing, or a change to each id or to one

-- CALL-4: no entry changes
abbrev pub nothing : Changes
nothing = record { first = 0; end = 0; change = Fresh; marks = no_marks }

-- CALL-4: a change of each of the host's entries
abbrev pub each : Settings → Change → Changes
each s change = record { first = 0; end = host_count s; change = change; marks = s.marks }

-- WALK-3: a change of the entry of one id
abbrev pub one : (id : ℕ) → Change → Changes
one id change = record { first = id; end = id + 1; change = change; marks = no_marks }

-- CALL-4: a reply with clock, links and walk; the entries stay
abbrev pub answers : Reply → Clock → Links → Walk → Effect
answers r c l w = record { reply = r; clock = c; links = l; walk = w; work = nothing }
