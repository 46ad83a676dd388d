-- WALK-4: the boxes of lines (a) to (d) of an id.
use Rattle.std.specs.Prelude.{Bool, cond, not, ◌||◌, List, ℕ, ◌+◌, ltb, eqb}
use Rattle.answer.specs.declared.Answer.TheVariants.{Done}
use Rattle.clock.specs.declared.Clock.{Clock}
use Rattle.wire.specs.declared.Packet.{Packet}
use Rattle.table.specs.declared.Entry.{Entry}
use Rattle.table.specs.declared.entries.Change.TheVariants.{Put}
use Rattle.table.specs.declared.entries.Changes.{Changes}
use Rattle.table.specs.Forms.{Stage, on, end}
use Rattle.table.specs.Update.{line_a, line_b, line_c, line_d}
use Rattle.host.specs.declared.Effect.{Effect}
use Rattle.host.specs.declared.walk.Walk.{Walk}
use Rattle.host.specs.State.{host_count}
use Rattle.host.specs.declared.Host.{Host}
use Rattle.host.specs.CallState.{host}
use Rattle.host.specs.Walk.{line_update}
use Rattle.host.specs.Effect.{nothing, one}
use Rattle.walk.specs.WalkPlaces.{at_line, onward, ended}

-- ---- lines (a) to (d) of an id

-- WALK-7: line (a) of the next id; after the last one the walk ends
abbrev pub next_id : Packet → Host → Walk → Changes → Effect
next_id p h w work =
    cond (eqb p.nhosts 0 || not (ltb (w.id + 1) (host_count h.settings))) (ended Done h.clock h.links work)
    (onward (at_line 1 (w.id + 1) w) h.clock h.links work)

-- WALK-3: the walk's entry replaced
abbrev pub put : Walk → Entry → Changes
put w e = one w.id (Put e)

-- WALK-3: after line (a): line (b), or the next id
abbrev pub after_a : Packet → Host → Walk → Stage Entry → Effect
after_a p h w (end e) = next_id p h w nothing
after_a p h w (on e) = onward (at_line 2 w.id w) h.clock h.links nothing

-- WALK-3: line (a)
unfoldable pub box_a : Packet → (packet : List ℕ) → Host → Walk → Entry → Effect
box_a p octets h w e = after_a p h w (line_a (line_update w p octets) e)

-- WALK-3: after line (b): line (c), or the next id
abbrev pub after_b : Packet → Host → Walk → Stage Entry → Effect
after_b p h w (end e) = next_id p h w (put w e)
after_b p h w (on e) = onward (at_line 3 w.id w) h.clock h.links nothing

-- WALK-3: line (b)
unfoldable pub box_b : Packet → (packet : List ℕ) → Host → Walk → Entry → Effect
box_b p octets h w e = after_b p h w (line_b (line_update w p octets) e)

-- WALK-2, UPDATE-d: is the walk's id the clock host?
abbrev pub is_clock_host : Host → Walk → Bool
is_clock_host h w = eqb w.id h.settings.clock_host

-- WALK-3: after line (c): line (d) for the clock host, or the next id
abbrev pub after_c : Packet → Host → Walk → Stage Entry → Effect
after_c p h w (end e) = next_id p h w (put w e)
after_c p h w (on e) = cond (is_clock_host h w) (onward (at_line 4 w.id w) h.clock h.links (put w e)) (next_id p h w (put w e))

-- WALK-3: line (c)
unfoldable pub box_c : Packet → (packet : List ℕ) → Host → Walk → Entry → Effect
box_c p octets h w e = after_c p h w (line_c (line_update w p octets) e)

-- WALK-6, UPDATE-d: the clock that line (d) sets, with the count of the first box
abbrev pub clock_set : Packet → (packet : List ℕ) → Host → Walk → Clock
clock_set p octets h w =
    cond (is_clock_host h w) (line_d h.settings.hold_interval w.count p.date (line_update w p octets).offset h.clock) h.clock

-- WALK-3, WALK-6: line (d)
unfoldable pub box_d : Packet → (packet : List ℕ) → Host → Walk → Effect
box_d p octets h w = next_id p (host h.settings (clock_set p octets h w) h.links) w nothing
