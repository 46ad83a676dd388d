-- REPLY-1: the conditions of the refusals.
use Rattle.std.specs.Prelude.{Bool, false, cond, not, ◌&&◌, ◌||◌, List, [], ◌∷◌, ℕ, eqb, get_or, Option, Some, None, is_some}
use Rattle.quantity.specs.declared.Seconds.{Seconds}
use Rattle.quantity.specs.Words.{zero_word}
use Rattle.answer.specs.declared.Answer.{Answer}
use Rattle.answer.specs.declared.Answer.TheVariants.{Done}
use Rattle.clock.specs.declared.Counter.{Counter}
use Rattle.wire.specs.declared.Address.{Address}
use Rattle.wire.specs.declared.Packet.{Packet}
use Rattle.wire.specs.Octets.{same_address}
use Rattle.wire.specs.Packet.{fields}
use Rattle.net_table.specs.declared.NetTable.{NetTable}
use Rattle.table.specs.declared.Entry.{Entry}
use Rattle.table.specs.Entry.{fresh_entry, up}
use Rattle.host.specs.declared.walk.Walk.{Walk}
use Rattle.host.specs.Settings.{found_for}
use Rattle.host.specs.State.{broadcast, link_of}
use Rattle.host.specs.declared.Host.{Host}
use Rattle.host.specs.CallState.{CallState, our_reading}
use Rattle.host.specs.Walk.{is_open, packet_of}

-- REPLY-1: an answer and its condition
pub record Test : Type 0 where
  pub answer : Answer
  pub holds : Bool

-- REPLY-1: the same of its parts
abbrev pub on : Answer → Bool → Test
on a b = record { answer = a; holds = b }

-- REPLY-1: the first answer whose condition is true
abbrev pub first_of : List Test → Answer
first_of [] = Done
first_of (t ∷ ts) = cond t.holds t.answer (first_of ts)

-- ---- conditions

-- ANSWER-10, ARRIVE-4: 10: a known neighbour on a point-to-point link, with packet TSP 0 or HOLD not 0
abbrev pub delay_invalid_in : (hold : Seconds) → Host → (link : ℕ) → Packet → Bool
delay_invalid_in hold h i p =
    not (broadcast h.settings i) && same_address p.source (link_of h.links i).neighbor && (zero_word p.tsp || not (eqb hold.0 0))

-- ANSWER-10, CLOCK-16: the same after the reading
abbrev pub delay_invalid : Counter → Host → (link : ℕ) → Packet → Bool
delay_invalid k h i p = delay_invalid_in (our_reading k h).clock.hold h i p

-- ARRIVE-4: the neighbour after step 4
abbrev pub neighbor_now : Host → (link : ℕ) → Packet → Address
neighbor_now h i p = cond (broadcast h.settings i) (link_of h.links i).neighbor p.source

-- ANSWER-11, ARRIVE-5: 11 at an arrival: no table, and no id for the neighbour
abbrev pub neighbor_unknown : NetTable → Host → (link : ℕ) → Packet → Bool
neighbor_unknown t h i p = eqb p.nhosts 0 && not (is_some (found_for t h.settings (neighbor_now h i p)))

-- WALK-2: is a walk open before this step?
abbrev pub before_step : ℕ → Walk → Bool
before_step n w = is_open w && eqb w.line 0 && eqb w.step n

-- WALK-2: the fields of the walk's packet
abbrev pub held : CallState → Packet
held x = fields (packet_of x.walk x.copy)

-- ANSWER-10, WALK-7: 10 at step 4 of a walk, with HOLD as it is then
abbrev pub walk_delay_invalid : CallState → Bool
walk_delay_invalid x = before_step 4 x.walk && delay_invalid_in x.host.clock.hold x.host x.walk.link (held x)

-- ANSWER-11, WALK-7, NET-11: 11 at step 5 of a walk, with neighbour and table as they are then
abbrev pub walk_neighbor_unknown : CallState → Bool
walk_neighbor_unknown x =
    before_step 5 x.walk
    && (eqb (held x).nhosts 0 && not (is_some (found_for x.nets x.host.settings (link_of x.host.links x.walk.link).neighbor)))

-- ANSWER-13: 13: an id is found, and its entry is down
abbrev pub host_down : List Entry → Option ℕ → Bool
host_down es None = false
host_down es (Some id) = not (up (get_or es id fresh_entry))
