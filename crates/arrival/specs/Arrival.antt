-- INSPECT-1, INSPECT-3: what a packet that arrives results in: the reply, the links, and the updates of which ids.
use Rattle.std.specs.Prelude.{Bool, true, false, cond, List, ℕ, ◌+◌, eqb, pos, Option, Some, None, Result, Ok, Err}
use Rattle.quantity.specs.declared.Count.{Count}
use Rattle.quantity.specs.Quantity.{millis, counts, seconds}
use Rattle.quantity.specs.Words.{word}
use Rattle.answer.specs.declared.Answer.{Answer}
use Rattle.answer.specs.declared.Answer.TheVariants.{Done, DelayNotValid, NoHost}
use Rattle.clock.specs.declared.Clock.{Clock}
use Rattle.clock.specs.declared.Counter.{Counter}
use Rattle.clock.specs.declared.Reading.{Reading}
use Rattle.clock.specs.Clock.{count_used}
use Rattle.wire.specs.declared.Packet.{Packet}
use Rattle.table.specs.declared.Update.{Update}
use Rattle.table.specs.declared.entries.Updates.{Updates}
use Rattle.table.specs.Forms.{Stage, on, end}
use Rattle.net_table.specs.declared.NetTable.{NetTable}
use Rattle.host.specs.Settings.{found_for}
use Rattle.host.specs.State.{host_count, broadcast, link_of, with_link}
use Rattle.host.specs.declared.Host.{Host}
use Rattle.host.specs.CallState.{host, our_reading}
use Rattle.host.specs.Guard.{done}
use Rattle.host.specs.declared.Reply.{Reply}
use Rattle.host.specs.Reply.{plainly}
use Rattle.arrival.specs.declared.Flight.{Flight}
use Rattle.arrival.specs.declared.Arrived.{Arrived}
use Rattle.arrival.specs.declared.Delivery.{Delivery}
use Rattle.arrival.specs.declared.Delivery.TheVariants.{Inspect, Act, Receive}
use Rattle.host.specs.Inspection.{inspect, tells}
use Rattle.arrival.specs.Steps.{steps2to4, neighbor_update}

-- ARRIVE-5: no updates; the clock stays
abbrev pub no_updates : Clock → Updates
no_updates c =
    record {
      first = 0;
      end = 0;
      clock = c;
      base = 0;
      clock_host = 0;
      hold_interval = seconds 0;
      count = counts 0;
      date = record { 0 = 0 };
      update = record { pid = 0; delay = millis (pos 0); offset = word (pos 0); reading = millis (pos 0) };
      table = false;
    }

-- INSPECT-1: a reply; clock, links and entries stay
abbrev pub quiet : Reply → Host → Arrived
quiet r h = record { reply = r; links = h.links; work = no_updates h.clock }

-- CLOCK-16: an answer; clock, links and entries stay
abbrev pub ends : Answer → Host → Arrived
ends a h = quiet (plainly a) h

-- ARRIVE-5, CLOCK-16: updates of n ids from one on; the count is the reading's
abbrev pub updated : Host → Count → Packet → Update → (id ids : ℕ) → (table : Bool) → Arrived
updated h n p u id ids table =
    record {
      reply = plainly Done;
      links = h.links;
      work = record {
        first = id;
        end = id + ids;
        clock = h.clock;
        base = 0;
        clock_host = h.settings.clock_host;
        hold_interval = h.settings.hold_interval;
        count = n;
        date = p.date;
        update = u;
        table = table;
      };
    }

-- ARRIVE-5, ANSWER-11: a packet without a table: the id of NEIGHBOR-ADDRESS, or 11
abbrev pub no_table : Host → (link : ℕ) → Count → Packet → Flight → Option ℕ → Arrived
no_table h i n p f None = ends NoHost h
no_table h i n p f (Some id) = updated h n p (neighbor_update i f) id 1 false

-- ARRIVE-5, UPDATE-2: a packet with a table: every id
abbrev pub with_table : Host → (link : ℕ) → Count → Packet → Flight → Arrived
with_table h i n p f = updated h n p (neighbor_update i f) 0 (host_count h.settings) true

-- ARRIVE-5: step 5
abbrev pub step5 : NetTable → Host → (link : ℕ) → Count → Packet → Flight → Arrived
step5 t h i n p f = cond (eqb p.nhosts 0) (no_table h i n p f (found_for t h.settings f.link.neighbor)) (with_table h i n p f)

-- ARRIVE-4, ANSWER-10, CLOCK-16: the link is stored as steps 2 to 4 make it, then 10 or step 5
abbrev pub concluded : NetTable → Host → (link : ℕ) → Count → Packet → Stage Flight → Arrived
concluded t h i n p (end f) = ends DelayNotValid (host h.settings h.clock (with_link i f.link h.links))
concluded t h i n p (on f) = step5 t (host h.settings h.clock (with_link i f.link h.links)) i n p f

-- CLOCK-16, INSPECT-3: steps 2 to 5 with a reading, whose clock they keep
abbrev pub action_at : Reading → Count → NetTable → Host → (link : ℕ) → Packet → Arrived
action_at r n t h i p =
    concluded t (host h.settings r.clock h.links) i n p
    (steps2to4 (broadcast h.settings i) r.clock.hold p r.time (link_of h.links i))

-- INSPECT-3, CLOCK-16: steps 2 to 5 with one reading
abbrev pub action : Counter → NetTable → Host → (link : ℕ) → Packet → Arrived
action k t h i p = action_at (our_reading k h) (count_used k) t h i p

-- ---- the three calls

-- INSPECT-1: the inspection: tests for 3 to 9, no change
abbrev pub inspection : (link : ℕ) (packet : List ℕ) → Host → Arrived
inspection i octets h = quiet (tells (inspect h.settings i octets)) h

-- INSPECT-3, CLOCK-16: a packet that passes is acted on; a refused one is not, and no clock is read
abbrev pub inspected : Counter → NetTable → Host → (link : ℕ) → Result Packet Answer → Arrived
inspected k t h i (Err a) = ends a h
inspected k t h i (Ok p) = action k t h i p

-- INSPECT-3, INSPECT-5: the action: it inspects again
abbrev pub act : (link : ℕ) → Counter → (packet : List ℕ) → NetTable → Host → Arrived
act i k octets t h = inspected k t h i (inspect h.settings i octets)

-- INSPECT-4: the arrival in one call: the inspection and, if it answers 0, the action
abbrev pub arrival : (link : ℕ) → Counter → (packet : List ℕ) → NetTable → Host → Arrived
arrival i k octets t h = cond (done (inspection i octets h).reply.answer) (act i k octets t h) (inspection i octets h)

-- INSPECT-4: one of the three calls
abbrev pub delivered : Delivery → (packet : List ℕ) → NetTable → Host → Arrived
delivered (Inspect i) octets t h = inspection i octets h
delivered (Act i k) octets t h = act i k octets t h
delivered (Receive i k) octets t h = arrival i k octets t h

-- HOST-2: the link that a packet arrives on
abbrev pub on_link : Delivery → ℕ
on_link (Inspect i) = i
on_link (Act i k) = i
on_link (Receive i k) = i
