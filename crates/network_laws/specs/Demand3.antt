-- ROOM-4 to ROOM-10: demand 3, one claim about every list of the calls that it names; and the same claim for every call except initialize.
use Rattle.std.specs.Prelude.{◌≡◌, Bool, true, ◌||◌, ℕ, ◌*◌, ◌≤◌, ◌<◌, T, eqb, ℤ, pos, ◌+ℤ◌, ◌-ℤ◌, ◌*ℤ◌, nat_abs, get_or, ◌≤ℤ◌, ◌<ℤ◌, Some}
use mathlib.Core.List.{List, [], ◌∷◌, Memᴰ}
use Rattle.answer.specs.declared.Answer.{Answer}
use Rattle.answer.specs.declared.Answer.TheVariants.{Done}
use Rattle.answer.specs.Answer.{number}
use Rattle.clock.specs.declared.Clock.{Clock}
use Rattle.clock.specs.declared.Counter.{Counter}
use Rattle.clock.specs.declared.Reading.{Reading}
use Rattle.clock.specs.Midnight.{day_millis}
use Rattle.clock.specs.Clock.{reading}
use Rattle.table.specs.declared.Entry.{Entry}
use Rattle.table.specs.Entry.{fresh_entry, up}
use Rattle.host.specs.declared.walk.Walk.{Walk}
use Rattle.host.specs.declared.walk.Place.TheVariants.{Step1}
use Rattle.host.specs.Walk.{is_open, place_of, packet_of}
use Rattle.calls.specs.Perform.{Outcome}
use Rattle.network_laws.specs.History.{after_outcome, Continues}
use Rattle.network_laws.specs.Network.{longest_way, error_parts, delay_parts, Network, at, initialized, HostAt, Proper}
pub use Rattle.network_laws.specs.NetworkCalls.{NetworkCall, ticks, seconds, reports, sends, arrives, acts, inspects, opens, steps, adjusts, sets, clocks, looks, Step}
unfoldable pub use Rattle.network_laws.specs.NetworkCalls.{call_of, named, AllNamed}
pub use Rattle.network_laws.specs.Worlds.{Message, World}
unfoldable pub use Rattle.network_laws.specs.Worlds.{after_at, event_of, result, mail_after, step, history}

-- ---- what demand 3 asks of each call

-- ROOM-6: a host's reading with this counter: CLOCK plus the count
abbrev pub reading_at : Network → (node : ℕ) → Clock → Counter → Reading
reading_at r a c k = reading (r.settings a).clock_tick (r.settings a).hold_interval k c

-- ROOM-6: the reading is the network's millisecond plus the host's fixed number, before midnight
pub record Reads (r : Network) (w : World) (a : ℕ) (k : Counter) (t : ℤ) : Type 0 where
  pub clock : (reading_at r a (after_at r w a).clock k).time.0 ≡ t +ℤ r.fixed a
  pub no_midnight : (reading_at r a (after_at r w a).clock k).time.0 <ℤ day_millis.0

-- ROOM-6: is the answer 0, 10 or 11? Then the arrival has a millisecond.
abbrev pub timed : Answer → Bool
timed a = eqb (number a) 0 || eqb (number a) 10 || eqb (number a) 11

-- ROOM-8: the message was at most the longest time under way
pub record Later (r : Network) (w : World) (a : ℕ) (k : Counter) (t : ℤ) (m : Message) : Type 0 where
  pub reads : Reads r w a k t
  pub way : ℕ
  pub short : way ≤ r.longest
  pub later : t ≡ m.ms +ℤ pos way

-- ROOM-8: the packet is a copy of an earlier message from the cable's other end
pub record Delivered (r : Network) (w : World) (a i : ℕ) (k : Counter) (packet : List ℕ) (t : ℤ) (answer : Answer) : Type 0 where
  pub message : Message
  pub earlier : Memᴰ message w.mail
  pub a_copy : packet ≡ message.octets
  pub other_end : r.cable a i ≡ at message.node message.link
  pub in_time : T (timed answer) → Later r w a k t message

-- ROOM-6, ROOM-8: what is required of each call; other readings, links and buffers are free
abbrev pub Timely : Network → World → (node : ℕ) → Outcome → NetworkCall → Type 0
Timely r w a o (ticks n) = Unit {0}
Timely r w a o seconds = Unit {0}
Timely r w a o (reports k) = Unit {0}
Timely r w a o (sends i k buffer t) = o.reply.answer ≡ Done → Reads r w a k t
Timely r w a o (arrives i k packet t) = Delivered r w a i k packet t o.reply.answer
Timely r w a o (acts i k packet t) = Delivered r w a i k packet t o.reply.answer
Timely r w a o (inspects i packet) = Unit {0}
Timely r w a o (opens i packet) = Unit {0}
Timely r w a o (adjusts n) = Unit {0}
Timely r w a o (sets ms n) = Unit {0}
Timely r w a o (clocks k) = Unit {0}
Timely r w a o (looks d) = Unit {0}
Timely r w a o (steps k t) =
    let v : Walk = (after_at r w a).walk in
    is_open v ≡ true → place_of v ≡ Some Step1 → Delivered r w a v.link k (packet_of v (after_at r w a).copy) t o.reply.answer

-- ROOM-5: a call that demand 3 allows
pub record Allowed (r : Network) (w : World) (x : Step) : Type 0 where
  pub node_in : x.node < r.nodes
  -- ROOM-5: it gets the host's state after its last call
  pub continues : Continues (after_at r w x.node) (event_of r w x).call_state
  pub timely : Timely r w x.node (result r w x) x.call

-- ROOM-5: each call of a list is allowed in the network that the calls before it made
unfoldable pub Allows : Network → World → List Step → Type 0
Allows r w [] = Unit {0}
Allows r w (x ∷ xs) = Allowed r w x × Allows r (step r w x) xs

-- ---- the claim

-- ROOM-1: every host was just initialized, and nothing is sent
pub record Starts (r : Network) (w : World) : Type 0 where
  pub was_initialized : (a : ℕ) → a < r.nodes → after_at r w a ≡ after_outcome (r.number a) [] (initialized r a)
  pub no_mail : w.mail ≡ []

-- ROOM-9: the entry of id i at host b
abbrev pub entry_of : Network → World → (b i : ℕ) → Entry
entry_of r w b i = get_or (after_at r w b).places i fresh_entry

-- ROOM-9: the id's host is in the network, and OFFSET is within 101/200 of DELAY
pub record Right (r : Network) (b i : ℕ) (e : Entry) : Type 0 where
  pub node : ℕ
  pub node_in : node < r.nodes
  pub host_there : HostAt r i node
  pub close : pos (delay_parts * nat_abs (e.offset.0 -ℤ (r.fixed node -ℤ r.fixed b))) ≤ℤ (e.delay.0 *ℤ pos error_parts)

-- ROOM-9: every entry that is up, among the first NHOSTS, is right
unfoldable pub Claim : Network → World → Type 0
Claim r w =
    (b i : ℕ) → b < r.nodes → i < (r.settings b).layout.nhosts → up (entry_of r w b i) ≡ true
    → Right r b i (entry_of r w b i)

-- ROOM-10: for every network, start and allowed list of all these calls, if messages take at most n ms
unfoldable pub AllCallsWithin : (longest : ℕ) → Type 0
AllCallsWithin n =
    (r : Network) → Proper r → r.longest ≤ n → (w : World) → Starts r w → (xs : List Step) → Allows r w xs
    → Claim r (history r w xs)

-- ROOM-10, ROOM-9: for at most 16,383 ms
abbrev pub Demand3AllCalls : Type 0
Demand3AllCalls = AllCallsWithin longest_way

-- ROOM-10: the same for the calls that demand 3 names
unfoldable pub Demand3Within : (longest : ℕ) → Type 0
Demand3Within n =
    (r : Network) → Proper r → r.longest ≤ n → (w : World) → Starts r w → (xs : List Step) → AllNamed xs → Allows r w xs
    → Claim r (history r w xs)

-- ROOM-10, ROOM-9: for at most 16,383 ms
abbrev pub Demand3 : Type 0
Demand3 = Demand3Within longest_way
