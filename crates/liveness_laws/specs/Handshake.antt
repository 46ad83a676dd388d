-- LIVE-1: one link: when a packet is accepted. For every host, whatever its state is.
use Rattle.std.specs.Prelude.{◌≡◌, Bool, true, false, cond, not, ◌||◌, ◌&&◌, List, ℕ, ◌-◌, T, eqb}
use Rattle.quantity.specs.Words.{zero_word}
use Rattle.answer.specs.declared.Answer.TheVariants.{Done}
use Rattle.quantity.specs.Quantity.{add_millis, less_millis}
use Rattle.clock.specs.declared.Counter.{Counter}
use Rattle.table.specs.declared.Entry.{Entry}
use Rattle.table.specs.declared.Update.{Update}
use Rattle.table.specs.Entry.{max_delay, min_delay, hold_down, up}
use Rattle.table.specs.Update.{lines, left}
use Rattle.wire.specs.Octets.{same_address}
use Rattle.wire.specs.Packet.{fields}
use Rattle.host.specs.State.{broadcast, link_of}
use Rattle.host.specs.CallState.{CallState, our_reading}
use Rattle.arrival.specs.Steps.{tsp_of}
use Rattle.sending.specs.Message.{sent_tsp, table_goes}
use Rattle.calls.specs.Perform.{send, receive, perform}
use Rattle.network_laws.specs.HostAfter.{message_of}
use Rattle.network_laws.specs.Slots.{Slots}
use Rattle.network_laws.specs.Demand3.{timed}

-- LIVE-1: four sends
abbrev pub believed_sends : ℕ
believed_sends = 4

-- LIVE-1: after an arrival answered 0, 10 or 11 the link knows its neighbour and the clocks' difference
unfoldable pub Hears : Type 0
Hears =
    (i : ℕ) (k : Counter) (packet : List ℕ) (x : CallState) → Slots x.host.settings x.host.links → broadcast x.host.settings i ≡ false
    → T (timed (perform (receive i k packet) x).reply.answer)
    → link_of (perform (receive i k packet) x).links i
    ≡ record { neighbor = (fields packet).source; keep_alive = believed_sends; tsp = tsp_of (fields packet).time (our_reading k x.host).time }

-- LIVE-1: a send uses one of the four, and only then has a TSP
pub record Says (i : ℕ) (k : Counter) (buffer : List ℕ) (x : CallState) : Type 0 where
  pub tsp : (fields (message_of (perform (send i k buffer) x))).tsp ≡ sent_tsp (link_of x.host.links i) (our_reading k x.host).time
  pub falls : (link_of (perform (send i k buffer) x).links i).keep_alive ≡ (link_of x.host.links i).keep_alive - 1
  pub keeps : (link_of (perform (send i k buffer) x).links i).neighbor ≡ (link_of x.host.links i).neighbor
  pub table : eqb (fields (message_of (perform (send i k buffer) x))).nhosts 0 ≡ false → table_goes x.host.settings (link_of x.host.links i) ≡ true

-- LIVE-1: for every send answered 0
unfoldable pub Speaks : Type 0
Speaks = (i : ℕ) (k : Counter) (buffer : List ℕ) (x : CallState) → Slots x.host.settings x.host.links → (perform (send i k buffer) x).reply.answer ≡ Done → Says i k buffer x

-- LIVE-1: a table of the known neighbour is accepted exactly if TSP is not 0 and HOLD is 0
unfoldable pub Believes : Type 0
Believes =
    (i : ℕ) (k : Counter) (packet : List ℕ) (x : CallState) → broadcast x.host.settings i ≡ false
    → T (timed (perform (receive i k packet) x).reply.answer) → eqb (fields packet).nhosts 0 ≡ false
    → same_address (fields packet).source (link_of x.host.links i).neighbor ≡ true
    → ((perform (receive i k packet) x).reply.answer ≡ Done → (zero_word (fields packet).tsp ≡ false) × (eqb (our_reading k x.host).clock.hold.0 0 ≡ true))
    × (zero_word (fields packet).tsp ≡ false → eqb (our_reading k x.host).clock.hold.0 0 ≡ true → (perform (receive i k packet) x).reply.answer ≡ Done)

-- LIVE-1: is a report under 30,000 ms stored? It is, on the entry's own link or with at least 100 ms less, if the entry is up or its hold-down is over
abbrev pub accepts : Update → Entry → Bool
accepts u e = (eqb u.pid e.pid || not (less_millis e.delay (add_millis u.delay min_delay))) && (up e || eqb e.ttl.0 0)

-- LIVE-1: the entry that stores a report
abbrev pub storing : Update → Entry → Entry
storing u e = record { delay = u.delay; offset = u.offset; ttl = hold_down; pid = u.pid; here = e.here; time = u.reading }

-- LIVE-1: what a report under 30,000 ms makes of an entry: it is stored, or the entry stays as it is; so it takes no entry down
unfoldable pub Learns : Type 0
Learns = (u : Update) (e : Entry) → less_millis u.delay max_delay ≡ true → left (lines u e) ≡ cond (accepts u e) (storing u e) e

-- LIVE-1: all four
pub record Handshake : Type 0 where
  pub hears : Hears
  pub speaks : Speaks
  pub believes : Believes
  pub learns : Learns
