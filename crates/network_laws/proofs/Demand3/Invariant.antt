-- What every call of a room keeps: tables, links and messages.
use mathlib.Core.Path.{◌≡◌}
use mathlib.Core.Bool.{Bool, true, false, ◌&&◌}
use mathlib.Core.List.{List, Memᴰ}
use Prim.Native.Nat.{ℕ, suc, ◌≤◌, ◌<◌}
use lib.Dec.{eqb}
use lib.IntN.{ℤ, pos, ◌+ℤ◌, ◌-ℤ◌}
use lib.ListN.{length, take}
use Rattle.std.proofs.Common.{Option, Some, None}
use Rattle.quantity.specs.declared.Millis.{Millis}
use Rattle.quantity.specs.declared.Word.{Word}
use Rattle.quantity.specs.Quantity.{less_millis}
use Rattle.quantity.specs.Words.{of_word, zero_word}
use Rattle.quantity.proofs.Ints.{up, dn}
use Rattle.quantity.proofs.Wrap.{Same}
use Rattle.wire.specs.declared.Address.{Address}
use Rattle.wire.specs.declared.Packet.{Packet}
use Rattle.wire.specs.declared.Report.{Report}
use Rattle.wire.specs.Packet.{fields, message}
use Rattle.table.specs.declared.Entry.{Entry}
use Rattle.table.specs.Entry.{max_delay}
use Rattle.table.specs.Entry as entry
use Rattle.host.specs.declared.Link.{Link}
use Rattle.host.specs.declared.Links.{Links}
use Rattle.host.specs.declared.walk.Walk.{Walk}
use Rattle.host.specs.declared.walk.Place.{Place}
use Rattle.host.specs.declared.walk.Place.TheVariants.{Step1, Step2, Step3, Step4, Step5, LineA, LineB, LineC, LineD}
use Rattle.host.specs.State.{host_count, link_of}
use Rattle.host.specs.Walk.{is_open, place_of, packet_of}
use Rattle.arrival.specs.Steps.{tsp_of, delay_of, offset_of, at_least_min}
use Rattle.network_laws.specs.History.{HostAfter}
use Rattle.network_laws.specs.Network.{Network, at, HostAt}
use Rattle.network_laws.specs.Demand3.{Message, World}
use Rattle.network_laws.proofs.Lists.{All}
use Rattle.network_laws.proofs.Demand3.Near.{Fits16, Near}

-- ---- tables

-- A DELAY and an OFFSET for id i, in the table of node b: there is such a host, and the OFFSET is near.
pub record Known (r : Network) (b i : ℕ) (delay offset : ℤ) : Type 0 where
  pub node : ℕ
  pub node_in : node < r.nodes
  pub host_there : HostAt r i node
  pub near : Near offset (r.fixed node) (r.fixed b) delay

pub record RightEntry (r : Network) (b i : ℕ) (e : Entry) : Type 0 where
  pub fits : Fits16 e.offset.0
  pub known : entry.up e ≡ true → Known r b i e.delay.0 e.offset.0

-- ---- messages

pub record RightReport (r : Network) (a i : ℕ) (p : Report) : Type 0 where
  pub not_negative : dn p.delay.0 ≤ 0
  pub delay_fits : up p.delay.0 < 65536
  pub fits : Fits16 p.offset.0
  pub known : less_millis p.delay max_delay ≡ true → Known r a i p.delay.0 p.offset.0

-- The TSP of a packet that was sent at millisecond t, for node b at the cable's other end: the bits of b's clock then, less a way.
pub record Carries (r : Network) (b : ℕ) (t tsp : ℤ) : Type 0 where
  pub way : ℕ
  pub short : way ≤ r.longest
  pub bits : Same 16 tsp ((t +ℤ r.fixed b) -ℤ pos way)

pub record RightMessage (r : Network) (m : Message) : Type 0 where
  pub node_in : m.node < r.nodes
  pub destination : Address
  pub packet : Packet
  pub reports : List Report
  pub octets_are : m.octets ≡ message destination packet reports
  pub source : packet.source ≡ (r.settings m.node).address
  pub time : packet.time.0 ≡ m.ms +ℤ r.fixed m.node
  pub time_low : dn packet.time.0 ≤ 0
  pub time_high : up packet.time.0 < 86400000
  pub count : packet.nhosts ≡ length reports
  pub right : All (RightReport r m.node) reports
  pub tsp_fits : Fits16 packet.tsp.0
  pub tsp : (b j : ℕ) → r.cable m.node m.link ≡ at b j → zero_word packet.tsp ≡ false → Carries r b m.ms packet.tsp.0

-- ---- links

-- The TSP of a link of node a, cabled to node b, has the bits of the true difference less a way.
pub record Tied (r : Network) (a b : ℕ) (tsp : ℤ) : Type 0 where
  pub way : ℕ
  pub short : way ≤ r.longest
  pub bits : Same 16 tsp ((r.fixed b -ℤ r.fixed a) -ℤ pos way)

-- where KEEP-ALIVE is not 0
abbrev pub RightLink : (r : Network) (a i : ℕ) → Link → Type 0
RightLink r a i x = (b j : ℕ) → r.cable a i ≡ at b j → eqb x.keep_alive 0 ≡ false → Tied r a b x.tsp.0

-- link i is at place i - 1
abbrev pub RightLinks : (r : Network) (a : ℕ) → List Link → Type 0
RightLinks r a l = All (λ (j : ℕ). RightLink r a (suc j)) l

-- ---- walks

-- a DELAY and an OFFSET of node a's clock at node b, after step 4: the OFFSET fits, and is near if DELAY is under 30,000
pub record Direct (r : Network) (b a : ℕ) (delay : Millis) (offset : Word) : Type 0 where
  pub fits : Fits16 offset.0
  pub near : less_millis (at_least_min delay) max_delay ≡ true → Near offset.0 (r.fixed a) (r.fixed b) (at_least_min delay).0

-- a walk's packet, link and reading, from box 1 on: a message of the cable's other end, that took `way` ms
pub record Taken (r : Network) (b link : ℕ) (reading : Millis) (octets : List ℕ) : Type 0 where
  pub message : Message
  pub right : RightMessage r message
  pub cable : r.cable b link ≡ at message.node message.link
  pub octets_are : octets ≡ message.octets
  pub way : ℕ
  pub short : way ≤ r.longest
  pub clock : reading.0 ≡ (message.ms +ℤ pos way) +ℤ r.fixed b

-- from box 3 on: DELAY and OFFSET are those of step 3
pub record Timed (r : Network) (b : ℕ) (w : Walk) (octets : List ℕ) : Type 0 where
  pub taken : Taken r b w.link w.reading octets
  pub delay : of_word w.delay ≡ delay_of w.reading (fields octets).tsp
  pub offset : w.offset ≡ offset_of (tsp_of (fields octets).time w.reading) (delay_of w.reading (fields octets).tsp)

-- from box 4 on: they are right, and the link's neighbour is the sender while DELAY is under 30,000
pub record Aimed (r : Network) (b : ℕ) (w : Walk) (octets : List ℕ) (l : Links) : Type 0 where
  pub taken : Taken r b w.link w.reading octets
  pub fits : Fits16 w.delay.0
  pub direct : Direct r b taken.message.node (of_word w.delay) w.offset
  pub neighbor : less_millis (at_least_min (of_word w.delay)) max_delay ≡ true → (link_of l w.link).neighbor ≡ (r.settings taken.message.node).address

-- from box 5 on: DELAY is raised, and the id of a packet without a table is the sender's
pub record Lined (r : Network) (b : ℕ) (w : Walk) (octets : List ℕ) : Type 0 where
  pub taken : Taken r b w.link w.reading octets
  pub direct : Direct r b taken.message.node (of_word w.delay) w.offset
  pub raised : at_least_min (of_word w.delay) ≡ of_word w.delay
  pub host_there : less_millis (of_word w.delay) max_delay ≡ true → eqb (fields octets).nhosts 0 ≡ true → HostAt r w.id taken.message.node

-- by the place of the next box
abbrev pub RightAt : (r : Network) (b : ℕ) → Walk → (packet : List ℕ) → Links → Option Place → Type 0
RightAt r b w octets l None = Unit {0}
RightAt r b w octets l (Some Step1) = Unit {0}
RightAt r b w octets l (Some Step2) = Taken r b w.link w.reading octets
RightAt r b w octets l (Some Step3) = Taken r b w.link w.reading octets
RightAt r b w octets l (Some Step4) = Timed r b w octets
RightAt r b w octets l (Some Step5) = Aimed r b w octets l
RightAt r b w octets l (Some LineA) = Lined r b w octets
RightAt r b w octets l (Some LineB) = Lined r b w octets
RightAt r b w octets l (Some LineC) = Lined r b w octets
RightAt r b w octets l (Some LineD) = Lined r b w octets

abbrev pub RightWalk : (r : Network) (b : ℕ) → Walk → (copy : List ℕ) → Links → Type 0
RightWalk r b w copy l = is_open w ≡ true → RightAt r b w (packet_of w copy) l (place_of w)

-- after box 2 the link's KEEP-ALIVE is set, and its TSP is not yet
abbrev pub at_third : Option Place → Bool
at_third None = false
at_third (Some Step1) = false
at_third (Some Step2) = false
at_third (Some Step3) = true
at_third (Some Step4) = false
at_third (Some Step5) = false
at_third (Some LineA) = false
at_third (Some LineB) = false
at_third (Some LineC) = false
at_third (Some LineD) = false

abbrev pub between : Walk → (link : ℕ) → Bool
between w i = is_open w && at_third (place_of w) && eqb w.link i

-- the links of a node with this walk
abbrev pub LinksIn : (r : Network) (b : ℕ) → Walk → List Link → Type 0
LinksIn r b w l = All (λ (j : ℕ) (x : Link). between w (suc j) ≡ false → RightLink r b (suc j) x) l

-- ---- nodes and the world

pub record RightNode (r : Network) (a : ℕ) (x : HostAfter) : Type 0 where
  pub links : LinksIn r a x.walk x.links.all
  pub walk : RightWalk r a x.walk x.copy x.links
  pub table : All (RightEntry r a) (take (host_count (r.settings a)) x.places)

pub record RightWorld (r : Network) (w : World) : Type 0 where
  pub nodes : (a : ℕ) → a < r.nodes → RightNode r a (w.state (r.number a))
  pub mail : (m : Message) → Memᴰ m w.mail → RightMessage r m
