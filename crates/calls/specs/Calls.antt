-- ISOLATION-1: a call with its input, and its outcome.
use Rattle.std.specs.Prelude.{List, ℕ}
use Rattle.clock.specs.declared.Clock.{Clock}
use Rattle.clock.specs.declared.Counter.{Counter}
use Rattle.table.specs.declared.Entry.{Entry}
use Rattle.host.specs.declared.Links.{Links}
use Rattle.host.specs.declared.walk.Walk.{Walk}
use Rattle.host.specs.declared.Reply.{Reply}
use Rattle.arrival.specs.declared.Delivery.{Delivery}
use Rattle.arrival.specs.declared.Delivery.TheVariants.{Inspect, Act, Receive}
use Rattle.calls.specs.declared.Request.{Request}
use Rattle.calls.specs.declared.Request.TheVariants.{Step}

-- CALL-1, CALL-4: a call with its input
pub data Call : Type 0 where
  ask : Request → Call
  send : (link : ℕ) → Counter → (buffer : List ℕ) → Call
  deliver : Delivery → (packet : List ℕ) → Call
  open_walk : (link : ℕ) (packet : List ℕ) → Call

-- INSPECT-1: the inspection of a packet
abbrev pub inspect : (link : ℕ) (packet : List ℕ) → Call
inspect i packet = deliver (Inspect i) packet

-- INSPECT-3: the action on a packet
abbrev pub act : (link : ℕ) → Counter → (packet : List ℕ) → Call
act i k packet = deliver (Act i k) packet

-- INSPECT-4: the arrival in one call
abbrev pub receive : (link : ℕ) → Counter → (packet : List ℕ) → Call
receive i k packet = deliver (Receive i k) packet

-- WALK-3: one box of a walk
abbrev pub step : Counter → Call
step k = ask (Step k)

-- CALL-4: the reply, and everything that the caller passed, afterwards
pub record Outcome : Type 0 where
  pub reply : Reply
  pub clock : Clock
  pub links : Links
  pub walk : Walk
  pub copy : List ℕ
  pub entries : List Entry
  pub buffer : List ℕ
