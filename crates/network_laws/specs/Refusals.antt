-- REPLY-3: a refusal changes only what the table of answers says.
use Rattle.std.specs.Prelude.{◌≡◌, List, ℕ}
use Rattle.answer.specs.declared.Answer.{Answer}
use Rattle.answer.specs.declared.Answer.TheVariants.{Done, DelayNotValid, NoHost}
use Rattle.clock.specs.declared.Clock.{Clock}
use Rattle.clock.specs.declared.Counter.{Counter}
use Rattle.host.specs.declared.Link.{Link}
use Rattle.host.specs.State.{link_of, with_link}
use Rattle.host.specs.Walk.{no_walk}
use Rattle.host.specs.declared.Host.{Host}
use Rattle.host.specs.CallState.{CallState, call_state, our_reading}
use Rattle.arrival.specs.declared.Delivery.{Delivery}
use Rattle.arrival.specs.declared.Delivery.TheVariants.{Inspect, Act, Receive}
use Rattle.arrival.specs.Arrival.{on_link}
use Rattle.calls.specs.Perform.{Call, deliver, step, refused, perform}

-- REPLY-3: neither 10 nor 11
abbrev pub Early : Answer → Type 0
Early a = (a ≡ DelayNotValid → ⊥) × (a ≡ NoHost → ⊥)

-- REPLY-3: an answer that refuses without a change
pub record Refuses (c : Call) (a : Answer) : Type 0 where
  pub not_done : a ≡ Done → ⊥
  pub early : (d : Delivery) (octets : List ℕ) → c ≡ deliver d octets → Early a
  pub early_step : (k : Counter) → c ≡ step k → Early a

-- CLOCK-16: the clock after the reading; an inspection does not read
abbrev pub clock_read : Delivery → Host → Clock
clock_read (Inspect i) h = h.clock
clock_read (Act i k) h = (our_reading k h).clock
clock_read (Receive i k) h = (our_reading k h).clock

-- REPLY-3: the state with that clock and another link
abbrev pub relinked : Delivery → Link → CallState → CallState
relinked d l x = call_state x.host.settings x.nets x.number (clock_read d x.host) (with_link (on_link d) l x.host.links) x.walk x.copy x.entries

-- WALK-7: the state without a walk
abbrev pub closed : CallState → CallState
closed x = call_state x.host.settings x.nets x.number x.host.clock x.host.links no_walk x.copy x.entries

-- REPLY-3, ISOLATION-1: for every call
pub record Refusals : Type 0 where
  -- REPLY-3: nothing changes, and the values are zero
  pub unchanged :
      (c : Call) (x : CallState) → Refuses c (perform c x).reply.answer → perform c x ≡ refused (perform c x).reply.answer c x
  -- ANSWER-10, CLOCK-16: 10: the reading, KEEP-ALIVE and TSP
  pub delay :
      (d : Delivery) (octets : List ℕ) (x : CallState) → (perform (deliver d octets) x).reply.answer ≡ DelayNotValid
      → (l : Link) × (perform (deliver d octets) x ≡ refused DelayNotValid (deliver d octets) (relinked d l x))
      × (l.neighbor ≡ (link_of x.host.links (on_link d)).neighbor)
  -- ANSWER-11, CLOCK-16: 11 at an arrival: the reading and the link
  pub unknown :
      (d : Delivery) (octets : List ℕ) (x : CallState) → (perform (deliver d octets) x).reply.answer ≡ NoHost
      → (l : Link) × (perform (deliver d octets) x ≡ refused NoHost (deliver d octets) (relinked d l x))
  -- WALK-7: 10 and 11 at a step end the walk and change nothing else
  pub walk_delay :
      (k : Counter) (x : CallState) → (perform (step k) x).reply.answer ≡ DelayNotValid → perform (step k) x ≡ refused DelayNotValid (step k) (closed x)
  pub walk_unknown :
      (k : Counter) (x : CallState) → (perform (step k) x).reply.answer ≡ NoHost → perform (step k) x ≡ refused NoHost (step k) (closed x)
