-- ROOM-5, ROOM-8, ROOM-10: a network after a list of calls.
use Rattle.std.specs.Prelude.{cond, List, [], ◌∷◌, ℕ, ℤ}
use Rattle.host.specs.Guard.{done}
use Rattle.calls.specs.Perform.{Outcome}
use Rattle.network_laws.specs.HostAfter.{message_of}
use Rattle.network_laws.specs.History.{Event, State, HostAfter, outcome, after}
use Rattle.network_laws.specs.Network.{Network, state_at}
use Rattle.network_laws.specs.NetworkCalls.{NetworkCall, ticks, seconds, reports, sends, arrives, acts, inspects, opens, steps, adjusts, sets, clocks, looks, call_of, Step}

-- ---- the network after a list of calls

-- ROOM-8: a message sent with answer 0: its link, its millisecond and its octets
pub record Message : Type 0 where
  pub node : ℕ
  pub link : ℕ
  pub ms : ℤ
  pub octets : List ℕ

-- ROOM-5: the state after each host's last call, and everything sent so far
pub record World : Type 0 where
  pub state : State
  pub mail : List Message

-- ROOM-5: the state of a host
abbrev pub after_at : Network → World → (node : ℕ) → HostAfter
after_at r w a = w.state (r.number a)

-- ROOM-5: the call with everything that it takes
abbrev pub event_of : Network → World → Step → Event
event_of r w x =
    let was : HostAfter = after_at r w x.node in
    record { call = call_of x.call; call_state = state_at r x.node x.nets was.clock x.links was.walk x.copy x.entries }

-- ROOM-10: the outcome of a call
abbrev pub result : Network → World → Step → Outcome
result r w x = outcome (event_of r w x)

-- ROOM-8: the messages after a call; an arrival removes none
abbrev pub mail_after : (node : ℕ) → Outcome → NetworkCall → List Message → List Message
mail_after a o (ticks n) mail = mail
mail_after a o seconds mail = mail
mail_after a o (reports k) mail = mail
mail_after a o (sends i k buffer t) mail =
    cond (done o.reply.answer) (record { node = a; link = i; ms = t; octets = message_of o } ∷ mail) mail
mail_after a o (arrives i k packet t) mail = mail
mail_after a o (acts i k packet t) mail = mail
mail_after a o (inspects i packet) mail = mail
mail_after a o (opens i packet) mail = mail
mail_after a o (steps k t) mail = mail
mail_after a o (adjusts n) mail = mail
mail_after a o (sets ms n) mail = mail
mail_after a o (clocks k) mail = mail
mail_after a o (looks d) mail = mail

-- ROOM-10: the network after a call
unfoldable pub step : Network → World → Step → World
step r w x =
    record { state = after w.state (event_of r w x); mail = mail_after x.node (result r w x) x.call w.mail }

-- ROOM-10: the network after a list of calls
unfoldable pub history : Network → World → List Step → World
history r w [] = w
history r w (x ∷ xs) = history r (step r w x) xs
