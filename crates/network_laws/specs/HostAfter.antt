-- ISOLATION-3: what a call returns.
use Rattle.std.specs.Prelude.{List, ℕ, take}
use Rattle.host.specs.declared.Reply.{Reply}
use Rattle.calls.specs.Perform.{Outcome}

-- SEND-4: the message of a send: as many octets of its buffer as the length says
abbrev pub message_of : Outcome → List ℕ
message_of o = take o.reply.length o.buffer

-- ISOLATION-3: the reply and the message
pub record Returned : Type 0 where
  pub reply : Reply
  pub message : List ℕ

-- ISOLATION-3: what an outcome returns
abbrev pub returned : Outcome → Returned
returned o = record { reply = o.reply; message = message_of o }
