-- CALL-4, REPLY-5: the contract of an export: it does its call, and returns a part of the reply.
use Rattle.std.specs.Prelude.{◌≡◌, List, ℕ}
use Rattle.clock.specs.declared.Clock.{Clock}
use Rattle.clock.specs.declared.Counter.{Counter}
use Rattle.table.specs.declared.Entry.{Entry}
use Rattle.host.specs.declared.Links.{Links}
use Rattle.host.specs.declared.walk.Walk.{Walk}
use Rattle.host.specs.declared.Reply.{Reply}
use Rattle.host.specs.CallState.{CallState}
use Rattle.calls.specs.Perform.{Call, send, perform}
use Rattle.hello.specs.Returned.{Returns, sent_returned}
use Rattle.hello.specs.declared.Sent.{Sent}

-- CALL-4, REPLY-5: everything that the caller passed is afterwards as `perform` says, and a part of the reply is returned
abbrev pub Exports : {R : Type 0} → (Reply → R) → Call → CallState → R → Clock → Links → Walk → (copy : List ℕ) → List Entry → Type 0
Exports part call x r clock links walk copy entries = Returns part (perform call x) r clock links walk copy entries

-- CALL-4, REPLY-5: the same of a send, and of its buffer
abbrev pub ExportsSend : (link : ℕ) → Counter → (buffer : List ℕ) → CallState → Sent → Clock → Links → Walk → (copy : List ℕ) → List Entry → (buffer' : List ℕ) → Type 0
ExportsSend link counter buffer x r clock links walk copy entries buffer' =
    Exports sent_returned (send link counter buffer) x r clock links walk copy entries
    × (buffer' ≡ (perform (send link counter buffer) x).buffer)
