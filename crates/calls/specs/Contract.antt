-- CALL-4: the contract of a call over references, with what its parameters hold before and after.
use Rattle.std.specs.Prelude.{◌≡◌, List, ℕ}
use Rattle.clock.specs.declared.Clock.{Clock}
use Rattle.clock.specs.declared.Counter.{Counter}
use Rattle.table.specs.declared.Entry.{Entry}
use Rattle.host.specs.declared.Links.{Links}
use Rattle.host.specs.declared.walk.Walk.{Walk}
use Rattle.host.specs.declared.Reply.{Reply}
use Rattle.host.specs.CallState.{CallState}
use Rattle.calls.specs.Perform.{Call, send, perform, Leaves}

-- CALL-4: everything that the caller passed is afterwards as `perform` says
abbrev pub Does : Call → CallState → Reply → Clock → Links → Walk → (copy : List ℕ) → List Entry → Type 0
Does call x r clock links walk copy entries = Leaves (perform call x) r clock links walk copy entries

-- CALL-4: the same of a send, and of its buffer
abbrev pub Sends : (link : ℕ) → Counter → (buffer : List ℕ) → CallState → Reply → Clock → Links → Walk → (copy : List ℕ) → List Entry → (buffer' : List ℕ) → Type 0
Sends link counter buffer x r clock links walk copy entries buffer' =
    Does (send link counter buffer) x r clock links walk copy entries
    × (buffer' ≡ (perform (send link counter buffer) x).buffer)
