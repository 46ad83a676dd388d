-- SEND-4: what a caller of a send may rely on, without its definition.
use Rattle.std.specs.Prelude.{◌≡◌, true, List, ℕ, ◌≤◌, length}
use Rattle.clock.specs.declared.Counter.{Counter}
use Rattle.host.specs.CallState.{CallState}
use Rattle.host.specs.Guard.{done}
use Rattle.calls.specs.Perform.{send, perform}

-- SEND-4: a send keeps the entries and the buffer's length, and the length that it returns fits the buffer
pub record SendKeeps (x : CallState) (link : ℕ) (counter : Counter) (buffer : List ℕ) : Type 0 where
  pub own_entries : (perform (send link counter buffer) x).entries ≡ x.entries
  pub room : length (perform (send link counter buffer) x).buffer ≡ length buffer
  pub fits : done (perform (send link counter buffer) x).reply.answer ≡ true → (perform (send link counter buffer) x).reply.length ≤ length buffer

-- SEND-4: the same of every send
unfoldable pub EverySendKeeps : Type 0
EverySendKeeps = (x : CallState) (link : ℕ) (counter : Counter) (buffer : List ℕ) → SendKeeps x link counter buffer
