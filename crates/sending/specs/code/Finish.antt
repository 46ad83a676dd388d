-- How the code completes a message around its reports.
use Rattle.std.specs.Prelude.{◌≡◌, List, ℕ, ◌≤◌, length, Option, Some, None}
use Rattle.wire.specs.Packet.{packet_length}
use Rattle.wire.specs.code.Ranges.{Four}
use Rattle.wire.specs.code.Sealing.{sealed}
use Rattle.sending.specs.declared.Sending.{Sending}
use Rattle.sending.specs.declared.Message.{Message}

-- what completing a message asks: its room, and a time that four octets hold
pub record Finishable (p : Sending) (buffer : List ℕ) : Type 0 where
  pub room : (m : Message) → p.message ≡ Some m → packet_length m.packet.nhosts ≤ length buffer
  pub time : (m : Message) → p.message ≡ Some m → Four m.packet.time.0

abbrev pub completed : Option Message → (buffer : List ℕ) → List ℕ
completed None buffer = buffer
completed (Some m) buffer = sealed m.destination m.packet buffer

abbrev pub finished : Sending → (buffer : List ℕ) → List ℕ
finished p buffer = completed p.message buffer
