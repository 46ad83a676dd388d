-- PACKET-9: a host of the same layout never refuses a message of a send with 3 to 8; only 9 remains.
use Rattle.std.specs.Prelude.{◌≡◌, List, ℕ, ◌<◌, ◌^◌, get_or, Err}
use Rattle.answer.specs.declared.Answer.{Answer}
use Rattle.answer.specs.declared.Answer.TheVariants.{Done, LoopedLine}
use Rattle.clock.specs.declared.Counter.{Counter}
use Rattle.wire.specs.code.Ranges.{SignedTwo, AddressFits}
use Rattle.table.specs.Entry.{fresh_entry}
use Rattle.host.specs.declared.Settings.{Settings}
use Rattle.host.specs.State.{link_of}
use Rattle.host.specs.CallState.{CallState, entries_of, our_reading}
use Rattle.host.specs.Inspection.{inspect}
use Rattle.calls.specs.Perform.{send, perform}
use Rattle.network_laws.specs.HostAfter.{message_of}

-- PACKET-9: octets and 16-bit words, as the types of the code have them
pub record Typed (x : CallState) (i : ℕ) (k : Counter) : Type 0 where
  pub address : AddressFits x.host.settings.address
  pub neighbor : AddressFits (link_of x.host.links i).neighbor
  pub address_offset : x.host.settings.layout.address_offset < 256
  pub date : (our_reading k x.host).clock.date.0 < 2 ^ 16
  pub offsets : (id : ℕ) → SignedTwo (get_or (entries_of x) id fresh_entry).offset.0

-- PACKET-9: for every send that answers 0
unfoldable pub Heard : Type 0
Heard =
    (i : ℕ) (k : Counter) (buffer : List ℕ) (x : CallState) → Typed x i k → (perform (send i k buffer) x).reply.answer ≡ Done
    → (t : Settings) → t.layout ≡ x.host.settings.layout → (j : ℕ) (a : Answer)
    → inspect t j (message_of (perform (send i k buffer) x)) ≡ Err a → a ≡ LoopedLine
