-- INSPECT-1: the tests for 3 to 9: 3 to 7 on the octets alone, then 8 and step 1.
use Rattle.std.specs.Prelude.{Bool, cond, not, ◌&&◌, ◌||◌, List, ℕ, eqb, Result, Ok, Err}
use Rattle.answer.specs.declared.Answer.{Answer}
use Rattle.quantity.specs.Words.{bits16}
use Rattle.answer.specs.declared.Answer.TheVariants.{OtherLayout, LoopedLine}
use Rattle.wire.specs.declared.Packet.{Packet}
use Rattle.wire.specs.Octets.{same_address}
use Rattle.wire.specs.Packet.{parse}
use Rattle.host.specs.declared.Settings.{Settings}
use Rattle.host.specs.State.{broadcast}
use Rattle.host.specs.declared.Reply.{Reply}
use Rattle.host.specs.Reply.{plainly, returns_packet}

-- PACKET-10, ANSWER-8: has the packet a table of another layout?
unfoldable pub other_layout : Settings → Packet → Bool
other_layout s p =
    not (eqb p.nhosts 0)
    && (not (eqb p.nhosts s.layout.nhosts) || not (eqb p.address_offset s.layout.address_offset))

-- ARRIVE-1, ANSWER-9, MARK-4: is the source our LOCAL-ADDRESS on a point-to-point link?
unfoldable pub looped : Settings → (link : ℕ) → Packet → Bool
looped s i p = not (broadcast s i) && same_address p.source s.address

-- INSPECT-1, INSPECT-5: 8 and 9, after 3 to 7
abbrev pub inspected : Settings → (link : ℕ) → Result Packet Answer → Result Packet Answer
inspected s i (Err a) = Err a
inspected s i (Ok p) = cond (other_layout s p) (Err OtherLayout) (cond (looped s i p) (Err LoopedLine) (Ok p))

-- INSPECT-1, INSPECT-5: the packet, or the first of 3 to 9
unfoldable pub inspect : Settings → (link : ℕ) → (packet : List ℕ) → Result Packet Answer
inspect s i octets = inspected s i (parse octets)

-- INSPECT-2: what an inspection returns; zeros at a refusal
abbrev pub tells : Result Packet Answer → Reply
tells (Err a) = plainly a
tells (Ok p) = returns_packet p.source p.time (bits16 p.tsp.0) p.nhosts
