-- SEND-1 to SEND-3: what a send says: whether the table goes out, TSP, and the link afterwards.
use Rattle.std.specs.Prelude.{Bool, cond, not, ◌&&◌, ℕ, ◌-◌, eqb, pos}
use Rattle.quantity.specs.declared.Millis.{Millis}
use Rattle.quantity.specs.declared.Word.{Word}
use Rattle.quantity.specs.Quantity.{add_millis}
use Rattle.quantity.specs.Words.{word, to_word, of_word}
use Rattle.calendar.specs.declared.Date.{Date}
use Rattle.wire.specs.declared.Packet.{Packet}
use Rattle.wire.specs.Octets.{zero_address, same_address}
use Rattle.route.specs.Find.{same_net}
use Rattle.host.specs.declared.Settings.{Settings}
use Rattle.host.specs.declared.Link.{Link}

-- SEND-2: does the table go out: is NEIGHBOR-ADDRESS not zero and on our net?
abbrev pub table_goes : Settings → Link → Bool
table_goes s x = not (same_address x.neighbor zero_address) && same_net s.address x.neighbor

-- SEND-3: TSP plus the reading as a 16-bit word if KEEP-ALIVE is not zero; else 0
abbrev pub sent_tsp : Link → (time : Millis) → Word
sent_tsp x t = cond (eqb x.keep_alive 0) (word (pos 0)) (to_word (add_millis (of_word x.tsp) t))

-- SEND-3: KEEP-ALIVE one less
abbrev pub link_sent : Link → Link
link_sent x = record { neighbor = x.neighbor; keep_alive = x.keep_alive - 1; tsp = x.tsp }

-- SEND-1, PACKET-3: the packet's fields
abbrev pub packet_sent : Settings → Link → (time : Millis) → Date → (nhosts : ℕ) → Packet
packet_sent s x t d n =
    record {
      source = s.address;
      date = d;
      time = t;
      tsp = sent_tsp x t;
      address_offset = s.layout.address_offset;
      nhosts = n;
    }
