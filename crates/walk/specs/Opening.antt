-- WALK-1: opening a walk.
use Rattle.std.specs.Prelude.{List, ℕ, pos, length, take, Result, Ok, Err}
use Rattle.answer.specs.declared.Answer.{Answer}
use Rattle.wire.specs.declared.Packet.{Packet}
use Rattle.lists.specs.Lists.{over}
use Rattle.quantity.specs.Quantity.{millis, counts}
use Rattle.quantity.specs.Words.{word}
use Rattle.host.specs.declared.Settings.{Settings}
use Rattle.host.specs.declared.walk.Walk.{Walk}
use Rattle.host.specs.Reply.{plainly, returns_place}
use Rattle.host.specs.Inspection.{inspect}
use Rattle.walk.specs.declared.Opening.{Opening}

-- WALK-1: a walk before step 1
abbrev pub opened_on : (link octets : ℕ) → Walk
opened_on i n =
    record {
      opened = 1;
      link = i;
      step = 1;
      line = 0;
      id = 0;
      length = n;
      count = counts 0;
      reading = millis (pos 0);
      delay = word (pos 0);
      offset = word (pos 0);
    }

-- WALK-1: the reply, the walk, and how many octets are copied
abbrev pub opened_by : (link : ℕ) → (packet : List ℕ) → Walk → Result Packet Answer → Opening
opened_by i octets w (Err a) = record { reply = plainly a; walk = w; octets = 0 }
opened_by i octets w (Ok p) = record { reply = returns_place 1 0 0; walk = opened_on i (length octets); octets = length octets }

-- WALK-1: opening, with the tests for 3 to 9
unfoldable pub opening : (link : ℕ) → (packet : List ℕ) → Settings → Walk → Opening
opening i octets s w = opened_by i octets w (inspect s i octets)

-- WALK-1: the copy with the packet at its start; the octets after it stay
unfoldable pub copied : (octets : ℕ) → (packet copy : List ℕ) → List ℕ
copied n packet copy = over copy 0 (take n packet)
