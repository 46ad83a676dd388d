-- The arrival in one piece is the action alone, since the action inspects too: where the inspection refuses, both end with its answer.
use Rattle.std.specs.Prelude.{Result, Ok, Err}
use Rattle.answer.specs.declared.Answer.{Answer}
use Rattle.wire.specs.declared.Packet.{Packet}
use mathlib.Core.Path.{◌≡◌, refl}
use mathlib.Core.Bool.{Bool, true, false, cond}
use mathlib.Core.List.{List}
use Prim.Native.Nat.{ℕ}
use Rattle.clock.specs.declared.Counter.{Counter}
use Rattle.net_table.specs.declared.NetTable.{NetTable}
use Rattle.host.specs.declared.Host.{Host}
use Rattle.host.specs.Guard.{done}
use Rattle.arrival.specs.declared.Arrived.{Arrived}
use Rattle.host.specs.Inspection.{inspect, tells}
use Rattle.arrival.specs.Arrival.{quiet, ends, inspected, act, arrival}

pub one_piece : (i : ℕ) (k : Counter) (octets : List ℕ) (t : NetTable) (h : Host) → arrival i k octets t h ≡ act i k octets t h
one_piece i k octets t h = go (inspect h.settings i octets)
  where
    same : (b : Bool) (a : Arrived) → cond b a a ≡ a
    same true a = refl
    same false a = refl

    go : (q : Result Packet Answer)
        → cond (done (tells q).answer) (inspected k t h i q) (quiet (tells q) h) ≡ inspected k t h i q
    go (Ok p) = refl
    go (Err a) = same (done a) (ends a h)
