-- What is held of a walk: a DELAY that is a signed 16-bit word, an id that the packet's table has, and all that the guard tests of it.
use mathlib.Core.Path.{◌≡◌}
use mathlib.Core.Bool.{Bool, true, false, not, ◌&&◌}
use mathlib.Core.List.{List}
use Prim.Native.Nat.{ℕ, ◌+◌, ◌≤◌}
use native.Mathlib.Omega.{arith}
use borrow.Author.Tests.{ltb-true, leb-true, not-true}
use lib.Dec.{leb, eqb}
use lib.ListN.{length}
use mir.Syntax.{w16}
use mir.Val.{SFits}
use Rattle.lists.proofs.Tests.{both}
use Rattle.quantity.proofs.Ints.{fits_up, fits_dn}
use Rattle.wire.specs.declared.Packet.{Packet}
use Rattle.wire.specs.Ip.{header_length}
use Rattle.wire.specs.Hello.{report_place, report_length}
use Rattle.table.specs.Update.{own_in_range}
use Rattle.table.proofs.Ranges.{between_is}
use Rattle.host.specs.declared.Settings.{Settings}
use Rattle.host.specs.declared.walk.Walk.{Walk}
use Rattle.host.specs.State.{no_link}
use Rattle.host.specs.Inspection.{inspect}
use Rattle.host.specs.Walk.{is_open, packet_of, walk_update, id_in_range, packet_fits, walk_in_range}
use Rattle.host.specs.code.Walks.{Reported}

pub held_own : (w : Walk) → SFits w16 w.delay.0 → own_in_range (walk_update w) ≡ true
held_own w f = between_is 32767 32767 w.delay.0 (omega (arith, fits_up w16 w.delay.0 f, fits_dn w16 w.delay.0 f))

pub has_report : (s : Settings) (w : Walk) (p : Packet) (octets : List ℕ) → Reported s p octets → id_in_range s w ≡ true → eqb p.nhosts 0 ≡ false
    → header_length + report_place w.id + report_length ≤ length octets
has_report s w p octets r i some = let id = ltb-true w.id s.layout.nhosts i in omega (arith, r.whole, r.ours some, id)

-- an open walk that is within its ranges
pub record Opened (s : Settings) (w : Walk) (copy : List ℕ) : Type 0 where
  pub link : no_link s w.link ≡ false
  pub length : w.length ≤ length copy
  pub held : packet_fits s w (packet_of w copy) (inspect s w.link (packet_of w copy)) ≡ true

pub opened_says : (s : Settings) (w : Walk) (copy : List ℕ) → walk_in_range s w copy ≡ true → is_open w ≡ true → Opened s w copy
unfolding walk_in_range
opened_says s w copy e opened =
    let held : Bool = packet_fits s w (packet_of w copy) (inspect s w.link (packet_of w copy)) in
    let t = both (not (no_link s w.link) && leb w.length (length copy)) held (rw opened at e) in
    let u = both (not (no_link s w.link)) (leb w.length (length copy)) t.0 in
    record { link = not-true _ u.0; length = leb-true _ _ u.1; held = t.1 }
