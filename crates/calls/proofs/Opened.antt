-- A walk that is opened as the code goes: the guard, the plan, and the packet copied.
use Rattle.std.specs.Prelude.{Result, Ok, Err}
use Rattle.answer.specs.declared.Answer.{Answer}
use Rattle.wire.specs.declared.Packet.{Packet}
use mathlib.Core.Path.{◌≡◌, refl}
use mathlib.Core.Bool.{true, false}
use mathlib.Core.List.{List}
use Prim.Native.Nat.{ℕ, ◌≤◌}
use native.Mathlib.Omega.{arith}
use lib.ListN.{length}
use Rattle.host.specs.declared.guard.Scope.TheVariants as scope
use Rattle.host.specs.CallState.{CallState}
use Rattle.host.specs.Inspection.{inspect}
use Rattle.host.specs.Guard.{guard, longest, done}
use Rattle.host.specs.State.{no_link}
use Rattle.host.proofs.Guarded.{passed, counted}
use Rattle.host.proofs.Inspected.{Fits, inspected_fits}
use Rattle.walk.specs.declared.Opening.{Opening}
use Rattle.walk.specs.Opening.{opened_by, opening, copied}
use Rattle.calls.specs.Perform.{Leaves, open_walk, perform}
use Rattle.calls.proofs.Guarding.{goes_on}

module _ (x : CallState) (i : ℕ) (packet : List ℕ) (d : done (guard (scope.Opening i) x) ≡ true) where
  opens : (no_link x.host.settings i ≡ false) × (longest ≤ length x.copy)
  opens = (passed (scope.Opening i) x d).opening i refl

  pub openable : (1 ≤ i) × (i ≤ 8)
  openable = let has = counted _ i opens.0 in (has.from_one, has.to_eight)

  pub record Opened (p : Opening) : Type 0 where
    pub room : (p.octets ≤ length packet) × (p.octets ≤ length x.copy)
    pub left : Leaves (perform (open_walk i packet) x) p.reply x.host.clock x.host.links p.walk (copied p.octets packet x.copy) x.entries

  fits : (q : Result Packet Answer) → Fits x.host.settings packet q → (opened_by i packet x.walk q).octets ≤ length packet
  fits (Err a) f = omega arith
  fits (Ok p) f = omega arith

  pub opened : (p : Opening) → (p ≡ opening i packet x.host.settings x.walk) × (p.octets ≤ longest) → Opened p
  unfolding opening
  opened p is =
      record {
        room = (rw is.0 (fits (inspect x.host.settings i packet) (inspected_fits x.host.settings i packet)), omega (arith, is.1, opens.1));
        left = rw (goes_on (open_walk i packet) x d, is.0) record { reply = refl; clock = refl; links = refl; walk = refl; copy = refl; entries = refl };
      }
