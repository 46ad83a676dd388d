-- Opening a walk: the inspection refuses it, or the complete packet is copied, and fits.
use Rattle.std.specs.Prelude.{Result, Ok, Err}
use mathlib.Core.Path.{◌≡◌, refl, ap, ◌∙◌}
use mathlib.Core.Bool.{Bool, true, false}
use mathlib.Core.List.{List, ◌++◌}
use Prim.Native.Nat.{ℕ, ◌+◌, ◌≤◌}
use native.Mathlib.Omega.{arith}
use borrow.Author.Tests.{eqb-true}
use lib.Dec.{eqb}
use lib.ListN.{length, take, drop, length-append, length-drop}
use lib.Seq.{take_all, take_at}
use Rattle.lists.proofs.Parts.{over_nothing}
use Rattle.answer.specs.declared.Answer.{Answer}
use Rattle.answer.specs.Answer.{number}
use Rattle.wire.specs.declared.Packet.{Packet}
use Rattle.host.specs.declared.Settings.{Settings}
use Rattle.host.specs.declared.walk.Walk.{Walk}
use Rattle.host.specs.Settings.{settings_good}
use Rattle.host.specs.Guard.{longest}
use Rattle.host.specs.Inspection.{inspect}
use Rattle.host.specs.Reply.{plainly, returns_place}
use Rattle.host.specs.code.Walks.{Reported}
use Rattle.host.proofs.Sound.{sound}
use Rattle.host.proofs.Inspected.{Fits, inspected_fits}
use Rattle.walk.specs.declared.Opening.{Opening}
use Rattle.walk.specs.Opening.{opened_on, opened_by, opening, copied}

module _ (i : ℕ) (octets : List ℕ) (s : Settings) (w : Walk) (P : Opening → Type 0) where
  pub opening_ways : ((a : Answer) → number a ≤ 9 → P record { reply = plainly a; walk = w; octets = 0 })
      → ((p : Packet) → inspect s i octets ≡ Ok p → Reported s p octets → P record { reply = returns_place 1 0 0; walk = opened_on i (length octets); octets = length octets })
      → P (opening i octets s w)
  unfolding opening
  opening_ways refuses opens = go (inspect s i octets) refl (inspected_fits s i octets)
    where
      go : (q : Result Packet Answer) → inspect s i octets ≡ q → Fits s octets q → P (opened_by i octets w q)
      go (Err a) e fits = refuses a fits
      go (Ok p) e fits = opens p e fits

-- a packet that passes is no longer than the longest
pub packet_short : (s : Settings) (p : Packet) (octets : List ℕ) → settings_good s ≡ true → Reported s p octets → length octets ≤ longest
packet_short s p octets good r = go (eqb p.nhosts 0) refl
  where
    go : (b : Bool) → eqb p.nhosts 0 ≡ b → length octets ≤ longest
    go true e = omega (arith, r.whole, eqb-true p.nhosts 0 e)
    go false e = omega (arith, r.whole, r.ours e, (sound s good).hosts_to)

-- ---- the copy

pub nothing_copied : (packet copy : List ℕ) → copied 0 packet copy ≡ copy
unfolding copied
nothing_copied packet copy = over_nothing 0 copy

module _ (packet copy : List ℕ) where
  whole : copied (length packet) packet copy ≡ packet ++ drop (length packet) copy
  unfolding copied
  whole = let z : 0 + length packet ≡ length packet = omega arith in rw (take_all (length packet) packet (omega arith), z)

  pub copied_back : take (length packet) (copied (length packet) packet copy) ≡ packet
  copied_back = rw whole (take_at packet (drop (length packet) copy) (length packet) refl)

  pub copied_length : length packet ≤ length copy → length (copied (length packet) packet copy) ≡ length copy
  copied_length h = ap length whole ∙ length-append packet (drop (length packet) copy) ∙ omega (arith, length-drop (length packet) copy)
