-- A walk's packet that passed the inspection is known by its fields: the inspection changes none.
use Rattle.std.specs.Prelude.{Result, Ok, Err}
use Rattle.answer.specs.declared.Answer.{Answer}
use mathlib.Core.Path.{◌≡◌, refl, ap, subst}
use mathlib.Core.Bool.{true, not, false≢true}
use mathlib.Core.List.{List}
use Prim.Native.Nat.{ℕ, ◌≤◌}
use native.Mathlib.Omega.{arith}
use lib.ListN.{length}
use Rattle.lists.proofs.Tests.{either}
use Rattle.wire.specs.declared.Packet.{Packet}
use Rattle.wire.specs.Ip.{ip_form, ip_checksum, protocol}
use Rattle.wire.specs.Hello.{hello_form, hello_checksum}
use Rattle.wire.specs.Packet.{hello_of, fields, parse, packet_length}
use Rattle.host.specs.declared.Settings.{Settings}
use Rattle.host.specs.declared.walk.Walk.{Walk}
use Rattle.host.specs.Inspection.{other_layout, looped, inspected, inspect}
use Rattle.host.specs.Walk.{packet_fits}
use Rattle.host.specs.code.Walks.{Reported}
use Rattle.host.proofs.Inspected.{Fits, inspected_fits}

abbrev Read : List ℕ → Result Packet Answer → Type 0
Read octets (Ok p) = p ≡ fields octets
Read octets (Err a) = Unit {0}

parsed_read : (octets : List ℕ) → Read octets (parse octets)
unfolding parse
parsed_read octets =
    either (Read octets) (not (ip_form octets)) _ _ (λ _. tt)
    (λ _. either (Read octets) (not (ip_checksum octets)) _ _ (λ _. tt)
    (λ _. either (Read octets) (not (protocol octets)) _ _ (λ _. tt)
    (λ _. either (Read octets) (not (hello_form (hello_of octets))) _ _ (λ _. tt)
    (λ _. either (Read octets) (not (hello_checksum (hello_of octets))) _ _ (λ _. tt) (λ _. refl)))))

inspected_read : (s : Settings) (i : ℕ) (octets : List ℕ) (q : Result Packet Answer) → Read octets q → Read octets (inspected s i q)
inspected_read s i octets (Err a) r = tt
inspected_read s i octets (Ok p) r = either (Read octets) (other_layout s p) _ _ (λ _. tt) (λ _. either (Read octets) (looped s i p) _ _ (λ _. tt) (λ _. r))

pub passed : (s : Settings) (w : Walk) (octets : List ℕ) → packet_fits s w octets (inspect s w.link octets) ≡ true → inspect s w.link octets ≡ Ok (fields octets)
unfolding inspect
passed s w octets = go (inspected s w.link (parse octets)) (inspected_read s w.link octets (parse octets) (parsed_read octets)) where
  go : (q : Result Packet Answer) → Read octets q → packet_fits s w octets q ≡ true → q ≡ Ok (fields octets)
  go (Ok p) r h = ap Ok r
  go (Err a) r h = absurd (false≢true h)

pub passed_fits : (s : Settings) (w : Walk) (octets : List ℕ) → packet_fits s w octets (inspect s w.link octets) ≡ true → Reported s (fields octets) octets
passed_fits s w octets h = subst (Fits s octets) (passed s w octets h) (inspected_fits s w.link octets)

pub passed_long : (s : Settings) (p : Packet) (octets : List ℕ) → Reported s p octets → packet_length 0 ≤ length octets
passed_long s p octets h = omega (arith, h.whole)
