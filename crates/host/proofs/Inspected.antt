-- A packet that passes the inspection is as long as its NHOSTS says, and a table of it has our layout; one that does not is answered with 9 at most.
use Rattle.std.specs.Prelude.{Result, Ok, Err}
use Rattle.answer.specs.declared.Answer.{Answer}
use mathlib.Core.Path.{◌≡◌}
use mathlib.Core.Bool.{true, false, not}
use mathlib.Core.List.{List}
use Prim.Native.Nat.{ℕ, ◌≤◌}
use native.Mathlib.Omega.{arith}
use borrow.Author.Tests.{eqb-true}
use lib.Dec.{leb, eqb}
use lib.ListN.{length, length-drop}
use Rattle.lists.proofs.Tests.{either, both, neither, is_so}
use Rattle.answer.specs.Answer.{number}
use Rattle.wire.specs.declared.Packet.{Packet}
use Rattle.wire.specs.Octets.{octet_at}
use Rattle.wire.specs.Ip.{header_length, ip_form, ip_checksum, protocol}
use Rattle.wire.specs.Hello.{fixed_length, hello_length, nhosts_place, hello_form, hello_checksum}
use Rattle.wire.specs.Packet.{hello_of, fields, parse, packet_length}
use Rattle.wire.proofs.Parsing.{ip_long}
use Rattle.host.specs.declared.Settings.{Settings}
use Rattle.host.specs.Inspection.{other_layout, looped, inspected, inspect}
use Rattle.host.specs.code.Walks.{Reported}

abbrev Long : List ℕ → Result Packet Answer → Type 0
Long octets (Ok p) = packet_length p.nhosts ≡ length octets
Long octets (Err a) = number a ≤ 9

-- as long as NHOSTS says
long : (octets : List ℕ) → header_length ≤ length octets → hello_form (hello_of octets) ≡ true → packet_length (fields octets).nhosts ≡ length octets
unfolding hello_form fields
long octets h e =
    let n = eqb-true (length (hello_of octets)) (hello_length (octet_at (hello_of octets) nhosts_place)) (both (leb fixed_length (length (hello_of octets))) _ e).1 in
    omega (arith, h, n, length-drop header_length octets)

parsed_long : (octets : List ℕ) → Long octets (parse octets)
unfolding parse
parsed_long octets =
    either (Long octets) (not (ip_form octets)) _ _ (λ _. omega arith)
    (λ form. either (Long octets) (not (ip_checksum octets)) _ _ (λ _. omega arith)
    (λ _. either (Long octets) (not (protocol octets)) _ _ (λ _. omega arith)
    (λ _. either (Long octets) (not (hello_form (hello_of octets))) _ _ (λ _. omega arith)
    (λ hello. either (Long octets) (not (hello_checksum (hello_of octets))) _ _ (λ _. omega arith)
    (λ _. long octets (ip_long octets (is_so _ form)) (is_so _ hello))))))

-- what the action may count on
abbrev pub Fits : Settings → List ℕ → Result Packet Answer → Type 0
Fits s octets (Ok p) = Reported s p octets
Fits s octets (Err a) = number a ≤ 9

pub inspected_fits : (s : Settings) (i : ℕ) (octets : List ℕ) → Fits s octets (inspect s i octets)
unfolding inspect other_layout
inspected_fits s i octets = go (parse octets) (parsed_long octets)
  where
    same : (p : Packet) → other_layout s p ≡ false → eqb p.nhosts 0 ≡ false → p.nhosts ≡ s.layout.nhosts
    same p e some =
        let n = neither (not (eqb p.nhosts s.layout.nhosts)) _ (rw some at e) in
        eqb-true _ _ (is_so _ n.0)

    go : (q : Result Packet Answer) → Long octets q → Fits s octets (inspected s i q)
    go (Err a) l = l
    go (Ok p) l =
        either (Fits s octets) (other_layout s p) _ _ (λ _. omega arith)
        (λ ours. either (Fits s octets) (looped s i p) _ _ (λ _. omega arith) (λ _. record { whole = l; ours = same p ours }))
