-- What the tests of form say of lengths, and that a packet that passes all tests is good.
use Rattle.std.specs.Prelude.{Ok}
use mathlib.Core.Path.{◌≡◌}
use mathlib.Core.Bool.{true}
use mathlib.Core.List.{List}
use Prim.Native.Nat.{ℕ, ◌%◌, ◌^◌, ◌≤◌, ◌<◌}
use native.Mathlib.Omega.{arith}
use borrow.Author.Tests.{leb-true, le-leb, eq-eqb}
use lib.IntN.{pos}
use lib.ListN.{length}
use Rattle.quantity.specs.declared.Millis.{Millis}
use Rattle.quantity.specs.declared.Word.{Word}
use Rattle.quantity.specs.Quantity.{millis}
use Rattle.quantity.specs.Words.{word, signed16}
use Rattle.quantity.proofs.Ints.{to-≤ℤ, to-<ℤ}
use Rattle.lists.proofs.Tests.{both}
use Rattle.wire.specs.declared.Address.{Address}
use Rattle.octets.specs.Octets.{octet_at, two_at, four_at}
use Rattle.wire.specs.Octets.{address_at}
use Rattle.wire.specs.Ip.{header_length, version_and_length, version_place, total_place, fragment_place, source_place, ip_form, ip_checksum, protocol}
use Rattle.wire.specs.Hello.{fixed_length, date_place, time_place, tsp_place, address_offset_place, nhosts_place, hello_length, hello_form, hello_checksum}
use Rattle.wire.specs.Packet.{hello_of, fields, parse}
use Rattle.wire.specs.code.Ranges.{Four}

pub ip_long : (s : List ℕ) → ip_form s ≡ true → header_length ≤ length s
unfolding ip_form
ip_long s e = leb-true header_length (length s) (both _ _ (both _ _ (both _ _ e).0).0).0

pub hello_long : (s : List ℕ) → hello_form s ≡ true → fixed_length ≤ length s
unfolding hello_form
hello_long s e = leb-true fixed_length (length s) (both _ _ e).0

pub ip_form_lem : (s : List ℕ) → header_length ≤ length s → octet_at s version_place ≡ version_and_length → two_at s total_place ≡ length s → two_at s fragment_place % 16384 ≡ 0
    → ip_form s ≡ true
unfolding ip_form
ip_form_lem s l v t f = rw (le-leb _ _ l, eq-eqb _ _ v, eq-eqb _ _ t, eq-eqb _ _ f)

pub hello_form_lem : (s : List ℕ) → fixed_length ≤ length s → length s ≡ hello_length (octet_at s nhosts_place) → hello_form s ≡ true
unfolding hello_form
hello_form_lem s l e = rw (le-leb _ _ l, eq-eqb _ _ e)

pub record HeaderPasses (s : List ℕ) : Type 0 where
  pub form : ip_form s ≡ true
  pub checksum : ip_checksum s ≡ true
  pub kind : protocol s ≡ true

pub record HelloPasses (s : List ℕ) : Type 0 where
  pub form : hello_form s ≡ true
  pub checksum : hello_checksum s ≡ true

pub passes : (s : List ℕ) → HeaderPasses s → HelloPasses (hello_of s) → parse s ≡ Ok (fields s)
unfolding parse
passes s h g = rw (h.form, h.checksum, h.kind, g.form, g.checksum)

-- the fields, read from the part behind the header
pub fields_read : (s part : List ℕ) (source : Address) (date t w : ℕ) (time : Millis) (tsp : Word) → part ≡ hello_of s
    → source ≡ address_at s source_place → date ≡ two_at part date_place → t ≡ four_at part time_place → w ≡ two_at part tsp_place
    → time ≡ millis (pos t) → tsp ≡ word (signed16 w)
    → record { source = source; date = record { 0 = date }; time = time; tsp = tsp; address_offset = octet_at part address_offset_place; nhosts = octet_at part nhosts_place } ≡ fields s
unfolding fields
fields_read s part source date t w time tsp e e₁ e₂ e₃ e₄ e₅ e₆ = rw (e₅, e₆, e₁, e₂, e₃, e₄, e)

pub four_octets : (time : Millis) (n : ℕ) → time ≡ millis (pos n) → n < 2 ^ 32 → Four time.0
four_octets time n e small =
    rw e (record { not_below = to-≤ℤ (pos 0) (pos n) (omega arith); below = to-<ℤ (pos n) (pos (2 ^ 32)) (omega (arith, small)) })
