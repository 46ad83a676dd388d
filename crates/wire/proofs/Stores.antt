-- What the stores leave: stores one after the other are one run of stores.
use mathlib.Core.Path.{◌≡◌, refl, ◌∙◌}
use mathlib.Core.List.{List, [], ◌++◌}
use Prim.Native.Nat.{ℕ, suc, ◌+◌, ◌-◌, ◌*◌, ◌/◌, ◌%◌, ◌≤◌, ◌<◌}
use native.Mathlib.Omega.{arith}
use lib.IntN.{nat_abs}
use lib.ListN.{length, take, drop, take-append-drop}
use lib.Seq.{sets, sets-eq, drop-drop, drop_at, length-take-le}
use Rattle.lists.proofs.Parts.{over_after}
use Rattle.quantity.specs.Words.{bits16}
use Rattle.checksum.specs.Checksum.{checksum_of}
use Rattle.octets.specs.Octets.{Octets}
use Rattle.octets.proofs.Each.{joined, first_part, second_part}
use Rattle.checksum.proofs.Folding.{zero_word}
use Rattle.wire.specs.declared.Address.{Address}
use Rattle.wire.specs.declared.Packet.{Packet}
use Rattle.wire.specs.Packet.{packet_length}
use Rattle.wire.specs.declared.Report.{Report}
use Rattle.octets.specs.Octets.{two, four}
use Rattle.wire.specs.Octets.{address_octets}
use Rattle.wire.specs.Ip.{header_length, version_place, checksum_place, source_place, header_start, header_back, header}
use Rattle.wire.specs.Hello.{fixed_length, time_place, tsp_place, report_length, report_place, hello_length, report_octets, hello_rest}
use Rattle.wire.specs.code.Sealing.{sealed_rest, sealed_hello, sealed, hello_with_report, with_report}
use Rattle.wire.proofs.Parts.{from_on, comes_back}
use Rattle.wire.proofs.Messages.{front_octets}

-- ---- a report

pub hello_report_put : (b l : List ℕ) (i d o : ℕ) (r : Report) → report_place i + report_length ≤ length b
    → d ≡ bits16 r.delay.0 → o ≡ bits16 r.offset.0 → l ≡ sets b (report_place i) (two d ++ two o)
    → l ≡ hello_with_report i r b
hello_report_put b l i d o r h e₁ e₂ e₃ = rw (e₃, e₂, e₁) (sets-eq (report_octets r) b (report_place i) h)

pub report_put : (b m : List ℕ) (i : ℕ) (r : Report)
    → m ≡ hello_with_report i r (take (length b - header_length) (drop header_length b))
    → take header_length b ++ (m ++ drop (length b - header_length) (drop header_length b)) ≡ with_report i r b
unfolding with_report
report_put b m i r e =
    comes_back header_length b m ∙ rw (e, from_on header_length b) (over_after header_length (report_place i) b (report_octets r))

-- ---- the header

-- the header, with a checksum of zero
abbrev pub bare_header : (total : ℕ) (source destination : Address) → List ℕ
bare_header total source destination = header_start total ++ two 0 ++ header_back source destination

pub fields_put : (b l₁ l₂ l₃ l₄ l₅ : List ℕ) (total : ℕ) (source destination : Address) → header_length ≤ length b
    → l₁ ≡ sets b version_place (two 0x4500 ++ two total) → l₂ ≡ sets l₁ 4 (two 0 ++ two 0) → l₃ ≡ sets l₂ 8 (two 0xff3f ++ two 0)
    → l₄ ≡ sets l₃ source_place (address_octets source) → l₅ ≡ sets l₄ 16 (address_octets destination)
    → l₅ ≡ bare_header total source destination ++ drop header_length b
fields_put b l₁ l₂ l₃ l₄ l₅ total source destination h e₁ e₂ e₃ e₄ e₅ =
    rw (e₅, e₄, e₃, e₂, e₁) (sets-eq (bare_header total source destination) b 0 h)

-- what the octets of a header say of those of its fields
bare_octets : (total : ℕ) (source destination : Address) (rest : List ℕ) → Octets (bare_header total source destination ++ rest)
    → Octets (header_back source destination)
bare_octets total source destination rest o =
    let back = header_back source destination in
    first_part back rest (second_part (header_start total ++ two 0) (back ++ rest) o)

-- the checksum of the header as it is written is that of its other fields
pub bare_checksum : (total : ℕ) (source destination : Address) (rest : List ℕ) → Octets (bare_header total source destination ++ rest)
    → checksum_of (bare_header total source destination) ≡ checksum_of (header_start total ++ header_back source destination)
bare_checksum total source destination rest o =
    zero_word (header_start total) (header_back source destination) refl (front_octets total) (bare_octets total source destination rest o)

-- ---- the HELLO

pub fixed_put : (b l₁ l₂ l₃ : List ℕ) (t w n : ℕ) (p : Packet) → fixed_length ≤ length b → p.address_offset < 256 → p.nhosts < 256
    → l₁ ≡ sets b 0 (two 0 ++ two p.date.0) → t ≡ nat_abs p.time.0 → l₂ ≡ sets l₁ time_place (four t)
    → w ≡ bits16 p.tsp.0 → n ≡ p.address_offset * 256 + p.nhosts → l₃ ≡ sets l₂ tsp_place (two w ++ two n)
    → l₃ ≡ two 0 ++ hello_rest p [] ++ drop fixed_length b
fixed_put b l₁ l₂ l₃ t w n p h o c e₁ e₂ e₃ e₄ e₅ e₆ =
    let high : n / 256 % 256 ≡ p.address_offset = omega arith in
    let low : n % 256 ≡ p.nhosts = omega arith in
    rw (e₆, high, low, e₄, e₃, e₂, e₁) (sets-eq (two 0 ++ hello_rest p []) b 0 h)

-- the octets over which the checksum is computed: the fixed part, and the reports as they are
pub fixed_part : (b l : List ℕ) (k : ℕ) (p : Packet) → k ≡ hello_length p.nhosts → l ≡ two 0 ++ hello_rest p [] ++ drop fixed_length b
    → take k l ≡ two 0 ++ sealed_rest p b
fixed_part b l k p e f =
    let n : k ≡ suc (suc (suc (suc (suc (suc (suc (suc (suc (suc (suc (suc (report_length * p.nhosts)))))))))))) = omega arith in
    rw (f, n)

-- their checksum is the definition's
pub hello_checksum_lem : (b l : List ℕ) (p : Packet) → l ≡ two 0 ++ hello_rest p [] ++ drop fixed_length b → Octets l
    → checksum_of (two 0 ++ sealed_rest p b) ≡ checksum_of (sealed_rest p b)
hello_checksum_lem b l p e o =
    let all : Octets (two 0 ++ hello_rest p [] ++ drop fixed_length b) = rw e at o in
    let front : Octets (hello_rest p []) = first_part (hello_rest p []) (drop fixed_length b) (second_part (two 0) (hello_rest p [] ++ drop fixed_length b) all) in
    let rest : Octets (drop fixed_length b) = second_part (two 0 ++ hello_rest p []) (drop fixed_length b) all in
    let reports : Octets (take (report_length * p.nhosts) (drop fixed_length b)) =
    first_part (take (report_length * p.nhosts) (drop fixed_length b)) (drop (report_length * p.nhosts) (drop fixed_length b)) (rw take-append-drop rest) in
    zero_word [] (sealed_rest p b) refl tt (joined (hello_rest p []) (take (report_length * p.nhosts) (drop fixed_length b)) front reports)

-- the checksum put in the place of the zero
pub checksum_put : (b l₁ l₂ : List ℕ) (sum : ℕ) (p : Packet) → l₁ ≡ two 0 ++ hello_rest p [] ++ drop fixed_length b → l₂ ≡ sets l₁ 0 (two sum)
    → l₂ ≡ two sum ++ hello_rest p [] ++ drop fixed_length b
checksum_put b l₁ l₂ sum p e f = f ∙ rw e

pub hello_put : (b l : List ℕ) (sum : ℕ) (p : Packet)
    → l ≡ two sum ++ hello_rest p [] ++ drop fixed_length b → sum ≡ checksum_of (sealed_rest p b)
    → l ≡ sealed_hello p b
unfolding sealed_hello
hello_put b l sum p e f =
    let n = report_length * p.nhosts in
    rw (← f, ← drop-drop n fixed_length b, take-append-drop n (drop fixed_length b)) e

-- ---- the packet

-- a part from the header on, lent, changed and come back
abbrev pub changed_after : (b m : List ℕ) → List ℕ
changed_after b m = take header_length b ++ (m ++ drop (length b - header_length) (drop header_length b))

pub after_changed : (b m : List ℕ) → header_length ≤ length b → drop header_length (changed_after b m) ≡ m
after_changed b m h = rw (comes_back header_length b m) (drop_at (take header_length b) m header_length (length-take-le header_length b h))

-- the header's fields, then the HELLO, then the header's checksum
pub packet_sealed : (b b₁ m b₂ b₃ : List ℕ) (n : ℕ) (destination : Address) (p : Packet) → header_length ≤ length b → n ≡ packet_length p.nhosts
    → b₁ ≡ bare_header n p.source destination ++ drop header_length b → Octets b₁
    → m ≡ sealed_hello p (take (length b₁ - header_length) (drop header_length b₁)) → b₂ ≡ changed_after b₁ m
    → b₃ ≡ sets b₂ checksum_place (two (checksum_of (take header_length b₂)))
    → b₃ ≡ sealed destination p b
unfolding sealed header
packet_sealed b b₁ m b₂ b₃ n destination p h e e₁ o e₂ e₃ e₄ =
    let front : b₂ ≡ bare_header n p.source destination ++ m = e₃ ∙ comes_back header_length b₁ m ∙ rw e₁ in
    let same : m ≡ sealed_hello p (drop header_length b) = e₂ ∙ rw (from_on header_length b₁, e₁) in
    e₄ ∙ rw (front, bare_checksum n p.source destination (drop header_length b) (rw e₁ at o), same, e)
