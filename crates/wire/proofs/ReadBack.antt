-- Each field of a message stands in its place, and its octets give back the number that was put into them.
use Rattle.std.specs.Prelude.{Ok}
use mathlib.Core.Path.{◌≡◌, refl, sym, ap, ◌∙◌}
use mathlib.Core.Bool.{true}
use mathlib.Core.List.{List, [], ◌∷◌, ◌++◌}
use Prim.Native.Nat.{ℕ, zero, suc, ◌+◌, ◌*◌, ◌/◌, ◌%◌, ◌^◌, ◌≤◌, ◌<◌}
use native.Mathlib.Omega.{arith}
use lib.IntN.{ℤ, pos, negsuc, nat_abs}
use lib.ListN.{length, get_or, drop}
use Rattle.quantity.specs.Quantity.{millis}
use Rattle.quantity.specs.Words.{word, bits16, signed16}
use Rattle.quantity.proofs.Ints.{up, dn, one, of-≤ℤ, of-<ℤ}
use Rattle.quantity.proofs.Wrap.{wrap_fits}
use Rattle.checksum.specs.Checksum.{checksum_good, checksum_of}
use Rattle.octets.specs.Octets.{Octets}
use Rattle.octets.proofs.Widths.{back}
use Rattle.checksum.proofs.Folding.{checksum_good_lem}
use Rattle.wire.specs.declared.Address.{Address}
use Rattle.wire.specs.declared.Packet.{Packet}
use Rattle.wire.specs.declared.Report.{Report}
use Rattle.octets.specs.Octets.{two}
use Rattle.wire.specs.Ip.{ip_checksum, protocol, header_start, header_back, header}
use Rattle.wire.specs.Hello.{report_at, report_place, hello_length, hello_checksum, reports_octets, hello_rest, hello}
use Rattle.wire.specs.Packet.{hello_of, fields, packet_length, message}
use Rattle.wire.specs.code.Ranges.{Two, SignedTwo, Four, PacketFits, ReportFits, ReportsFit}
use Rattle.wire.specs.ReadBack.{MessageFits, ReadBack, ReportsBack}
use Rattle.wire.proofs.Messages.{octet_of_report, message_length, hello_length_lem, front_octets, back_octets, after_octets}
use Rattle.wire.proofs.Parsing.{ip_form_lem, hello_form_lem, HeaderPasses, HelloPasses, passes}

-- ---- numbers

bits_fit : (z : ℤ) → bits16 z < 2 ^ 16
bits_fit (pos n) = omega arith
bits_fit (negsuc n) = omega arith

-- a number that is not negative, in two octets and in four; a signed one, in two
count_in_two : (z : ℤ) → dn z ≤ 0 → up z < 2 ^ 16 → pos (bits16 z / 256 % 256 * 256 + bits16 z % 256) ≡ z
count_in_two (pos n) l h = ap pos (back 2 (n % 2 ^ 16) (omega arith) ∙ omega arith)
count_in_two (negsuc n) l h = absurd (omega arith)

count_in_four : (z : ℤ) → dn z ≤ 0 → up z < 2 ^ 32
    → pos (((nat_abs z / 256 / 256 / 256 % 256 * 256 + nat_abs z / 256 / 256 % 256) * 256 + nat_abs z / 256 % 256) * 256 + nat_abs z % 256) ≡ z
count_in_four (pos n) l h = ap pos (back 4 n h)
count_in_four (negsuc n) l h = absurd (omega arith)

word_in_two : (z : ℤ) → up z < 2 ^ 15 → dn z ≤ 2 ^ 15 → signed16 (bits16 z / 256 % 256 * 256 + bits16 z % 256) ≡ z
word_in_two z u d = ap signed16 (back 2 (bits16 z) (bits_fit z)) ∙ wrap_fits 16 (omega arith) z u d

-- ---- the fields

module _ (destination : Address) (p : Packet) (rs : List Report) where
  pub source_back : (fields (message destination p rs)).source ≡ p.source
  unfolding fields message header
  source_back = refl

  pub date_back : p.date.0 < 2 ^ 16 → (fields (message destination p rs)).date ≡ p.date
  unfolding fields message header hello
  date_back h = ap (λ n. record { 0 = n }) (back 2 p.date.0 h)

  pub time_back : dn p.time.0 ≤ 0 → up p.time.0 < 2 ^ 32 → (fields (message destination p rs)).time ≡ p.time
  unfolding fields message header hello
  time_back l h = ap millis (count_in_four p.time.0 l h)

  pub tsp_back : up p.tsp.0 < 2 ^ 15 → dn p.tsp.0 ≤ 2 ^ 15 → (fields (message destination p rs)).tsp ≡ p.tsp
  unfolding fields message header hello
  tsp_back u d = ap word (word_in_two p.tsp.0 u d)

  pub address_offset_back : (fields (message destination p rs)).address_offset ≡ p.address_offset
  unfolding fields message header hello
  address_offset_back = refl

  pub nhosts_back : (fields (message destination p rs)).nhosts ≡ p.nhosts
  unfolding fields message header hello
  nhosts_back = refl

-- ---- the report of host i

module _ (destination : Address) (p : Packet) (rs : List Report) (i : ℕ) (none : Report) (inside : i < length rs) where
  octet : (j n : ℕ) → n ≡ report_place i + j
      → get_or (hello_of (message destination p rs)) n 0 ≡ get_or (reports_octets (get_or rs i none ∷ drop (suc i) rs)) j 0
  unfolding message header
  octet j n e = rw e (octet_of_report p rs i j none inside)

  pub delay_back : dn (get_or rs i none).delay.0 ≤ 0 → up (get_or rs i none).delay.0 < 2 ^ 16
      → (report_at (hello_of (message destination p rs)) i).delay ≡ (get_or rs i none).delay
  unfolding report_at
  delay_back l h =
      rw (octet 0 (report_place i) (omega arith), octet 1 (report_place i + 1) refl) (ap millis (count_in_two (get_or rs i none).delay.0 l h))

  pub offset_back : up (get_or rs i none).offset.0 < 2 ^ 15 → dn (get_or rs i none).offset.0 ≤ 2 ^ 15
      → (report_at (hello_of (message destination p rs)) i).offset ≡ (get_or rs i none).offset
  unfolding report_at
  offset_back u d =
      rw (octet 2 (report_place i + 2) refl, octet 3 (report_place i + 2 + 1) (omega arith)) (ap word (word_in_two (get_or rs i none).offset.0 u d))

-- ---- all of it

four_range : (z : ℤ) → Four z → (dn z ≤ 0) × (up z < 2 ^ 32)
four_range z f = omega (arith, of-≤ℤ f.not_below, of-<ℤ f.below)

two_range : (z : ℤ) → Two z → (dn z ≤ 0) × (up z < 2 ^ 16)
two_range z f = omega (arith, of-≤ℤ f.not_below, of-<ℤ f.below)

signed_range : (z : ℤ) → SignedTwo z → (up z < 2 ^ 15) × (dn z ≤ 2 ^ 15)
signed_range z f = omega (arith, one z, of-≤ℤ f.not_below, of-<ℤ f.below)

pub fields_back : (destination : Address) (p : Packet) (rs : List Report) → PacketFits p → fields (message destination p rs) ≡ p
fields_back destination p rs f =
    let t = four_range p.time.0 f.time in
    let w = signed_range p.tsp.0 f.tsp in
    λ i.
    record {
      source = source_back destination p rs i;
      date = date_back destination p rs f.date i;
      time = time_back destination p rs t.0 t.1 i;
      tsp = tsp_back destination p rs w.0 w.1 i;
      address_offset = address_offset_back destination p rs i;
      nhosts = nhosts_back destination p rs i;
    }

fits_at : (rs : List Report) (i : ℕ) (none : Report) → i < length rs → ReportsFit rs → ReportFits (get_or rs i none)
fits_at [] i none h f = absurd (omega arith)
fits_at (r ∷ rs) zero none h f = f.0
fits_at (r ∷ rs) (suc i) none h f = fits_at rs i none (omega arith) f.1

pub reports_are_back : ReportsBack
unfolding ReportsBack
reports_are_back destination p rs f i none h =
    let g = fits_at rs i none h f in
    let d = two_range (get_or rs i none).delay.0 g.delay in
    let o = signed_range (get_or rs i none).offset.0 g.offset in
    λ k.
    record {
      delay = delay_back destination p rs i none h d.0 d.1 k;
      offset = offset_back destination p rs i none h o.0 o.1 k;
    }

-- ---- and no test refuses it

checksum_small : (xs : List ℕ) → checksum_of xs < 2 ^ 16
unfolding checksum_of
checksum_small xs = omega arith

-- a checksum in its octets, among octets
checksum_passes : (xs ys : List ℕ) → length xs % 2 ≡ 0 → Octets xs → Octets ys → checksum_good (xs ++ (two (checksum_of (xs ++ ys)) ++ ys)) ≡ true
checksum_passes xs ys e o p =
    let c = checksum_of (xs ++ ys) in
    checksum_good_lem xs ys (c / 256 % 256) (c % 256) e o (omega arith) (omega arith) p (back 2 c (checksum_small (xs ++ ys)))

module _ (destination : Address) (p : Packet) (rs : List Report) (f : MessageFits destination p rs) where
  length_is : length (message destination p rs) ≡ packet_length p.nhosts
  length_is = message_length destination p rs ∙ ap packet_length (sym f.count)

  header_passes : HeaderPasses (message destination p rs)
  unfolding ip_checksum protocol message header
  header_passes =
      record {
        form =
            ip_form_lem (message destination p rs) (omega (arith, length_is)) refl
            (back 2 (packet_length p.nhosts) (omega (arith, f.nhosts_fits)) ∙ sym length_is)
            refl;
        checksum =
            checksum_passes (header_start (packet_length p.nhosts)) (header_back p.source destination) refl
            (front_octets (packet_length p.nhosts))
            (back_octets p.source destination f.source_fits f.destination_fits);
        kind = refl;
      }

  hello_passes : HelloPasses (hello_of (message destination p rs))
  unfolding hello_checksum message header hello
  hello_passes =
      let n : length (hello p rs) ≡ hello_length p.nhosts = hello_length_lem p rs ∙ ap hello_length (sym f.count) in
      record {
        form = hello_form_lem (hello p rs) (omega arith) n;
        checksum = checksum_passes [] (hello_rest p rs) refl tt (after_octets p rs f.address_offset_fits f.nhosts_fits);
      }

pub message_is_back : ReadBack
unfolding ReadBack
message_is_back destination p rs f =
    passes (message destination p rs) (header_passes destination p rs f) (hello_passes destination p rs f)
    ∙ ap Ok (fields_back destination p rs f.packet_fits_lem)
