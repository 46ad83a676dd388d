-- TEXT-2: the numbers of a message. BASE is ADDRESS-OFFSET, N is NHOSTS.
use Rattle.std.specs.Prelude.{Bool, true, ◌&&◌, List, [], ◌∷◌, ◌++◌, ℕ, ◌+◌, ◌*◌, leb, ℤ, pos, negsuc, drop}
use Rattle.std.specs.Int.Signed.{le_z}
use Rattle.quantity.specs.Words.{bits16, signed16}
use Rattle.checksum.specs.Checksum.{checksum_of}
use Rattle.wire.specs.Octets.{two, four, octet_at, two_at, four_at}
use Rattle.wire.specs.Hello.{fixed_length, date_place, time_place, tsp_place, address_offset_place, nhosts_place}

-- TEXT-2: DELAY and OFFSET of one host
pub record Row : Type 0 where
  pub delay : ℕ
  pub offset : ℤ

-- TEXT-2: all numbers of a message
pub record Numbers : Type 0 where
  pub date : ℕ
  pub time : ℕ
  pub tsp : ℕ
  pub base : ℕ
  pub count : ℕ
  pub rows : List Row

-- ---- read from a message

-- TEXT-2: four octets for each host
unfoldable pub rows_of : List ℕ → List Row
rows_of [] = []
rows_of (a ∷ []) = []
rows_of (a ∷ b ∷ []) = []
rows_of (a ∷ b ∷ c ∷ []) = []
rows_of (a ∷ b ∷ c ∷ d ∷ rest) = record { delay = a * 256 + b; offset = signed16 (c * 256 + d) } ∷ rows_of rest

-- TEXT-2: the numbers of a message; DATE has all 16 bits, TSP is unsigned
unfoldable pub numbers_of : List ℕ → Numbers
numbers_of message =
    record {
      date = two_at message date_place;
      time = four_at message time_place;
      tsp = two_at message tsp_place;
      base = octet_at message address_offset_place;
      count = octet_at message nhosts_place;
      rows = rows_of (drop fixed_length message);
    }

-- ---- made into a message

-- TEXT-2: the octets of the rows
unfoldable pub rows_octets : List Row → List ℕ
rows_octets [] = []
rows_octets (r ∷ rs) = two r.delay ++ two (bits16 r.offset) ++ rows_octets rs

-- TEXT-2: the octets of the first numbers
abbrev pub fixed_octets : Numbers → List ℕ
fixed_octets s = two s.date ++ four s.time ++ two s.tsp ++ s.base ∷ s.count ∷ []

-- TEXT-4: all octets after the checksum
abbrev pub octets_rest : Numbers → List ℕ
octets_rest s = fixed_octets s ++ rows_octets s.rows

-- TEXT-4: a message of its numbers, with the sender's checksum
unfoldable pub message_of : Numbers → List ℕ
message_of s = two (checksum_of (octets_rest s)) ++ octets_rest s

-- ----

-- TEXT-6: does a number fit an octet?
abbrev pub fits_octet : ℕ → Bool
fits_octet n = leb n 0xff

-- TEXT-6: does it fit two octets?
abbrev pub fits_two : ℕ → Bool
fits_two n = leb n 0xffff

-- TEXT-6: does it fit four octets?
abbrev pub fits_four : ℕ → Bool
fits_four n = leb n 0xffffffff

-- TEXT-6: does it fit a signed 16-bit word?
abbrev pub fits_signed : ℤ → Bool
fits_signed z = le_z (negsuc 0x7fff) z && le_z z (pos 0x7fff)

-- TEXT-6: do the numbers of a row fit?
abbrev pub row_fits : Row → Bool
row_fits r = fits_two r.delay && fits_signed r.offset

-- TEXT-6: do the numbers of all rows fit?
unfoldable pub rows_fit : List Row → Bool
rows_fit [] = true
rows_fit (r ∷ rs) = row_fits r && rows_fit rs

-- TEXT-6: do the numbers of the first line fit?
abbrev pub first_fits : Numbers → Bool
first_fits s = fits_two s.date && fits_four s.time && fits_two s.tsp && fits_octet s.base && fits_octet s.count

-- TEXT-6, ANSWER-15: do all numbers fit their fields?
unfoldable pub numbers_fit : Numbers → Bool
numbers_fit s = first_fits s && rows_fit s.rows
