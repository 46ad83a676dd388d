-- Which numbers fit, by the tests of the code; the bits of an OFFSET that fits; and the fields put one behind the other.
use mathlib.Core.Path.{◌≡◌, refl, sym, ◌∙◌}
use mathlib.Core.Bool.{Bool, true, false, ◌&&◌}
use mathlib.Core.List.{List}
use Prim.Native.Nat.{ℕ, zero, suc, ◌+◌, ◌≤◌, ◌<◌}
use native.Mathlib.Numerals.{add-two}
use native.Mathlib.Omega.{arith}
use borrow.Author.Tests.{leb-true, lt-ltb}
use lib.Dec.{leb, leb-suc-suc}
use lib.IntN.{pos, neg_ℤ}
use lib.ListN.{length}
use lib.Seq.{sets, sets-eq}
use Rattle.lists.specs.Lists.{over}
use Rattle.lists.proofs.Tests.{both}
use Rattle.quantity.specs.Words.{bits16}
use Rattle.wire.specs.Octets.{two}
use Rattle.wire.specs.Hello.{report_place}
use Rattle.text.specs.declared.scan.First.{First}
use Rattle.text.specs.Numbers.{Row, fits_octet, fits_two, fits_four, fits_signed, row_fits, first_fits}
use Rattle.text.specs.code.Reading.{most_hosts, signed_of, row_octets, first_returned, RowPut}
use Rattle.text.proofs.Readings.{and_true}

pub fits_negative : (n : ℕ) → fits_signed (neg_ℤ (pos n)) ≡ leb n 32768
fits_negative zero = refl
fits_negative (suc m) = and_true (leb m 32767) ∙ sym (leb-suc-suc m 32767)

-- the size of an OFFSET that fits
pub size_fits : (negative : Bool) (n : ℕ) → fits_signed (signed_of negative n) ≡ true → n ≤ 32768
size_fits true n e = leb-true n 32768 (sym (fits_negative n) ∙ e)
size_fits false n e = omega (arith, leb-true n 32767 e)

-- ---- a row in its place

pub row_put : (b m a : List ℕ) (i o : ℕ) (row : Row) → length b ≡ 1032 → i < most_hosts → row_fits row ≡ true
    → m ≡ sets b (report_place i) (two row.delay) → o ≡ bits16 row.offset → a ≡ sets m (report_place i + 2) (two o)
    → RowPut b a true i row true
row_put b m a i o row h k e e₁ e₂ e₃ =
    let q : a ≡ over b (report_place i) (row_octets row) = e₃ ∙ rw (e₂, e₁, add-two) (sets-eq (row_octets row) b (report_place i) (omega arith)) in
    record {
      fits = rw (lt-ltb i most_hosts k, e);
      put = λ t. q;
    }

-- ---- the numbers of the first line

pub record FirstFits (f : First) : Type 0 where
  pub date : f.date ≤ 65535
  pub time : f.time ≤ 4294967295
  pub tsp : f.tsp ≤ 65535
  pub base : f.base ≤ 255
  pub count : f.count ≤ 255

pub first_fits_lem : (f : First) (rows : List Row) → first_fits (first_returned f rows) ≡ true → FirstFits f
first_fits_lem f rows e =
    let p₄ = both (fits_two f.date && fits_four f.time && fits_two f.tsp && fits_octet f.base) (fits_octet f.count) e in
    let p₃ = both (fits_two f.date && fits_four f.time && fits_two f.tsp) (fits_octet f.base) p₄.0 in
    let p₂ = both (fits_two f.date && fits_four f.time) (fits_two f.tsp) p₃.0 in
    let p₁ = both (fits_two f.date) (fits_four f.time) p₂.0 in
    record {
      date = leb-true _ _ p₁.0;
      time = leb-true _ _ p₁.1;
      tsp = leb-true _ _ p₂.1;
      base = leb-true _ _ p₃.1;
      count = leb-true _ _ p₄.1;
    }
