-- A number that stands for another fits where the other does, and is the other then.
use mathlib.Core.Path.{◌≡◌, refl, sym, ap, ◌∙◌}
use mathlib.Core.Bool.{Bool, true, false, cond, ◌&&◌}
use mathlib.Core.List.{List}
use Prim.Native.Nat.{ℕ, ◌≤◌, ◌<◌}
use native.Mathlib.Omega.{arith}
use borrow.Author.Tests.{leb-true, leb-false, lt-leb, le-leb}
use lib.Dec.{leb}
use lib.IntN.{pos, neg_ℤ}
use lib.ListN.{drop}
use Rattle.lists.proofs.Tests.{both}
use Rattle.text.specs.declared.scan.Row as Scanned
use Rattle.text.specs.Numerals.{is_negative, value, signed_value}
use Rattle.text.specs.Numbers.{fits_two, fits_signed, row_fits}
use Rattle.text.specs.Text.{word_at, row_in}
use Rattle.text.specs.code.Scan.{large, Stands, size, RowGood}
use Rattle.text.specs.code.Reading.{signed_of, row_returned}
use Rattle.text.proofs.Ranges.{fits_negative, size_fits}

pub stands_le : (r n k : ℕ) → k < large → Stands r n → leb r k ≡ leb n k
stands_le r n k h s = go (leb r k) refl
  where
    go : (b : Bool) → leb r k ≡ b → leb r k ≡ leb n k
    go true e = let l = leb-true r k e in e ∙ sym (le-leb n k (omega arith))
    go false e = let l = leb-false r k e in e ∙ sym (lt-leb n k (omega arith))

pub stands_is : (r n k : ℕ) → k < large → Stands r n → r ≤ k → r ≡ n
stands_is r n k h s l = omega arith

pub stands_other : (r n k : ℕ) → k < large → Stands r n → (k ≡ r → ⊥) → k ≡ n → ⊥
stands_other r n k h s f e = f (omega arith)

-- ---- a row

signed_size : (w : List ℕ) → signed_value w ≡ signed_of (is_negative w) (size w)
unfolding signed_value
signed_size w = go (is_negative w)
  where
    go : (b : Bool) → cond b (neg_ℤ (pos (value (drop 1 w)))) (pos (value w)) ≡ signed_of b (cond b (value (drop 1 w)) (value w))
    go true = refl
    go false = refl

unfoldable most : Bool → ℕ
most b = cond b 32768 32767

fits_most : (b : Bool) (n : ℕ) → fits_signed (signed_of b n) ≡ leb n (most b)
unfolding most
fits_most true n = fits_negative n
fits_most false n = refl

most_small : (b : Bool) → most b < large
unfolding most
most_small true = omega arith
most_small false = omega arith

module _ (ws : List (List ℕ)) (r : Scanned.Row) (g : RowGood ws r) where
  abbrev w : List ℕ
  w = word_at ws 1

  offset_fits : fits_signed (signed_of r.offset.negative r.offset.size) ≡ fits_signed (signed_value w)
  offset_fits =
      fits_most r.offset.negative r.offset.size
      ∙ stands_le r.offset.size (size w) (most r.offset.negative) (most_small r.offset.negative) g.number
      ∙ ap (λ (b : Bool). leb (size w) (most b)) g.sign
      ∙ sym (fits_most (is_negative w) (size w))
      ∙ ap fits_signed (sym (signed_size w))

  pub row_fits_as : row_fits (row_returned r) ≡ row_fits (row_in ws)
  row_fits_as =
      ap (λ (b : Bool). b && fits_signed (signed_of r.offset.negative r.offset.size)) (stands_le r.delay (value (word_at ws 0)) 65535 (omega arith) g.delay)
      ∙ ap (λ (b : Bool). fits_two (value (word_at ws 0)) && b) offset_fits

  pub row_is : row_fits (row_returned r) ≡ true → row_returned r ≡ row_in ws
  row_is e =
      let p = both (fits_two r.delay) (fits_signed (signed_of r.offset.negative r.offset.size)) e in
      let d = stands_is r.delay (value (word_at ws 0)) 65535 (omega arith) g.delay (leb-true _ _ p.0) in
      let n = stands_is r.offset.size (size w) 32768 (omega arith) g.number (size_fits r.offset.negative r.offset.size p.1) in
      rw (d, n, g.sign, signed_size w)
