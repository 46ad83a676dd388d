-- The verdict on a text: by its first line and the lines behind it, the tests come in the definition's order; and the message of one that passes.
use mathlib.Core.Path.{◌≡◌, refl, sym, ap, ◌∙◌}
use mathlib.Core.Bool.{Bool, true, false, ◌&&◌}
use mathlib.Core.List.{List, [], ◌∷◌, ◌++◌}
use Prim.Native.Nat.{ℕ, zero, suc, ◌+◌, ◌-◌, ◌*◌, ◌≤◌, ◌<◌}
use native.Mathlib.Omega.{arith}
use borrow.Author.Tests.{eq-eqb, ne_eqb, le-leb}
use lib.Dec.{eqb}
use lib.ListN.{length, take, drop}
use lib.Seq.{get_or-drop, take-append-add, length-take-le}
use Rattle.lists.specs.Lists.{over}
use Rattle.lists.proofs.Parts.{over_there, over_length}
use Rattle.checksum.specs.Checksum.{checksum_of}
use Rattle.wire.specs.Octets.{two}
use Rattle.wire.specs.Hello.{fixed_length}
use Rattle.text.specs.declared.Refusal.TheVariants.{TextForm, FieldRange}
use Rattle.text.specs.declared.scan.First.{First}
use Rattle.text.specs.declared.read.Rows.{Rows}
use Rattle.std.specs.Prelude.{Ok}
use Rattle.text.specs.Numerals.{value}
use Rattle.text.specs.Words.{newline, words, lines, pass}
use Rattle.text.specs.Numbers.{Row, Numbers, first_fits, rows_fit, numbers_fit, rows_octets, fixed_octets, octets_rest, message_of}
use Rattle.text.specs.Text.{word_at, first_tests, rows_form, rows_in, form, numbers_in}
use Rattle.text.specs.Answers.{refused, into, from_text}
use Rattle.text.specs.code.Scan.{large, Stands, CutAt, FirstGood}
use Rattle.text.specs.code.Reading.{most_hosts, first_returned, RowsGood, FormGood, ReadSays}
use Rattle.text.proofs.Readings.{and_false}
use Rattle.text.proofs.Ranges.{first_fits_lem}
use Rattle.text.proofs.Standing.{stands_le, stands_is, stands_other}
use Rattle.text.proofs.RowsLoop.{octets_length}

-- ---- refused

pub bad_form : (text : List ℕ) → form text ≡ false → (room : ℕ) → from_text text room ≡ refused TextForm
unfolding from_text
bad_form text e room = rw e

pub bad_range : (text : List ℕ) → form text ≡ true → numbers_fit (numbers_in text) ≡ false → (room : ℕ) → from_text text room ≡ refused FieldRange
unfolding from_text
bad_range text e h room = rw (e, h)

-- ---- a first line and the others

module _ (text line : List ℕ) (ls : List (List ℕ)) (split : lines text ≡ line ∷ ls) where
  form_is : form text ≡ (pass first_tests (words line) && rows_form ls && eqb (length ls) (value (word_at (words line) 5) + 1))
  unfolding form
  form_is = rw split

  pub no_rows : ls ≡ [] → form text ≡ false
  unfolding rows_form
  no_rows e = form_is ∙ rw (e, and_false (pass first_tests (words line)))

  pub no_first : pass first_tests (words line) ≡ false → form text ≡ false
  no_first e = form_is ∙ rw e

  pub other_rows : pass first_tests (words line) ≡ true → rows_form ls ≡ false → form text ≡ false
  other_rows e h = form_is ∙ rw (e, h)

  pub other_count : (n : ℕ) → n + 1 ≡ length ls → (n ≡ value (word_at (words line) 5) → ⊥) → form text ≡ false
  other_count n e h =
      let f : length ls ≡ value (word_at (words line) 5) + 1 → ⊥ = λ q. h (omega arith) in
      form_is ∙ rw (ne_eqb _ _ f, and_false (pass first_tests (words line) && rows_form ls))

  pub good_form : pass first_tests (words line) ≡ true → rows_form ls ≡ true → (n : ℕ) → n + 1 ≡ length ls → n ≡ value (word_at (words line) 5) → form text ≡ true
  good_form e h n q r =
      let f : length ls ≡ value (word_at (words line) 5) + 1 = omega arith in
      form_is ∙ rw (e, h, eq-eqb _ _ f)

  pub numbers_are : numbers_in text
      ≡ record {
        date = value (word_at (words line) 1);
        time = value (word_at (words line) 2);
        tsp = value (word_at (words line) 3);
        base = value (word_at (words line) 4);
        count = value (word_at (words line) 5);
        rows = rows_in ls;
      }
  unfolding numbers_in
  numbers_are = rw split

-- ---- the numbers as the code holds them

module _ (ws : List (List ℕ)) (f : First) (g : FirstGood (drop 1 ws) f) (rows : List Row) where
  abbrev numbers : Numbers
  numbers =
      record {
        date = value (word_at ws 1);
        time = value (word_at ws 2);
        tsp = value (word_at ws 3);
        base = value (word_at ws 4);
        count = value (word_at ws 5);
        rows = rows;
      }

  -- the words behind the first, by their places among all
  date_stands : Stands f.date (value (word_at ws 1))
  date_stands = rw (get_or-drop 1 ws 0 []) at g.date

  time_stands : Stands f.time (value (word_at ws 2))
  time_stands = rw (get_or-drop 1 ws 1 []) at g.time

  tsp_stands : Stands f.tsp (value (word_at ws 3))
  tsp_stands = rw (get_or-drop 1 ws 2 []) at g.tsp

  base_stands : Stands f.base (value (word_at ws 4))
  base_stands = rw (get_or-drop 1 ws 3 []) at g.base

  pub count_stands : Stands f.count (value (word_at ws 5))
  count_stands = rw (get_or-drop 1 ws 4 []) at g.count

  pub first_fits_as : first_fits (first_returned f rows) ≡ first_fits numbers
  first_fits_as =
      rw (stands_le f.date (value (word_at ws 1)) 65535 (omega arith) date_stands, stands_le f.time (value (word_at ws 2)) 4294967295 (omega arith) time_stands, stands_le f.tsp (value (word_at ws 3)) 65535 (omega arith) tsp_stands, stands_le f.base (value (word_at ws 4)) 255 (omega arith) base_stands, stands_le f.count (value (word_at ws 5)) 255 (omega arith) count_stands)

  pub first_is : first_fits (first_returned f rows) ≡ true → first_returned f rows ≡ numbers
  first_is e =
      let h = first_fits_lem f rows e in
      rw (stands_is f.date (value (word_at ws 1)) 65535 (omega arith) date_stands h.date, stands_is f.time (value (word_at ws 2)) 4294967295 (omega arith) time_stands h.time, stands_is f.tsp (value (word_at ws 3)) 65535 (omega arith) tsp_stands h.tsp, stands_is f.base (value (word_at ws 4)) 255 (omega arith) base_stands h.base, stands_is f.count (value (word_at ws 5)) 255 (omega arith) count_stands h.count)

-- there are as many rows as lines, but for the last piece
pub rows_counted : (ls : List (List ℕ)) (n : ℕ) → n + 1 ≡ length ls → length (rows_in ls) ≡ n
unfolding rows_in
rows_counted [] n e = absurd (omega arith)
rows_counted (l ∷ []) n e = omega arith
rows_counted (l ∷ k ∷ ls) zero e = absurd (omega arith)
rows_counted (l ∷ k ∷ ls) (suc n) e = ap suc (rows_counted (k ∷ ls) n (omega arith))

-- ---- the message

-- the parts put: the rows, the fixed part in front of them, and the checksum of both in front of that
pub message_put : (b l₁ l₂ l₃ : List ℕ) (s : Numbers) (n : ℕ) → n ≡ fixed_length + length (rows_octets s.rows) → n ≤ length b
    → l₁ ≡ over b fixed_length (rows_octets s.rows)
    → l₂ ≡ over l₁ 2 (fixed_octets s)
    → l₃ ≡ over l₂ 0 (two (checksum_of (take (n - 2) (drop 2 l₂))))
    → take n l₃ ≡ message_of s
unfolding message_of
message_put b l₁ l₂ l₃ s n e h e₁ e₂ e₃ =
    let R = rows_octets s.rows in
    let F = fixed_octets s in
    let k : fixed_length ≤ length b = omega arith in
    let m : length l₁ ≡ length b = ap length e₁ ∙ over_length fixed_length b R (omega arith) in
    let r : take (length R) (drop fixed_length l₁) ≡ R = rw e₁ (over_there fixed_length b R k (length R) refl) in
    let d : drop 2 l₂ ≡ F ++ drop fixed_length l₁ = rw e₂ (front l₁ F (omega arith)) in
    let p : n - 2 ≡ length F + length R = omega arith in
    let t : take (n - 2) (drop 2 l₂) ≡ octets_rest s = rw (p, d) (take-append-add F (drop fixed_length l₁) (length R) ∙ ap (λ (z : List ℕ). F ++ z) r) in
    let q : n ≡ 2 + (length F + length R) = omega arith in
    let C = two (checksum_of (octets_rest s)) in
    let z : l₃ ≡ C ++ (F ++ drop fixed_length l₁) = e₃ ∙ rw (t, d) in
    ap (take n) z ∙ rw q (take-append-add C (F ++ drop fixed_length l₁) (length F + length R) ∙ ap (λ (z : List ℕ). C ++ z) (take-append-add F (drop fixed_length l₁) (length R) ∙ ap (λ (z : List ℕ). F ++ z) r))
  where
    front : (l xs : List ℕ) → 2 ≤ length l → drop 2 (over l 2 xs) ≡ xs ++ drop (2 + length xs) l
    front [] xs g = absurd (omega arith)
    front (x ∷ []) xs g = absurd (omega arith)
    front (x ∷ y ∷ l) xs g = refl

pub read_good : (text after : List ℕ) (n : ℕ) → form text ≡ true → numbers_fit (numbers_in text) ≡ true → n ≤ length after → take n after ≡ message_of (numbers_in text)
    → (room : ℕ)
    → from_text text room ≡ into room (take n after)
unfolding from_text
read_good text after n e h k q room = rw (e, h, q)

-- ---- a first line cut off, and the others read

pub nothing_read : (text : List ℕ) → lines text ≡ text ∷ [] → form text ≡ false
nothing_read text e = no_rows text text [] e refl

module _ {text line rest : List ℕ} (found : CutAt newline text line rest) where
  pub first_refused : pass first_tests (words line) ≡ false → form text ≡ false
  first_refused e = no_first text line (lines rest) found.split e

  module _ {f : First} (first : (pass first_tests (words line) ≡ true) × FirstGood (drop 1 (words line)) f) where
    pub rows_refused : rows_form (lines rest) ≡ false → form text ≡ false
    rows_refused e = other_rows text line (lines rest) found.split first.0 e

    module _ {b a : List ℕ} {r : Rows} (good : RowsGood rest b a r) (short : length text < large) where
      small : r.count < large
      small = omega (arith, good.short, found.whole)

      stands : Stands f.count (value (word_at (words line) 5))
      stands = count_stands (words line) f first.1 []

      pub count_refused : (r.count ≡ f.count → ⊥) → form text ≡ false
      count_refused q = other_count text line (lines rest) found.split r.count good.counted (stands_other f.count (value (word_at (words line) 5)) r.count small stands q)

      module _ (counts : r.count ≡ f.count) where
        count_is : r.count ≡ value (word_at (words line) 5)
        count_is = counts ∙ stands_is f.count (value (word_at (words line) 5)) r.count small stands (omega arith)

        -- the rows are few if the first line fits
        fit_both : (first_fits (first_returned f []) && rows_fit (rows_in (lines rest))) ≡ (first_fits (first_returned f []) && r.fit)
        fit_both = go (first_fits (first_returned f [])) refl
          where
            go : (t : Bool) → first_fits (first_returned f []) ≡ t → (t && rows_fit (rows_in (lines rest))) ≡ (t && r.fit)
            go true e = let few : r.count ≤ most_hosts = omega (arith, counts, (first_fits_lem f [] e).count) in sym (good.fits ∙ rw (le-leb r.count most_hosts few))
            go false e = refl

        fits_is : numbers_fit (numbers_in text) ≡ (first_fits (first_returned f []) && rows_fit (rows_in (lines rest)))
        unfolding numbers_fit
        fits_is = rw (numbers_are text line (lines rest) found.split, ← (first_fits_as (words line) f first.1 []))

        pub form_read : FormGood text b a f r
        form_read =
            record {
              form = good_form text line (lines rest) found.split first.0 good.form r.count good.counted count_is;
              count = counts;
              fits = fits_is ∙ fit_both;
              rows = rows_in (lines rest);
              counted = rows_counted (lines rest) r.count good.counted;
              put = good.put;
              numbers = λ e. first_is (words line) f first.1 (rows_in (lines rest)) e ∙ sym (numbers_are text line (lines rest) found.split);
            }

-- ---- a text of the form

module _ {text b a : List ℕ} {f : First} {r : Rows} (g : FormGood text b a f r) where
  pub first_range : first_fits (first_returned f []) ≡ false → (room : ℕ) → from_text text room ≡ refused FieldRange
  first_range e = bad_range text g.form (g.fits ∙ rw e)

  pub rows_range : r.fit ≡ false → (room : ℕ) → from_text text room ≡ refused FieldRange
  rows_range e = bad_range text g.form (g.fits ∙ rw e (and_false (first_fits (first_returned f []))))

  abbrev n : ℕ
  n = 12 + 4 * r.count

  module _ (e : first_fits (first_returned f []) ≡ true) where
    pub few : r.count ≤ most_hosts
    few = omega (arith, g.count, (first_fits_lem f [] e).count)

    pub text_read : (l₂ l₃ : List ℕ) → length b ≡ 1032 → length l₃ ≡ 1032 → r.fit ≡ true
        → l₂ ≡ over a 2 (fixed_octets (first_returned f []))
        → l₃ ≡ over l₂ 0 (two (checksum_of (take (n - 2) (drop 2 l₂))))
        → ReadSays text l₃ (Ok n)
    text_read l₂ l₃ room long q e₂ e₃ =
        let m : n ≡ fixed_length + length (rows_octets g.rows) = omega (arith, octets_length g.rows, g.counted) in
        let h : n ≤ length l₃ = omega (arith, few) in
        let p : take n l₃ ≡ message_of (first_returned f g.rows) = message_put b a l₂ l₃ (first_returned f g.rows) n m (omega (arith, few)) (g.put q) e₂ e₃ in
        (sym (length-take-le n l₃ h), read_good text l₃ n g.form (g.fits ∙ rw (e, q)) h (p ∙ ap message_of (g.numbers e)))
