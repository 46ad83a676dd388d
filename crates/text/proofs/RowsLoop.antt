-- The lines behind the first, in turn: those read are rows, counted, and put in their places while all fit.
use mathlib.Core.Path.{◌≡◌, refl, sym, ap, ◌∙◌}
use mathlib.Core.Bool.{Bool, true, false, ◌&&◌}
use mathlib.Core.List.{List, [], ◌∷◌, ◌++◌, append-nil}
use Prim.Native.Nat.{ℕ, ◌+◌, ◌*◌, ◌≤◌, ◌<◌}
use native.Mathlib.Numerals.{add-one}
use native.Mathlib.Omega.{arith}
use borrow.Author.Tests.{le-leb, ltb-true}
use lib.Dec.{leb, ltb}
use lib.ListN.{length, length-append}
use lib.Seq.{append_snoc}
use Rattle.lists.specs.Lists.{over}
use Rattle.lists.proofs.Parts.{over_twice, over_nothing}
use Rattle.lists.proofs.Tests.{both}
use Rattle.wire.specs.Hello.{fixed_length, report_place}
use Rattle.text.specs.declared.scan.Row as Scanned
use Rattle.text.specs.Words.{newline, cut, words, lines, pass}
use Rattle.text.specs.Numbers.{Row, row_fits, rows_fit, rows_octets}
use Rattle.text.specs.Text.{row_tests, rows_form, row_in, rows_in}
use Rattle.text.specs.code.Scan.{CutAt, RowGood}
use Rattle.text.specs.code.Reading.{most_hosts, row_returned, row_octets, RowPut, RowsGood}
use Rattle.text.proofs.Cuts.{cut_some}
use Rattle.text.proofs.Readings.{and_true, and_false}
use Rattle.text.proofs.Standing.{row_fits_as, row_is}

-- ---- a line more

pub form_more : (line s : List ℕ) → rows_form (line ∷ lines s) ≡ (pass row_tests (words line) && rows_form (lines s))
unfolding rows_form
form_more line s = let p = cut_some newline s in rw p.is

pub in_more : (line s : List ℕ) → rows_in (line ∷ lines s) ≡ row_in (words line) ∷ rows_in (lines s)
unfolding rows_in
in_more line s = let p = cut_some newline s in rw p.is

fit_snoc : (rs : List Row) (r : Row) → rows_fit (rs ++ r ∷ []) ≡ (rows_fit rs && row_fits r)
unfolding rows_fit
fit_snoc [] r = and_true (row_fits r)
fit_snoc (x ∷ rs) r = rw (fit_snoc rs r) (go (row_fits x) (rows_fit rs) (row_fits r))
  where
    go : (a b c : Bool) → (a && (b && c)) ≡ (a && b && c)
    go true b c = refl
    go false b c = refl

octets_snoc : (rs : List Row) (r : Row) → rows_octets (rs ++ r ∷ []) ≡ rows_octets rs ++ row_octets r
unfolding rows_octets
octets_snoc [] r = refl
octets_snoc (x ∷ rs) r = rw (octets_snoc rs r)

pub octets_length : (rs : List Row) → length (rows_octets rs) ≡ 4 * length rs
unfolding rows_octets
octets_length [] = refl
octets_length (x ∷ rs) = omega (arith, octets_length rs)

-- ---- the loop

pub record Reading (text b a rest : List ℕ) (count : ℕ) (fit : Bool) : Type 0 where
  pub done : List Row
  pub number : length done ≡ count
  pub form : rows_form (lines text) ≡ rows_form (lines rest)
  pub counted : length (lines text) ≡ count + length (lines rest)
  pub rows : rows_in (lines text) ≡ done ++ rows_in (lines rest)
  pub fits : fit ≡ (leb count most_hosts && rows_fit done)
  pub put : fit ≡ true → a ≡ over b fixed_length (rows_octets done)

pub reading_none : (text b : List ℕ) → Reading text b b text 0 true
unfolding rows_fit rows_octets
reading_none text b =
    record {
      done = [];
      number = refl;
      form = refl;
      counted = omega arith;
      rows = refl;
      fits = refl;
      put = λ t. sym (over_nothing fixed_length b);
    }

-- one more row fits with those in front of it
more_fit : (count : ℕ) (f g : Bool) → (leb count most_hosts && f && (ltb count most_hosts && g)) ≡ (leb (count + 1) most_hosts && (f && g))
more_fit count f g = rw (add-one count) (go (ltb count most_hosts) refl)
  where
    go : (b : Bool) → ltb count most_hosts ≡ b → (leb count most_hosts && f && (b && g)) ≡ (b && (f && g))
    go true e = let h = ltb-true count most_hosts e in rw (le-leb count most_hosts (omega arith))
    go false e = and_false (leb count most_hosts && f)

module _ {text b a a₂ rest line after : List ℕ} {count : ℕ} {fit fit₂ : Bool} {r : Scanned.Row}
    (room : fixed_length ≤ length b) (state : Reading text b a rest count fit) (found : CutAt newline rest line after)
    (read : RowGood (words line) r) (stored : RowPut a a₂ fit count (row_returned r) fit₂) where
  abbrev row : Row
  row = row_in (words line)

  fits_too : fit₂ ≡ (leb (count + 1) most_hosts && rows_fit (state.done ++ row ∷ []))
  fits_too =
      stored.fits
      ∙ rw (state.fits, row_fits_as (words line) r read, fit_snoc state.done row) (more_fit count (rows_fit state.done) (row_fits row))

  put_too : fit₂ ≡ true → a₂ ≡ over b fixed_length (rows_octets (state.done ++ row ∷ []))
  put_too t =
      let p = both fit (ltb count most_hosts && row_fits (row_returned r)) (sym stored.fits ∙ t) in
      let q = both (ltb count most_hosts) (row_fits (row_returned r)) p.1 in
      let e : row_returned r ≡ row = row_is (words line) r read q.1 in
      let n : report_place count ≡ fixed_length + length (rows_octets state.done) = omega (arith, octets_length state.done, state.number) in
      stored.put t
      ∙ ap (λ (x : Row). over a (report_place count) (row_octets x)) e
      ∙ rw (n, state.put p.0, octets_snoc state.done row) (over_twice fixed_length b (rows_octets state.done) room (row_octets row))

  pub reading_more : Reading text b a₂ after (count + 1) fit₂
  reading_more =
      record {
        done = state.done ++ row ∷ [];
        number = omega (arith, length-append state.done (row ∷ []), state.number);
        form = state.form ∙ rw (found.split) (form_more line after ∙ rw read.passes);
        counted = omega (arith, state.counted, ap length found.split);
        rows = state.rows ∙ rw (found.split, in_more line after) (sym (append_snoc state.done row (rows_in (lines after))));
        fits = fits_too;
        put = put_too;
      }

-- ---- the ends

-- a last line without a newline
open_line : (s : List ℕ) → 0 < length s → rows_form (s ∷ []) ≡ false
unfolding rows_form
open_line [] h = absurd (omega arith)
open_line (c ∷ s) h = refl

pub form_open : {text b a rest : List ℕ} {count : ℕ} {fit : Bool} → Reading text b a rest count fit → 0 < length rest → lines rest ≡ rest ∷ [] → rows_form (lines text) ≡ false
form_open {rest} state h e = state.form ∙ ap rows_form e ∙ open_line rest h

pub form_other : {text b a rest line after : List ℕ} {count : ℕ} {fit : Bool} → Reading text b a rest count fit → CutAt newline rest line after
    → pass row_tests (words line) ≡ false
    → rows_form (lines text) ≡ false
form_other {line} {after} state f e = state.form ∙ rw f.split (form_more line after ∙ rw e)

pub rows_read : {text b a rest : List ℕ} {count : ℕ} {fit : Bool} → length rest ≡ 0 → count ≤ length text → Reading text b a rest count fit
    → RowsGood text b a (record { fit = fit; count = count })
unfolding rows_form rows_in cut
rows_read {text} {rest = []} h k state =
    let e : rows_in (lines text) ≡ state.done = state.rows ∙ append-nil state.done in
    record { form = state.form; counted = sym state.counted; short = k; fits = rw e state.fits; put = λ u. rw e (state.put u) }
rows_read {rest = c ∷ s} h k state = absurd (omega arith)
