-- For the reader's code: the numbers as the code has them, and what it returns for the lines after the first and for the full text. There is no rule here.
use Rattle.std.specs.Prelude.{◌≡◌, Bool, true, false, cond, ◌&&◌, List, [], ◌++◌, ℕ, ◌+◌, ◌≤◌, ltb, leb, ℤ, pos, neg_ℤ, length, take, Option, MatchOption, Result, Ok, Err}
use Rattle.lists.specs.Lists.{over}
use Rattle.quantity.specs.Words.{bits16}
use Rattle.wire.specs.Octets.{two}
use Rattle.wire.specs.Hello.{fixed_length, report_place}
use Rattle.text.specs.declared.scan.Row as Scanned
use Rattle.text.specs.declared.scan.First.{First}
use Rattle.text.specs.declared.read.Rows.{Rows}
use Rattle.text.specs.declared.Refusal.{Refusal}
use Rattle.text.specs.Words.{lines}
use Rattle.text.specs.Numbers.{Row, Numbers, row_fits, rows_fit, first_fits, numbers_fit, rows_octets}
use Rattle.text.specs.Text.{rows_form, rows_in, form, numbers_in}
use Rattle.text.specs.Answers.{refused, into, from_text}

abbrev pub most_hosts : ℕ
most_hosts = 255

-- the numbers that the code holds
abbrev pub signed_of : (negative : Bool) (size : ℕ) → ℤ
signed_of negative size = cond negative (neg_ℤ (pos size)) (pos size)

abbrev pub row_returned : Scanned.Row → Row
row_returned r = record { delay = r.delay; offset = signed_of r.offset.negative r.offset.size }

abbrev pub first_returned : First → List Row → Numbers
first_returned f rows =
    record { date = f.date; time = f.time; tsp = f.tsp; base = f.base; count = f.count; rows = rows }

abbrev pub row_octets : Row → List ℕ
row_octets r = two r.delay ++ two (bits16 r.offset)

-- a row written to the place of host i, if it and those before it fit
pub record RowPut (before after : List ℕ) (fit : Bool) (i : ℕ) (row : Row) (r : Bool) : Type 0 where
  pub fits : r ≡ (fit && (ltb i most_hosts && row_fits row))
  pub put : r ≡ true → after ≡ over before (report_place i) (row_octets row)

-- rows of good form: how many, whether they fit, and where they are put then
pub record RowsGood (text before after : List ℕ) (r : Rows) : Type 0 where
  pub form : rows_form (lines text) ≡ true
  pub counted : r.count + 1 ≡ length (lines text)
  pub short : r.count ≤ length text
  pub fits : r.fit ≡ (leb r.count most_hosts && rows_fit (rows_in (lines text)))
  pub put : r.fit ≡ true → after ≡ over before fixed_length (rows_octets (rows_in (lines text)))

abbrev pub RowsRead : (text before after : List ℕ) → Option Rows → Type 0
RowsRead text before after result = MatchOption result (rows_form (lines text) ≡ false) (λ r. RowsGood text before after r)

-- a text of the form: its numbers fit if those of the first line and of the rows do, and are those that the code has then
pub record FormGood (text before after : List ℕ) (f : First) (r : Rows) : Type 0 where
  pub form : form text ≡ true
  pub count : r.count ≡ f.count
  pub fits : numbers_fit (numbers_in text) ≡ (first_fits (first_returned f []) && r.fit)
  pub rows : List Row
  pub counted : length rows ≡ r.count
  pub put : r.fit ≡ true → after ≡ over before fixed_length (rows_octets rows)
  pub numbers : first_fits (first_returned f []) ≡ true → first_returned f rows ≡ numbers_in text

abbrev pub FormRead : (text before after : List ℕ) → Option (First × Rows) → Type 0
FormRead text before after result = MatchOption result (form text ≡ false) (λ p. FormGood text before after p.0 p.1)

-- the reader's outcome, whatever the room for it
abbrev pub ReadSays : (text after : List ℕ) → Result ℕ Refusal → Type 0
ReadSays text after (Ok n) = (n ≡ length (take n after)) × ((room : ℕ) → from_text text room ≡ into room (take n after))
ReadSays text after (Err a) = (room : ℕ) → from_text text room ≡ refused a
