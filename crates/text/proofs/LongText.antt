-- A text of the form whose numbers fit is the writer's text of them, and that is short.
use mathlib.Core.Path.{◌≡◌, sym, ap, ◌∙◌}
use mathlib.Core.Bool.{true, false}
use mathlib.Core.List.{List, [], ◌∷◌, ◌++◌, append_assoc, append-nil}
use Prim.Native.Nat.{ℕ, suc, ◌+◌, ◌*◌, ◌≤◌, ◌<◌}
use native.Mathlib.Omega.{arith}
use lib.ListN.{length, length-append}
use lib.IntN.{ℤ, pos, negsuc}
use Rattle.text.specs.declared.Refusal.TheVariants.{TextForm, FieldRange}
use Rattle.text.specs.declared.pieces.Word.TheVariants as Word
use Rattle.text.specs.declared.pieces.Rest.TheVariants as Rest
use Rattle.text.specs.declared.pieces.Progress.{Progress}
use Rattle.text.specs.Numerals.{numeral, signed_numeral}
use Rattle.text.specs.Numbers.{Row, Numbers, numbers_fit}
use Rattle.text.specs.Text.{first_line, row_line, row_lines, text_of, form, numbers_in}
use Rattle.text.specs.Pieces.{long_length, length_limit, After, Proceeds, LongAnswer}
use Rattle.text.specs.code.Pieces.{rest_test, onward, form_from, finished}
use Rattle.text.specs.code.Turns.{at}
use Rattle.text.proofs.Values.{so_not}
use Rattle.text.proofs.Widths.{width_held, numeral_length}
use Rattle.text.proofs.Verdict.{bad_form, bad_range}
use Rattle.text.proofs.TextBack.{all_fit, text_counts, text_back}
use Rattle.text.proofs.Onward.{end_is}

numeral_short : (n : ℕ) → length (numeral n) ≤ 10
numeral_short n = omega (arith, numeral_length n, (width_held n).few)

signed_short : (z : ℤ) → length (signed_numeral z) ≤ 11
signed_short (pos n) = omega (arith, numeral_short n)
signed_short (negsuc n) = omega (arith, numeral_short (suc n))

row_short : (r : Row) → length (row_line r) ≤ 23
row_short r = simp length-append (omega (arith, numeral_short r.delay, signed_short r.offset))

rows_short : (rs : List Row) → length (row_lines rs) ≤ 23 * length rs
unfolding row_lines
rows_short [] = omega arith
rows_short (r ∷ rs) = omega (arith, length-append (row_line r) (row_lines rs), row_short r, rows_short rs)

first_short : (s : Numbers) → length (first_line s) ≤ 61
first_short s =
    simp length-append
    (omega (arith, numeral_short s.date, numeral_short s.time, numeral_short s.tsp, numeral_short s.base, numeral_short s.count))

text_short : (text : List ℕ) → form text ≡ true → numbers_fit (numbers_in text) ≡ true → length text < long_length
unfolding text_of
text_short text e f =
    let s = numbers_in text in
    let l = length-append (first_line s) (row_lines s.rows) in
    omega (arith, ap length (text_back text e f), l, first_short s, rows_short s.rows, text_counts text e, (all_fit s f).count)

-- ---- what is known after a part of a text

pub nothing_known : (known : Progress) → known ≡ at Word.Hello Rest.Hello 0 → After [] known
unfolding After form onward rest_test
nothing_known known e rest h = rw e

pub more_known : (before known : Progress) (piece : List ℕ)
    → ((text : List ℕ) → length piece + length text < length_limit → form_from before (piece ++ text) ≡ form_from known text)
    → Proceeds before piece known
unfolding After
more_known before known piece f part a rest h =
    let l = length-append part piece in
    let k = length-append piece rest in
    ap form (append_assoc part piece rest) ∙ a (piece ++ rest) (omega arith) ∙ f rest (omega arith)

form_known : (known : Progress) (text : List ℕ) → After text known → length text < length_limit → form text ≡ finished known
unfolding After
form_known known text a h = ap form (sym (append-nil text)) ∙ a [] (omega arith) ∙ end_is known

pub long_refused : (known : Progress) → finished known ≡ false → LongAnswer known TextForm
long_refused known e text room a l h = bad_form text (form_known known text a h ∙ e) room

pub long_range : (known : Progress) → finished known ≡ true → LongAnswer known FieldRange
long_range known e text room a l h =
    let f = form_known known text a h ∙ e in
    bad_range text f (so_not (numbers_fit (numbers_in text)) (λ q. let z = text_short text f q in omega arith)) room
