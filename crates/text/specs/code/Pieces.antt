-- For the code that reads a text in pieces: what the rest of the text must be. There is no rule here.
use Rattle.std.specs.Prelude.{◌≡◌, Bool, false, not, ◌&&◌, List, [], ◌∷◌, ℕ, ◌+◌, ◌*◌, ◌^◌, ◌<◌, eqb, length}
use Rattle.text.specs.declared.pieces.Word.{Word}
use Rattle.text.specs.declared.pieces.Rest.{Rest}
use Rattle.text.specs.declared.pieces.Progress.{Progress}
use Rattle.text.specs.Numerals.{all_digits, is_numeral, is_signed, value}
use Rattle.text.specs.Words.{words, pass, same, Test}
use Rattle.text.specs.Text.{hello, first, others, word_at, rows_form}
use Rattle.text.specs.code.Scan.{large}

-- a numeral that is not zero
abbrev pub is_positive : Test
is_positive w = is_numeral w && not (eqb (value w) 0)

-- what the rest of the present word must be
unfoldable pub rest_test : Rest → Test
rest_test Rest.Hello = same hello
rest_test Rest.Ello = same (101 ∷ 108 ∷ 108 ∷ 111 ∷ [])
rest_test Rest.Llo = same (108 ∷ 108 ∷ 111 ∷ [])
rest_test Rest.Lo = same (108 ∷ 111 ∷ [])
rest_test Rest.O = same (111 ∷ [])
rest_test Rest.Number = is_numeral
rest_test Rest.Signed = is_signed
rest_test Rest.Positive = is_positive
rest_test Rest.Digits = all_digits
rest_test Rest.Empty = same []
rest_test Rest.Refused = λ w. false

-- a line whose words pass, rows after it, and a number of newlines
abbrev pub line : List Test → (count : ℕ) → (present : List ℕ) (later : List (List ℕ)) → Bool
line tests count present later = pass tests (words present) && rows_form later && eqb (length later) count

-- the rest of a text, from the present word on: the rest of the present line, and the later lines
unfoldable pub onward : Word → Rest → (count : ℕ) → (present : List ℕ) (later : List (List ℕ)) → Bool
onward Word.Hello r n l ls =
    line (rest_test r ∷ is_numeral ∷ is_numeral ∷ is_numeral ∷ is_numeral ∷ is_numeral ∷ []) (value (word_at (words l) 5) + 1) l ls
onward Word.Date r n l ls =
    line (rest_test r ∷ is_numeral ∷ is_numeral ∷ is_numeral ∷ is_numeral ∷ []) (value (word_at (words l) 4) + 1) l ls
onward Word.Time r n l ls = line (rest_test r ∷ is_numeral ∷ is_numeral ∷ is_numeral ∷ []) (value (word_at (words l) 3) + 1) l ls
onward Word.Tsp r n l ls = line (rest_test r ∷ is_numeral ∷ is_numeral ∷ []) (value (word_at (words l) 2) + 1) l ls
onward Word.Base r n l ls = line (rest_test r ∷ is_numeral ∷ []) (value (word_at (words l) 1) + 1) l ls
onward Word.Count r n l ls =
    line (rest_test r ∷ []) (n * 10 ^ length (word_at (words l) 0) + value (word_at (words l) 0) + 1) l ls
onward Word.Line r n l ls = rows_form (l ∷ ls) && eqb (length ls) n
onward Word.Delay r n l ls = line (rest_test r ∷ is_signed ∷ []) n l ls
onward Word.Offset r n l ls = line (rest_test r ∷ []) n l ls

abbrev pub form_from : Progress → List ℕ → Bool
form_from p text = onward p.word p.rest p.count (first text) (others text)

-- one more octet
abbrev pub Steps : Progress → ℕ → Progress → Type 0
Steps p c r = (text : List ℕ) → length text < large → form_from p (c ∷ text) ≡ form_from r text

-- the end of the text
abbrev pub ends : Word → ℕ → Bool
ends Word.Hello n = false
ends Word.Date n = false
ends Word.Time n = false
ends Word.Tsp n = false
ends Word.Base n = false
ends Word.Count n = false
ends Word.Line n = eqb n 0
ends Word.Delay n = false
ends Word.Offset n = false

abbrev pub finished : Progress → Bool
finished p = ends p.word p.count
