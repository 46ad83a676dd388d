-- TEXT-2: a message as text: a first line, then a line for each host.
use Rattle.std.specs.Prelude.{Bool, true, false, ◌&&◌, List, [], ◌∷◌, ◌++◌, ℕ, ◌+◌, eqb, length, get_or, drop}
use Rattle.text.specs.Numerals.{numeral, signed_numeral, is_numeral, is_signed, value, signed_value}
use Rattle.text.specs.Words.{space, newline, words, lines, pass, same, Test}
use Rattle.text.specs.Numbers.{Row, Numbers}

-- TEXT-2: the first word
abbrev pub hello : List ℕ
hello = 104 ∷ 101 ∷ 108 ∷ 108 ∷ 111 ∷ []

-- ---- written

-- TEXT-2: the first line
abbrev pub first_line : Numbers → List ℕ
first_line s =
    hello ++ space ∷ numeral s.date ++ space ∷ numeral s.time ++ space ∷ numeral s.tsp
    ++ space ∷ numeral s.base
    ++ space ∷ numeral s.count
    ++ newline ∷ []

-- TEXT-2: the line of a host
abbrev pub row_line : Row → List ℕ
row_line r = numeral r.delay ++ space ∷ signed_numeral r.offset ++ newline ∷ []

-- TEXT-2: the lines of all hosts
unfoldable pub row_lines : List Row → List ℕ
row_lines [] = []
row_lines (r ∷ rs) = row_line r ++ row_lines rs

-- TEXT-2: the text of the numbers of a message
unfoldable pub text_of : Numbers → List ℕ
text_of s = first_line s ++ row_lines s.rows

-- ---- the form of a text

-- TEXT-2: which word of the first line is DATE
abbrev pub date_place : ℕ
date_place = 1

-- TEXT-2: which word is the time
abbrev pub time_place : ℕ
time_place = 2

-- TEXT-2: which word is TSP
abbrev pub tsp_place : ℕ
tsp_place = 3

-- TEXT-2: which word is BASE
abbrev pub base_place : ℕ
base_place = 4

-- TEXT-2: which word is N
abbrev pub count_place : ℕ
count_place = 5

-- TEXT-2: the tests of the words of the first line
abbrev pub first_tests : List Test
first_tests = same hello ∷ is_numeral ∷ is_numeral ∷ is_numeral ∷ is_numeral ∷ is_numeral ∷ []

-- TEXT-2: the tests of the words of the other lines
abbrev pub row_tests : List Test
row_tests = is_numeral ∷ is_signed ∷ []

-- TEXT-3: the lines after the first are rows, and nothing follows the last newline
unfoldable pub rows_form : List (List ℕ) → Bool
rows_form [] = false
rows_form ([] ∷ []) = true
rows_form ((c ∷ w) ∷ []) = false
rows_form (line ∷ next ∷ rest) = pass row_tests (words line) && rows_form (next ∷ rest)

-- TEXT-2: word i of a line
abbrev pub word_at : List (List ℕ) → ℕ → List ℕ
word_at ws i = get_or ws i []

-- TEXT-2: the first line of a text
abbrev pub first : List ℕ → List ℕ
first text = get_or (lines text) 0 []

-- TEXT-2: the other lines, and what follows the last newline
abbrev pub others : List ℕ → List (List ℕ)
others text = drop 1 (lines text)

-- TEXT-6: N, a number of any length
abbrev pub count_in : List ℕ → ℕ
count_in text = value (word_at (words (first text)) count_place)

-- TEXT-6, ANSWER-14: has the text the form, with N lines after the first?
unfoldable pub form : List ℕ → Bool
form text =
    pass first_tests (words (first text)) && rows_form (others text) && eqb (length (others text)) (count_in text + 1)

-- ---- the numbers of a text of the form

-- TEXT-2: the numbers of a line
abbrev pub row_in : List (List ℕ) → Row
row_in ws = record { delay = value (word_at ws 0); offset = signed_value (word_at ws 1) }

-- TEXT-2: the numbers of all lines after the first
unfoldable pub rows_in : List (List ℕ) → List Row
rows_in [] = []
rows_in (last ∷ []) = []
rows_in (line ∷ next ∷ rest) = row_in (words line) ∷ rows_in (next ∷ rest)

-- TEXT-2: the numbers of a text of this form
unfoldable pub numbers_in : List ℕ → Numbers
numbers_in text =
    record {
      date = value (word_at (words (first text)) date_place);
      time = value (word_at (words (first text)) time_place);
      tsp = value (word_at (words (first text)) tsp_place);
      base = value (word_at (words (first text)) base_place);
      count = count_in text;
      rows = rows_in (others text);
    }
