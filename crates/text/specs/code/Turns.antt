-- For the code that reads a text in pieces: what is known after one more octet. There is no rule here.
use Rattle.std.specs.Prelude.{◌≡◌, Bool, true, false, cond, ℕ, ◌+◌, ◌-◌, ◌*◌, eqb}
use Rattle.text.specs.declared.pieces.Word.{Word}
use Rattle.text.specs.declared.pieces.Rest.{Rest}
use Rattle.text.specs.declared.pieces.Progress.{Progress}
use Rattle.text.specs.Numerals.{zero_sign, minus_sign, is_digit}
use Rattle.text.specs.code.Scan.{Stands}

-- may the word end here?
abbrev pub complete : Rest → Bool
complete Rest.Hello = false
complete Rest.Ello = false
complete Rest.Llo = false
complete Rest.Lo = false
complete Rest.O = false
complete Rest.Number = false
complete Rest.Signed = false
complete Rest.Positive = false
complete Rest.Digits = true
complete Rest.Empty = true
complete Rest.Refused = false

-- what must follow an octet of a word
abbrev pub letter : (c expected : ℕ) → Rest → Rest
letter c expected next = cond (eqb c expected) next Rest.Refused

abbrev pub number_start : ℕ → Rest
number_start c = cond (is_digit c) (cond (eqb c zero_sign) Rest.Empty Rest.Digits) Rest.Refused

abbrev pub signed_start : ℕ → Rest
signed_start c = cond (eqb c minus_sign) Rest.Positive (number_start c)

abbrev pub positive_start : ℕ → Rest
positive_start c = cond (eqb c zero_sign) Rest.Refused (number_start c)

abbrev pub digit : ℕ → Rest
digit c = cond (is_digit c) Rest.Digits Rest.Refused

abbrev pub narrow : Rest → ℕ → Rest
narrow Rest.Hello c = letter c 104 Rest.Ello
narrow Rest.Ello c = letter c 101 Rest.Llo
narrow Rest.Llo c = letter c 108 Rest.Lo
narrow Rest.Lo c = letter c 108 Rest.O
narrow Rest.O c = letter c 111 Rest.Empty
narrow Rest.Number c = number_start c
narrow Rest.Signed c = signed_start c
narrow Rest.Positive c = positive_start c
narrow Rest.Digits c = digit c
narrow Rest.Empty c = Rest.Refused
narrow Rest.Refused c = Rest.Refused

abbrev pub at : Word → Rest → ℕ → Progress
at word rest count = record { word = word; rest = rest; count = count }

abbrev pub refused_text : Progress
refused_text = at Word.Hello Rest.Refused 0

-- the start of the next word of a line
abbrev pub next_word : Word → ℕ → Progress
next_word Word.Hello n = at Word.Date Rest.Number 0
next_word Word.Date n = at Word.Time Rest.Number 0
next_word Word.Time n = at Word.Tsp Rest.Number 0
next_word Word.Tsp n = at Word.Base Rest.Number 0
next_word Word.Base n = at Word.Count Rest.Number 0
next_word Word.Count n = refused_text
next_word Word.Line n = refused_text
next_word Word.Delay n = at Word.Offset Rest.Signed n
next_word Word.Offset n = refused_text

-- the start of the next line: N newlines must come after the first line, and one fewer after each other
abbrev pub one_fewer : ℕ → Progress
one_fewer n = cond (eqb n 0) refused_text (at Word.Line Rest.Number (n - 1))

abbrev pub next_line : Word → ℕ → Progress
next_line Word.Hello n = refused_text
next_line Word.Date n = refused_text
next_line Word.Time n = refused_text
next_line Word.Tsp n = refused_text
next_line Word.Base n = refused_text
next_line Word.Count n = at Word.Line Rest.Number n
next_line Word.Line n = refused_text
next_line Word.Delay n = refused_text
next_line Word.Offset n = one_fewer n

abbrev pub spaced : Progress → Progress
spaced p = cond (complete p.rest) (next_word p.word p.count) refused_text

abbrev pub ended : Progress → Progress
ended p = cond (complete p.rest) (next_line p.word p.count) refused_text

-- after an octet that is no space and no newline
abbrev pub word_within : Word → Word
word_within Word.Hello = Word.Hello
word_within Word.Date = Word.Date
word_within Word.Time = Word.Time
word_within Word.Tsp = Word.Tsp
word_within Word.Base = Word.Base
word_within Word.Count = Word.Count
word_within Word.Line = Word.Delay
word_within Word.Delay = Word.Delay
word_within Word.Offset = Word.Offset

abbrev pub rest_within : Word → Rest → ℕ → Rest
rest_within Word.Hello r c = narrow r c
rest_within Word.Date r c = narrow r c
rest_within Word.Time r c = narrow r c
rest_within Word.Tsp r c = narrow r c
rest_within Word.Base r c = narrow r c
rest_within Word.Count r c = narrow r c
rest_within Word.Line r c = number_start c
rest_within Word.Delay r c = narrow r c
rest_within Word.Offset r c = narrow r c

abbrev pub Counted : (count c r : ℕ) → Type 0
Counted count c r = Stands r (count * 10 + (c - zero_sign))

abbrev pub is_count : Word → Bool
is_count Word.Hello = false
is_count Word.Date = false
is_count Word.Time = false
is_count Word.Tsp = false
is_count Word.Base = false
is_count Word.Count = true
is_count Word.Line = false
is_count Word.Delay = false
is_count Word.Offset = false

pub record CountWithin (w : Word) (n c r : ℕ) : Type 0 where
  pub counted : is_count w ≡ true → Counted n c r
  pub kept : is_count w ≡ false → r ≡ n

pub record Inside (p : Progress) (c : ℕ) (r : Progress) : Type 0 where
  pub word : r.word ≡ word_within p.word
  pub rest : r.rest ≡ rest_within p.word p.rest c
  pub count : CountWithin p.word p.count c r.count
