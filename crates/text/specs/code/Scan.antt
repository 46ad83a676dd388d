-- For the reader's code: large numbers that represent larger ones, and what it returns for the words of a line. There is no rule here.
use Rattle.std.specs.Prelude.{◌≡◌, true, false, cond, List, [], ◌∷◌, ℕ, ◌+◌, ◌-◌, ◌*◌, ◌^◌, min, length, drop, Option, MatchOption}
use Rattle.text.specs.declared.scan.Offset.{Offset}
use Rattle.text.specs.declared.scan.Row.{Row}
use Rattle.text.specs.declared.scan.First.{First}
use Rattle.text.specs.Numerals.{zero_sign, is_numeral, is_negative, is_signed, value}
use Rattle.text.specs.Words.{cut, words, Test, pass}
use Rattle.text.specs.Text.{word_at, first_tests, row_tests}

-- no count of lines and no field is as large: a text has fewer octets
abbrev pub large : ℕ
large = 2 ^ 63

-- a number of the code represents a number of any length: they are equal, or both large
abbrev pub Stands : (r n : ℕ) → Type 0
Stands r n = min r large ≡ min n large

-- one more digit, as an octet
abbrev pub More : (value c r : ℕ) → Type 0
More value c r = (n : ℕ) → Stands value n → Stands r (n * 10 + (c - zero_sign))

-- the first piece, and what lies after its mark
pub record CutAt (mark : ℕ) (s word rest : List ℕ) : Type 0 where
  pub split : cut mark s ≡ word ∷ cut mark rest
  pub whole : length s ≡ length word + 1 + length rest

-- the number of a word that passes a test
abbrev pub NumberRead : Test → List ℕ → Option ℕ → Type 0
NumberRead test s result = MatchOption result (test s ≡ false) (λ n. (test s ≡ true) × Stands n (value s))

-- a signed word without its sign
abbrev pub size : List ℕ → ℕ
size w = cond (is_negative w) (value (drop 1 w)) (value w)

-- a word that is a number with a sign
pub record Signed (s : List ℕ) (o : Offset) : Type 0 where
  pub signed : is_signed s ≡ true
  pub sign : o.negative ≡ is_negative s
  pub number : Stands o.size (size s)

abbrev pub OffsetRead : List ℕ → Option Offset → Type 0
OffsetRead s result = MatchOption result (is_signed s ≡ false) (λ o. Signed s o)

-- a line that begins with a number, with another word after it
pub record Field (s : List ℕ) (n : ℕ) (rest : List ℕ) : Type 0 where
  pub word : List ℕ
  pub split : words s ≡ word ∷ words rest
  pub numeral : is_numeral word ≡ true
  pub number : Stands n (value word)

-- a line that does not
abbrev pub NoField : List ℕ → Type 0
NoField s = (t : Test) (ts : List Test) → pass (is_numeral ∷ t ∷ ts) (words s) ≡ false

pub record RowGood (ws : List (List ℕ)) (r : Row) : Type 0 where
  pub passes : pass row_tests ws ≡ true
  pub delay : Stands r.delay (value (word_at ws 0))
  pub sign : r.offset.negative ≡ is_negative (word_at ws 1)
  pub number : Stands r.offset.size (size (word_at ws 1))

abbrev pub RowRead : List (List ℕ) → Option Row → Type 0
RowRead ws result = MatchOption result (pass row_tests ws ≡ false) (λ r. RowGood ws r)

-- the numbers of the first line, after its first word
pub record FirstGood (ws : List (List ℕ)) (r : First) : Type 0 where
  pub date : Stands r.date (value (word_at ws 0))
  pub time : Stands r.time (value (word_at ws 1))
  pub tsp : Stands r.tsp (value (word_at ws 2))
  pub base : Stands r.base (value (word_at ws 3))
  pub count : Stands r.count (value (word_at ws 4))

-- five numerals
abbrev pub number_tests : List Test
number_tests = is_numeral ∷ is_numeral ∷ is_numeral ∷ is_numeral ∷ is_numeral ∷ []

abbrev pub FirstRead : List (List ℕ) → Option First → Type 0
FirstRead ws result = MatchOption result (pass number_tests ws ≡ false) (λ r. (pass number_tests ws ≡ true) × FirstGood ws r)

-- all of it
abbrev pub LineRead : List (List ℕ) → Option First → Type 0
LineRead ws result = MatchOption result (pass first_tests ws ≡ false) (λ r. (pass first_tests ws ≡ true) × FirstGood (drop 1 ws) r)
