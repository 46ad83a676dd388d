-- For the code: what was written at a place, and how much room it takes. There is no rule here.
use Rattle.std.specs.Prelude.{◌≡◌, List, ◌∷◌, ◌++◌, ℕ, ◌+◌, ◌≤◌, length}
use Rattle.lists.specs.Lists.{over}
use Rattle.quantity.specs.Words.{signed16}
use Rattle.text.specs.Numerals.{numeral}
use Rattle.text.specs.Words.{space}
use Rattle.text.specs.Numbers.{Numbers}
use Rattle.text.specs.Text.{hello, row_line}

-- xs written at a place: the place after it, for which the buffer has room, and the buffer, of the same length
pub record Put (before after : List ℕ) (at next : ℕ) (xs : List ℕ) : Type 0 where
  pub behind : next ≡ at + length xs
  pub inside : next ≤ length before
  pub same : length after ≡ length before
  pub buffer : after ≡ over before at xs

-- room for the first line and for a row, each number taking ten digits
abbrev pub line_room : ℕ
line_room = 61

abbrev pub row_room : ℕ
row_room = 23

-- the line of a host, from the words of its report
abbrev pub row : (delay bits : ℕ) → List ℕ
row delay bits = row_line (record { delay = delay; offset = signed16 bits })

-- the first line's front
abbrev pub times_text : Numbers → List ℕ
times_text s = hello ++ space ∷ numeral s.date ++ space ∷ numeral s.time ++ space ∷ numeral s.tsp
