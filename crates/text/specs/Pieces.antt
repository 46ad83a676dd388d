-- TEXT-6: the answer to a text that is read in pieces and is longer than any that is accepted.
use Rattle.std.specs.Prelude.{◌≡◌, List, ◌++◌, ℕ, ◌+◌, ◌^◌, ◌≤◌, ◌<◌, length}
use Rattle.text.specs.declared.Refusal.{Refusal}
use Rattle.text.specs.declared.pieces.Progress.{Progress}
use Rattle.text.specs.Text.{form}
use Rattle.text.specs.Answers.{refused, from_text}
use Rattle.text.specs.code.Pieces.{form_from}

-- TEXT-6: a text has fewer octets than this
abbrev pub length_limit : ℕ
length_limit = 2 ^ 63

-- TEXT-6: no text of this length or more is accepted
abbrev pub long_length : ℕ
long_length = 65536

-- TEXT-6: what is known after a part of a text decides the form of every text that begins with it
unfoldable pub After : (part : List ℕ) → Progress → Type 0
After part known = (rest : List ℕ) → length part + length rest < length_limit → form (part ++ rest) ≡ form_from known rest

-- TEXT-6: after one more piece it is known of the text so far with that piece
abbrev pub Proceeds : Progress → (piece : List ℕ) → Progress → Type 0
Proceeds before piece known = (part : List ℕ) → After part before → After (part ++ piece) known

-- TEXT-6: the answer is the reader's to the complete text, whatever the buffer
abbrev pub LongAnswer : Progress → Refusal → Type 0
LongAnswer known refusal =
    (text : List ℕ) (room : ℕ) → After text known → long_length ≤ length text → length text < length_limit → from_text text room ≡ refused refusal
