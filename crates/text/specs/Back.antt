-- TEXT-5: writer and reader undo each other.
use Rattle.std.specs.Prelude.{◌≡◌, true, List, [], ◌∷◌, ℕ, ◌≤◌, ◌<◌, length, take, drop, IsOk}
use Rattle.checksum.specs.Checksum.{checksum_of}
use Rattle.wire.specs.Octets.{two}
use Rattle.wire.specs.Hello.{hello_form}
use Rattle.text.specs.declared.Refusal.TheVariants.{TextForm, FieldRange}
use Rattle.text.specs.Numbers.{numbers_of}
use Rattle.text.specs.Text.{text_of}
use Rattle.text.specs.Answers.{made, refused, octets, to_text, from_text}

-- TEXT-5: each number is an octet
abbrev pub Octets : List ℕ → Type 0
Octets [] = Unit {0}
Octets (x ∷ xs) = (x < 256) × Octets xs

-- TEXT-5: the checksum is the one that a sender computes
abbrev pub SendersChecksum : List ℕ → Type 0
SendersChecksum message = take 2 message ≡ two (checksum_of (drop 2 message))

-- TEXT-5: for every message with the sender's checksum: written and read again, it is the same
unfoldable pub MessageBack : Type 0
MessageBack =
    (message : List ℕ) (room room₂ : ℕ) → Octets message → hello_form message ≡ true → SendersChecksum message
    → length (text_of (numbers_of message)) ≤ room
    → length message ≤ room₂
    → from_text (octets (to_text message room)) room₂ ≡ made message

-- TEXT-5: for every text that the reader accepts: read and written again, it is the same
unfoldable pub TextBack : Type 0
TextBack =
    (text : List ℕ) (room room₂ : ℕ) → IsOk (from_text text room) → length text ≤ room₂
    → to_text (octets (from_text text room)) room₂ ≡ made text

-- TEXT-5: the reader never refuses a text of the writer with 14 or 15
unfoldable pub NeverRefused : Type 0
NeverRefused =
    (message : List ℕ) (room room₂ : ℕ) → Octets message → IsOk (to_text message room)
    → (from_text (octets (to_text message room)) room₂ ≡ refused TextForm → ⊥)
    × (from_text (octets (to_text message room)) room₂ ≡ refused FieldRange → ⊥)
