-- TEXT-1, TEXT-6: writer and reader: from their input to the answer and the octets at the buffer's start.
use Rattle.std.specs.Prelude.{◌≡◌, cond, not, List, [], ℕ, ltb, length, Result, Ok, Err}
use Rattle.lists.specs.Lists.{over}
use Rattle.wire.specs.Hello.{hello_form}
use Rattle.text.specs.declared.Refusal.{Refusal}
use Rattle.text.specs.declared.Refusal.TheVariants.{ShortBuffer, HelloForm, TextForm, FieldRange}
use Rattle.text.specs.Numbers.{numbers_of, message_of, numbers_fit}
use Rattle.text.specs.Text.{text_of, form, numbers_in}

-- ANSWER-14, ANSWER-15, REPLY-5: the number of each refusal
abbrev pub number : Refusal → ℕ
number ShortBuffer = 2  -- a short buffer
number HelloForm = 6  -- HELLO form: a message of wrong length
number TextForm = 14  -- text of another form, line count included
number FieldRange = 15  -- a number that does not fit its field

-- TEXT-6: what is written, or why nothing is
abbrev pub Made : Type 0
Made = Result (List ℕ) Refusal

-- TEXT-6: a refusal writes nothing
abbrev pub refused : Refusal → Made
refused refusal = Err refusal

-- TEXT-1: a result that is written
abbrev pub made : List ℕ → Made
made octets = Ok octets

-- REPLY-5: the number of the answer, 0 if it is done
abbrev pub answer : {A : Type 0} → Result A Refusal → ℕ
answer (Ok x) = 0
answer (Err refusal) = number refusal

-- TEXT-6: what is written: nothing at a refusal
abbrev pub octets : Made → List ℕ
octets (Ok xs) = xs
octets (Err refusal) = []

-- TEXT-6, ANSWER-2: 2, tested last, if the buffer is too short
abbrev pub into : (room : ℕ) → List ℕ → Made
into room octets = cond (ltb room (length octets)) (refused ShortBuffer) (made octets)

-- TEXT-1, TEXT-6: the writer: 6, then 2
unfoldable pub to_text : (message : List ℕ) (room : ℕ) → Made
to_text message room =
    cond (not (hello_form message)) (refused HelloForm)
    (into room (text_of (numbers_of message)))

-- TEXT-1, TEXT-6: the reader: 14, then 15, then 2
unfoldable pub from_text : (text : List ℕ) (room : ℕ) → Made
from_text text room =
    cond (not (form text)) (refused TextForm)
    (cond (not (numbers_fit (numbers_in text))) (refused FieldRange)
    (into room (message_of (numbers_in text))))

-- TEXT-6: the length of what is written, or the refusal
abbrev pub returned : Made → Result ℕ Refusal
returned (Ok xs) = Ok (length xs)
returned (Err refusal) = Err refusal

-- TEXT-6: what a call returns, and the buffer after it; the octets after the result stay
pub record Leaves (m : Made) (result : Result ℕ Refusal) (before after : List ℕ) : Type 0 where
  pub outcome : result ≡ returned m
  pub buffer : after ≡ over before 0 (octets m)
