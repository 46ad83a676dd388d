-- The marks of one word, and the entries of its ids.
use Rattle.std.specs.Prelude.{Bool, ◌&&◌, List, ℕ, ◌+◌, ◌-◌, ◌*◌, ◌/◌, ◌%◌, ◌≤◌, eqb, get_or, min}
use Rattle.lists.specs.Lists.{part}
use Rattle.table.specs.declared.Entry.{Entry}
use Rattle.table.specs.declared.marks.Marks.{Marks}
use Rattle.table.specs.declared.entries.Scan.{Scan}
use Rattle.table.specs.declared.entries.Stretch.{Stretch}
use Rattle.table.specs.Forms.{every, every_from, up_from}
use Rattle.table.specs.Marks.{bit}
use Rattle.table.specs.Entry.{entry_in_range}
use Rattle.table.specs.code.Loops.{InEntries}

-- the word with an id's mark
abbrev pub word_of : Marks → (id : ℕ) → ℕ
word_of m id = get_or m.words (id / 64) 0

-- the bits from a place on are zero
abbrev pub zero_from : (word place : ℕ) → Bool
zero_from word place = every (λ (i : ℕ). eqb (bit word i) 0) (up_from place (64 - place))

-- word k is one of those that hold the marks of the entries; the last may have no id
pub record InWord (k : ℕ) (w : Scan) : Type 0 where
  pub rising : w.first ≤ w.end
  pub before : 64 * k ≤ w.end - w.first

-- its ids: 64, or the remaining ones
abbrev pub stretch_of : (k : ℕ) → Scan → Stretch
stretch_of k w =
    let first = w.first + 64 * k in
    record { first = first; end = first + min (w.end - first) 64; word = word_of w.marks (64 * k) }

-- word k lies in the host table; and a stretch does
pub record WordFits (k : ℕ) (w : Scan) (entries : List Entry) : Type 0 where
  pub places : InEntries w.first w.end entries
  pub word : InWord k w

pub record StretchFits (w : Stretch) (entries : List Entry) : Type 0 where
  pub places : InEntries w.first w.end entries
  pub few : w.end - w.first ≤ 64

-- the entry of an id has its mark in the word, and is in range
abbrev pub as_in_word : (word id : ℕ) → Entry → Bool
as_in_word word id e = eqb e.here (bit word (id % 64)) && entry_in_range e

abbrev pub all_as_in_word : Stretch → List Entry → Bool
all_as_in_word w entries = every_from 0 (as_in_word w.word) (part w.first (w.end - w.first) entries)
