-- MARK-1: the marks of the ids 0 to 255, one bit each, 64 to a word.
use Rattle.std.specs.Prelude.{Bool, not, List, ℕ, ◌-◌, ◌/◌, ◌%◌, ◌^◌, eqb, get_or, set, replicate}
use Rattle.table.specs.declared.marks.Marks.{Marks}
use Rattle.table.specs.Forms.{every, up_from}

-- MARK-1: no id is marked
abbrev pub no_marks : Marks
no_marks = record { words = replicate 4 0 }

-- MARK-6: only one id is marked
abbrev pub only_mark : (id : ℕ) → Marks
only_mark id = record { words = set (replicate 4 0) (id / 64) (2 ^ (id % 64)) }

-- MARK-1: a bit of a word, counted from the lowest
abbrev pub bit : (word place : ℕ) → ℕ
bit word place = word / 2 ^ place % 2

-- MARK-1: the mark of an id, 1 or 0
unfoldable pub mark : Marks → (id : ℕ) → ℕ
mark m id = bit (get_or m.words (id / 64) 0) (id % 64)

-- MARK-1: is an id marked?
abbrev pub marked : Marks → (id : ℕ) → Bool
marked m id = eqb (mark m id) 1

-- MARK-2: the ids from n to 255
abbrev pub ids_from : ℕ → List ℕ
ids_from n = up_from n (256 - n)

-- MARK-2: is no id from n on marked?
unfoldable pub none_from : Marks → ℕ → Bool
none_from m n = every (λ (id : ℕ). not (marked m id)) (ids_from n)
