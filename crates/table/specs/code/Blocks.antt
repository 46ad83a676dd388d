-- A self-report four entries at a time. There is no rule here.
use Rattle.std.specs.Prelude.{Bool, false, not, ◌||◌, List, [], ◌∷◌, ℕ, ◌+◌, ◌-◌, ◌*◌, ◌/◌, ◌≤◌, eqb, length}
use Rattle.lists.specs.Lists.{part}
use Rattle.table.specs.declared.Entry.{Entry}
use Rattle.table.specs.declared.entries.Changes.{Changes}

-- has one of some entries a mark?
abbrev pub any_mark : List Entry → Bool
any_mark [] = false
any_mark (e ∷ es) = not (eqb e.here 0) || any_mark es

-- has an entry of four k a mark?
abbrev pub some_here : (k : ℕ) → Changes → List Entry → Bool
some_here k w entries = any_mark (part (w.first + 4 * k) 4 entries)

-- the same change of other places
abbrev pub between : (first end : ℕ) → Changes → Changes
between first end w = record { first = first; end = end; change = w.change; marks = w.marks }

-- four k; all full fours; the entries after them
abbrev pub block_of : (k : ℕ) → Changes → Changes
block_of k w = between (w.first + 4 * k) (w.first + 4 * k + 4) w

abbrev pub blocks_of : Changes → Changes
blocks_of w = between w.first (w.first + 4 * ((w.end - w.first) / 4)) w

abbrev pub last_of : Changes → Changes
last_of w = between (w.first + 4 * ((w.end - w.first) / 4)) w.end w

-- four k lies in the host table
pub record BlockFits (k : ℕ) (w : Changes) (entries : List Entry) : Type 0 where
  pub fits : w.first + 4 * k + 4 ≤ w.end
  pub inside : w.end ≤ length entries
