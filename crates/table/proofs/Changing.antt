-- A loop that changes its entry at each turn makes the change that `Changes` names: after n turns the first n entries are changed, and no other.
use mathlib.Core.Path.{◌≡◌, sym, ap, ◌∙◌}
use mathlib.Core.List.{List}
use Prim.Native.Nat.{ℕ, zero, suc, ◌+◌, ◌-◌, ◌≤◌}
use native.Mathlib.Omega.{arith}
use lib.ListN.{get_or, set}
use Rattle.lists.specs.Lists.{part, over}
use Rattle.lists.proofs.Parts.{over_nothing}
use Rattle.table.specs.declared.Entry.{Entry}
use Rattle.table.specs.declared.entries.Changes.{Changes}
use Rattle.table.specs.Forms.{map_from}
use Rattle.table.specs.Entry.{fresh_entry}
use Rattle.table.specs.Runs.{changed, changes}
use Rattle.table.specs.code.Loops.{InEntries}
use Rattle.table.proofs.Loops.{map_turn}
use Rattle.table.proofs.Turns.{maps}

abbrev pub turn : Changes → Entry → ℕ → Entry
turn w e i = changed w.marks w.change (i - w.first) e

-- the entries after n turns
abbrev pub made : Changes → List Entry → ℕ → List Entry
made w entries n = maps (turn w) fresh_entry w.first entries n

after : (entries : List Entry) (w : Changes) → InEntries w.first w.end entries → (n : ℕ) → w.first + n ≤ w.end
    → made w entries n ≡ over entries w.first (map_from 0 (changed w.marks w.change) (part w.first n entries))
after entries w h zero l = sym (over_nothing w.first entries)
after entries w h (suc n) l =
    ap (λ (r : List Entry). set r (w.first + n) (turn w (get_or r (w.first + n) fresh_entry) (w.first + n))) (after entries w h n (omega arith))
    ∙ map_turn entries w.first n fresh_entry (omega (arith, l, h.inside)) (changed w.marks w.change)

pub all_turns : (entries : List Entry) (w : Changes) → InEntries w.first w.end entries → made w entries (w.end - w.first) ≡ changes w entries
unfolding changes
all_turns entries w h = after entries w h (w.end - w.first) (omega (arith, h.rising))
