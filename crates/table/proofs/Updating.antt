-- The updates of an arrival, place by place: the entries and the clock after one more update.
use mathlib.Core.Path.{◌≡◌, sym, ap, ◌∙◌}
use mathlib.Core.List.{List}
use Prim.Native.Nat.{ℕ, suc, ◌+◌, ◌-◌, ◌≤◌, ◌<◌}
use native.Mathlib.Omega.{arith}
use lib.ListN.{length, get_or, set}
use Rattle.lists.specs.Lists.{part, over}
use Rattle.table.specs.declared.Entry.{Entry}
use Rattle.table.specs.declared.Updated.{Updated}
use Rattle.table.specs.declared.entries.Updates.{Updates}
use Rattle.table.specs.Sweep.{Swept, sweep}
use Rattle.table.specs.Runs.{updated_at}
use Rattle.table.proofs.Loops.{sweep_entries, sweep_clock}

-- the updates of the first n places
abbrev pub swept : Updates → (packet : List ℕ) → List Entry → (n : ℕ) → Swept
swept w packet entries n = sweep w.first (updated_at w packet) w.clock (part w.first n entries)

module _ (w : Updates) (packet : List ℕ) (entries : List Entry) (none : Entry) (i : ℕ) (low : w.first ≤ i) (inside : i < length entries) where
  abbrev n : ℕ
  n = i - w.first

  abbrev s : Swept
  s = swept w packet entries n

  abbrev at : (j : ℕ) → Updated
  at j = updated_at w packet j s.clock (get_or (over entries w.first s.own_entries) j none)

  place : w.first + n ≡ i
  place = omega (arith, low)

  next : i + 1 - w.first ≡ suc n
  next = omega (arith, low)

  there : w.first + n < length entries
  there = omega (arith, low, inside)

  pub entries_turn : set (over entries w.first s.own_entries) i (at i).entry ≡ over entries w.first (swept w packet entries (i + 1 - w.first)).own_entries
  entries_turn =
      ap (λ (j : ℕ). set (over entries w.first s.own_entries) j (at j).entry) (sym place)
      ∙ sweep_entries entries w.first n none there (updated_at w packet) w.clock
      ∙ ap (λ (m : ℕ). over entries w.first (swept w packet entries m).own_entries) (sym next)

  pub clock_turn : (at i).clock ≡ (swept w packet entries (i + 1 - w.first)).clock
  clock_turn =
      ap (λ (j : ℕ). (at j).clock) (sym place)
      ∙ sweep_clock entries w.first n none there (updated_at w packet) w.clock
      ∙ ap (λ (m : ℕ). (swept w packet entries m).clock) (sym next)
