-- Ids and places: a change to some ids of a host, made at their places in the run, is the same change made to the host's entries.
use mathlib.Core.Path.{◌≡◌, refl, sym, ap, ◌∙◌}
use mathlib.Core.List.{List, []}
use Prim.Native.Nat.{ℕ, ◌+◌, ◌-◌, ◌≤◌, ◌<◌}
use native.Mathlib.Omega.{arith}
use lib.ListN.{length, get_or, take, drop}
use lib.Seq.{take-add, take-take, drop_at, drop-drop, get_or-take, get_or-drop}
use Rattle.lists.specs.Lists.{part, over}
use Rattle.lists.proofs.Parts.{part_length, over_nothing, over_part}
use Rattle.table.specs.declared.Entry.{Entry}
use Rattle.table.specs.declared.entries.Changes.{Changes}
use Rattle.table.specs.Forms.{map_from}
use Rattle.table.specs.Entry.{fresh_entry}
use Rattle.table.specs.Runs.{changed, changes}
use Rattle.table.specs.code.Loops.{InEntries}
use Rattle.table.proofs.Loops.{map_length}
use Rattle.host.specs.declared.Settings.{Settings}
use Rattle.host.specs.State.{first_place, host_count, own_entries, with_entries}
use Rattle.host.proofs.Places.{Holds}
use Rattle.host.specs.Effect.{nothing}
use Rattle.calls.specs.code.Places.{placed}

-- some ids of a host
pub record Ids (s : Settings) (w : Changes) : Type 0 where
  pub rising : w.first ≤ w.end
  pub below : w.end ≤ host_count s

module _ {A : Type 0} (F H i n : ℕ) (entries : List A) (inside : i + n ≤ H) (there : F + H ≤ length entries) where
  pub part_part : part i n (part F H entries) ≡ part (F + i) n entries
  part_part =
      let d = drop F entries in
      let m = H - i in
      let h : H ≡ i + (H - i) = omega arith in
      let long : length (take H d) ≡ H = part_length F H entries there in
      ap (λ (x : ℕ). take n (drop i (take x d))) h
      ∙ ap (λ (x : List A). take n (drop i x)) (take-add i m d)
      ∙ ap (take n) (drop_at (take i d) (take m (drop i d)) i (part_length F i entries (omega arith)))
      ∙ take-take n m (drop i d) (omega arith)
      ∙ ap (take n) (drop-drop i F entries)

pub nothing_placed : (k : ℕ) (entries : List Entry) → changes (placed k nothing) entries ≡ entries
unfolding changes
nothing_placed k entries =
    let m : first_place k + 0 - (first_place k + 0) ≡ 0 = omega arith in
    rw m (over_nothing (first_place k + 0) entries)

module _ (s : Settings) (k : ℕ) (entries : List Entry) (h : Holds k entries) (w : Changes) (ids : Ids s w) where
  pub placed_in : InEntries (placed k w).first (placed k w).end entries
  placed_in = let r = ids.rising in let e = ids.below in record { rising = omega arith; inside = omega arith }

  abbrev F : ℕ
  F = first_place k

  abbrev n : ℕ
  n = w.end - w.first

  abbrev xs : ℕ → List Entry
  xs m = map_from 0 (changed w.marks w.change) (part (F + w.first) m entries)

  on_entries : with_entries k (changes w (own_entries s k entries)) entries ≡ over entries (F + w.first) (xs n)
  unfolding changes own_entries with_entries
  on_entries =
      let r = ids.rising in
      let e = ids.below in
      let inner : part w.first n (part F (host_count s) entries) ≡ part (F + w.first) n entries = part_part F (host_count s) w.first n entries (omega arith) (omega arith) in
      let long : length (xs n) ≡ n = map_length 0 (changed w.marks w.change) (part (F + w.first) n entries) ∙ part_length (F + w.first) n entries (omega arith) in
      rw inner (over_part entries F (host_count s) w.first (xs n) (omega arith) (omega arith))

  at_places : changes (placed k w) entries ≡ over entries (F + w.first) (xs n)
  unfolding changes
  at_places =
      let m : first_place k + w.end - (first_place k + w.first) ≡ w.end - w.first = omega arith in
      rw m refl

  pub carried : changes (placed k w) entries ≡ with_entries k (changes w (own_entries s k entries)) entries
  carried = at_places ∙ sym on_entries

-- a host's own entries put back
pub entries_put : (s : Settings) (k : ℕ) (entries : List Entry) → Holds k entries → with_entries k (own_entries s k entries) entries ≡ entries
unfolding own_entries with_entries
entries_put s k entries h =
    ap (over entries (first_place k)) (sym (over_nothing 0 (part (first_place k) (host_count s) entries)))
    ∙ over_part entries (first_place k) (host_count s) 0 [] (omega arith) (omega arith)
    ∙ over_nothing (first_place k + 0) entries

-- the entry of one id
pub entry_of_id : (s : Settings) (k : ℕ) (entries : List Entry) (id : ℕ) → id < host_count s
    → get_or entries (first_place k + id) fresh_entry ≡ get_or (own_entries s k entries) id fresh_entry
unfolding own_entries
entry_of_id s k entries id h =
    sym (get_or-take (host_count s) (drop (first_place k) entries) id fresh_entry h ∙ get_or-drop (first_place k) entries id fresh_entry)
