-- A host's places in the run: what is written there is read there and no other place is changed, since both cut the run at the same two points.
use Rattle.std.specs.Prelude.{Option, Some}
use mathlib.Core.Path.{◌≡◌, ap, ◌∙◌}
use mathlib.Core.Bool.{true}
use mathlib.Core.List.{List, ◌++◌, append_assoc}
use Prim.Native.Nat.{ℕ, ◌+◌, ◌-◌, ◌≤◌, ◌<◌}
use native.Mathlib.Omega.{arith}
use borrow.Author.Tests.{ltb-true}
use lib.ListN.{length, get_or, take, drop, length-append, length-take, length-drop, get_or-append}
use lib.Seq.{length-take-le, take_at, drop_at, get_or-take, get_or-drop, get_or-append-add}
use Rattle.table.specs.declared.Entry.{Entry}
use Rattle.host.specs.declared.Settings.{Settings}
use Rattle.host.specs.State.{places_per_host, first_place, host_count, has_place, own_entries, with_entries}

-- all places of a number stand in the run
abbrev pub Holds : (number : ℕ) → List Entry → Type 0
Holds k entries = first_place k + places_per_host ≤ length entries

pub entries_length : (s : Settings) (k : ℕ) (entries : List Entry) → Holds k entries → length (own_entries s k entries) ≡ host_count s
unfolding own_entries
entries_length s k entries h = simp (length-take, length-drop) (omega arith)

module _ (k : ℕ) (es entries : List Entry) (fits : first_place k + length es ≤ length entries) where
  front_length : length (take (first_place k) entries) ≡ first_place k
  front_length = length-take-le (first_place k) entries (omega arith)

  written_length : length (take (first_place k) entries ++ es) ≡ first_place k + length es
  written_length = length-append (take (first_place k) entries) es ∙ ap (λ n. n + length es) front_length

  pub with_entries_length : length (with_entries k es entries) ≡ length entries
  unfolding with_entries
  with_entries_length = simp (length-append, front_length, length-drop) (omega arith)

  pub with_entries_front : (i : ℕ) (d : Entry) → i < first_place k → get_or (with_entries k es entries) i d ≡ get_or entries i d
  unfolding with_entries
  with_entries_front i d h =
      get_or-append (take (first_place k) entries ++ es) (drop (first_place k + length es) entries) d i (omega (arith, written_length))
      ∙ get_or-append (take (first_place k) entries) es d i (omega (arith, front_length))
      ∙ get_or-take (first_place k) entries i d h

  pub with_entries_after : (i : ℕ) (d : Entry) → first_place k + length es ≤ i → get_or (with_entries k es entries) i d ≡ get_or entries i d
  unfolding with_entries
  with_entries_after i d h =
      ap (λ j. get_or (with_entries k es entries) j d) at_rest
      ∙ get_or-append-add (take (first_place k) entries ++ es) (drop (first_place k + length es) entries) rest d
      ∙ get_or-drop (first_place k + length es) entries rest d
      ∙ ap (λ j. get_or entries j d) (omega arith)
    where
      rest : ℕ
      rest = i - (first_place k + length es)

      at_rest : i ≡ length (take (first_place k) entries ++ es) + rest
      at_rest = omega (arith, written_length)

  pub entries_with_entries : (s : Settings) → length es ≡ host_count s → own_entries s k (with_entries k es entries) ≡ es
  unfolding own_entries with_entries
  entries_with_entries s e =
      ap (λ r. take (host_count s) (drop (first_place k) r)) (append_assoc (take (first_place k) entries) es (drop (first_place k + length es) entries))
      ∙ ap (take (host_count s)) (drop_at (take (first_place k) entries) (es ++ drop (first_place k + length es) entries) (first_place k) front_length)
      ∙ take_at es (drop (first_place k + length es) entries) (host_count s) e

-- an id that was found to have a place
pub placed : (f : Option ℕ) (id : ℕ) → f ≡ Some id → has_place f ≡ true → id < places_per_host
placed f id e h = ltb-true id places_per_host (rw e at h)
