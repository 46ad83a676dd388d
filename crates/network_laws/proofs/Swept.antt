-- What a call makes of the host's entries: as many as there were, each kept as it was or changed by its rule; so it keeps what each rule keeps.
use mathlib.Core.Path.{◌≡◌, ap, ◌∙◌}
use mathlib.Core.List.{List, [], ◌∷◌, ◌++◌, append-nil}
use Prim.Native.Nat.{ℕ, suc, ◌+◌, ◌-◌, ◌≤◌, ◌<◌, min}
use native.Mathlib.Omega.{arith}
use lib.ListN.{length, get_or, take, drop, length-take, length-drop, drop_of_length-le}
use lib.Seq.{take_all}
use Rattle.lists.specs.Lists.{part}
use Rattle.clock.specs.declared.Clock.{Clock}
use Rattle.table.specs.declared.Entry.{Entry}
use Rattle.table.specs.declared.Updated.{Updated}
use Rattle.table.specs.declared.marks.Marks.{Marks}
use Rattle.table.specs.declared.entries.Change.{Change}
use Rattle.table.specs.declared.entries.Changes.{Changes}
use Rattle.table.specs.declared.entries.Updates.{Updates}
use Rattle.table.specs.Forms.{map_from}
use Rattle.table.specs.Entry.{fresh_entry}
use Rattle.table.specs.Sweep.{sweep}
use Rattle.table.specs.Runs.{changed, changes, updated_at, updates}
use Rattle.table.proofs.Sweeps.{sweep_length, sweep_clock}
use Rattle.table.proofs.Loops.{map_length}
use Rattle.network_laws.proofs.Lists.{All, all_both, all_counted, all_get_d, all_part, over_size, all_over}

-- a sweep, over any predicate of good entries
sweep_keeps : (P : ℕ → Entry → Type 0) (n : ℕ) (f : ℕ → Clock → Entry → Updated) (c : Clock) (es : List Entry)
    → ((i : ℕ) (d : Clock) (e : Entry) → i < length es → P i e → P i (f (i + n) d e).entry)
    → All P es → All P (sweep n f c es).own_entries
unfolding sweep
sweep_keeps P n f c [] h t = tt
sweep_keeps P n f c (e ∷ es) h t =
    let first : 0 + n ≡ n = omega arith in (
      rw first at (h 0 c e (omega arith) t.0),
      sweep_keeps (λ (i : ℕ). P (suc i)) (suc n) f (f n c e).clock es
          (λ i d x l p. let next : suc i + n ≡ i + suc n = omega arith in rw next at (h (suc i) d x (omega arith) p)) t.1,
    )

part_short : (k n : ℕ) (es : List Entry) → length (part k n es) ≤ n
part_short k n es = omega (arith, length-take n (drop k es))

module _ (w : Changes) (es : List Entry) where
  abbrev touched : List Entry
  touched = part w.first (w.end - w.first) es

  pub changes_length : length (changes w es) ≡ length es
  unfolding changes
  changes_length = over_size w.first (w.end - w.first) es _ (map_length 0 (changed w.marks w.change) touched)

  pub changes_keep : (P : ℕ → Entry → Type 0)
      → ((id : ℕ) (e : Entry) → w.first ≤ id → id < w.end → e ≡ get_or es id fresh_entry → P id e → P id (changed w.marks w.change (id - w.first) e))
      → All P es → All P (changes w es)
  unfolding changes
  changes_keep P h t =
      all_over w.first (w.end - w.first) es _ (map_length 0 (changed w.marks w.change) touched) P fresh_entry t
      (all_counted (λ i. Now (i + w.first)) (λ i. P (i + w.first)) 0 (changed w.marks w.change) touched
      (λ i e g p.
      let n : i + w.first - w.first ≡ 0 + i = omega arith in
      rw n at (h (i + w.first) e (omega arith) (omega (arith, part_short w.first (w.end - w.first) es)) p.0 p.1))
      (all_part Now fresh_entry w.first (w.end - w.first) es (all_both (λ id e. e ≡ get_or es id fresh_entry) P es (all_get_d fresh_entry es) t)))
    where
      Now : ℕ → Entry → Type 0
      Now id e = (e ≡ get_or es id fresh_entry) × P id e

-- a change of every entry
pub changes_each : (n : ℕ) (change : Change) (m : Marks) (es : List Entry) → length es ≤ n
    → changes record { first = 0; end = n; change = change; marks = m } es ≡ map_from 0 (changed m change) es
unfolding changes
changes_each n change m es h =
    let all : take (n - 0) es ≡ es = take_all (n - 0) es (omega arith) in
    let past : length es ≤ 0 + length (map_from 0 (changed m change) es) = omega (arith, map_length 0 (changed m change) es) in
    ap (λ l. map_from 0 (changed m change) l ++ drop (0 + length (map_from 0 (changed m change) l)) es) all
    ∙ ap (λ l. map_from 0 (changed m change) es ++ l) (drop_of_length-le es past)
    ∙ append-nil (map_from 0 (changed m change) es)

module _ (w : Updates) (packet : List ℕ) (es : List Entry) where
  abbrev updated : List Entry
  updated = part w.first (w.end - w.first) es

  pub updates_length : length (updates w packet es).own_entries ≡ length es
  unfolding updates
  updates_length = over_size w.first (w.end - w.first) es _ (sweep_length w.first (updated_at w packet) w.clock updated)

  pub updates_keep : (P : ℕ → Entry → Type 0)
      → ((id : ℕ) (c : Clock) (e : Entry) → w.first ≤ id → id < w.end → id < length es → P id e → P id (updated_at w packet id c e).entry)
      → All P es → All P (updates w packet es).own_entries
  unfolding updates
  updates_keep P h t =
      all_over w.first (w.end - w.first) es _ (sweep_length w.first (updated_at w packet) w.clock updated) P fresh_entry t
      (sweep_keeps (λ i. P (i + w.first)) w.first (updated_at w packet) w.clock updated
      (λ i d e g p.
      let size : length updated ≡ min (w.end - w.first) (length es - w.first) =
      length-take (w.end - w.first) (drop w.first es) ∙ ap (min (w.end - w.first)) (length-drop w.first es) in
      h (i + w.first) d e (omega arith) (omega arith) (omega arith) p)
      (all_part P fresh_entry w.first (w.end - w.first) es t))

  pub updates_clock : (P : Clock → Type 0) → ((id : ℕ) (c : Clock) (e : Entry) → P c → P (updated_at w packet id c e).clock)
      → P w.clock → P (updates w packet es).clock
  unfolding updates
  updates_clock P h p = sweep_clock P (updated_at w packet) h w.first w.clock updated p
