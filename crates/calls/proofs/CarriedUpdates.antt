-- Updates of some ids of a host, made at their places in the run, are the same updates made to the host's entries.
use mathlib.Core.Path.{◌≡◌, refl, ◌∙◌}
use mathlib.Core.List.{List}
use Prim.Native.Nat.{ℕ, ◌+◌, ◌-◌, ◌≤◌}
use native.Mathlib.Omega.{arith}
use lib.ListN.{length}
use Rattle.lists.specs.Lists.{part, over}
use Rattle.lists.proofs.Parts.{part_length, over_part}
use Rattle.clock.specs.declared.Clock.{Clock}
use Rattle.table.specs.declared.Entry.{Entry}
use Rattle.table.specs.declared.entries.Updates.{Updates}
use Rattle.table.specs.Sweep.{Swept, sweep}
use Rattle.table.specs.Runs.{updated_at, updates}
use Rattle.table.proofs.Sweeps.{sweep_from, sweep_length}
use Rattle.host.specs.declared.Settings.{Settings}
use Rattle.host.specs.State.{first_place, host_count, own_entries, with_entries}
use Rattle.host.proofs.Places.{Holds}
use Rattle.calls.specs.code.Places.{updates_at}
use Rattle.calls.proofs.Carried.{part_part}

module _ (s : Settings) (k : ℕ) (entries : List Entry) (h : Holds k entries) (w : Updates) (rising : w.first ≤ w.end) (below : w.end ≤ host_count s) (octets : List ℕ) where
  abbrev F : ℕ
  F = first_place k

  abbrev n : ℕ
  n = w.end - w.first

  abbrev swept : Swept
  swept = sweep w.first (updated_at w octets) w.clock (part (F + w.first) n entries)

  abbrev put : Swept
  put = record { clock = swept.clock; own_entries = over entries (F + w.first) swept.own_entries }

  at_places : updates (updates_at k w) octets entries ≡ put
  unfolding updates
  at_places =
      let m : F + w.end - (F + w.first) ≡ n = omega arith in
      let same : (i : ℕ) (c : Clock) (e : Entry) → updated_at (updates_at k w) octets (F + i) c e ≡ updated_at w octets i c e =
      λ i c e. (let back : F + i - (F + w.base) ≡ i - w.base = omega arith in rw back refl) in
      rw (m, sweep_from F (updated_at (updates_at k w) octets) (updated_at w octets) same w.first w.clock (part (F + w.first) n entries)) refl

  on_entries : put
      ≡ record { clock = (updates w octets (own_entries s k entries)).clock; own_entries = with_entries k (updates w octets (own_entries s k entries)).own_entries entries }
  unfolding updates own_entries with_entries
  on_entries =
      let inner : part w.first n (part F (host_count s) entries) ≡ part (F + w.first) n entries = part_part F (host_count s) w.first n entries (omega arith) (omega arith) in
      let long : length swept.own_entries ≡ n = sweep_length w.first (updated_at w octets) w.clock (part (F + w.first) n entries) ∙ part_length (F + w.first) n entries (omega arith) in
      rw (inner, over_part entries F (host_count s) w.first swept.own_entries (omega arith) (omega arith)) refl

  pub carried : updates (updates_at k w) octets entries
      ≡ record { clock = (updates w octets (own_entries s k entries)).clock; own_entries = with_entries k (updates w octets (own_entries s k entries)).own_entries entries }
  carried = at_places ∙ on_entries
