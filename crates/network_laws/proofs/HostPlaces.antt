-- What a call makes of a host's 255 places: of its own, the same where they and the lengths are the same; of another's, nothing.
use mathlib.Core.Path.{◌≡◌, refl, sym, ap, ◌∙◌}
use mathlib.Core.Bool.{Bool, true, false}
use mathlib.Core.List.{List}
use Prim.Native.Nat.{ℕ, ◌+◌, ◌<◌}
use native.Mathlib.Omega.{arith}
use borrow.Author.Tests.{ltb-true, ltb-false}
use lib.Dec.{ltb}
use lib.ListN.{length, get_or, take, drop, length-take, length-drop}
use lib.Seq.{take-take, ext_get_or, get_or-take, get_or-drop}
use Rattle.table.specs.declared.Entry.{Entry}
use Rattle.table.specs.Entry.{fresh_entry}
use Rattle.host.specs.declared.Settings.{Settings}
use Rattle.host.specs.State.{places_per_host, first_place, host_count, own_entries}
use Rattle.host.specs.CallState.{CallState}
use Rattle.calls.specs.Perform.{Call, perform}
use Rattle.network_laws.specs.Frame.{Kept}
use Rattle.network_laws.specs.Locality.{SameInput, Alike, Locality}
use Rattle.network_laws.specs.History.{places}
use Rattle.network_laws.proofs.Demand1.Frame.{kept_places}
use Rattle.network_laws.proofs.Demand1.Locality.{locality_holds}

-- the entries are the first of the places
pub entries_first : (s : Settings) (k : ℕ) (entries : List Entry) → own_entries s k entries ≡ take (host_count s) (places k entries)
unfolding own_entries
entries_first s k entries = sym (take-take (host_count s) places_per_host (drop (first_place k) entries) (omega arith))

places_length : (k : ℕ) (entries r : List Entry) → length entries ≡ length r → length (places k entries) ≡ length (places k r)
places_length k entries r n = simp (length-take, length-drop) (omega arith)

place_at : (k i : ℕ) (entries : List Entry) (d : Entry) → i < places_per_host → get_or (places k entries) i d ≡ get_or entries (first_place k + i) d
place_at k i entries d h = get_or-take places_per_host (drop (first_place k) entries) i d h ∙ get_or-drop (first_place k) entries i d

-- two runs of one length have the same places where they have them one by one
places_same : (k : ℕ) (entries r : List Entry) → length entries ≡ length r
    → ((i : ℕ) → i < places_per_host → get_or entries (first_place k + i) fresh_entry ≡ get_or r (first_place k + i) fresh_entry)
    → places k entries ≡ places k r
places_same k entries r n each =
    ext_get_or fresh_entry (places k entries) (places k r) (places_length k entries r n)
    (λ i h. place_at k i entries fresh_entry (within i h) ∙ each i (within i h) ∙ sym (place_at k i r fresh_entry (within i h)))
  where
    within : (i : ℕ) → i < length (places k entries) → i < places_per_host
    within i h = omega (arith, length-take places_per_host (drop (first_place k) entries))

-- a call at one number keeps the places of the others
pub elsewhere : (s : Settings) (j k : ℕ) → (j ≡ k → ⊥) → (before after : List Entry) → Kept s j before after
    → places k after ≡ places k before
elsewhere s j k apart before after f =
    places_same k after before f.same_length (λ i l. go i l (ltb (first_place k + i) (first_place j)) refl)
  where
    go : (i : ℕ) → i < places_per_host → (b : Bool) → ltb (first_place k + i) (first_place j) ≡ b
        → get_or after (first_place k + i) fresh_entry ≡ get_or before (first_place k + i) fresh_entry
    go i l true e = f.before_places (first_place k + i) fresh_entry (ltb-true _ _ e)
    go i l false e =
        let low = ltb-false (first_place k + i) (first_place j) e in
        f.behind (first_place k + i) fresh_entry (omega arith)

-- a call at a number makes the same of the same places
module _ (c d : Call) (x y : CallState) (inputs : SameInput c d) (alike : Alike x y) (same : places x.number x.entries ≡ places x.number y.entries) where
  abbrev s : Settings
  s = x.host.settings

  abbrev k : ℕ
  k = x.number

  abbrev now : List Entry
  now = (perform c x).entries

  abbrev now' : List Entry
  now' = (perform d y).entries

  kept : Kept x.host.settings x.number x.entries now
  kept = kept_places c x

  kept' : Kept x.host.settings x.number y.entries now'
  kept' =
      let f = kept_places d y in
      record {
        same_length = f.same_length;
        before_places = λ i e h. f.before_places i e (rw (← alike.number_same) h);
        behind = λ i e h. f.behind i e (rw (← alike.number_same, ← alike.settings_same) h);
      }

  entries_after : own_entries s k now ≡ own_entries s k now'
  unfolding Locality
  entries_after =
      (locality_holds c d x y inputs alike).after_alike.entries_same
      ∙ sym (λ j. own_entries (alike.settings_same j) (alike.number_same j) now')

  entry_at : (i : ℕ) (r : List Entry) → i < host_count s → get_or (own_entries s k r) i fresh_entry ≡ get_or r (first_place k + i) fresh_entry
  unfolding own_entries
  entry_at i r h = get_or-take (host_count s) (drop (first_place k) r) i fresh_entry h ∙ get_or-drop (first_place k) r i fresh_entry

  -- its first NHOSTS by locality, the others as they were
  each : (i : ℕ) → i < places_per_host → (b : Bool) → ltb i (host_count s) ≡ b
      → get_or now (first_place k + i) fresh_entry ≡ get_or now' (first_place k + i) fresh_entry
  each i h true e =
      sym (entry_at i now (ltb-true _ _ e)) ∙ ap (λ es. get_or es i fresh_entry) entries_after ∙ entry_at i now' (ltb-true _ _ e)
  each i h false e =
      let far = ltb-false i (host_count s) e in
      kept.behind (first_place k + i) fresh_entry (omega arith)
      ∙ sym (place_at k i x.entries fresh_entry h)
      ∙ ap (λ es. get_or es i fresh_entry) same
      ∙ place_at k i y.entries fresh_entry h
      ∙ sym (kept'.behind (first_place k + i) fresh_entry (omega arith))

  pub places_kept_same : places k now ≡ places k now'
  places_kept_same =
      places_same k now now' (kept.same_length ∙ alike.length_same ∙ sym kept'.same_length) (λ i h. each i h (ltb i (host_count s)) refl)
