-- The guard as the code has it, by value before and behind a scan of the entries, is the guard of the definitions.
use Rattle.std.specs.Prelude.{Option, Some, None, IfSome}
use mathlib.Core.Path.{◌≡◌, refl, sym, ap, subst, ◌∙◌}
use mathlib.Core.Bool.{Bool, true, false, cond, not, ◌&&◌, ◌||◌}
use mathlib.Core.List.{List}
use Prim.Native.Nat.{ℕ, ◌+◌, ◌-◌, ◌≤◌}
use native.Mathlib.Omega.{arith}
use borrow.Author.Tests.{ltb-true, ltb-false, lt-leb, le-leb}
use lib.Dec.{ltb, leb}
use lib.ListN.{length, take}
use Rattle.lists.proofs.Tests.{either, neither}
use Rattle.answer.specs.declared.Answer.TheVariants.{OutOfRange}
use Rattle.clock.specs.Clock.{clock_in_range}
use Rattle.net_table.specs.declared.NetTable.{NetTable}
use Rattle.net_table.specs.Table.{table_bad}
use Rattle.table.specs.declared.Entry.{Entry}
use Rattle.table.specs.declared.entries.Scan.{Scan}
use Rattle.table.specs.Forms.{every}
use Rattle.table.specs.Entry.{entry_in_range}
use Rattle.table.specs.code.Loops.{InEntries, all_in_range}
use Rattle.host.specs.declared.Settings.{Settings}
use Rattle.host.specs.declared.guard.Scope.{Scope}
use Rattle.host.specs.declared.guard.Scope.TheVariants.{Places, All, OnLink, Opening, Walking}
use Rattle.host.specs.Settings.{link_count_of}
use Rattle.host.specs.State.{places_per_host, first_place, host_count, own_entries, link_in_range, no_link}
use Rattle.host.specs.declared.Host.{Host}
use Rattle.host.specs.CallState.{CallState, entries_of, own_walk_in_range, marks_as_set, state_in_range}
use Rattle.host.specs.Guard.{no_places, longest, own_out_of_range, guard}
use Rattle.host.specs.code.Returned.{initialized}
use Rattle.host.specs.code.Held.{places_missing, nowhere, is_link, names_link, full_scan, held, judged, judged_initialize}

module _ (x : CallState) where
  abbrev h : Host
  h = x.host

  abbrev t : NetTable
  t = x.nets

  abbrev entries : List Entry
  entries = x.entries

  abbrev k : ℕ
  k = x.number

  abbrev s : Settings
  s = x.host.settings

  abbrev n : ℕ
  n = link_count_of s

  abbrev m : ℕ
  m = length x.copy

  abbrev all : Scan
  all = record { first = first_place k; end = first_place k + host_count s; marks = s.marks }

  abbrev rest : Option Scan
  rest = full_scan k (host_count s) h.clock h.links n (own_walk_in_range x) s.marks

  abbrev scanned : Scope → Option Scan
  scanned a = held a t k h x.walk x.copy (length entries)

  -- ---- the places that are looked at are there

  abbrev There : Option Scan → Type 0
  There o = IfSome o (λ (w : Scan). InEntries w.first w.end entries)

  whole_in : places_missing k (length entries) ≡ false → There rest
  whole_in there =
      let room : first_place k + places_per_host ≤ length entries = ltb-false _ _ (neither (ltb 15 k) (ltb (length entries) (first_place k + places_per_host)) there).1 in
      either There (clock_in_range h.clock && every link_in_range (take n h.links.all) && own_walk_in_range x) (Some all) None
      (λ _. record { rising = omega arith; inside = omega arith }) (λ _. tt)

  places_there : (a : Scope) → There (scanned a)
  places_there a =
      either There (table_bad t || places_missing k (length entries)) None _ (λ _. tt)
      (λ good. either There (initialized a) (Some nowhere) _ (λ _. record { rising = omega arith; inside = omega arith })
      (λ _. either There (not (names_link n m a)) None rest (λ _. tt) (λ _. whole_in (neither (table_bad t) _ good).1)))

  pub held_in : (a : Scope) (w : Scan) → scanned a ≡ Some w → InEntries w.first w.end entries
  held_in a w is = subst There is (places_there a)

  -- ---- 12 where a place is missing or something lent is out of range

  -- the entries are in range; false where something before them is not
  abbrev pub looks : Option Scan → Bool
  looks None = false
  looks (Some w) = all_in_range w entries

  whole : (b : Bool) → looks (cond b (Some all) None) ≡ ((b && every entry_in_range (entries_of x)) && marks_as_set x)
  unfolding all_in_range own_entries
  whole false = refl
  whole true =
      let some : first_place k + host_count s - first_place k ≡ host_count s = omega arith in
      rw some refl

  whole_scanned : looks rest ≡ state_in_range x
  unfolding state_in_range
  whole_scanned = whole (clock_in_range h.clock && every link_in_range (take n h.links.all) && own_walk_in_range x)

  none_bad : looks (Some nowhere) ≡ true
  unfolding all_in_range
  none_bad = refl

  abbrev looked : Scope → Option Scan
  looked a = cond (initialized a) (Some nowhere) (cond (not (names_link n m a)) None rest)

  linked : (i : ℕ) (b : Bool) → no_link s i ≡ b → not (looks (cond (not (is_link n i)) None rest)) ≡ (b || (false || not (state_in_range x)))
  unfolding no_link
  linked i true f = rw f refl
  linked i false f = rw (f, whole_scanned)

  either_true : (b : Bool) → true ≡ (b || true)
  either_true true = refl
  either_true false = refl

  -- the room for a packet
  roomy : (i : ℕ) (b : Bool) → ltb m longest ≡ b
      → not (looks (cond (not (leb longest m && is_link n i)) None rest)) ≡ (b || (no_link s i || (false || not (state_in_range x))))
  roomy i true f = rw (lt-leb _ _ (ltb-true _ _ f)) refl
  roomy i false f = rw (le-leb _ _ (ltb-false _ _ f)) (linked i (no_link s i) refl)

  tested : (a : Scope) (missing : Bool) → no_places k entries ≡ missing → not (looks (cond missing None (looked a))) ≡ own_out_of_range a x
  tested Places true e = rw e refl
  tested Places false e = rw (none_bad, e)
  tested All true e = rw e refl
  tested All false e = rw (whole_scanned, e)
  tested Walking true e = rw e refl
  tested Walking false e = rw (whole_scanned, e)
  tested (OnLink i) true e = rw e (either_true (no_link s i))
  tested (OnLink i) false e = rw e (linked i (no_link s i) refl)
  tested (Opening i) true e = rw (e, ← either_true (no_link s i)) (either_true (ltb m longest))
  tested (Opening i) false e = rw e (roomy i (ltb m longest) refl)

  -- the table before all that
  table_tested : (a : Scope) (bad : Bool) → not (looks (cond (bad || no_places k entries) None (looked a))) ≡ (bad || own_out_of_range a x)
  table_tested a true = refl
  table_tested a false = tested a (no_places k entries) refl

  pub guarded : (a : Scope) (good : Bool) → looks (scanned a) ≡ good → cond (not good) OutOfRange (judged s t x.walk a) ≡ guard a x
  unfolding guard no_places
  guarded a good is =
      ap (λ (b : Bool). cond (not b) OutOfRange (judged s t x.walk a)) (sym is)
      ∙ ap (λ (b : Bool). cond b OutOfRange (judged s t x.walk a)) (table_tested a (table_bad t))

  -- a call that sets afresh looks at no entry
  pub guarded_initialized : judged_initialize s t k (length entries) ≡ guard Places x
  unfolding guard no_places
  guarded_initialized = refl
