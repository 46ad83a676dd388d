-- A call is its guard and then its work: a refusal of the guard's, or work that has passed all of the guard's tests.
use mathlib.Core.Path.{◌≡◌, refl, sym}
use mathlib.Core.Bool.{Bool, true, false, false≢true, cond, not, ◌&&◌, ◌||◌}
use mathlib.Core.List.{List}
use Prim.Native.Nat.{ℕ, ◌+◌, ◌-◌, ◌≤◌, ◌<◌}
use native.Mathlib.Omega.{arith}
use borrow.Author.Tests.{ltb-false, eqb-false}
use lib.Dec.{ltb, eqb}
use lib.ListN.{length}
use Rattle.lists.proofs.Tests.{both, neither, is_not, is_so}
use Rattle.lists.proofs.Tests as tests
use Rattle.answer.specs.declared.Answer.{Answer}
use Rattle.answer.specs.declared.Answer.TheVariants.{Done, Setting, OutOfRange, InWalk}
use Rattle.clock.specs.Clock.{clock_in_range}
use Rattle.net_table.specs.Table.{table_bad}
use Rattle.table.specs.declared.Entry.{Entry}
use Rattle.table.specs.Forms.{every}
use Rattle.table.specs.Entry.{entry_in_range}
use Rattle.host.specs.declared.Settings.{Settings}
use Rattle.host.specs.declared.guard.Scope.{Scope}
use Rattle.host.specs.declared.guard.Scope.TheVariants.{Places, All, OnLink, Opening, Walking}
use Rattle.host.specs.Settings.{link_count_of, settings_good, settings_fit}
use Rattle.host.specs.State.{places_per_host, first_place, no_link}
use Rattle.host.specs.CallState.{CallState, entries_of, host_in_range, own_walk_in_range, marks_as_set, state_in_range}
use Rattle.host.specs.Guard.{no_places, longest, own_out_of_range, out_of_range, in_walk, guard, done}
use Rattle.host.specs.code.Returned.{initialized, Ready, RowsBelow}
use Rattle.host.proofs.Places.{Holds}
use Rattle.host.proofs.Fits.{fits_good, rows_below}

-- what is so of the refusal and of the work is so of the call
pub either : {O : Type 0} (P : O → Type 0) (a : Answer) {refusal work : O}
    → (done a ≡ false → P refusal) → (done a ≡ true → P work) → P (cond (not (done a)) refusal work)
either P a {refusal} {work} refuses goes_on =
    tests.either P (not (done a)) refusal work (λ e. refuses (is_not (done a) e)) (λ e. goes_on (is_so (done a) e))

-- ---- what a call that goes on has

pub record Passed (a : Scope) (x : CallState) : Type 0 where
  pub places : no_places x.number x.entries ≡ false
  pub settings : settings_good x.host.settings ≡ true
  pub table : table_bad x.nets ≡ false
  pub fit : settings_fit x.nets x.host.settings ≡ true
  pub rows : RowsBelow x.nets x.host.settings
  pub call_state : initialized a ≡ false → state_in_range x ≡ true
  pub link : (i : ℕ) → a ≡ OnLink i → no_link x.host.settings i ≡ false
  pub opening : (i : ℕ) → a ≡ Opening i → (no_link x.host.settings i ≡ false) × (longest ≤ length x.copy)
  pub closed : in_walk a x.walk ≡ false

-- the tests as they stand in the guard
past : (a w b : Bool) → done (cond a OutOfRange (cond w InWalk (cond (not b) Setting Done))) ≡ true → (a ≡ false) × (w ≡ false) × (b ≡ true)
past true w b e = absurd (false≢true e)
past false true b e = absurd (false≢true e)
past false false true e = (refl, refl, refl)
past false false false e = absurd (false≢true e)

-- an equation of two scopes that differ
unlike : {A : Type 0} → ◌≡◌ {A = ℕ} 0 1 → A
unlike z = absurd (omega arith)

module _ (x : CallState) (fair : table_bad x.nets ≡ false) (fit : settings_fit x.nets x.host.settings ≡ true) where
  abbrev missing : Bool
  missing = no_places x.number x.entries

  -- with what the table and the settings have
  and_fits : (a : Scope) → missing ≡ false → (initialized a ≡ false → state_in_range x ≡ true) → ((i : ℕ) → a ≡ OnLink i → no_link x.host.settings i ≡ false)
      → ((i : ℕ) → a ≡ Opening i → (no_link x.host.settings i ≡ false) × (longest ≤ length x.copy)) → in_walk a x.walk ≡ false → Passed a x
  and_fits a there call_state link opening shut =
      record {
        places = there;
        settings = fits_good x.nets x.host.settings fit;
        table = fair;
        fit = fit;
        rows = rows_below x.nets x.host.settings fair fit;
        call_state = call_state;
        link = link;
        opening = opening;
        closed = shut;
      }

  within : (a : Scope) → own_out_of_range a x ≡ false → in_walk a x.walk ≡ false → Passed a x
  within Places e shut = and_fits Places e (λ f. absurd (false≢true (sym f))) (λ i f. unlike cc) (λ i f. unlike cc) shut
  within All e shut =
      let n = neither missing (not (state_in_range x)) e in
      and_fits All n.0 (λ _. is_so _ n.1) (λ i f. unlike cc) (λ i f. unlike cc) shut
  within Walking e shut =
      let n = neither missing (not (state_in_range x)) e in
      and_fits Walking n.0 (λ _. is_so _ n.1) (λ i f. unlike cc) (λ i f. unlike cc) shut
  within (OnLink i) e shut =
      let o = neither (no_link x.host.settings i) (missing || not (state_in_range x)) e in
      let n = neither missing (not (state_in_range x)) o.1 in
      and_fits (OnLink i) n.0 (λ _. is_so _ n.1) (λ j f. (let same : i ≡ j = cc in rw (sym same) o.0)) (λ j f. unlike cc) shut
  within (Opening i) e shut =
      let r = neither (ltb (length x.copy) longest) (no_link x.host.settings i || (missing || not (state_in_range x))) e in
      let o = neither (no_link x.host.settings i) (missing || not (state_in_range x)) r.1 in
      let n = neither missing (not (state_in_range x)) o.1 in
      and_fits (Opening i) n.0 (λ _. is_so _ n.1) (λ j f. unlike cc) (λ j f. (let same : i ≡ j = cc in (rw (sym same) o.0, ltb-false _ _ r.0))) shut

pub passed : (a : Scope) (x : CallState) → done (guard a x) ≡ true → Passed a x
unfolding guard
passed a x e =
    let p = past (out_of_range a x) (in_walk a x.walk) (settings_fit x.nets x.host.settings) e in
    let n = neither (table_bad x.nets) (own_out_of_range a x) p.0 in
    within x n.0 p.2 a n.1 p.1

-- ---- what the tests say in numbers

pub holds : (k : ℕ) (entries : List Entry) → no_places k entries ≡ false → Holds k entries
unfolding no_places
holds k entries e = ltb-false _ _ (neither (ltb 15 k) (ltb (length entries) (first_place k + places_per_host)) e).1

pub number_state : (k : ℕ) (entries : List Entry) → no_places k entries ≡ false → k ≤ 15
unfolding no_places
number_state k entries e = ltb-false 15 k (neither (ltb 15 k) _ e).0

-- a link that the host has
pub record Counted (s : Settings) (i : ℕ) : Type 0 where
  pub from_one : 1 ≤ i
  pub at_place : i - 1 < link_count_of s
  pub to_eight : i ≤ 8

pub counted : (s : Settings) (i : ℕ) → no_link s i ≡ false → Counted s i
unfolding no_link
counted s i e =
    let n = neither (eqb i 0) (ltb (link_count_of s) i) e in
    let some = eqb-false i 0 n.0 in
    let most = ltb-false (link_count_of s) i n.1 in
    omega arith

module _ (x : CallState) (in_range : state_in_range x ≡ true) where
  pub clock_state : clock_in_range x.host.clock ≡ true
  unfolding state_in_range
  clock_state = (both (clock_in_range x.host.clock) _ (both (host_in_range x.host) _ (both (host_in_range x.host && own_walk_in_range x) _ (both (host_in_range x.host && own_walk_in_range x && every entry_in_range (entries_of x)) _ in_range).0).0).0).0

  pub walk_state : own_walk_in_range x ≡ true
  unfolding state_in_range
  walk_state = (both (host_in_range x.host) _ (both (host_in_range x.host && own_walk_in_range x) _ (both (host_in_range x.host && own_walk_in_range x && every entry_in_range (entries_of x)) _ in_range).0).0).1

  pub entries_state : every entry_in_range (entries_of x) ≡ true
  unfolding state_in_range
  entries_state = (both (host_in_range x.host && own_walk_in_range x) _ (both (host_in_range x.host && own_walk_in_range x && every entry_in_range (entries_of x)) _ in_range).0).1

  pub marks_state : marks_as_set x ≡ true
  unfolding state_in_range
  marks_state = (both (host_in_range x.host && own_walk_in_range x && every entry_in_range (entries_of x)) _ in_range).1

-- what the work after the guard has of its settings and its clock
pub ready : (a : Scope) (x : CallState) → done (guard a x) ≡ true → Ready a x.host.settings x.host.clock
ready a x d = let p = passed a x d in record { settings = p.settings; clock = λ f. clock_state x (p.call_state f) }
