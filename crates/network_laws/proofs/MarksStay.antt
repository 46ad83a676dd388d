-- Initialize writes the settings' marks, and every other change of an entry keeps its mark. So entries that are marked as set stay so.
use Rattle.std.specs.Prelude.{Option}
use mathlib.Core.Path.{◌≡◌, refl, sym, ap, ◌∙◌}
use mathlib.Core.Bool.{true}
use mathlib.Core.List.{List}
use Prim.Native.Nat.{ℕ, ◌-◌, ◌≤◌, ◌<◌}
use native.Mathlib.Omega.{arith}
use lib.Dec.{eqb}
use lib.ListN.{length, get_or}
use Rattle.clock.specs.declared.Counter.{Counter}
use Rattle.table.specs.declared.Entry.{Entry}
use Rattle.table.specs.declared.marks.Marks.{Marks}
use Rattle.table.specs.declared.entries.Change.TheVariants.{Aged, Reported}
use Rattle.table.specs.declared.entries.Changes.{Changes}
use Rattle.table.specs.Forms.{every_from}
use Rattle.table.specs.Marks.{mark}
use Rattle.table.specs.Entry.{fresh_entry, as_marked, aged}
use Rattle.table.specs.Update.{reported_here}
use Rattle.table.specs.Runs.{changed, changes, update_at, updated_at, updates}
use Rattle.table.proofs.Kept.{aged_mark, reported_mark, update_mark}
use Rattle.host.specs.declared.Effect.{Effect}
use Rattle.host.specs.declared.guard.Scope.TheVariants.{Walking}
use Rattle.host.specs.State.{own_entries, with_entries}
use Rattle.host.specs.Effect.{nothing, each}
use Rattle.host.specs.CallState.{CallState, entries_of, our_reading, own_walk_in_range, marks_as_set}
use Rattle.host.specs.Guard.{done}
use Rattle.host.proofs.Places.{Holds}
use Rattle.host.proofs.Guarded.{passed, walk_state}
use Rattle.arrival.specs.Arrival.{delivered}
use Rattle.walk.specs.Boxes.{at_hand}
use Rattle.calls.specs.declared.Request.{Request}
use Rattle.calls.specs.declared.Request.TheVariants.{Initialize, Tick, Adjust, Set, Read, Second, SelfReport, Lookup, Step}
use Rattle.calls.specs.Effects.{tick, adjust, set_by, read, second, self_report, lookup}
use Rattle.calls.specs.Perform.{Call, ask, send, deliver, open_walk, Outcome, entry_at, carried_out, work, perform, left}
use Rattle.network_laws.proofs.Lists.{All, each_all, all_each}
use Rattle.network_laws.proofs.Performs.{guard_of, performs, there}
use Rattle.network_laws.proofs.Swept.{changes_length, changes_keep, updates_length, updates_keep}
use Rattle.network_laws.proofs.Written.{written_back}
use Rattle.network_laws.proofs.Walking.{makes_mark, Works, no_work, puts, step_ways}
use Rattle.network_laws.proofs.Demand1.Range.{begun}

module _ (x : CallState) (marks : marks_as_set x ≡ true) where
  abbrev m : Marks
  m = x.host.settings.marks

  abbrev Marked : ℕ → Entry → Type 0
  Marked i e = as_marked m i e ≡ true

  all_marked : All Marked (entries_of x)
  all_marked = each_all (as_marked m) (entries_of x) marks

  same_mark : (id : ℕ) (e y : Entry) → y.here ≡ e.here → Marked id e → Marked id y
  same_mark id e y same is = ap (λ (n : ℕ). eqb n (mark m id)) same ∙ is

  -- the marks in the host table after a call
  abbrev Stays : Outcome → Type 0
  Stays o = marks_as_set (left x o) ≡ true

  abbrev Written : List Entry → Type 0
  Written l = every_from 0 (as_marked m) (own_entries x.host.settings x.number (with_entries x.number l x.entries)) ≡ true

  module _ (held : Holds x.number x.entries) where
    rewritten : (l : List Entry) → length l ≡ length (entries_of x) → All Marked l → Written l
    rewritten l size good = rw (written_back x l held size) (all_each (as_marked m) l good)

    changed_marks : (w : Changes)
        → ((id : ℕ) (e : Entry) → w.first ≤ id → id < w.end → e ≡ get_or (entries_of x) id fresh_entry → Marked id e → Marked id (changed w.marks w.change (id - w.first) e))
        → Written (changes w (entries_of x))
    changed_marks w keeps = rewritten (changes w (entries_of x)) (changes_length w (entries_of x)) (changes_keep w (entries_of x) Marked keeps all_marked)

    none : Written (changes nothing (entries_of x))
    none = changed_marks nothing (λ id e low high is h. absurd (omega arith))

    -- a box puts back the entry at hand, with its mark
    boxed : (w : Changes) → Works x.walk (entry_at (at_hand x.walk) x) w → Written (changes w (entries_of x))
    boxed w no_work = none
    boxed w (puts y made here) =
        changed_marks w
        (λ id e low high is h.
        let same : x.walk.id ≡ id = omega arith in
        let at : entry_at (at_hand x.walk) x ≡ e =
        ap (λ (f : Option ℕ). entry_at f x) here ∙ ap (λ (i : ℕ). get_or (entries_of x) i fresh_entry) same ∙ sym is in
        same_mark id e y (makes_mark x.walk (entry_at (at_hand x.walk) x) y made ∙ ap (λ (z : Entry). z.here) at) h)

    stepped : (k : Counter) → own_walk_in_range x ≡ true → Stays (work (ask (Step k)) x)
    stepped k in_range =
        step_ways k x.nets x.host x.walk x.copy (entry_at (at_hand x.walk) x) (λ (y : Effect). Stays (carried_out y x))
        record {
          none = none;
          reads = λ v c. none;
          delays = λ has. none;
          unknown = none;
          goes = λ r is v h c t l s w d. boxed w d;
        }
        in_range

    asked : (q : Request) → done (guard_of (ask q) x) ≡ true → Stays (work (ask q) x)
    unfolding tick adjust set_by read second self_report lookup
    asked Initialize e = (begun x e).marks_in
    asked (Tick n) e = none
    asked (Adjust n) e = none
    asked (Set ms n) e = none
    asked (Read k) e = none
    asked Second e = changed_marks (each x.host.settings Aged) (λ id y low high is h. same_mark id y (aged y) (aged_mark y) h)
    asked (SelfReport k) e =
        let t = (our_reading k x.host).time in
        changed_marks (each x.host.settings (Reported t)) (λ id y low high is h. same_mark id y (reported_here t y) (reported_mark t y) h)
    asked (Lookup a) e = none
    asked (Step k) e = stepped k (walk_state x ((passed Walking x e).call_state refl))

  works : (c : Call) → done (guard_of c x) ≡ true → Stays (work c x)
  works (ask q) e = asked (there (ask q) x e) q e
  works (send i k buffer) e = marks
  works (deliver d packet) e =
      let a = delivered d packet x.nets x.host in
      rewritten (there (deliver d packet) x e) (updates a.work packet (entries_of x)).own_entries (updates_length a.work packet (entries_of x))
      (updates_keep a.work packet (entries_of x) Marked (λ id c y low high inside h. same_mark id y (updated_at a.work packet id c y).entry (update_mark _ _ _ _ (update_at a.work (id - a.work.base) packet) c y) h) all_marked)
  works (open_walk i packet) e = marks

  pub marks_stay : (c : Call) → marks_as_set (left x (perform c x)) ≡ true
  marks_stay c = performs c x Stays (λ _. marks) (works c)
