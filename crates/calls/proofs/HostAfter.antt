-- The calls that leave links and walk alone: what their own plans result in is the outcome of the call.
use mathlib.Core.Path.{◌≡◌, refl, sym, ap, ◌∙◌}
use mathlib.Core.Bool.{true}
use mathlib.Core.List.{List}
use Prim.Native.Nat.{ℕ, ◌≤◌}
use lib.IntN.{ℤ}
use Rattle.clock.specs.declared.Counter.{Counter}
use Rattle.clock.specs.Clock.{clock_in_range}
use Rattle.quantity.specs.declared.Count.{Count}
use Rattle.wire.specs.declared.Address.{Address}
use Rattle.table.specs.declared.Entry.{Entry}
use Rattle.table.specs.Runs.{changes}
use Rattle.table.specs.code.Loops.{InEntries, entry_of}
use Rattle.net_table.specs.declared.NetTable.{NetTable}
use Rattle.host.specs.declared.Effect.{Effect}
use Rattle.host.specs.declared.walk.Walk.{Walk}
use Rattle.host.specs.declared.guard.Scope.TheVariants.{All, OnLink}
use Rattle.host.specs.Effect.{answers}
use Rattle.host.specs.Settings.{found_for, settings_good}
use Rattle.host.specs.Guard.{guard, done}
use Rattle.host.specs.declared.Host.{Host}
use Rattle.host.specs.CallState.{CallState}
use Rattle.host.specs.Inspection as inspection
use Rattle.host.proofs.Guarded.{passed, counted, holds, ready}
use Rattle.calls.specs.declared.Request.{Request}
use Rattle.calls.specs.declared.Request.TheVariants.{Tick, Adjust, Set, Read, Second, SelfReport, Lookup}
use Rattle.calls.specs.declared.plans.Timed.{Timed}
use Rattle.calls.specs.declared.plans.Aged.{Aged}
use Rattle.calls.specs.Effects.{scope_of, wanted, effect, looked}
use Rattle.calls.specs.Effects as definition
use Rattle.calls.specs.Perform.{Leaves, ask, inspect, entry_at, perform}
use Rattle.calls.specs.code.Planned.{Timely, Aging}
use Rattle.calls.specs.code.Places.{Placeable, seek_at, placed}
use Rattle.calls.proofs.Guarding.{goes_on}
use Rattle.calls.proofs.Carried.{nothing_placed}
use Rattle.calls.proofs.Performed.{sought, worked}
use Rattle.calls.proofs.Pair.{quieted}

-- ---- the requests that leave links and walk, and those of them that leave the entries too

abbrev pub Still : Request → Type 0
Still q =
    (t : NetTable) (h : Host) (w : Walk) (o : List ℕ) (e : Entry)
    → effect q t h w o e ≡ record { reply = (effect q t h w o e).reply; clock = (effect q t h w o e).clock; links = h.links; walk = w; work = (effect q t h w o e).work }

abbrev pub Quiet : Request → Type 0
Quiet q =
    (t : NetTable) (h : Host) (w : Walk) (o : List ℕ) (e : Entry) → effect q t h w o e ≡ answers (effect q t h w o e).reply (effect q t h w o e).clock h.links w

pub tick_quiet : (n : Count) → Quiet (Tick n)
unfolding definition.tick
tick_quiet n t h w o e = refl

pub adjust_quiet : (n : Count) → Quiet (Adjust n)
unfolding definition.adjust
adjust_quiet n t h w o e = refl

pub set_quiet : (ms : ℤ) (n : Count) → Quiet (Set ms n)
unfolding definition.set_by
set_quiet ms n t h w o e = refl

pub read_quiet : (k : Counter) → Quiet (Read k)
unfolding definition.read
read_quiet k t h w o e = refl

pub lookup_quiet : (a : Address) → Quiet (Lookup a)
unfolding definition.lookup
lookup_quiet a t h w o e = refl

pub second_still : Still Second
unfolding definition.second
second_still t h w o e = refl

pub self_report_still : (k : Counter) → Still (SelfReport k)
unfolding definition.self_report
self_report_still k t h w o e = refl

pub host_good : (x : CallState) → done (guard All x) ≡ true → record { good : settings_good x.host.settings ≡ true; in_range : clock_in_range x.host.clock ≡ true }
host_good x d = let r = ready All x d in record { good = r.settings; in_range = r.clock refl }

module _ (x : CallState) (q : Request) (d : done (guard (scope_of q) x) ≡ true) where
  abbrev e : Entry
  e = entry_at (wanted q x.nets x.host.settings x.walk) x

  abbrev p : Effect
  p = effect q x.nets x.host x.walk x.copy e

  -- the entries stay
  pub after_quiet : Quiet q → Leaves (perform (ask q) x) p.reply p.clock x.host.links x.walk x.copy x.entries
  after_quiet quiet =
      let left = (worked x q d).left in
      let is = sym (quiet x.nets x.host x.walk x.copy e) in
      record {
        reply = left.reply;
        clock = left.clock;
        links = ap (λ (w : Effect). w.links) is ∙ left.links;
        walk = ap (λ (w : Effect). w.walk) is ∙ left.walk;
        copy = left.copy;
        entries = sym (nothing_placed x.number x.entries) ∙ ap (λ (w : Effect). changes (placed x.number w.work) x.entries) is ∙ left.entries;
      }

  pub after_timed : Quiet q → (t : Timed) → Timely t q x.host
      → Leaves (perform (ask q) x) t.reply t.clock x.host.links x.walk x.copy x.entries
  after_timed quiet t is = rw (is x.nets x.walk x.copy e) (after_quiet quiet)

  -- the entries are changed at their places
  pub record AgedWell (t : Aged) : Type 0 where
    pub ids : Placeable x.number t.work.first t.work.end
    pub places : InEntries (placed x.number t.work).first (placed x.number t.work).end x.entries
    pub left : Leaves (perform (ask q) x) t.reply t.clock x.host.links x.walk x.copy (changes (placed x.number t.work) x.entries)

  pub after_aged : Still q → (t : Aged) → Aging t q x.host → AgedWell t
  after_aged still t is =
      let left = (worked x q d).left in
      let same = sym (still x.nets x.host x.walk x.copy e) in
      rw (is x.nets x.walk x.copy e)
      record {
        ids = (worked x q d).ids;
        places = (worked x q d).places;
        left = record {
          reply = left.reply;
          clock = left.clock;
          links = ap (λ (w : Effect). w.links) same ∙ left.links;
          walk = ap (λ (w : Effect). w.walk) same ∙ left.walk;
          copy = left.copy;
          entries = left.entries;
        };
      }

-- ---- a lookup

pub after_looked : (x : CallState) (a : Address) → done (guard All x) ≡ true
    → Leaves (perform (ask (Lookup a)) x) (looked (found_for x.nets x.host.settings a) (entry_of (seek_at x.number (found_for x.nets x.host.settings a)) x.entries)) x.host.clock x.host.links x.walk x.copy x.entries
unfolding definition.lookup
after_looked x a d = rw (sought x (Lookup a) d).is (after_quiet x (Lookup a) d (lookup_quiet a))

-- ---- an inspection

module _ (x : CallState) (i : ℕ) (octets : List ℕ) (d : done (guard (OnLink i) x) ≡ true) where
  pub on_a_link : (1 ≤ i) × (i ≤ 8)
  on_a_link = let has = counted _ _ ((passed (OnLink i) x d).link i refl) in (has.from_one, has.to_eight)

  pub after_inspected : Leaves (perform (inspect i octets) x) (inspection.tells (inspection.inspect x.host.settings i octets)) x.host.clock x.host.links x.walk x.copy x.entries
  after_inspected =
      rw (goes_on (inspect i octets) x d ∙ quieted x (holds x.number x.entries (passed (OnLink i) x d).places) (inspection.tells (inspection.inspect x.host.settings i octets)) x.host octets)
      record { reply = refl; clock = refl; links = refl; walk = refl; copy = refl; entries = refl }
