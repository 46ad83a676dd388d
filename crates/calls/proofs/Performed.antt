-- A request as the code goes: the guard, the entry that is looked at, the plan, and its work at the places of its ids.
use Rattle.std.specs.Prelude.{Option, Some, None, IfSome, length}
use mathlib.Core.Path.{◌≡◌, refl, ◌∙◌}
use mathlib.Core.Bool.{true, false}
use mathlib.Core.List.{List}
use Prim.Native.Nat.{ℕ, ◌≤◌, ◌<◌}
use native.Mathlib.Omega.{arith}
use borrow.Author.Tests.{ltb-true}
use Rattle.table.specs.declared.Entry.{Entry}
use Rattle.table.specs.Runs.{changes}
use Rattle.table.specs.code.Loops.{InEntries, entry_of}
use Rattle.net_table.specs.declared.NetTable.{NetTable}
use Rattle.host.specs.declared.Settings.{Settings}
use Rattle.host.specs.declared.Effect.{Effect}
use Rattle.host.specs.declared.walk.Walk.{Walk}
use Rattle.host.specs.Settings.{settings_good}
use Rattle.host.specs.State.{host_count, has_place}
use Rattle.host.specs.declared.Host.{Host}
use Rattle.host.specs.CallState.{CallState}
use Rattle.host.specs.Guard.{guard, done}
use Rattle.host.specs.Walk.{walk_in_range}
use Rattle.host.specs.code.Returned.{initialized, RowsBelow}
use Rattle.host.proofs.Places.{Holds}
use Rattle.host.proofs.Sound.{sound}
use Rattle.host.proofs.Guarded.{Passed, passed, holds, number_state, walk_state}
use Rattle.walk.proofs.Work.{step_work}
use Rattle.calls.specs.declared.Request.{Request}
use Rattle.calls.specs.declared.Request.TheVariants.{Initialize, Tick, Adjust, Set, Read, Second, SelfReport, Lookup, Step}
use Rattle.calls.specs.Effects.{scope_of, effect, wanted}
use Rattle.calls.specs.Effects as definition
use Rattle.calls.specs.Perform.{Leaves, ask, entry_at, perform}
use Rattle.calls.specs.code.Places.{Placeable, seek_at, placed}
use Rattle.calls.proofs.Guarding.{goes_on}
use Rattle.calls.proofs.Wanted.{wanted_below, wanted_has_place}
use Rattle.calls.proofs.Carried.{Ids, entry_of_id, placed_in, carried}

-- ---- the ids that each effect changes

pub effect_ids : (q : Request) (t : NetTable) (h : Host) (w : Walk) (copy : List ℕ) (e : Entry) → settings_good h.settings ≡ true
    → (initialized (scope_of q) ≡ false → walk_in_range h.settings w copy ≡ true) → Ids h.settings (effect q t h w copy e).work
unfolding definition.initialize definition.tick definition.adjust definition.set_by definition.read definition.second definition.self_report definition.lookup
effect_ids Initialize t h w copy e good r = record { rising = omega arith; below = omega arith }
effect_ids (Tick n) t h w copy e good r = record { rising = omega arith; below = omega arith }
effect_ids (Adjust n) t h w copy e good r = record { rising = omega arith; below = omega arith }
effect_ids (Set ms n) t h w copy e good r = record { rising = omega arith; below = omega arith }
effect_ids (Read k) t h w copy e good r = record { rising = omega arith; below = omega arith }
effect_ids Second t h w copy e good r = record { rising = omega arith; below = omega arith }
effect_ids (SelfReport k) t h w copy e good r = record { rising = omega arith; below = omega arith }
effect_ids (Lookup a) t h w copy e good r = record { rising = omega arith; below = omega arith }
effect_ids (Step k) t h w copy e good r =
    step_work h.settings w copy (r refl) (Ids h.settings) k t h e refl record { rising = omega arith; below = omega arith }
    (λ id x. (let i = ltb-true w.id h.settings.layout.nhosts id in
    let most = (sound h.settings good).hosts_to in
    record { rising = omega arith; below = omega (arith, i, most) }))

module _ (x : CallState) (q : Request) (d : done (guard (scope_of q) x) ≡ true) where
  abbrev s : Settings
  s = x.host.settings

  abbrev t : NetTable
  t = x.nets

  abbrev k : ℕ
  k = x.number

  abbrev v : Walk
  v = x.walk

  abbrev o : List ℕ
  o = x.copy

  abbrev entries : List Entry
  entries = x.entries

  has_passed : Passed (scope_of q) x
  has_passed = passed (scope_of q) x d

  there : Holds k entries
  there = holds k entries has_passed.places

  pub walk_in_range_lem : initialized (scope_of q) ≡ false → walk_in_range s v o ≡ true
  walk_in_range_lem f = walk_state x (has_passed.call_state f)

  pub rows : RowsBelow t s
  rows = has_passed.rows

  number_in : k ≤ 15
  number_in = number_state k entries has_passed.places

  -- ---- the entry that is looked at

  pub seekable : (k ≤ 15) × (has_place (wanted q t s v) ≡ true)
  seekable = (number_in, wanted_has_place t s v o has_passed.settings rows q walk_in_range_lem)

  pub record Sought (f : Option ℕ) : Type 0 where
    pub there : IfSome (seek_at k f) (λ (i : ℕ). i < length entries)
    pub is : entry_of (seek_at k f) entries ≡ entry_at f x

  sought_at : (f : Option ℕ) → ((id : ℕ) → f ≡ Some id → id < host_count s) → Holds k entries → Sought f
  unfolding entry_of
  sought_at None below h = record { there = tt; is = refl }
  sought_at (Some id) below h =
      let i = below id refl in
      record { there = omega (arith, h, i); is = entry_of_id s k entries id i }

  pub sought : Sought (wanted q t s v)
  sought = sought_at (wanted q t s v) (wanted_below t s v o has_passed.settings rows q walk_in_range_lem) there

  -- ---- the call

  pub record Performed (p : Effect) : Type 0 where
    pub ids : Placeable k p.work.first p.work.end
    pub places : InEntries (placed k p.work).first (placed k p.work).end entries
    pub left : Leaves (perform (ask q) x) p.reply p.clock p.links p.walk o (changes (placed k p.work) entries)

  pub worked : Performed (effect q t x.host v o (entry_at (wanted q t s v) x))
  worked =
      let e = entry_at (wanted q t s v) x in
      let w = (effect q t x.host v o e).work in
      let i = effect_ids q t x.host v o e has_passed.settings walk_in_range_lem in
      record {
        ids = record { number = number_in; rising = i.rising; ids = omega (arith, i.below) };
        places = placed_in s k entries there w i;
        left = rw (goes_on (ask q) x d) record { reply = refl; clock = refl; links = refl; walk = refl; copy = refl; entries = carried s k entries there w i };
      }

  -- the same of the entry that the code looks at
  pub performed : (e : Entry) → e ≡ entry_of (seek_at k (wanted q t s v)) entries → Performed (effect q t x.host v o e)
  performed e e-is = rw (e-is ∙ sought.is) worked
