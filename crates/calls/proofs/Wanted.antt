-- An id whose entry is looked at has a place, and is below the count of hosts.
use Rattle.std.specs.Prelude.{Option, Some, None}
use mathlib.Core.Path.{◌≡◌, refl}
use mathlib.Core.Bool.{true, false}
use mathlib.Core.List.{List}
use Prim.Native.Nat.{ℕ, ◌<◌}
use native.Mathlib.Omega.{arith}
use borrow.Author.Tests.{lt-ltb}
use Rattle.route.proofs.Ids.{found_below}
use Rattle.net_table.specs.declared.NetTable.{NetTable}
use Rattle.host.specs.declared.Settings.{Settings}
use Rattle.host.specs.Settings.{settings_good}
use Rattle.host.specs.declared.walk.Walk.{Walk}
use Rattle.host.specs.State.{places_per_host, host_count, has_place}
use Rattle.host.specs.Walk.{walk_in_range}
use Rattle.host.specs.code.Returned.{initialized, RowsBelow}
use Rattle.host.proofs.Sound.{sound}
use Rattle.walk.proofs.Work.{at_hand_in}
use Rattle.calls.specs.declared.Request.{Request}
use Rattle.calls.specs.declared.Request.TheVariants.{Initialize, Tick, Adjust, Set, Read, Second, SelfReport, Lookup, Step}
use Rattle.calls.specs.Effects.{scope_of, wanted}

none : {A : Type 0} → ◌≡◌ {A = ℕ} 0 1 → A
none z = absurd (omega arith)

module _ (t : NetTable) (s : Settings) (w : Walk) (copy : List ℕ) (good : settings_good s ≡ true) (rows : RowsBelow t s) where
  abbrev InRange : Request → Type 0
  InRange q = initialized (scope_of q) ≡ false → walk_in_range s w copy ≡ true

  pub wanted_below : (q : Request) → InRange q → (id : ℕ) → wanted q t s w ≡ Some id → id < host_count s
  wanted_below Initialize r id e = none cc
  wanted_below (Tick n) r id e = none cc
  wanted_below (Adjust n) r id e = none cc
  wanted_below (Set ms n) r id e = none cc
  wanted_below (Read k) r id e = none cc
  wanted_below Second r id e = none cc
  wanted_below (SelfReport k) r id e = none cc
  wanted_below (Lookup a) r id e =
      let g = sound s good in
      omega (arith, found_below s.address s.layout t.net a id rows e, g.hosts_to)
  wanted_below (Step k) r id e = at_hand_in s w copy (r refl) good id e

  pub wanted_has_place : (q : Request) → InRange q → has_place (wanted q t s w) ≡ true
  wanted_has_place q r = go (wanted q t s w) (wanted_below q r)
    where
      go : (f : Option ℕ) → ((id : ℕ) → f ≡ Some id → id < host_count s) → has_place f ≡ true
      go None below = refl
      go (Some id) below = lt-ltb id places_per_host (omega (arith, below id refl))
