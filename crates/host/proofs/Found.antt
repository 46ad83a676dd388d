-- An id that a host of good settings finds, in a table whose ids are below its NHOSTS, has a place: it is below NHOSTS, and that is 255 at most.
use Rattle.std.specs.Prelude.{Option, Some, None}
use mathlib.Core.Path.{◌≡◌, refl}
use mathlib.Core.Bool.{true}
use Prim.Native.Nat.{ℕ, ◌<◌}
use native.Mathlib.Omega.{arith}
use borrow.Author.Tests.{lt-ltb}
use Rattle.wire.specs.declared.Address.{Address}
use Rattle.route.proofs.Ids.{found_below}
use Rattle.net_table.specs.declared.NetTable.{NetTable}
use Rattle.host.specs.declared.Settings.{Settings}
use Rattle.host.specs.Settings.{found_for, settings_good}
use Rattle.host.specs.State.{places_per_host, has_place}
use Rattle.host.specs.code.Returned.{RowsBelow}
use Rattle.host.proofs.Sound.{sound}

has_place_lem : (f : Option ℕ) → ((i : ℕ) → f ≡ Some i → i < places_per_host) → has_place f ≡ true
has_place_lem None below = refl
has_place_lem (Some i) below = lt-ltb i places_per_host (below i refl)

pub find_has_place : (t : NetTable) (s : Settings) (a : Address) → settings_good s ≡ true → RowsBelow t s → has_place (found_for t s a) ≡ true
find_has_place t s a good rows =
    let g = sound s good in
    has_place_lem (found_for t s a)
    (λ (i : ℕ) (e : found_for t s a ≡ Some i). omega (arith, found_below s.address s.layout t.net a i rows e, g.hosts_to))
