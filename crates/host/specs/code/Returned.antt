-- What the guard ensures for the work after it.
use Rattle.std.specs.Prelude.{◌≡◌, Bool, true, false}
use Rattle.clock.specs.Clock.{clock_in_range}
use Rattle.clock.specs.declared.Clock.{Clock}
use Rattle.net_table.specs.declared.NetTable.{NetTable}
use Rattle.route.specs.Find.{rows_of, ids_below}
use Rattle.host.specs.declared.Settings.{Settings}
use Rattle.host.specs.declared.guard.Scope.{Scope}
use Rattle.host.specs.declared.guard.Scope.TheVariants.{Places, All, OnLink, Opening, Walking}
use Rattle.host.specs.Settings.{settings_good}

-- whether a call tests no more than numbers and places
abbrev pub initialized : Scope → Bool
initialized Places = true
initialized All = false
initialized (OnLink i) = false
initialized (Opening i) = false
initialized Walking = false

-- a host that a call may work on
pub record Ready (a : Scope) (s : Settings) (c : Clock) : Type 0 where
  pub settings : settings_good s ≡ true
  pub clock : initialized a ≡ false → clock_in_range c ≡ true

-- and one whose net table leads to ids of its own
abbrev pub RowsBelow : NetTable → Settings → Type 0
RowsBelow t s = ids_below s.layout.nhosts (rows_of t.net) ≡ true
