-- BACK-2: lists of calls at one host: the settings stay, and each call gets the clock after the one before it. The rest of the state may be anything.
use Rattle.std.specs.Prelude.{List, [], ◌∷◌, ◌++◌, ℕ}
use Rattle.clock.specs.declared.Clock.{Clock}
use Rattle.net_table.specs.declared.NetTable.{NetTable}
use Rattle.table.specs.declared.Entry.{Entry}
use Rattle.host.specs.declared.Settings.{Settings}
use Rattle.host.specs.declared.Links.{Links}
use Rattle.host.specs.declared.walk.Walk.{Walk}
use Rattle.host.specs.CallState.{CallState, call_state}
use Rattle.calls.specs.Perform.{Call, perform}
use Rattle.clock_laws.specs.Moves.{Move, moves}

-- BACK-2: a call with everything that it takes except settings and clock
pub record Turn : Type 0 where
  pub call : Call
  pub nets : NetTable
  pub number : ℕ
  pub links : Links
  pub walk : Walk
  pub copy : List ℕ
  pub entries : List Entry

-- BACK-2: everything that it takes
abbrev pub state_for : Settings → Clock → Turn → CallState
state_for s c t = call_state s t.nets t.number c t.links t.walk t.copy t.entries

-- BACK-2: the clock after a call
abbrev pub clock_after : Settings → Clock → Turn → Clock
clock_after s c t = (perform t.call (state_for s c t)).clock

-- BACK-2: the clock after a list of calls
abbrev pub clock_after_all : Settings → Clock → List Turn → Clock
clock_after_all s c [] = c
clock_after_all s c (t ∷ ts) = clock_after_all s (clock_after s c t) ts

-- BACK-2: the moves of a call
abbrev pub moves_of : Settings → Clock → Turn → List Move
moves_of s c t = moves t.call (state_for s c t)

-- BACK-2: the moves of a list of calls
abbrev pub moves_of_all : Settings → Clock → List Turn → List Move
moves_of_all s c [] = []
moves_of_all s c (t ∷ ts) = moves_of s c t ++ moves_of_all s (clock_after s c t) ts
