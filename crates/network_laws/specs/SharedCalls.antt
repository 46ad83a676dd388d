-- ISOLATION-3: calls of hosts that share one host table.
use Rattle.std.specs.Prelude.{cond, List, [], ◌∷◌, ℕ, eqb}
use Rattle.clock.specs.declared.Clock.{Clock}
use Rattle.net_table.specs.declared.NetTable.{NetTable}
use Rattle.table.specs.declared.Entry.{Entry}
use Rattle.host.specs.declared.Settings.{Settings}
use Rattle.host.specs.declared.Links.{Links}
use Rattle.host.specs.declared.walk.Walk.{Walk}
use Rattle.host.specs.CallState.{CallState, call_state}
use Rattle.calls.specs.Perform.{Call, Outcome, perform}
use Rattle.network_laws.specs.HostAfter.{Returned, returned}
use Rattle.network_laws.specs.History.{put}

-- ---- one host table that all hosts share

-- ISOLATION-3, TABLE-8: a call at a number; the host table is the shared one
pub record SharedEvent : Type 0 where
  pub number : ℕ
  pub settings : Settings
  pub nets : NetTable
  pub call : Call

-- ISOLATION-3, TABLE-8: each host's state, and the one host table
pub record Shared : Type 0 where
  pub clock : ℕ → Clock
  pub links : ℕ → Links
  pub walk : ℕ → Walk
  pub copy : ℕ → List ℕ
  pub entries : List Entry

-- TABLE-8: everything that such a call takes
abbrev pub shared_state : Shared → SharedEvent → CallState
shared_state w e = call_state e.settings e.nets e.number (w.clock e.number) (w.links e.number) (w.walk e.number) (w.copy e.number) w.entries

-- TABLE-8: what it results in
abbrev pub shared_outcome : Shared → SharedEvent → Outcome
shared_outcome w e = perform e.call (shared_state w e)

-- TABLE-8: the state after it
unfoldable pub shared_after : Shared → SharedEvent → Shared
shared_after w e =
    record {
      clock = put e.number (shared_outcome w e).clock w.clock;
      links = put e.number (shared_outcome w e).links w.links;
      walk = put e.number (shared_outcome w e).walk w.walk;
      copy = put e.number (shared_outcome w e).copy w.copy;
      entries = (shared_outcome w e).entries;
    }

-- TABLE-8: the state after a list
unfoldable pub shared_after_all : Shared → List SharedEvent → Shared
shared_after_all w [] = w
shared_after_all w (e ∷ es) = shared_after_all (shared_after w e) es

-- ISOLATION-3: what is returned at number k
unfoldable pub shared_returned : (number : ℕ) → Shared → List SharedEvent → List Returned
shared_returned k w [] = []
shared_returned k w (e ∷ es) =
    cond (eqb e.number k) (returned (shared_outcome w e) ∷ shared_returned k (shared_after w e) es) (shared_returned k (shared_after w e) es)
