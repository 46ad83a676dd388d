-- UPDATE-2: updates of several ids in rising order; the clock goes from one to the next.
use Rattle.std.specs.Prelude.{cond, List, [], ◌∷◌, ℕ, suc, eqb}
use Rattle.clock.specs.declared.Clock.{Clock}
use Rattle.table.specs.declared.Entry.{Entry}
use Rattle.table.specs.declared.Updated.{Updated}

-- UPDATE-2: the clock and the entries after all updates
pub record Swept : Type 0 where
  pub clock : Clock
  pub own_entries : List Entry

-- UPDATE-2: the updates of the ids from i on
unfoldable pub sweep : (i : ℕ) (update : ℕ → Clock → Entry → Updated) → Clock → List Entry → Swept
sweep i update c [] = record { clock = c; own_entries = [] }
sweep i update c (e ∷ es) =
    let u : Updated = update i c e in
    let rest : Swept = sweep (suc i) update u.clock es in
    record { clock = rest.clock; own_entries = u.entry ∷ rest.own_entries }

-- helper: the update of one id only
abbrev pub only : (id : ℕ) (update : Clock → Entry → Updated) → (ℕ → Clock → Entry → Updated)
only id update i c e = cond (eqb i id) (update c e) record { clock = c; entry = e }
