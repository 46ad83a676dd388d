-- NET-6, NET-7, NET-8: what the tutor's calls result in: which rows there are, never a bad table, and no change at a refusal.
use Rattle.std.specs.Prelude.{◌≡◌, false, [], ◌∷◌, ◌++◌, map, ℕ, ◌-◌, ◌<◌, length, take, drop, set, get_or}
use Rattle.route.specs.declared.Net.{Net}
use Rattle.route.specs.declared.Row.{Row}
use Rattle.net_table.specs.declared.NetTable.{NetTable}
use Rattle.net_table.specs.declared.Answer.TheVariants.{Done}
use Rattle.net_table.specs.Table.{standing, table_bad, zero_row}
use Rattle.net_table.specs.Tutor.{initialize_table, add, remove, change, row_at}

-- NET-6: the rows after a call that answered 0
pub record RowsAfter : Type 0 where
  pub initialized : (n : ℕ) (t : NetTable) → (initialize_table n t).answer ≡ Done → standing (initialize_table n t).table ≡ []
  pub added :
      (m : Net) (id : ℕ) (t : NetTable) → (add m id t).added.answer ≡ Done
      → standing (add m id t).table ≡ standing t ++ (record { net = m; host = id } ∷ [])
  -- NET-3: the new row has the number that was returned
  pub number :
      (m : Net) (id : ℕ) (t : NetTable) → (add m id t).added.answer ≡ Done
      → row_at (add m id t).added.row (standing (add m id t).table) ≡ record { net = m; host = id }
  pub removed :
      (k : ℕ) (t : NetTable) → (remove k t).answer ≡ Done
      → standing (remove k t).table ≡ take (k - 1) (standing t) ++ drop k (standing t)
  pub changed :
      (k id : ℕ) (t : NetTable) → (change k id t).answer ≡ Done
      → standing (change k id t).table ≡ set (standing t) (k - 1) record { net = (row_at k (standing t)).net; host = id }
  -- NET-5: a change of an id keeps the nets of all rows
  pub nets :
      (k id : ℕ) (t : NetTable) → (change k id t).answer ≡ Done
      → map (λ (r : Row). r.net) (standing (change k id t).table) ≡ map (λ (r : Row). r.net) (standing t)

-- NET-8: a table that a call produced is not bad
pub record NeverBad : Type 0 where
  pub initialized : (n : ℕ) (t : NetTable) → (initialize_table n t).answer ≡ Done → table_bad (initialize_table n t).table ≡ false
  pub added : (m : Net) (id : ℕ) (t : NetTable) → (add m id t).added.answer ≡ Done → table_bad (add m id t).table ≡ false
  pub removed : (k : ℕ) (t : NetTable) → (remove k t).answer ≡ Done → table_bad (remove k t).table ≡ false
  pub changed : (k id : ℕ) (t : NetTable) → (change k id t).answer ≡ Done → table_bad (change k id t).table ≡ false

-- NET-7: a refusal changes nothing, and returns row number 0
pub record Refused : Type 0 where
  pub initialized : (n : ℕ) (t : NetTable) → ((initialize_table n t).answer ≡ Done → ⊥) → (initialize_table n t).table ≡ t
  pub added : (m : Net) (id : ℕ) (t : NetTable) → ((add m id t).added.answer ≡ Done → ⊥) → ((add m id t).table ≡ t) × ((add m id t).added.row ≡ 0)
  pub removed : (k : ℕ) (t : NetTable) → ((remove k t).answer ≡ Done → ⊥) → (remove k t).table ≡ t
  pub changed : (k id : ℕ) (t : NetTable) → ((change k id t).answer ≡ Done → ⊥) → (change k id t).table ≡ t

-- NET-8: in a table that is not bad every row's id is below NHOSTS, also after a row of net zero
pub record EveryRow : Type 0 where
  pub below :
      (t : NetTable) → table_bad t ≡ false → (i : ℕ) → i < length (standing t) → (get_or (standing t) i zero_row).host < t.nhosts
