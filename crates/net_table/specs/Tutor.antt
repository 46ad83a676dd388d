-- NET-2 to NET-7: the tutor's four calls. Each gives the table afterwards and its answer.
use Rattle.std.specs.Prelude.{Bool, cond, not, ◌||◌, List, [], ◌∷◌, ◌++◌, ℕ, ◌+◌, ◌-◌, ltb, leb, eqb, length, get_or, set, take, drop}
use Rattle.route.specs.declared.Net.{Net}
use Rattle.route.specs.declared.Row.{Row}
use Rattle.net_table.specs.declared.NetTable.{NetTable}
use Rattle.net_table.specs.declared.Answer.{Answer}
use Rattle.net_table.specs.declared.Answer.TheVariants.{Done, Setting, OutOfRange, TableFull, NoRow}
use Rattle.net_table.specs.declared.Added.{Added}
use Rattle.net_table.specs.Table.{most_rows, standing, nhosts_bad, table_bad, zero_row, table_of}

-- NET-7: what a call results in: the table afterwards, and its answer
pub record Outcome : Type 0 where
  pub table : NetTable
  pub answer : Answer

-- NET-7: a table and an answer
abbrev pub leaves : NetTable → Answer → Outcome
leaves t a = record { table = t; answer = a }

-- ---- rows

-- NET-7, ANSWER-22: is there no row of that number? None is number 0.
abbrev pub no_row : (number : ℕ) → List Row → Bool
no_row k rows = eqb k 0 || ltb (length rows) k

-- NET-7, ANSWER-21: are there 32 rows?
abbrev pub full : List Row → Bool
full rows = leb most_rows (length rows)

-- NET-6: the row of a number
abbrev pub row_at : (number : ℕ) → List Row → Row
row_at k rows = get_or rows (k - 1) zero_row

-- NET-3: rows with one more at the end
abbrev pub with_row : Row → List Row → List Row
with_row r rows = rows ++ (r ∷ [])

-- NET-4: rows without one; those after it move up
abbrev pub without_row : (number : ℕ) → List Row → List Row
without_row k rows = take (k - 1) rows ++ drop k rows

-- NET-5: rows with another id in one; its net stays
abbrev pub with_id : (number id : ℕ) → List Row → List Row
with_id k id rows = set rows (k - 1) record { net = (row_at k rows).net; host = id }

-- ---- the calls

-- NET-2: initialize the table; 1 for a bad NHOSTS
unfoldable pub initialize_table : (nhosts : ℕ) → NetTable → Outcome
initialize_table n t = cond (nhosts_bad n) (leaves t Setting) (leaves (table_of n []) Done)

-- NET-4, NET-7: remove a row: 12, 22, 0
unfoldable pub remove : (number : ℕ) → NetTable → Outcome
remove k t =
    cond (table_bad t) (leaves t OutOfRange)
    (cond (no_row k (standing t)) (leaves t NoRow)
    (leaves (table_of t.nhosts (without_row k (standing t))) Done))

-- NET-5, NET-7: change a row's id: 12, 22, 1, 0
unfoldable pub change : (number id : ℕ) → NetTable → Outcome
change k id t =
    cond (table_bad t) (leaves t OutOfRange)
    (cond (no_row k (standing t)) (leaves t NoRow)
    (cond (not (ltb id t.nhosts)) (leaves t Setting)
    (leaves (table_of t.nhosts (with_id k id (standing t))) Done)))

-- NET-3: what adding a row results in: the table afterwards, its answer and the row's number
pub record Addition : Type 0 where
  pub table : NetTable
  pub added : Added

-- NET-3: a table, an answer and a row's number
abbrev pub addition : NetTable → Answer → (number : ℕ) → Addition
addition t a k = record { table = t; added = record { answer = a; row = k } }

-- NET-3, NET-7: add a row: 12, 21, 1, 0
unfoldable pub add : Net → (id : ℕ) → NetTable → Addition
add m id t =
    cond (table_bad t) (addition t OutOfRange 0)
    (cond (full (standing t)) (addition t TableFull 0)
    (cond (not (ltb id t.nhosts)) (addition t Setting 0)
    (addition (table_of t.nhosts (with_row record { net = m; host = id } (standing t))) Done (length (standing t) + 1))))
