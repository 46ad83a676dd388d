-- NET-1: the net table of a class: its NHOSTS and its rows.
use Rattle.std.specs.Prelude.{Bool, not, ◌||◌, List, ◌++◌, ℕ, ◌-◌, ltb, length, replicate}
use Rattle.route.specs.declared.Row.{Row}
use Rattle.route.specs.Find.{zero_net, rows_of, ids_below}
use Rattle.net_table.specs.declared.NetTable.{NetTable}

-- NET-1: the most rows
abbrev pub most_rows : ℕ
most_rows = 32

-- NET-6: the rows in order; row 1 is the first
abbrev pub standing : NetTable → List Row
standing t = rows_of t.net

-- NET-8: is NHOSTS not 1 to 255?
abbrev pub nhosts_bad : ℕ → Bool
nhosts_bad n = ltb n 1 || ltb 255 n

-- NET-8: are there more than 32 rows, a bad NHOSTS, or a row whose id is not below it?
unfoldable pub table_bad : NetTable → Bool
table_bad t = ltb most_rows t.net.count || nhosts_bad t.nhosts || not (ids_below t.nhosts (standing t))

-- ---- the table of given rows; the places after them are zero

-- NET-6: an empty slot
abbrev pub zero_row : Row
zero_row = record { net = zero_net; host = 0 }

-- NET-6: rows with empty slots after them
abbrev pub padded : List Row → List Row
padded rows = rows ++ replicate (most_rows - length rows) zero_row

-- NET-1, NET-2: the table of an NHOSTS and rows
abbrev pub table_of : (nhosts : ℕ) → List Row → NetTable
table_of n rows = record { nhosts = n; net = record { count = length rows; rows = padded rows } }
