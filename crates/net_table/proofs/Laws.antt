-- The laws of the tutor's calls: each call by its cases; the rows of `table_of` are those that it was given, and the ids of what is put together are those of its parts.
use mathlib.Core.Path.{◌≡◌, ◌∙◌, sym, ap, refl}
use mathlib.Core.Bool.{true, false, not, true≢false}
use mathlib.Core.List.{List, [], ◌∷◌, ◌++◌, map}
use Prim.Native.Nat.{ℕ, zero, suc, ◌+◌, ◌-◌, ◌≤◌, ◌<◌}
use native.Mathlib.Omega.{arith}
use borrow.Author.Tests.{ltb-true, ltb-false, leb-false, le-ltb}
use lib.Dec.{ltb, eqb}
use lib.ListN.{length, take, drop, set, get_or, replicate, length-append, length-take, length-drop, length-set}
use lib.Seq.{take_at, get_or_at, map-set_same}
use Rattle.lists.proofs.Tests.{both, neither, either, is_so}
use Rattle.route.specs.declared.Net.{Net}
use Rattle.route.specs.declared.Row.{Row}
use Rattle.route.specs.Find.{ids_below}
use Rattle.net_table.specs.declared.NetTable.{NetTable}
use Rattle.net_table.specs.declared.Answer.{Answer}
use Rattle.net_table.specs.declared.Answer.TheVariants.{Done, Setting, OutOfRange, TableFull, NoRow}
use Rattle.net_table.specs.Answer.{number}
use Rattle.net_table.specs.Table.{standing, nhosts_bad, table_bad, zero_row, table_of}
use Rattle.net_table.specs.Tutor.{Outcome, Addition, leaves, addition, no_row, full, row_at, with_row, without_row, with_id, initialize_table, add, remove, change}
use Rattle.net_table.specs.Laws.{RowsAfter, NeverBad, Refused, EveryRow}
use Rattle.net_table.proofs.Tables.{Good, good}

-- ---- answers

not_done : (a : Answer) → ltb 0 (number a) ≡ true → a ≡ Done → ⊥
not_done a h e = true≢false (sym h ∙ ap (λ (x : Answer). ltb 0 (number x)) e)

-- ---- the ids of rows that are put together

ids_append : (n : ℕ) (xs ys : List Row) → ids_below n xs ≡ true → ids_below n ys ≡ true → ids_below n (xs ++ ys) ≡ true
ids_append n [] ys h k = k
ids_append n (x ∷ xs) ys h k =
    let b = both (ltb x.host n) (ids_below n xs) h in
    rw b.0 (ids_append n xs ys b.1 k)

ids_take : (n i : ℕ) (l : List Row) → ids_below n l ≡ true → ids_below n (take i l) ≡ true
ids_take n zero l h = refl
ids_take n (suc i) [] h = refl
ids_take n (suc i) (x ∷ l) h =
    let b = both (ltb x.host n) (ids_below n l) h in
    rw b.0 (ids_take n i l b.1)

ids_drop : (n i : ℕ) (l : List Row) → ids_below n l ≡ true → ids_below n (drop i l) ≡ true
ids_drop n zero l h = h
ids_drop n (suc i) [] h = refl
ids_drop n (suc i) (x ∷ l) h = ids_drop n i l (both (ltb x.host n) (ids_below n l) h).1

ids_set : (n i : ℕ) (l : List Row) (r : Row) → ltb r.host n ≡ true → ids_below n l ≡ true → ids_below n (set l i r) ≡ true
ids_set n i [] r e h = refl
ids_set n zero (x ∷ l) r e h = rw e (both (ltb x.host n) (ids_below n l) h).1
ids_set n (suc i) (x ∷ l) r e h =
    let b = both (ltb x.host n) (ids_below n l) h in
    rw b.0 (ids_set n i l r e b.1)

ids_at : (n : ℕ) (l : List Row) → ids_below n l ≡ true → (i : ℕ) → i < length l → (get_or l i zero_row).host < n
ids_at n [] h i k = absurd (omega arith)
ids_at n (x ∷ l) h zero k = ltb-true x.host n (both (ltb x.host n) (ids_below n l) h).0
ids_at n (x ∷ l) h (suc i) k = ids_at n l (both (ltb x.host n) (ids_below n l) h).1 i (omega arith)

-- ---- the table of given rows

rows_of : (n : ℕ) (rows : List Row) → standing (table_of n rows) ≡ rows
rows_of n rows = take_at rows (replicate (32 - length rows) zero_row) (length rows) refl

never_bad : (n : ℕ) (rows : List Row) → length rows ≤ 32 → nhosts_bad n ≡ false → ids_below n rows ≡ true → table_bad (table_of n rows) ≡ false
unfolding table_bad
never_bad n rows h k i = rw (le-ltb 32 (length rows) h, k, rows_of n rows, i)

few : (t : NetTable) → Good t → length (standing t) ≤ 32
few t g =
    let h : t.net.count ≤ 32 = ltb-false 32 t.net.count g.few in
    omega (arith, length-take t.net.count t.net.rows)

hosts : (t : NetTable) → Good t → nhosts_bad t.nhosts ≡ false
hosts t g = rw g.some g.most

-- by the number answered the row is found
numbered : (n : ℕ) (r : Row) (rows : List Row) → row_at (length rows + 1) (standing (table_of n (with_row r rows))) ≡ r
numbered n r rows =
    let e : length rows ≡ length rows + 1 - 1 = omega arith in
    ap (row_at (length rows + 1)) (rows_of n (with_row r rows)) ∙ get_or_at rows r [] zero_row (length rows + 1 - 1) e

shorter : (k : ℕ) (rows : List Row) → ltb (length rows) k ≡ false → length rows ≤ 32 → length (without_row k rows) ≤ 32
shorter k rows e h =
    let j : k ≤ length rows = ltb-false (length rows) k e in
    omega (arith, length-append (take (k - 1) rows) (drop k rows), length-take (k - 1) rows, length-drop k rows)

-- ---- the calls: a property of the table after each, by cases

module _ (P : Outcome → Type 0) where
  initialized_cases : (n : ℕ) (t : NetTable) → P (leaves t Setting) → (nhosts_bad n ≡ false → P (leaves (table_of n []) Done)) → P (initialize_table n t)
  unfolding initialize_table
  initialized_cases n t s d = either P (nhosts_bad n) (leaves t Setting) (leaves (table_of n []) Done) (λ _. s) d

  remove_cases : (k : ℕ) (t : NetTable) → P (leaves t OutOfRange) → P (leaves t NoRow)
      → (Good t → no_row k (standing t) ≡ false → P (leaves (table_of t.nhosts (without_row k (standing t))) Done)) → P (remove k t)
  unfolding remove
  remove_cases k t b s d =
      either P (table_bad t) (leaves t OutOfRange) _ (λ _. b) (λ g.
      either P (no_row k (standing t)) (leaves t NoRow) _ (λ _. s) (λ r. d (good t g) r))

  change_cases : (k id : ℕ) (t : NetTable) → P (leaves t OutOfRange) → P (leaves t NoRow) → P (leaves t Setting)
      → (Good t → no_row k (standing t) ≡ false → ltb id t.nhosts ≡ true → P (leaves (table_of t.nhosts (with_id k id (standing t))) Done)) → P (change k id t)
  unfolding change
  change_cases k id t b s i d =
      either P (table_bad t) (leaves t OutOfRange) _ (λ _. b) (λ g.
      either P (no_row k (standing t)) (leaves t NoRow) _ (λ _. s) (λ r.
      either P (not (ltb id t.nhosts)) (leaves t Setting) _ (λ _. i) (λ l. d (good t g) r (is_so (ltb id t.nhosts) l))))

add_cases : (P : Addition → Type 0) (m : Net) (id : ℕ) (t : NetTable) → P (addition t OutOfRange 0) → P (addition t TableFull 0) → P (addition t Setting 0)
    → (Good t → full (standing t) ≡ false → ltb id t.nhosts ≡ true → P (addition (table_of t.nhosts (with_row record { net = m; host = id } (standing t))) Done (length (standing t) + 1)))
    → P (add m id t)
unfolding add
add_cases P m id t b s i d =
    either P (table_bad t) (addition t OutOfRange 0) _ (λ _. b) (λ g.
    either P (full (standing t)) (addition t TableFull 0) _ (λ _. s) (λ r.
    either P (not (ltb id t.nhosts)) (addition t Setting 0) _ (λ _. i) (λ l. d (good t g) r (is_so (ltb id t.nhosts) l))))

-- what is claimed of a done call is true of a refusal
skip : {Q : Type 0} (a : Answer) → ltb 0 (number a) ≡ true → a ≡ Done → Q
skip a h e = absurd (not_done a h e)

-- ---- the laws

pub rows_after : RowsAfter
rows_after = record {
  initialized = λ n t. initialized_cases (λ o. o.answer ≡ Done → standing o.table ≡ []) n t (skip Setting refl) (λ h e. refl);
  added = λ m id t. add_cases (λ o. o.added.answer ≡ Done → standing o.table ≡ with_row record { net = m; host = id } (standing t)) m id t
      (skip OutOfRange refl) (skip TableFull refl) (skip Setting refl) (λ g f i e. rows_of t.nhosts (with_row record { net = m; host = id } (standing t)));
  number = λ m id t. add_cases (λ o. o.added.answer ≡ Done → row_at o.added.row (standing o.table) ≡ record { net = m; host = id }) m id t
      (skip OutOfRange refl) (skip TableFull refl) (skip Setting refl) (λ g f i e. numbered t.nhosts record { net = m; host = id } (standing t));
  removed = λ k t. remove_cases (λ o. o.answer ≡ Done → standing o.table ≡ without_row k (standing t)) k t
      (skip OutOfRange refl) (skip NoRow refl) (λ g r e. rows_of t.nhosts (without_row k (standing t)));
  changed = λ k id t. change_cases (λ o. o.answer ≡ Done → standing o.table ≡ with_id k id (standing t)) k id t
      (skip OutOfRange refl) (skip NoRow refl) (skip Setting refl) (λ g r i e. rows_of t.nhosts (with_id k id (standing t)));
  nets = λ k id t. change_cases (λ o. o.answer ≡ Done → map (λ (r : Row). r.net) (standing o.table) ≡ map (λ (r : Row). r.net) (standing t)) k id t
      (skip OutOfRange refl) (skip NoRow refl) (skip Setting refl)
      (λ g r i e. ap (map (λ (x : Row). x.net)) (rows_of t.nhosts (with_id k id (standing t)))
      ∙ map-set_same (λ (x : Row). x.net) (standing t) (k - 1) record { net = (row_at k (standing t)).net; host = id } zero_row refl);
}

pub never : NeverBad
never = record {
  initialized = λ n t. initialized_cases (λ o. o.answer ≡ Done → table_bad o.table ≡ false) n t (skip Setting refl)
      (λ h e. never_bad n [] (omega arith) h refl);
  added = λ m id t. add_cases (λ o. o.added.answer ≡ Done → table_bad o.table ≡ false) m id t (skip OutOfRange refl) (skip TableFull refl) (skip Setting refl)
      (λ g f i e. never_bad t.nhosts (with_row record { net = m; host = id } (standing t))
      (omega (arith, leb-false 32 (length (standing t)) f, length-append (standing t) (record { net = m; host = id } ∷ [])))
      (hosts t g) (ids_append t.nhosts (standing t) (record { net = m; host = id } ∷ []) g.ids (rw i)));
  removed = λ k t. remove_cases (λ o. o.answer ≡ Done → table_bad o.table ≡ false) k t (skip OutOfRange refl) (skip NoRow refl)
      (λ g r e. never_bad t.nhosts (without_row k (standing t)) (shorter k (standing t) (neither (eqb k 0) (ltb (length (standing t)) k) r).1 (few t g))
      (hosts t g) (ids_append t.nhosts (take (k - 1) (standing t)) (drop k (standing t)) (ids_take t.nhosts (k - 1) (standing t) g.ids) (ids_drop t.nhosts k (standing t) g.ids)));
  changed = λ k id t. change_cases (λ o. o.answer ≡ Done → table_bad o.table ≡ false) k id t (skip OutOfRange refl) (skip NoRow refl) (skip Setting refl)
      (λ g r i e. never_bad t.nhosts (with_id k id (standing t))
      (omega (arith, few t g, length-set (standing t) (k - 1) record { net = (row_at k (standing t)).net; host = id }))
      (hosts t g) (ids_set t.nhosts (k - 1) (standing t) record { net = (row_at k (standing t)).net; host = id } i g.ids));
}

pub refused : Refused
refused = record {
  initialized = λ n t. initialized_cases (λ o. (o.answer ≡ Done → ⊥) → o.table ≡ t) n t (λ _. refl) (λ h no_more. absurd (no_more refl));
  added = λ m id t. add_cases (λ o. (o.added.answer ≡ Done → ⊥) → (o.table ≡ t) × (o.added.row ≡ 0)) m id t
      (λ _. (refl, refl)) (λ _. (refl, refl)) (λ _. (refl, refl)) (λ g f i no_more. absurd (no_more refl));
  removed = λ k t. remove_cases (λ o. (o.answer ≡ Done → ⊥) → o.table ≡ t) k t (λ _. refl) (λ _. refl) (λ g r no_more. absurd (no_more refl));
  changed = λ k id t. change_cases (λ o. (o.answer ≡ Done → ⊥) → o.table ≡ t) k id t (λ _. refl) (λ _. refl) (λ _. refl) (λ g r i no_more. absurd (no_more refl));
}

pub every_row : EveryRow
every_row = record { below = λ t e. ids_at t.nhosts (standing t) (good t e).ids }
