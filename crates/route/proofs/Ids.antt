-- An id that is found is below NHOSTS: on our net by the test there, on another by that of the rows.
use Rattle.std.specs.Prelude.{Option, Some, None}
use mathlib.Core.Path.{◌≡◌}
use mathlib.Core.Bool.{Bool, true, cond, ◌&&◌}
use mathlib.Core.List.{List, [], ◌∷◌}
use Prim.Native.Nat.{ℕ, ◌-◌, ◌<◌}
use borrow.Author.Tests.{ltb-true}
use lib.Dec.{ltb, leb}
use Rattle.lists.proofs.Tests.{either, both}
use Rattle.wire.specs.declared.Address.{Address}
use Rattle.route.specs.declared.Layout.{Layout}
use Rattle.route.specs.declared.Net.{Net}
use Rattle.route.specs.declared.Row.{Row}
use Rattle.route.specs.declared.NetRows.{NetRows}
use Rattle.route.specs.Find.{above_c, same_net, host_octet, local_id, net_of, ends, search, rows_of, find, ids_below}

-- none is found, or an id below n
abbrev Below : ℕ → Option ℕ → Type 0
Below n (Some i) = i < n
Below n None = Unit {0}

local_below : (y : Layout) (a : Address) → Below y.nhosts (local_id y a)
unfolding local_id
local_below y a =
    let id : ℕ = host_octet a - y.address_offset in
    let above : Bool = leb y.address_offset (host_octet a) in
    either (Below y.nhosts) (above && ltb id y.nhosts) (Some id) None
    (λ e. ltb-true id y.nhosts (both above (ltb id y.nhosts) e).1) (λ e. tt)

search_below : (n : ℕ) (net : Net) (rows : List Row) → ids_below n rows ≡ true → Below n (search net rows)
unfolding search
search_below n net [] e = tt
search_below n net (r ∷ rows) e =
    let ids = both (ltb r.host n) (ids_below n rows) e in
    either (Below n) (ends net r) (Some r.host) (search net rows) (λ t. ltb-true _ _ ids.0)
    (λ t. search_below n net rows ids.1)

find_below : (ours : Address) (y : Layout) (t : NetRows) (a : Address) → ids_below y.nhosts (rows_of t) ≡ true
    → Below y.nhosts (find ours y t a)
unfolding find
find_below ours y t a e =
    let other : Option ℕ = search (net_of a) (rows_of t) in
    either (Below y.nhosts) (above_c a) None (cond (same_net ours a) (local_id y a) other) (λ h. tt)
    (λ h.
    either (Below y.nhosts) (same_net ours a) (local_id y a) other (λ k. local_below y a)
    (λ k. search_below y.nhosts (net_of a) (rows_of t) e))

pub local_id_below : (y : Layout) (a : Address) (i : ℕ) → local_id y a ≡ Some i → i < y.nhosts
local_id_below y a i f = rw f at (local_below y a)

pub found_below : (ours : Address) (y : Layout) (t : NetRows) (a : Address) (i : ℕ) → ids_below y.nhosts (rows_of t) ≡ true
    → find ours y t a ≡ Some i → i < y.nhosts
found_below ours y t a i e f = rw f at (find_below ours y t a e)
