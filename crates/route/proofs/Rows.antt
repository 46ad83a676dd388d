-- The search and the test of the ids, over the library's functions of lists.
use Rattle.std.specs.Prelude.{Option, Some}
use Rattle.std.specs.List.{find, list_all}
use Rattle.std.specs.Option.{option_map}
use mathlib.Core.Path.{◌≡◌, refl, ap}
use mathlib.Core.Bool.{Bool, true, false, cond, ◌&&◌}
use mathlib.Core.List.{List, [], ◌∷◌}
use Prim.Native.Nat.{ℕ}
use lib.Dec.{ltb}
use Rattle.route.specs.declared.Net.{Net}
use Rattle.route.specs.declared.Row.{Row}
use Rattle.route.specs.Find.{ends, search, ids_below}

-- the id of a row that was found
abbrev pub host_of : Option Row → Option ℕ
host_of = option_map (λ (r : Row). r.host)

one_row : (b : Bool) (r : Row) (s : Option ℕ) (o : Option Row) → s ≡ host_of o → cond b (Some r.host) s ≡ host_of (cond b (Some r) o)
one_row true r s o e = refl
one_row false r s o e = e

pub first_found : (net : Net) (rows : List Row) → search net rows ≡ host_of (find (ends net) rows)
unfolding search
first_found net [] = refl
first_found net (r ∷ rows) = one_row (ends net r) r (search net rows) (find (ends net) rows) (first_found net rows)

pub all_below : (n : ℕ) (rows : List Row) → list_all (λ (r : Row). ltb r.host n) rows ≡ ids_below n rows
all_below n [] = refl
all_below n (r ∷ rows) = ap (λ (b : Bool). ltb r.host n && b) (all_below n rows)
