-- The rest of a list's first n from place i on: each turn of a loop over them takes the first off.
use mathlib.Core.Path.{◌≡◌, sym, ◌∙◌}
use mathlib.Core.List.{List, [], ◌∷◌, map}
use Prim.Native.Nat.{ℕ, ◌+◌, ◌≤◌, ◌<◌}
use native.Mathlib.Omega.{arith}
use native.Mathlib.Numerals.{add-one}
use lib.ListN.{length, get_or, take, drop, drop_of_length-le, length-map, length-take}
use lib.Seq.{drop-cons, get_or-take, length-take-le, take-take, take-length}

-- the length of a field that is an array of structs, from what owning it tells
pub mapped_long : (X Y : Type 0) (f : X → Y) (l : List X) (n : ℕ) → length (map f l) ≡ n → length l ≡ n
mapped_long X Y f l n e = sym (length-map l f) ∙ e

-- a count of what is there takes the same
pub counted : {A : Type 0} (l : List A) (k n : ℕ) → n ≡ length (take k l) → take n l ≡ take k l
counted l k n e =
    let m : length (take k l) ≤ k = omega (arith, length-take k l) in
    rw e (sym (take-take (length (take k l)) k l m) ∙ take-length (take k l))

module _ {A : Type 0} (l : List A) (n i : ℕ) (inside : n ≤ length l) where
  pub rest_cons : (d : A) → i < n → drop i (take n l) ≡ get_or l i d ∷ drop (i + 1) (take n l)
  rest_cons d h =
      let m : length (take n l) ≡ n = length-take-le n l inside in
      let q : i < length (take n l) = omega arith in
      rw (add-one, drop-cons (take n l) i d, get_or-take n l i d h)

  pub rest_none : n ≤ i → drop i (take n l) ≡ []
  rest_none h =
      let m : length (take n l) ≡ n = length-take-le n l inside in
      let q : length (take n l) ≤ i = omega arith in
      drop_of_length-le (take n l) q
