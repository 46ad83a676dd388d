-- Tests that are joined, turned or chosen by: what their value says of their parts.
use mathlib.Core.Path.{◌≡◌, refl}
use mathlib.Core.Bool.{Bool, true, false, cond, not, ◌&&◌, ◌||◌, true≢false, false≢true}
use mathlib.Core.List.{List, [], ◌∷◌}

-- what holds of both branches, each under its test, holds of the choice
pub either : {A : Type 0} (P : A → Type 0) (t : Bool) (a b : A) → (t ≡ true → P a) → (t ≡ false → P b) → P (cond t a b)
either P true a b f g = f refl
either P false a b f g = g refl

pub both : (x y : Bool) → (x && y) ≡ true → (x ≡ true) × (y ≡ true)
both true y e = (refl, e)
both false y e = absurd (false≢true e)

pub neither : (x y : Bool) → (x || y) ≡ false → (x ≡ false) × (y ≡ false)
neither true y e = absurd (true≢false e)
neither false y e = (refl, e)

pub is_not : (b : Bool) → not b ≡ true → b ≡ false
is_not true e = absurd (false≢true e)
is_not false e = refl

pub is_so : (b : Bool) → not b ≡ false → b ≡ true
is_so true e = refl
is_so false e = absurd (true≢false e)

-- a row of tests joined by `&&`: each of them holds, as a tuple that ends in `tt`
abbrev pub joined : Bool → List Bool → Bool
joined first [] = first
joined first (b ∷ rest) = joined (first && b) rest

abbrev pub Hold : List Bool → Type 0
Hold [] = Unit {0}
Hold (b ∷ rest) = (b ≡ true) × Hold rest

pub each : (first : Bool) (rest : List Bool) → joined first rest ≡ true → (first ≡ true) × Hold rest
each first [] e = (e, tt)
each first (b ∷ rest) e =
    let later = each (first && b) rest e in
    let here = both first b later.0 in
    (here.0, (here.1, later.1))
