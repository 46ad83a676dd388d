-- What `all` over a slice and `map` over an array come to.
use Rattle.std.proofs.Common.{◌≡◌, refl, sym, ap, ◌∙◌, ℕ, Bool, ◌&&◌, List, [], ◌∷◌, length, map, arith}
use Rattle.std.specs.List.{list_all}
use Rattle.std.specs.Fn.{Called}
use Rattle.std.specs.Array.{IsMapOf}
use Rattle.std.proofs.lemmas.List.{same_lists, length-map, get_or-map}
use denote.Param.Members.{Mut}
use Rattle.table.specs.Forms.{every}

pub all_every : {A : Type 0} (test : A → Bool) (l : List A) → list_all test l ≡ every test l
all_every test [] = refl
all_every test (a ∷ rest) = ap (λ (b : Bool). test a && b) (all_every test rest)

-- a closure that computes h at each element
pub mapped : {F A B : Type 0} {g : Mut F (A × Unit {0}) B} (h : A → B) {f : F} (xs : List A) (ys : List B) {n : ℕ} (d : A) → IsMapOf g f xs ys n → length xs ≡ length ys
    → ((x : A) (y : B) (p q : F) → Called g p (x, tt) y q → y ≡ h x) → ys ≡ map h xs
mapped h xs ys {n} d m long computes =
    same_lists ys (map h xs) (sym long ∙ sym (length-map xs h))
    (λ k e below.
    let made = m.at k d e (omega (arith, m.long)) in
    computes _ _ made.0 made.1 made.2 ∙ sym (get_or-map h xs k d e (omega arith)))
