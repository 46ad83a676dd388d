-- The rows of a message, four octets for each: one more, and none left; and the length of a message of good form.
use mathlib.Core.Path.{◌≡◌, refl}
use mathlib.Core.Bool.{true}
use mathlib.Core.List.{List, [], ◌∷◌}
use Prim.Native.Nat.{ℕ, suc, ◌+◌, ◌≤◌, ◌<◌}
use native.Mathlib.Numerals.{add-one, add-two}
use native.Mathlib.Omega.{arith}
use borrow.Author.Tests.{leb-true, eqb-true}
use lib.Dec.{leb, eqb}
use lib.ListN.{length, drop, length-drop}
use lib.Seq.{drop-cons}
use Rattle.lists.proofs.Tests.{both}
use Rattle.quantity.specs.Words.{signed16}
use Rattle.wire.specs.Octets.{octet_at, two_at}
use Rattle.wire.specs.Hello.{fixed_length, nhosts_place, hello_length, hello_form}
use Rattle.text.specs.Numbers.{Row, rows_of}

abbrev pub row_at : List ℕ → ℕ → Row
row_at message i = record { delay = two_at message i; offset = signed16 (two_at message (i + 2)) }

pub rows_more : (m : List ℕ) (i : ℕ) → i + 3 < length m → rows_of (drop i m) ≡ row_at m i ∷ rows_of (drop (i + 4) m)
unfolding rows_of
rows_more m i h =
    let h₀ : i < length m = omega arith in
    let h₁ : suc i < length m = omega arith in
    let h₂ : suc (suc i) < length m = omega arith in
    let h₃ : suc (suc (suc i)) < length m = omega arith in
    let e₃ : i + 2 + 1 ≡ suc (suc (suc i)) = omega arith in
    let e₄ : i + 4 ≡ suc (suc (suc (suc i))) = omega arith in
    rw (e₃, e₄, add-one, add-two, drop-cons m i 0, drop-cons m (suc i) 0, drop-cons m (suc (suc i)) 0, drop-cons m (suc (suc (suc i))) 0)

few : (l : List ℕ) → length l ≤ 3 → rows_of l ≡ []
unfolding rows_of
few [] h = refl
few (a ∷ []) h = refl
few (a ∷ b ∷ []) h = refl
few (a ∷ b ∷ c ∷ []) h = refl
few (a ∷ b ∷ c ∷ d ∷ l) h = absurd (omega arith)

pub rows_none : (m : List ℕ) (i : ℕ) → length m ≤ i + 3 → rows_of (drop i m) ≡ []
rows_none m i h = few (drop i m) (rw length-drop (omega arith))

-- a message of good form is as long as its NHOSTS says
pub good_length : (m : List ℕ) → hello_form m ≡ true → (fixed_length ≤ length m) × (length m ≡ hello_length (octet_at m nhosts_place))
unfolding hello_form
good_length m e =
    let p = both (leb fixed_length (length m)) (eqb (length m) (hello_length (octet_at m nhosts_place))) e in
    (leb-true _ _ p.0, eqb-true _ _ p.1)
