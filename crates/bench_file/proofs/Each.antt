-- Tests of all elements by std's `all`: each is the one of the definitions.
use mathlib.Core.Path.{◌≡◌, refl, ◌∙◌}
use mathlib.Core.Bool.{Bool}
use mathlib.Core.List.{List, [], ◌∷◌}
use Prim.Native.Nat.{ℕ, zero, suc}
use native.Mathlib.Numerals.{add-one}
use native.Mathlib.Omega.{arith}
use denote.Param.Members.{Mut}
use Rattle.std.specs.declared.ops.Range.{Range}
use Rattle.std.specs.Fn.{Called}
use Rattle.std.specs.Iterator.{ChecksAll}
use Rattle.std.proofs.iter.Yields.{nat_range_steps}
use Rattle.std.specs.List.{list_all, range_with_len}
use Rattle.std.proofs.lemmas.Iterator.{YieldsList-from_range}
use Rattle.std.proofs.lemmas.Iterator.Search.{all_from_yields_List}
use Rattle.table.specs.Forms.{every, up_from}

-- std's test of all elements is the one of the definitions
pub every_is : {A : Type 0} → (test : A → Bool) (l : List A) → list_all test l ≡ every test l
every_is test [] = refl
every_is test (x ∷ l) = rw (every_is test l)

-- and its numbers in a row are those of the definitions
every_up : (test : ℕ → Bool) (first count : ℕ) → list_all test (range_with_len first count) ≡ every test (up_from first count)
every_up test k zero = refl
every_up test k (suc n) = rw (add-one, every_up test (suc k) n)

-- what `all` answers of the numbers below n, from what a call of its closure gives
pub all_below : {F : Type 0} {g : Mut F (ℕ × Unit {0}) Bool} (test : ℕ → Bool) (n : ℕ) {u : Range ℕ} {f : F} {r : Bool}
    → ChecksAll nat_range_steps g record { start = 0; end = n } f r u
    → ((x : ℕ) (b : Bool) (q : F) → Called g f (x, tt) b q → (q ≡ f) × (b ≡ test x)) → r ≡ every test (up_from 0 n)
all_below test n {u} {f} {r} ran gives = all_from_yields_List test u f r ran (YieldsList-from_range 0 n n refl (omega arith)) gives ∙ every_up test 0 n
