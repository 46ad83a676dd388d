-- A number's width is that of the fewest digits that hold it.
use mathlib.Core.Path.{◌≡◌}
use Prim.Native.Nat.{ℕ, ◌-◌, ◌^◌, ◌≤◌, ◌<◌}
use native.Mathlib.Omega.{arith}
use borrow.Author.Tests.{ltb-true, ltb-false}
use lib.Dec.{ltb}
use lib.ListN.{length}
use Rattle.lists.proofs.Tests.{either}
use Rattle.text.specs.Numerals.{width, numeral}
use Rattle.text.proofs.Puts.{digits_length}

pub record Held (n w : ℕ) : Type 0 where
  pub some : 0 < w
  pub few : w ≤ 10
  pub enough : n < 10 ^ 10 → n < 10 ^ w
  pub fewest : 1 < w → 10 ^ (w - 1) ≤ n

pub width_held : (n : ℕ) → Held n (width n)
unfolding width
width_held n =
    either (Held n) (ltb n 10) 1 _ (λ t. let h = ltb-true n 10 t in omega arith) (λ f₁. let g₁ = ltb-false n 10 f₁ in
    either (Held n) (ltb n 100) 2 _ (λ t. let h = ltb-true n 100 t in omega arith) (λ f₂. let g₂ = ltb-false n 100 f₂ in
    either (Held n) (ltb n 1000) 3 _ (λ t. let h = ltb-true n 1000 t in omega arith) (λ f₃. let g₃ = ltb-false n 1000 f₃ in
    either (Held n) (ltb n 10000) 4 _ (λ t. let h = ltb-true n 10000 t in omega arith) (λ f₄. let g₄ = ltb-false n 10000 f₄ in
    either (Held n) (ltb n 100000) 5 _ (λ t. let h = ltb-true n 100000 t in omega arith) (λ f₅. let g₅ = ltb-false n 100000 f₅ in
    either (Held n) (ltb n 1000000) 6 _ (λ t. let h = ltb-true n 1000000 t in omega arith) (λ f₆. let g₆ = ltb-false n 1000000 f₆ in
    either (Held n) (ltb n 10000000) 7 _ (λ t. let h = ltb-true n 10000000 t in omega arith) (λ f₇. let g₇ = ltb-false n 10000000 f₇ in
    either (Held n) (ltb n 100000000) 8 _ (λ t. let h = ltb-true n 100000000 t in omega arith) (λ f₈. let g₈ = ltb-false n 100000000 f₈ in
    either (Held n) (ltb n 1000000000) 9 10 (λ t. let h = ltb-true n 1000000000 t in omega arith) (λ f₉. let g₉ = ltb-false n 1000000000 f₉ in omega arith)))))))))

pub numeral_length : (n : ℕ) → length (numeral n) ≡ width n
numeral_length n = digits_length (width n) n
