-- A list padded to a length with one element: one element more, one replaced, and two lists.
use mathlib.Core.Path.{◌≡◌, ◌∙◌, sym, ap, refl}
use mathlib.Core.List.{List, [], ◌∷◌, ◌++◌, append_assoc}
use Prim.Native.Nat.{ℕ, suc, ◌+◌, ◌-◌, ◌<◌}
use native.Mathlib.Omega.{arith}
use lib.ListN.{length, take, drop, set, replicate, length-append, length-set}
use lib.Seq.{take_at, drop-append-add, set-append_left, set-append_seam, append_snoc}
use Rattle.std.proofs.lemmas.List.{drop-replicate}

module _ {A : Type 0} (z : A) (m : ℕ) where
  pub one_more : (xs : List A) (a : A) → length xs < m
      → set (xs ++ replicate (m - length xs) z) (length xs) a ≡ xs ++ (a ∷ []) ++ replicate (m - length (xs ++ (a ∷ []))) z
  one_more xs a h =
      let k : m - length xs ≡ suc (m - (length xs + 1)) = omega arith in
      let ys : List A = replicate (m - (length xs + 1)) z in
      ap (λ (j : ℕ). set (xs ++ replicate j z) (length xs) a) k
      ∙ set-append_seam xs z ys a ∙ sym (append_snoc xs a ys)
      ∙ ap (λ (j : ℕ). xs ++ (a ∷ []) ++ replicate (m - j) z) (sym (length-append xs (a ∷ [])))

  pub in_place : (xs : List A) (a : A) (i : ℕ) → i < length xs
      → set (xs ++ replicate (m - length xs) z) i a ≡ set xs i a ++ replicate (m - length (set xs i a)) z
  in_place xs a i h =
      set-append_left xs (replicate (m - length xs) z) i a h
      ∙ ap (λ (j : ℕ). set xs i a ++ replicate (m - j) z) (sym (length-set xs i a))

  -- a second list put after the first
  pub appended : (xs ys : List A)
      → take (length xs) (xs ++ replicate (m - length xs) z) ++ (ys ++ drop (length xs + length ys) (xs ++ replicate (m - length xs) z))
      ≡ xs ++ ys ++ replicate (m - length (xs ++ ys)) z
  appended xs ys =
      let zs : List A = replicate (m - length xs) z in
      let left : m - length xs - length ys ≡ m - length (xs ++ ys) = omega (arith, length-append xs ys) in
      ap (λ (l : List A). l ++ (ys ++ drop (length xs + length ys) (xs ++ zs))) (take_at xs zs (length xs) refl)
      ∙ ap (λ (l : List A). xs ++ (ys ++ l)) (drop-append-add xs zs (length ys) ∙ drop-replicate (length ys) (m - length xs) z ∙ ap (λ (j : ℕ). replicate j z) left)
      ∙ sym (append_assoc xs ys (replicate (m - length (xs ++ ys)) z))
