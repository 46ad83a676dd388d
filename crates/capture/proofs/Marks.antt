-- The mark is true exactly if the input has a place for each start and each place is that start, because a place for the last start is one for all.
use mathlib.Core.Path.{◌≡◌, refl, sym, ap, ◌∙◌}
use mathlib.Core.Bool.{Bool, true, false, ◌&&◌}
use mathlib.Core.List.{List, [], ◌∷◌}
use Prim.Native.Nat.{ℕ, suc, ◌+◌, ◌*◌, ◌≤◌, ◌<◌}
use native.Mathlib.Numerals.{add-one}
use native.Mathlib.Omega.{arith}
use borrow.Author.Tests.{le-leb, leb-true, eq-eqb, eqb-true, ne_eqb}
use lib.Dec.{leb, eqb}
use lib.ListN.{length, drop, get_or, drop_of_length-le}
use lib.Seq.{drop-cons}
use Rattle.lists.proofs.Tests.{both}
use Rattle.wire.specs.Octets.{four_at}
use Rattle.capture.specs.Search.{Span, hits}
use Rattle.capture.specs.Capture.{number_length, heading_length, places_are, places_true_of}
use Rattle.capture.specs.code.Survey.{starts_of}
use Rattle.capture.proofs.Listed.{listed_long}

-- are the numbers from a place on these?
abbrev pub stand_at : List ℕ → (place : ℕ) → List ℕ → Bool
stand_at input i [] = true
stand_at input i (n ∷ ns) = leb (i + number_length) (length input) && eqb (four_at input i) n && stand_at input (i + number_length) ns

places_stand : (input : List ℕ) (i : ℕ) (hs : List Span) → places_are input i hs ≡ stand_at input i (starts_of hs)
unfolding places_are
places_stand input i [] = refl
places_stand input i (h ∷ hs) =
    ap (λ b. leb (i + number_length) (length input) && eqb (four_at input i) h.start && b) (places_stand input (i + number_length) hs)

long_enough : (input : List ℕ) (i : ℕ) (ns : List ℕ) → i ≤ length input → stand_at input i ns ≡ true → i + number_length * length ns ≤ length input
long_enough input i [] h e = omega arith
long_enough input i (n ∷ ns) h e =
    let a = both _ _ e in
    let b = both _ _ a.0 in
    omega (arith, long_enough input (i + number_length) ns (leb-true _ _ b.0) a.1)

not_true : (b : Bool) → (b ≡ true → ⊥) → false ≡ b
not_true true f = absurd (f refl)
not_true false f = refl

-- the starts from the k-th on decide
abbrev pub Left : (input starts : List ℕ) → (k : ℕ) → Type 0
Left input starts k = places_true_of input ≡ stand_at input (heading_length k) (drop k starts)

module _ (input starts : List ℕ) (listed : starts ≡ starts_of (hits input)) where
  mark : places_true_of input ≡ (leb number_length (length input) && eqb (four_at input 0) (length starts) && stand_at input number_length starts)
  unfolding places_true_of
  mark = rw (places_stand input number_length (hits input), ← listed, ← (listed_long input starts listed))

  pub mark_short : length input < heading_length (length starts) → false ≡ places_true_of input
  mark_short h =
      not_true _ (λ e.
      let a = both _ _ (sym mark ∙ e) in
      let b = both _ _ a.0 in
      absurd (omega (arith, long_enough input number_length starts (leb-true _ _ b.0) a.1)))

  pub mark_number : (four_at input 0 ≡ length starts → ⊥) → false ≡ places_true_of input
  mark_number f =
      not_true _ (λ e.
      let a = both _ _ (sym mark ∙ e) in
      f (eqb-true _ _ (both _ _ a.0).1))

  module _ (long : heading_length (length starts) ≤ length input) where
    pub mark_places : four_at input 0 ≡ length starts → Left input starts 0
    mark_places e =
        let l : number_length ≤ length input = omega arith in
        mark ∙ rw (le-leb number_length (length input) l, eq-eqb _ _ e)

    module _ (k : ℕ) (inside : k < length starts) (left : Left input starts k) where
      abbrev rest : List ℕ
      rest = drop (suc k) starts

      here : stand_at input (heading_length k) (drop k starts) ≡ (eqb (four_at input (heading_length k)) (get_or starts k 0) && stand_at input (heading_length k + number_length) rest)
      here =
          let l : heading_length k + number_length ≤ length input = omega arith in
          rw (drop-cons starts k 0 inside, le-leb _ _ l)

      pub mark_wrong : (four_at input (heading_length k) ≡ get_or starts k 0 → ⊥) → false ≡ places_true_of input
      mark_wrong f = sym (left ∙ here ∙ rw (ne_eqb _ _ f))

      pub mark_right : four_at input (heading_length k) ≡ get_or starts k 0 → Left input starts (k + 1)
      mark_right e =
          let p : heading_length k + number_length ≡ heading_length (k + 1) = omega arith in
          left ∙ here ∙ rw (eq-eqb _ _ e, p, add-one k)

  pub mark_true : (k : ℕ) → length starts ≤ k → Left input starts k → true ≡ places_true_of input
  mark_true k h left = sym (left ∙ rw (drop_of_length-le starts h))
