-- The words of a line in turn: each field takes a test and a word off, and the last word is all that is left.
use mathlib.Core.Path.{◌≡◌, ◌∙◌}
use mathlib.Core.Bool.{true, false}
use mathlib.Core.List.{List, [], ◌∷◌}
use Prim.Native.Nat.{ℕ}
use native.Mathlib.Omega.{arith}
use Rattle.std.specs.Prelude.{Option, None, Some}
use Rattle.text.specs.declared.scan.Offset.{Offset}
use Rattle.text.specs.declared.scan.First.{First}
use Rattle.text.specs.Numerals.{is_numeral, is_signed, value}
use Rattle.text.specs.Words.{space, words, pass, same}
use Rattle.text.specs.Text.{hello, first_tests, row_tests}
use Rattle.text.specs.code.Scan.{Stands, CutAt, Signed, NoField, Field, RowGood, number_tests, FirstGood, FirstRead, LineRead}
use Rattle.text.proofs.Readings.{field_passes, and_false}
use Rattle.text.proofs.Frees.{cut_free, numeral_free, signed_free, last_word}

numeral_last : (s : List ℕ) → pass (is_numeral ∷ []) (words s) ≡ is_numeral s
numeral_last = last_word is_numeral (λ s e. numeral_free space s (omega arith) e)

signed_last : (s : List ℕ) → pass (is_signed ∷ []) (words s) ≡ is_signed s
signed_last = last_word is_signed (λ s e. signed_free space s (omega arith) e)

-- ---- a row

pub row_bad : {s rest : List ℕ} {n : ℕ} → Field s n rest → is_signed rest ≡ false → pass row_tests (words s) ≡ false
row_bad {s} {rest} f e = field_passes (is_signed ∷ []) f ∙ signed_last rest ∙ e

pub row_there : {s rest : List ℕ} {n : ℕ} (o : Offset) → Field s n rest → Signed rest o → RowGood (words s) (record { delay = n; offset = o })
row_there {s} {rest} o f q =
    let w : words rest ≡ rest ∷ [] = cut_free space rest (signed_free space rest (omega arith) q.signed) in
    record {
      passes = field_passes (is_signed ∷ []) f ∙ signed_last rest ∙ q.signed;
      delay = rw f.split f.number;
      sign = rw (f.split, w) q.sign;
      number = rw (f.split, w) q.number;
    }

-- ---- the numbers of the first line

module _ {s s₁ : List ℕ} {date : ℕ} (f₁ : Field s date s₁) where
  pub numbers_second : NoField s₁ → pass number_tests (words s) ≡ false
  numbers_second e = field_passes (is_numeral ∷ is_numeral ∷ is_numeral ∷ is_numeral ∷ []) f₁ ∙ e is_numeral (is_numeral ∷ is_numeral ∷ [])

  module _ {s₂ : List ℕ} {time : ℕ} (f₂ : Field s₁ time s₂) where
    two_passed : pass number_tests (words s) ≡ pass (is_numeral ∷ is_numeral ∷ is_numeral ∷ []) (words s₂)
    two_passed = field_passes (is_numeral ∷ is_numeral ∷ is_numeral ∷ is_numeral ∷ []) f₁ ∙ field_passes (is_numeral ∷ is_numeral ∷ is_numeral ∷ []) f₂

    pub numbers_third : NoField s₂ → pass number_tests (words s) ≡ false
    numbers_third e = two_passed ∙ e is_numeral (is_numeral ∷ [])

    module _ {s₃ : List ℕ} {tsp : ℕ} (f₃ : Field s₂ tsp s₃) where
      three_passed : pass number_tests (words s) ≡ pass (is_numeral ∷ is_numeral ∷ []) (words s₃)
      three_passed = two_passed ∙ field_passes (is_numeral ∷ is_numeral ∷ []) f₃

      pub numbers_fourth : NoField s₃ → pass number_tests (words s) ≡ false
      numbers_fourth e = three_passed ∙ e is_numeral []

      module _ {s₄ : List ℕ} {base : ℕ} (f₄ : Field s₃ base s₄) where
        four_passed : pass number_tests (words s) ≡ is_numeral s₄
        four_passed = three_passed ∙ field_passes (is_numeral ∷ []) f₄ ∙ numeral_last s₄

        pub numbers_last : is_numeral s₄ ≡ false → pass number_tests (words s) ≡ false
        numbers_last e = four_passed ∙ e

        pub numbers_there : (count : ℕ) → is_numeral s₄ ≡ true → Stands count (value s₄)
            → (pass number_tests (words s) ≡ true) × FirstGood (words s) (record { date = date; time = time; tsp = tsp; base = base; count = count })
        numbers_there count t n =
            let w : words s₄ ≡ s₄ ∷ [] = cut_free space s₄ (numeral_free space s₄ (omega arith) t) in
            (four_passed ∙ t, rw (f₁.split, f₂.split, f₃.split, f₄.split, w) (record { date = f₁.number; time = f₂.number; tsp = f₃.number; base = f₄.number; count = n }))

-- ---- the first line

pub line_alone : (s : List ℕ) → words s ≡ s ∷ [] → pass first_tests (words s) ≡ false
unfolding pass
line_alone s e = rw e (and_false (same hello s))

pub line_other : {s word rest : List ℕ} → CutAt space s word rest → same hello word ≡ false → pass first_tests (words s) ≡ false
unfolding pass
line_other f h = rw (f.split, h)

pub line_read : {s word rest : List ℕ} (r : Option First) → CutAt space s word rest → same hello word ≡ true → FirstRead (words rest) r → LineRead (words s) r
unfolding pass
line_read None f h e = rw (f.split, h, e)
line_read (Some r) f h g = rw (f.split, h) g
