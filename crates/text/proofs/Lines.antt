-- The lines of a message's text, put together from what was put.
use mathlib.Core.Path.{◌≡◌, sym, ap, ◌∙◌}
use mathlib.Core.List.{List, [], ◌∷◌, ◌++◌}
use Prim.Native.Nat.{ℕ, ◌+◌, ◌≤◌, ◌<◌}
use native.Mathlib.Omega.{arith}
use lib.ListN.{length, drop, length-append}
use Rattle.lists.specs.Lists.{over}
use Rattle.lists.proofs.Parts.{over_twice, over_nothing}
use Rattle.wire.specs.Octets.{two_at, four_at}
use Rattle.text.specs.Numerals.{numeral}
use Rattle.text.specs.Words.{space, newline}
use Rattle.text.specs.Numbers.{rows_of, numbers_of}
use Rattle.text.specs.Text.{hello, first_line, row_line, row_lines}
use Rattle.text.specs.code.Put.{Put, row, times_text}
use Rattle.text.proofs.Puts.{put, put_then}
use Rattle.text.proofs.Rows.{row_at, rows_more, rows_none}

-- the first line
pub times_put : {b l₀ l₁ l₂ l₃ : List ℕ} {p₁ p₂ p₃ d t s : ℕ} (message : List ℕ) → Put b l₀ 0 5 hello
    → d ≡ two_at message 2 → Put l₀ l₁ 5 p₁ (space ∷ numeral d)
    → t ≡ four_at message 4 → Put l₁ l₂ p₁ p₂ (space ∷ numeral t)
    → s ≡ two_at message 8 → Put l₂ l₃ p₂ p₃ (space ∷ numeral s)
    → Put b l₃ 0 p₃ (times_text (numbers_of message))
unfolding numbers_of
times_put message h e₁ f₁ e₂ f₂ e₃ f₃ =
    put_then (put_then (put_then h (rw e₁ at f₁)) (rw e₂ at f₂)) (rw e₃ at f₃)

pub first_put : {b l₁ l₂ l₃ l₄ : List ℕ} {p₁ p₂ p₃ p₄ : ℕ} (message : List ℕ) → Put b l₁ 0 p₁ (times_text (numbers_of message))
    → Put l₁ l₂ p₁ p₂ (space ∷ numeral (numbers_of message).base)
    → Put l₂ l₃ p₂ p₃ (space ∷ numeral (numbers_of message).count)
    → Put l₃ l₄ p₃ p₄ (newline ∷ [])
    → Put b l₄ 0 p₄ (first_line (numbers_of message))
first_put message f₁ f₂ f₃ f₄ = put_then (put_then (put_then f₁ f₂) f₃) f₄

-- the rows
abbrev pub lines_from : List ℕ → ℕ → List ℕ
lines_from message i = row_lines (rows_of (drop i message))

pub lines_more : (m : List ℕ) (i : ℕ) → i + 3 < length m → lines_from m i ≡ row_line (row_at m i) ++ lines_from m (i + 4)
unfolding row_lines
lines_more m i h = ap row_lines (rows_more m i h)

pub lines_none : (m : List ℕ) (i : ℕ) → length m ≤ i + 3 → lines_from m i ≡ []
unfolding row_lines
lines_none m i h = ap row_lines (rows_none m i h)

-- what is left to put, over what was put, makes the whole
pub record HostAfter (m b a : List ℕ) (at end i : ℕ) : Type 0 where
  pub places : end + length (lines_from m i) ≡ at + length (lines_from m 12)
  pub buffer : over a end (lines_from m i) ≡ over b at (lines_from m 12)

pub after_less : {m b a a₂ : List ℕ} {at end end₂ i d o : ℕ} → i + 3 < length m → HostAfter m b a at end i
    → d ≡ two_at m i → o ≡ two_at m (i + 2) → Put a a₂ end end₂ (row d o)
    → HostAfter m b a₂ at end₂ (i + 4)
after_less {m} {b} {a} {a₂} {at} {end} {end₂} {i} h l e₁ e₂ f =
    let g : Put a a₂ end end₂ (row_line (row_at m i)) = rw (e₁, e₂) at f in
    let e = lines_more m i h in
    let q = length-append (row_line (row_at m i)) (lines_from m (i + 4)) in
    record {
      places = omega (arith, ap length e, l.places, g.behind, q);
      buffer = rw (g.buffer, g.behind) (over_twice end a (row_line (row_at m i)) (omega (arith, g.inside, g.behind)) (lines_from m (i + 4)) ∙ rw e at l.buffer);
    }

pub all_put : {m b a : List ℕ} {at end i : ℕ} → length m ≤ i + 3 → end ≤ length b → HostAfter m b a at end i → Put b a at end (lines_from m 12)
all_put {m} {b} {a} {at} {end} {i} h k l =
    let e = lines_none m i h in
    put b a at end (lines_from m 12) (omega (arith, ap length e, l.places)) k (sym (over_nothing end a) ∙ rw e at l.buffer)
