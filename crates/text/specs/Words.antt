-- TEXT-3: the lines of a text and the words of a line.
use Rattle.std.specs.Prelude.{Bool, true, false, cond, ◌&&◌, List, [], ◌∷◌, ◌++◌, ℕ, eqb}

-- TEXT-3: a space in ASCII
abbrev pub space : ℕ
space = 32

-- TEXT-3: a newline
abbrev pub newline : ℕ
newline = 10

-- TEXT-3: the first piece with characters before it
abbrev pub ahead : List ℕ → List (List ℕ) → List (List ℕ)
ahead xs [] = xs ∷ []
ahead xs (w ∷ ws) = (xs ++ w) ∷ ws

-- TEXT-3: characters cut at each separator
unfoldable pub cut : (mark : ℕ) → List ℕ → List (List ℕ)
cut mark [] = [] ∷ []
cut mark (c ∷ rest) = cond (eqb c mark) ([] ∷ cut mark rest) (ahead (c ∷ []) (cut mark rest))

-- TEXT-3: the words of a line
abbrev pub words : List ℕ → List (List ℕ)
words line = cut space line

-- TEXT-3: the lines of a text, and what follows the last newline
abbrev pub lines : List ℕ → List (List ℕ)
lines text = cut newline text

-- TEXT-3: a test of a word
abbrev pub Test : Type 0
Test = List ℕ → Bool

-- TEXT-3: as many words as tests, and each passes its own
unfoldable pub pass : List Test → List (List ℕ) → Bool
pass [] [] = true
pass [] (w ∷ ws) = false
pass (t ∷ ts) [] = false
pass (t ∷ ts) (w ∷ ws) = t w && pass ts ws

-- TEXT-3: the same characters
unfoldable pub same : List ℕ → List ℕ → Bool
same [] [] = true
same [] (y ∷ ys) = false
same (x ∷ xs) [] = false
same (x ∷ xs) (y ∷ ys) = eqb y x && same xs ys
