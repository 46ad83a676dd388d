-- TABLE-8: parts of lists, by their places.
use Rattle.std.specs.Prelude.{List, ◌++◌, ℕ, ◌+◌, length, take, drop}

-- TABLE-8: n elements from a place on
abbrev pub part : {A : Type 0} → (first count : ℕ) → List A → List A
part first count l = take count (drop first l)

-- TABLE-8, SEND-4: a list with other elements from a place on
abbrev pub over : {A : Type 0} → List A → (place : ℕ) → List A → List A
over b k r = take k b ++ r ++ drop (k + length r) b
