-- What the search for the next hit returns: the hits from a place on are this one and those after it.
use Rattle.std.specs.Prelude.{◌≡◌, List, [], ◌∷◌, ℕ, zero, suc, ◌+◌, ◌≤◌, ◌<◌, length, Option, Some, None}
use Rattle.capture.specs.declared.Hit.{Hit}
use Rattle.capture.specs.Search.{span, hits_at}

-- the length of a packet, if there is one
abbrev pub length_found : ℕ → Option ℕ
length_found zero = None
length_found (suc n) = Some (suc n)

-- from a place on the hits are those from a later place on
pub record NoneBetween (input : List ℕ) (from to : ℕ) : Type 0 where
  pub forward : from ≤ to
  pub inside : to ≤ length input
  pub none : hits_at from input ≡ hits_at to input

-- the first hit from a place on
pub record IsFirst (input : List ℕ) (from : ℕ) (h : Hit) : Type 0 where
  pub forward : from ≤ h.at
  pub inside : h.at + h.size ≤ length input
  pub some : 0 < h.size
  pub first : hits_at from input ≡ span h.at h.size ∷ hits_at (h.at + h.size) input

-- the first hit from a place on, if there is one
abbrev pub IsNext : List ℕ → (from : ℕ) → Option Hit → Type 0
IsNext input from None = hits_at from input ≡ []
IsNext input from (Some h) = IsFirst input from h
