-- CAPTURE-2, CAPTURE-3: the search for packets.
use Rattle.std.specs.Prelude.{◌≡◌, Bool, true, false, cond, ◌&&◌, List, [], ◌∷◌, ◌++◌, ℕ, zero, suc, ◌+◌, ◌-◌, ◌≤◌, ◌<◌, leb, ltb, eqb, length, take, drop, Result, Ok, Err}
use Rattle.answer.specs.declared.Answer.{Answer}
use Rattle.wire.specs.declared.Packet.{Packet}
use Rattle.wire.specs.Octets.{two_at}
use Rattle.wire.specs.Ip.{total_place}
use Rattle.wire.specs.Packet.{parse}

-- CAPTURE-4: consecutive octets: the start, counted from octet 0, and how many
pub record Span : Type 0 where
  pub start : ℕ
  pub size : ℕ

-- CAPTURE-4: a start and a size
abbrev pub span : (start size : ℕ) → Span
span s n = record { start = s; size = n }

-- ---- a hit

-- CAPTURE-2: is a packet good?
abbrev pub is_good : Result Packet Answer → Bool
is_good (Ok p) = true
is_good (Err a) = false

-- CAPTURE-2: does a packet pass the tests for 3 to 7?
unfoldable pub passes : List ℕ → Bool
passes packet = is_good (parse packet)

-- CAPTURE-2: the total length of the IP header
abbrev pub total_length : List ℕ → ℕ
total_length octets = two_at octets total_place

-- CAPTURE-2: the length of the packet that the octets begin with; 0 without one
unfoldable pub hit : List ℕ → ℕ
hit octets =
    cond (leb (total_length octets) (length octets) && passes (take (total_length octets) octets)) (total_length octets) 0

-- ---- the search

-- CAPTURE-3: a packet of n octets, if n is not 0
abbrev pub found : (at size : ℕ) → List Span
found at n = cond (eqb n 0) [] (span at n ∷ [])

-- CAPTURE-3: the packets from an octet on; `kept` octets still belong to the last one
unfoldable pub hits_from : (at kept : ℕ) → List ℕ → List Span
hits_from at kept [] = []
hits_from at (suc kept) (o ∷ rest) = hits_from (suc at) kept rest
hits_from at zero (o ∷ rest) = found at (hit (o ∷ rest)) ++ hits_from (suc at) (hit (o ∷ rest) - 1) rest

-- CAPTURE-2: the packets from octet 0 on
unfoldable pub hits : List ℕ → List Span
hits input = hits_from 0 0 input

-- CAPTURE-3: the packets from a place on
abbrev pub hits_at : (place : ℕ) → List ℕ → List Span
hits_at at input = hits_from at 0 (drop at input)

-- CAPTURE-3: the search at one place: continue after a packet, or one octet further
pub record SearchedAt (input : List ℕ) (at : ℕ) : Type 0 where
  pub kept : 0 < hit (drop at input) → hits_at at input ≡ span at (hit (drop at input)) ∷ hits_at (at + hit (drop at input)) input
  pub passed : at < length input → hit (drop at input) ≡ 0 → hits_at at input ≡ hits_at (at + 1) input
  pub ended : length input ≤ at → hits_at at input ≡ []

-- CAPTURE-3: for every input and place
unfoldable pub Searches : Type 0
Searches = (input : List ℕ) → (hits input ≡ hits_at 0 input) × ((at : ℕ) → SearchedAt input at)

-- ----

-- CAPTURE-4: the octets between two places, if any
abbrev pub gap : (from to : ℕ) → List Span
gap a b = cond (ltb a b) (span a (b - a) ∷ []) []

-- CAPTURE-4: the stretches between packets
abbrev pub gaps : (from end : ℕ) → List Span → List Span
gaps from end [] = gap from end
gaps from end (h ∷ hs) = gap from h.start ++ gaps (h.start + h.size) end hs

-- CAPTURE-4: the stretches of an input
unfoldable pub stretches : List ℕ → List Span
stretches input = gaps 0 (length input) (hits input)
