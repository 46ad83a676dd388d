-- CAPTURE-1: a capture: the number of packets, their places, the packets.
use Rattle.std.specs.Prelude.{Bool, true, ◌&&◌, ℕ, ◌+◌, ◌*◌, leb, eqb, length}
use mathlib.Core.List.{List, [], ◌∷◌, ◌++◌, map, flatten}
use Rattle.lists.specs.Lists.{part}
use Rattle.wire.specs.Octets.{four, four_at}
use Rattle.capture.specs.Search.{Span, hits, stretches}

-- CAPTURE-1: the octets of a number
abbrev pub number_length : ℕ
number_length = 4

-- CAPTURE-1: the octets of the number and n places
abbrev pub heading_length : (packets : ℕ) → ℕ
heading_length n = number_length + number_length * n

-- ---- the capture of some packets

-- CAPTURE-1: the places of consecutive packets
abbrev pub places : (first : ℕ) → List (List ℕ) → List ℕ
places at [] = []
places at (p ∷ ps) = four at ++ places (at + length p) ps

-- CAPTURE-1: the capture of a list of packets
unfoldable pub capture_of : List (List ℕ) → List ℕ
capture_of ps = four (length ps) ++ places (heading_length (length ps)) ps ++ flatten ps

-- ----

-- CAPTURE-4: the octets of a packet found
abbrev pub octets_of : List ℕ → Span → List ℕ
octets_of input h = part h.start h.size input

-- CAPTURE-4: the octets of all packets found
abbrev pub packets_of : List ℕ → List Span → List (List ℕ)
packets_of input hs = map (octets_of input) hs

-- CAPTURE-4: the capture of the packets found, in order
unfoldable pub recovered_capture : List ℕ → List ℕ
recovered_capture input = capture_of (packets_of input (hits input))

-- ----

-- CAPTURE-4: start and length of each stretch, as octets
abbrev pub span_octets : List Span → List ℕ
span_octets [] = []
span_octets (h ∷ hs) = four h.start ++ four h.size ++ span_octets hs

-- CAPTURE-4: the list of stretches
unfoldable pub stretch_list : List ℕ → List ℕ
stretch_list input = span_octets (stretches input)

-- ----

-- CAPTURE-5: are the places in the input those of these packets?
unfoldable pub places_are : List ℕ → (place : ℕ) → List Span → Bool
places_are input i [] = true
places_are input i (h ∷ hs) =
    leb (i + number_length) (length input) && eqb (four_at input i) h.start && places_are input (i + number_length) hs

-- CAPTURE-5: are the input's number and places those of the packets found?
unfoldable pub places_true_of : List ℕ → Bool
places_true_of input =
    leb number_length (length input) && eqb (four_at input 0) (length (hits input)) && places_are input number_length (hits input)
