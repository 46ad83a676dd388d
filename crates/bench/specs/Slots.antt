-- BENCH-5: a slot has 1,056 octets: the packet's length in two, 0 for an empty slot, the cable and the end it was sent from, and space for the longest packet.
use Rattle.std.specs.Prelude.{Bool, ◌&&◌, ◌||◌, List, [], ◌∷◌, ◌++◌, map, ℕ, ◌+◌, ◌*◌, ◌-◌, ltb, leb, eqb, take, drop}
use Rattle.lists.specs.Lists.{part, over}
use Rattle.octets.specs.Octets.{two, octet_at, number_at}
use Rattle.table.specs.Forms.{every, up_from}
use Rattle.host.specs.Guard.{longest}
use Rattle.bench_file.specs.declared.Header.{Header}
use Rattle.bench_file.specs.declared.End.{End}
use Rattle.bench.specs.declared.slots.Label.{Label}
use Rattle.bench_file.specs.Records.{end_at}
use Rattle.bench_file.specs.Absent.{slots}

-- BENCH-5: the octets before the packet
abbrev pub label_length : ℕ
label_length = 4

-- BENCH-5: the octets of a slot
abbrev pub slot_length : ℕ
slot_length = label_length + longest

-- BENCH-5: where a slot begins
abbrev pub slot_place : (slot : ℕ) → ℕ
slot_place t = slot_length * t

-- BENCH-5: where its packet begins
abbrev pub room_place : (slot : ℕ) → ℕ
room_place t = slot_place t + label_length

-- ---- what a slot holds

-- BENCH-5: length, cable and end of a slot's packet
abbrev pub label_of : (slot : ℕ) → List ℕ → Label
label_of t o =
    record { length = number_at o (slot_place t) 2; cable = octet_at o (slot_place t + 2); end = octet_at o (slot_place t + 3) }

-- BENCH-5: a slot's packet
abbrev pub packet_of : (slot : ℕ) → List ℕ → List ℕ
packet_of t o = part (room_place t) (label_of t o).length o

-- BENCH-5: a slot's space, which a send takes as its buffer
abbrev pub room_of : (slot : ℕ) → List ℕ → List ℕ
room_of t o = part (room_place t) longest o

-- BENCH-5: is the slot empty?
abbrev pub empty : (slot : ℕ) → List ℕ → Bool
empty t o = eqb (label_of t o).length 0

-- BENCH-5: the other end of the packet's cable, by the file of this run
abbrev pub far_end : (file : List ℕ) → Header → (slot : ℕ) → List ℕ → End
far_end file h t o = end_at file h (label_of t o).cable (1 - (label_of t o).end)

-- ---- what is put there

-- BENCH-5: the slots with a buffer in one
abbrev pub with_room : (slot : ℕ) → (buffer : List ℕ) → List ℕ → List ℕ
with_room t buffer o = over o (room_place t) buffer

-- BENCH-5: the slots with length, cable and end in one
abbrev pub with_label : (slot length cable end : ℕ) → List ℕ → List ℕ
with_label t n c e o = over o (slot_place t) (two n ++ (c ∷ e ∷ []))

-- BENCH-1: the first n numbers zero
abbrev pub zeros : ℕ → List ℕ → List ℕ
zeros n o = map (λ (_ : ℕ). 0) (take n o) ++ drop n o

-- ----

-- BENCH-8: is a slot empty, or are length, cable and end in the file's range?
abbrev pub label_good : Header → Label → Bool
label_good h l = eqb l.length 0 || (leb l.length longest && (ltb l.cable h.cables && leb l.end 1))

-- BENCH-8: is a slot good?
abbrev pub slot_good : Header → List ℕ → (slot : ℕ) → Bool
slot_good h o t = label_good h (label_of t o)

-- BENCH-8: are all slots good?
unfoldable pub slots_good : Header → List ℕ → Bool
slots_good h o = every (slot_good h o) (up_from 0 slots)
