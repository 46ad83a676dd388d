-- After a send into a slot every label is good: the slot's own is the send's, or as it was, and the others are unchanged.
use mathlib.Core.Path.{◌≡◌, refl, ◌∙◌}
use mathlib.Core.Bool.{Bool, true, false, ◌||◌}
use mathlib.Core.List.{List, [], ◌∷◌, ◌++◌}
use Prim.Native.Nat.{ℕ, ◌+◌, ◌*◌, ◌/◌, ◌%◌, ◌≤◌, ◌<◌}
use native.Mathlib.Nat.{add-zero}
use native.Mathlib.Omega.{arith}
use lib.Dec.{leb, eqb}
use lib.ListN.{length, get_or}
use borrow.Author.Tests.{le-leb, lt-ltb, leb-true, leb-false, eqb-true, eqb-false}
use Rattle.octets.specs.Octets.{two, octet_at}
use Rattle.host.specs.Guard.{longest}
use Rattle.bench_file.specs.declared.Header.{Header}
use Rattle.bench_file.specs.Absent.{slots}
use Rattle.bench.specs.Slots.{slot_length, slot_place, room_place, label_of, with_room, with_label, slot_good, slots_good}
use Rattle.bench.proofs.Overs as overs
use Rattle.bench.proofs.Each.{one_of, all_of}

-- a label is good as its four octets are
alike : (h : Header) (o p : List ℕ) (j : ℕ) → ((d : ℕ) → d < 4 → octet_at p (slot_place j + d) ≡ octet_at o (slot_place j + d)) → slot_good h p j ≡ slot_good h o j
alike h o p j same =
    let first : octet_at p (slot_place j) ≡ octet_at o (slot_place j) = rw (add-zero (slot_place j)) at (same 0 (omega arith)) in
    rw (first, same 1 (omega arith), same 2 (omega arith), same 3 (omega arith))

module _ (o : List ℕ) (t : ℕ) (there : t < slots) (long : slot_length * slots ≤ length o) where
  -- the room of a slot touches no label
  module _ (buffer : List ℕ) (fits : length buffer ≡ longest) where
    in_room : room_place t + length buffer ≤ length o
    in_room = omega arith

    pub room_length : length (with_room t buffer o) ≡ length o
    room_length = overs.same_length o buffer (room_place t) in_room

    pub room_keeps : (j d : ℕ) → d < 4 → octet_at (with_room t buffer o) (slot_place j + d) ≡ octet_at o (slot_place j + d)
    room_keeps j d h = go (leb j t) refl
      where
        go : (b : Bool) → leb j t ≡ b → octet_at (with_room t buffer o) (slot_place j + d) ≡ octet_at o (slot_place j + d)
        go true e = let l : j ≤ t = leb-true j t e in overs.before o buffer (room_place t) in_room (slot_place j + d) (omega arith)
        go false e = let l : t < j = leb-false j t e in overs.behind o buffer (room_place t) in_room (slot_place j + d) (omega arith)

  -- a label touches no other
  module _ (n c e : ℕ) where
    abbrev label : List ℕ
    label = two n ++ (c ∷ e ∷ [])

    in_label : slot_place t + length label ≤ length o
    in_label = omega arith

    pub label_length_lem : length (with_label t n c e o) ≡ length o
    label_length_lem = overs.same_length o label (slot_place t) in_label

    label_keeps : (j d : ℕ) → (j ≡ t → ⊥) → d < 4 → octet_at (with_label t n c e o) (slot_place j + d) ≡ octet_at o (slot_place j + d)
    label_keeps j d other h = go (leb j t) refl
      where
        go : (b : Bool) → leb j t ≡ b → octet_at (with_label t n c e o) (slot_place j + d) ≡ octet_at o (slot_place j + d)
        go true q = let l : j ≤ t = leb-true j t q in overs.before o label (slot_place t) in_label (slot_place j + d) (omega arith)
        go false q = let l : t < j = leb-false j t q in overs.behind o label (slot_place t) in_label (slot_place j + d) (omega arith)

    label_there : (d : ℕ) → d < 4 → octet_at (with_label t n c e o) (slot_place t + d) ≡ get_or label d 0
    label_there d h = overs.there o label (slot_place t) in_label d h

    or_good : (b : Bool) → (b || true) ≡ true
    or_good true = refl
    or_good false = refl

    own_good : (h : Header) → n ≤ longest → c < h.cables → e ≤ 1 → slot_good h (with_label t n c e o) t ≡ true
    own_good h few cable end =
        let first : octet_at (with_label t n c e o) (slot_place t) ≡ n / 256 % 256 = rw (add-zero (slot_place t)) at (label_there 0 (omega arith)) in
        let long-is : (label_of t (with_label t n c e o)).length ≡ n = rw (first, label_there 1 (omega arith)) (omega arith) in
        rw (long-is, label_there 2 (omega arith), label_there 3 (omega arith), le-leb n longest few, lt-ltb c h.cables cable, le-leb e 1 end) (or_good (eqb n 0))

    pub label_good_lem : (h : Header) → slots_good h o ≡ true → n ≤ longest → c < h.cables → e ≤ 1 → slots_good h (with_label t n c e o) ≡ true
    unfolding slots_good
    label_good_lem h good few cable end = all_of (slot_good h (with_label t n c e o)) 0 slots (λ j l i. go j i (eqb j t) refl)
      where
        go : (j : ℕ) → j < 0 + slots → (b : Bool) → eqb j t ≡ b → slot_good h (with_label t n c e o) j ≡ true
        go j i true q = rw (eqb-true j t q) (own_good h few cable end)
        go j i false q =
            alike h o (with_label t n c e o) j (λ d k. label_keeps j d (eqb-false j t q) k) ∙ one_of (slot_good h o) 0 slots j good (omega arith) i

  pub room_good : (buffer : List ℕ) → length buffer ≡ longest → (h : Header) → slots_good h o ≡ true → slots_good h (with_room t buffer o) ≡ true
  unfolding slots_good
  room_good buffer fits h good =
      all_of (slot_good h (with_room t buffer o)) 0 slots
      (λ j l i. alike h o (with_room t buffer o) j (λ d k. room_keeps buffer fits j d k) ∙ one_of (slot_good h o) 0 slots j good l i)
