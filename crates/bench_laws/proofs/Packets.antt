-- What is in a slot after a send into it; every other slot keeps its label and its packet.
use mathlib.Core.Path.{◌≡◌, refl, sym, ◌∙◌, ap}
use mathlib.Core.Bool.{Bool, true, false, false≢true, true≢false}
use mathlib.Core.List.{List, [], ◌∷◌, ◌++◌}
use Prim.Native.Nat.{ℕ, ◌+◌, ◌*◌, ◌/◌, ◌%◌, ◌≤◌, ◌<◌}
use native.Mathlib.Nat.{add-zero}
use native.Mathlib.Omega.{arith}
use borrow.Author.Tests.{leb-true, leb-false}
use lib.Dec.{leb}
use lib.ListN.{length, get_or, take}
use lib.Seq.{length-take-le, get_or-take, get_or-drop, ext_get_or}
use Rattle.lists.specs.Lists.{part, over}
use Rattle.lists.proofs.Parts.{part_length, over_nothing, over_part}
use Rattle.octets.specs.Octets.{two, octet_at}
use Rattle.clock.specs.declared.Counter.{Counter}
use Rattle.host.specs.Guard.{longest, done}
use Rattle.host.specs.CallState.{CallState}
use Rattle.calls.specs.Perform.{Call, Outcome, ask, send, deliver, open_walk, perform}
use Rattle.bench_file.specs.Absent.{slots}
use Rattle.bench.specs.declared.slots.Label.{Label}
use Rattle.bench.specs.Slots.{slot_length, slot_place, room_place, label_of, packet_of, room_of, with_room, with_label}
use Rattle.network_laws.proofs.Demand1.Refusals.{refusals_hold}
use Rattle.bench.proofs.Overs as overs
use Rattle.bench.proofs.Labels.{room_length, label_length_lem}

-- ---- a part, by its elements

part_alike : (l m : List ℕ) (k n : ℕ) → k + n ≤ length l → k + n ≤ length m → ((j : ℕ) → j < n → get_or l (k + j) 0 ≡ get_or m (k + j) 0) → part k n l ≡ part k n m
part_alike l m k n hl hm same =
    let a = part_length k n l hl in
    let b = part_length k n m hm in
    ext_get_or 0 (part k n l) (part k n m) (a ∙ sym b)
    (λ j h. let s : j < n = omega (arith, a) in get_or-take n _ j 0 s ∙ get_or-drop k l j 0 ∙ same j s ∙ sym (get_or-take n _ j 0 s ∙ get_or-drop k m j 0))

-- ---- a send that is refused

abbrev is_send : Call → Bool
is_send (ask q) = false
is_send (send i k buffer) = true
is_send (deliver d packet) = false
is_send (open_walk i packet) = false

pub refused_keeps : (x : CallState) (i : ℕ) (k : Counter) (buffer : List ℕ) → done (perform (send i k buffer) x).reply.answer ≡ false
    → (perform (send i k buffer) x).buffer ≡ buffer
refused_keeps x i k buffer e =
    ap (λ (o : Outcome). o.buffer)
    (refusals_hold.unchanged (send i k buffer) x
    record {
      not_done = λ d. absurd (false≢true (sym e ∙ ap done d));
      early = λ d octets q. absurd (true≢false (ap is_send q));
      early_step = λ k q. absurd (true≢false (ap is_send q));
    })

module _ (o : List ℕ) (n : ℕ) (there : n < slots) (long : slot_length * slots ≤ length o) where
  pub room_back : with_room n (room_of n o) o ≡ o
  room_back =
      ap (over o (room_place n)) (sym (over_nothing 0 (room_of n o)))
      ∙ over_part o (room_place n) longest 0 [] (omega arith) (omega arith)
      ∙ over_nothing (room_place n + 0) o

  module _ (buffer : List ℕ) (full : length buffer ≡ longest) (m c e : ℕ) (few : m ≤ longest) where
    abbrev put : List ℕ
    put = with_room n buffer o

    abbrev after : List ℕ
    after = with_label n m c e put

    abbrev label : List ℕ
    label = two m ++ (c ∷ e ∷ [])

    same : length put ≡ length o
    same = room_length o n there long buffer full

    long_put : slot_length * slots ≤ length put
    long_put = omega (arith, same, long)

    pub after_length : length after ≡ length o
    after_length = label_length_lem put n there long_put m c e ∙ same

    room_in : room_place n + length buffer ≤ length o
    room_in = omega arith

    label_in : slot_place n + length label ≤ length put
    label_in = omega (arith, same)

    -- ---- its own slot

    pub own_packet : part (room_place n) m after ≡ take m buffer
    own_packet =
        let a = part_length (room_place n) m after (omega (arith, after_length)) in
        let b = length-take-le m buffer (omega arith) in
        ext_get_or 0 (part (room_place n) m after) (take m buffer) (a ∙ sym b)
        (λ j h.
        let s : j < m = omega (arith, a) in
        get_or-take m _ j 0 s ∙ get_or-drop (room_place n) after j 0
        ∙ overs.behind put label (slot_place n) label_in (room_place n + j) (omega arith)
        ∙ overs.there o buffer (room_place n) room_in j (omega arith)
        ∙ sym (get_or-take m buffer j 0 s))

    label_there : (d : ℕ) → d < 4 → octet_at after (slot_place n + d) ≡ get_or label d 0
    label_there d h = overs.there put label (slot_place n) label_in d (omega arith)

    pub own_label : label_of n after ≡ record { length = m; cable = c; end = e }
    own_label =
        let first : octet_at after (slot_place n) ≡ m / 256 % 256 = rw (add-zero (slot_place n)) at (label_there 0 (omega arith)) in
        let long-is : (label_of n after).length ≡ m = rw (first, label_there 1 (omega arith)) (omega arith) in
        λ i. record { length = long-is i; cable = label_there 2 (omega arith) i; end = label_there 3 (omega arith) i }

    -- ---- every other slot

    module _ (s : ℕ) (other : s ≡ n → ⊥) (s-there : s < slots) where
      pub octet_kept : (d : ℕ) → d < slot_length → octet_at after (slot_place s + d) ≡ octet_at o (slot_place s + d)
      octet_kept d h = go (leb s n) refl
        where
          go : (q : Bool) → leb s n ≡ q → octet_at after (slot_place s + d) ≡ octet_at o (slot_place s + d)
          go true q =
              let l : s ≤ n = leb-true s n q in
              overs.before put label (slot_place n) label_in (slot_place s + d) (omega arith) ∙ overs.before o buffer (room_place n) room_in (slot_place s + d) (omega arith)
          go false q =
              let l : n < s = leb-false s n q in
              overs.behind put label (slot_place n) label_in (slot_place s + d) (omega arith) ∙ overs.behind o buffer (room_place n) room_in (slot_place s + d) (omega arith)

      pub label_kept : label_of s after ≡ label_of s o
      label_kept =
          let first : octet_at after (slot_place s) ≡ octet_at o (slot_place s) = rw (add-zero (slot_place s)) at (octet_kept 0 (omega arith)) in
          rw (first, octet_kept 1 (omega arith), octet_kept 2 (omega arith), octet_kept 3 (omega arith)) refl

      pub packet_kept : (label_of s o).length ≤ longest → packet_of s after ≡ packet_of s o
      packet_kept short =
          ap (λ (l : Label). part (room_place s) l.length after) label_kept
          ∙ part_alike after o (room_place s) (label_of s o).length (omega (arith, after_length)) (omega arith)
          (λ j h. let e : room_place s + j ≡ slot_place s + (4 + j) = omega arith in rw e (octet_kept (4 + j) (omega arith)))
