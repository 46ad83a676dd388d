-- What a file that passes names is there: the hosts of its events and of its cables' ends, and the cables and ends that its slots are labelled with.
use mathlib.Core.Path.{◌≡◌, sym, ◌∙◌, ap, subst}
use mathlib.Core.Bool.{Bool, true, false, ◌&&◌, ◌||◌}
use mathlib.Core.List.{List}
use Prim.Native.Nat.{ℕ, zero, suc, ◌≤◌, ◌<◌}
use native.Mathlib.Omega.{arith}
use borrow.Author.Tests.{ltb-true, leb-true, ne_eqb}
use lib.Dec.{ltb, leb}
use Rattle.lists.proofs.Tests.{both}
use Rattle.net_table.specs.declared.NetTable.{NetTable}
use Rattle.host.specs.Guard.{longest}
use Rattle.clock.specs.declared.Counter.{Counter}
use Rattle.bench_file.specs.declared.Header.{Header}
use Rattle.bench_file.specs.declared.Event.{Event}
use Rattle.bench_file.specs.declared.Event.TheVariants.{Send, Arrival}
use Rattle.bench_file.specs.Settings.{hosts_good}
use Rattle.bench_file.specs.Records.{end_at, event_at}
use Rattle.bench_file.specs.Absent.{slots, mark_good, end_good, cable_good, cables_good, event_good, events_good}
use Rattle.bench.specs.declared.slots.Label.{Label}
use Rattle.bench.specs.Slots.{label_of, slot_good, slots_good, empty}
use Rattle.bench.specs.Guard.{records_good}
use Rattle.bench.proofs.Each.{one_of}

module _ (t : NetTable) (file : List ℕ) (h : Header) (good : records_good t file h ≡ true) where
  pub cables_good_lem : cables_good file h ≡ true
  unfolding records_good
  cables_good_lem = (both (cables_good file h) (events_good file h) (both (hosts_good t file h) (cables_good file h && events_good file h) good).1).0

  events_good_lem : events_good file h ≡ true
  unfolding records_good
  events_good_lem = (both (cables_good file h) (events_good file h) (both (hosts_good t file h) (cables_good file h && events_good file h) good).1).1

  pub event_good_lem : (i : ℕ) → i < h.events → event_good h (event_at file h i) ≡ true
  unfolding events_good
  event_good_lem i l = one_of (λ (k : ℕ). event_good h (event_at file h k)) 0 h.events i events_good_lem (omega arith) (omega arith)

module _ (file : List ℕ) (h : Header) (good : cables_good file h ≡ true) where
  end_good_lem : (c i : ℕ) → c < h.cables → i ≤ 1 → end_good file h (end_at file h c i) ≡ true
  unfolding cables_good cable_good
  end_good_lem c zero lc li =
      (both (end_good file h (end_at file h c 0)) (end_good file h (end_at file h c 1)) (one_of (λ (k : ℕ). end_good file h (end_at file h k 0) && end_good file h (end_at file h k 1)) 0 h.cables c good (omega arith) (omega arith))).0
  end_good_lem c (suc zero) lc li =
      (both (end_good file h (end_at file h c 0)) (end_good file h (end_at file h c 1)) (one_of (λ (k : ℕ). end_good file h (end_at file h k 0) && end_good file h (end_at file h k 1)) 0 h.cables c good (omega arith) (omega arith))).1
  end_good_lem c (suc (suc i)) lc li = absurd (omega arith)

  pub end_host : (c i : ℕ) → c < h.cables → i ≤ 1 → (end_at file h c i).host < h.hosts
  unfolding end_good
  end_host c i lc li = ltb-true _ _ (both _ _ (end_good_lem c i lc li)).0

-- a slot that is filled names a cable and an end
module _ (h : Header) (o : List ℕ) (good : slots_good h o ≡ true) where
  pub filled : (n : ℕ) → n < slots → empty n o ≡ false → ((label_of n o).length ≤ longest) × ((label_of n o).cable < h.cables) × ((label_of n o).end ≤ 1)
  unfolding slots_good
  filled n ln e =
      let g = one_of (slot_good h o) 0 slots n good (omega arith) (omega arith) in
      let q : (leb (label_of n o).length longest && (ltb (label_of n o).cable h.cables && leb (label_of n o).end 1)) ≡ true =
      ap (λ (x : Bool). x || (leb (label_of n o).length longest && (ltb (label_of n o).cable h.cables && leb (label_of n o).end 1))) (sym e) ∙ g in
      let one = both _ _ q in
      let two = both _ _ one.1 in
      (leb-true _ _ one.0, ltb-true _ _ two.0, leb-true _ _ two.1)

  -- the same of a label that was read
  pub named : (n : ℕ) → n < slots → (l : Label) → l ≡ label_of n o → (l.length ≡ 0 → ⊥) → (empty n o ≡ false) × (l.length ≤ longest) × (l.cable < h.cables) × (l.end ≤ 1)
  named n ln l is full =
      let e : empty n o ≡ false = ne_eqb (label_of n o).length 0 (λ z. full (ap (λ (x : Label). x.length) is ∙ z)) in
      let f = filled n ln e in
      let same = sym is in (
        e,
        subst (λ (x : Label). x.length ≤ longest) same f.0,
        subst (λ (x : Label). x.cable < h.cables) same f.1,
        subst (λ (x : Label). x.end ≤ 1) same f.2,
      )

-- ---- the numbers of a good event

pub send_names : (h : Header) (c i n : ℕ) (k : Counter) → event_good h (Send c i n k) ≡ true → (c < h.cables) × (i ≤ 1) × (n < slots)
send_names h c i n k g =
    let one = both (ltb c h.cables) (leb i 1 && (ltb n slots && mark_good k)) g in
    let two = both (leb i 1) (ltb n slots && mark_good k) one.1 in
    let three = both (ltb n slots) (mark_good k) two.1 in
    (ltb-true c h.cables one.0, leb-true i 1 two.0, ltb-true n slots three.0)

pub arrival_names : (h : Header) (n : ℕ) (k : Counter) → event_good h (Arrival n k) ≡ true → n < slots
arrival_names h n k g = ltb-true n slots (both (ltb n slots) (mark_good k) g).0

-- one event for another
pub good_as : (h : Header) {e f : Event} → e ≡ f → event_good h e ≡ true → event_good h f ≡ true
good_as h is g = subst (λ (x : Event). event_good h x ≡ true) is g
