-- The network of two nodes is proper, by cases, and its calls get the state after the last call.
use mathlib.Core.Path.{◌≡◌, refl, sym, ap, ◌∙◌}
use mathlib.Core.Bool.{Bool, true, false, false≢true, cond, not, ◌&&◌}
use mathlib.Core.List.{Memᴰ}
use Prim.Native.Nat.{ℕ, zero, suc, ◌+◌, ◌*◌, ◌%◌, ◌≤◌, ◌<◌, ◌^◌}
use native.Mathlib.Nat.{zero-div}
use native.Mathlib.Omega.{arith}
use borrow.Author.Tests.{eqb-true, eqb-false, ltb-true, ltb-false}
use lib.Dec.{eqb, ltb}
use lib.IntN.{ℤ, pos, ◌+ℤ◌, ◌-ℤ◌, nat_abs}
use lib.ListN.{length, take, replicate, length-replicate}
use lib.Seq.{drop_at}
use lib.Signed.{◌<ℤ◌}
use Rattle.answer.specs.declared.Answer.{Answer}
use Rattle.clock.specs.declared.Counter.{Counter}
use Rattle.clock.specs.Midnight.{day_millis}
use Rattle.route.specs.Find.{same_net}
use Rattle.lists.proofs.Tests.{both}
use Rattle.table.specs.declared.marks.Marks.{Marks}
use Rattle.table.specs.Forms.{every, up_from}
use Rattle.table.specs.Marks.{bit, mark, marked, ids_from}
use Rattle.table.specs.Entry.{fresh_entry}
use Rattle.table.proofs.Bits.{no_word}
use Rattle.host.specs.State.{places_per_host, first_place, host_count, own_entries}
use Rattle.network_laws.specs.History.{Continues}
use Rattle.network_laws.specs.Network.{clock_spread, loose, at, initialized, HostAt, Cabled, Proper}
use Rattle.network_laws.specs.Demand3.{NetworkCall, Message, World, event_of, reading_at, Reads, Delivered, Starts}
use Rattle.network_laws.proofs.Opened.{opened}
use Rattle.network_laws.specs.TwoNodes.{Pair, settings_for, wire, pair, begun, call}

-- two nodes, case by case
pub below_2 : (P : ℕ → Type 0) → P 0 → P 1 → (a : ℕ) → a < 2 → P a
below_2 P x y zero l = x
below_2 P x y (suc zero) l = y
below_2 P x y (suc (suc a)) l = absurd (omega arith)

pairs : (P : ℕ → ℕ → Type 0) → P 0 0 → P 0 1 → P 1 0 → P 1 1 → (a b : ℕ) → a < 2 → b < 2 → P a b
pairs P p q s t a b l m = below_2 (λ (x : ℕ). P x b) (below_2 (P 0) p q b m) (below_2 (P 1) s t b m) a l

-- marks that have no id in common, by trying all ids
every_id : (test : ℕ → Bool) (first n : ℕ) → every test (up_from first n) ≡ true → (id : ℕ) → first ≤ id → id < first + n → test id ≡ true
every_id test first zero e id l h = absurd (omega (arith, l, h))
every_id test first (suc n) e id l h =
    go (every_id test (suc first) n (both (test first) (every test (up_from (suc first) n)) e).1 id) (eqb id first) refl
  where
    go : (suc first ≤ id → id < suc first + n → test id ≡ true) → (b : Bool) → eqb id first ≡ b → test id ≡ true
    go rest true is = rw (eqb-true id first is) (both (test first) (every test (up_from (suc first) n)) e).0
    go rest false is = let other = eqb-false id first is in rest (omega (arith, l, other)) (omega (arith, h))

no_mark : (m : Marks) (id : ℕ) → length m.words ≡ 4 → 256 ≤ id → 0 ≡ mark m id
unfolding mark
no_mark m id four h =
    sym (ap (λ (w : ℕ). bit w (id % 64)) (sym (no_word m id four h)) ∙ ap (λ (x : ℕ). x % 2) (zero-div (2 ^ (id % 64))))

pub apart : (m n : Marks) → length m.words ≡ 4 → every (λ (id : ℕ). not (marked m id && marked n id)) (ids_from 0) ≡ true
    → (id : ℕ) → marked m id ≡ true → marked n id ≡ true → ⊥
apart m n four e id here there = go (ltb id 256) refl
  where
    go : (b : Bool) → ltb id 256 ≡ b → ⊥
    go true is =
        let not-both = every_id (λ (id : ℕ). not (marked m id && marked n id)) 0 256 e id (omega arith) (omega (arith, ltb-true id 256 is)) in
        false≢true (rw (here, there) at not-both)
    go false is = let none = no_mark m id four (ltb-false id 256 is) in false≢true (ap (λ (x : ℕ). eqb x 1) none ∙ here)

module _ (p : Pair) where
  -- the one cable, from both ends
  from_0 : Cabled (pair p) 0 1 1 1
  unfolding opened
  from_0 = record { node_in = omega arith; link_in = refl; point_to_point = refl; two_nodes = λ e. omega arith; other_end = refl }

  from_1 : Cabled (pair p) 1 1 0 1
  unfolding opened
  from_1 = record { node_in = omega arith; link_in = refl; point_to_point = refl; two_nodes = λ e. omega arith; other_end = refl }

  wires : (a i b j : ℕ) → wire a i ≡ at b j → Cabled (pair p) a i b j
  wires a i b j = go (eqb i 1) (eqb a 0) (eqb a 1) refl refl refl
    where
      go : (t u v : Bool) → eqb i 1 ≡ t → eqb a 0 ≡ u → eqb a 1 ≡ v → cond t (cond u (at 1 1) (cond v (at 0 1) loose)) loose ≡ at b j → Cabled (pair p) a i b j
      go true true v t u w e =
          let eb : b ≡ 1 = cc in let ej : j ≡ 1 = cc in rw (eqb-true i 1 t, eqb-true a 0 u, eb, ej) from_0
      go true false true t u w e =
          let eb : b ≡ 0 = cc in let ej : j ≡ 1 = cc in rw (eqb-true i 1 t, eqb-true a 1 w, eb, ej) from_1
      go true false false t u w e = absurd (let z : ◌≡◌ {A = ℕ} 0 1 = cc in omega arith)
      go false u v t x w e = absurd (let z : ◌≡◌ {A = ℕ} 0 1 = cc in omega arith)

  pub pair_proper : ((id : ℕ) → marked (p.marks 0) id ≡ true → marked (p.marks 1) id ≡ true → ⊥) → ((a : ℕ) → a < 2 → (initialized (pair p) a).reply.answer ≡ Answer.Done) → Proper (pair p)
  unfolding opened
  pair_proper once fresh =
      record {
        sixteen = omega arith;
        numbers_differ = λ a b l m e. e;
        was_initialized = fresh;
        one_net = pairs (λ (a b : ℕ). same_net (settings_for p a).address (settings_for p b).address ≡ true) refl refl refl refl;
        marked_once = λ a b id l m.
            pairs (λ (a b : ℕ). HostAt (pair p) id a → HostAt (pair p) id b → a ≡ b) (λ _ _. refl) (λ e f. absurd (once id e f)) (λ e f. absurd (once id f e)) (λ _ _. refl) a b l m;
        one_layout = λ a b l m. refl;
        setting_off = λ a l. refl;
        fixed_near = pairs (λ (a b : ℕ). nat_abs (pos (500 * a) -ℤ pos (500 * b)) ≤ clock_spread) (omega arith) (omega arith) (omega arith) (omega arith);
        cables = wires;
      }

  pub starts : Starts (pair p) (begun (pair p))
  starts = record { was_initialized = λ a l. refl; no_mail = refl }

  -- a call with the links and the places after the last call
  pub as_after : (w : World) (a : ℕ) (x : NetworkCall) → Continues (w.state a) (event_of (pair p) w (call (pair p) w a x)).call_state
  unfolding own_entries
  as_after w a x =
      record {
        own_clock = refl;
        own_links_lem = refl;
        own_walk = refl;
        own_packet = refl;
        own_entries_lem =
            λ _.
            ap (take (host_count (settings_for p a)))
            (drop_at (replicate (places_per_host * a) fresh_entry) (w.state a).places (first_place a) (length-replicate (places_per_host * a) fresh_entry));
      }

  pub reads : (w : World) (a : ℕ) (k : Counter) (t : ℤ) → (reading_at (pair p) a (w.state a).clock k).time.0 ≡ t +ℤ pos (500 * a)
      → (reading_at (pair p) a (w.state a).clock k).time.0 <ℤ day_millis.0 → Reads (pair p) w a k t
  reads w a k t e l = record { clock = e; no_midnight = l }

  -- an arrival of a message that was sent
  pub delivered : (w : World) (a : ℕ) (k : Counter) (t : ℤ) (answer : Answer) (m : Message) (way : ℕ) → Memᴰ m w.mail → wire a 1 ≡ at m.node m.link
      → Reads (pair p) w a k t → way ≤ p.longest → t ≡ m.ms +ℤ pos way → Delivered (pair p) w a 1 k m.octets t answer
  delivered w a k t answer m way x c r h e =
      record { message = m; earlier = x; a_copy = refl; other_end = c; in_time = λ _. record { reads = r; way = way; short = h; later = e } }
