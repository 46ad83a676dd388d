-- What holds of every entry before an update, or before one entry is replaced, turns into what holds after it, because each changes an entry by itself.
use mathlib.Core.Path.{◌≡◌, refl}
use mathlib.Core.List.{List, [], ◌∷◌, append-nil}
use Prim.Native.Nat.{ℕ, zero, suc, ◌+◌, ◌-◌, ◌≤◌, ◌<◌}
use native.Mathlib.Omega.{arith}
use lib.Dec.{eqb}
use lib.ListN.{length, take, drop, drop_of_length-le}
use lib.Seq.{take_all, drop-nil}
use Rattle.lists.specs.Lists.{part, over}
use Rattle.clock.specs.declared.Clock.{Clock}
use Rattle.table.specs.declared.Entry.{Entry}
use Rattle.table.specs.declared.Updated.{Updated}
use Rattle.table.specs.declared.entries.Change.TheVariants.{Put}
use Rattle.table.specs.declared.entries.Updates.{Updates}
use Rattle.table.specs.Forms.{map_from}
use Rattle.table.specs.Runs.{changes, update_at, updated_at, updates}
use Rattle.table.specs.Sweep.{sweep}
use Rattle.table.specs.Update.{update, settled, lines, left}
use Rattle.table.specs.Forms.{Stage, on, end}
use Rattle.table.proofs.Sweeps.{sweep_length}
use Rattle.host.specs.Effect.{one}
use Rattle.network_laws.proofs.Lists.{All, all_weaken}

-- ---- of any predicates: before, and after

sweep_turns : (P Q : ℕ → Entry → Type 0) (n : ℕ) (f : ℕ → Clock → Entry → Updated) (c : Clock) (es : List Entry)
    → ((i : ℕ) (d : Clock) (e : Entry) → i < length es → P i e → Q i (f (i + n) d e).entry) → All P es → All Q (sweep n f c es).own_entries
unfolding sweep
sweep_turns P Q n f c [] h t = tt
sweep_turns P Q n f c (e ∷ es) h t =
    let first : 0 + n ≡ n = omega arith in (
      rw first at (h 0 c e (omega arith) t.0),
      sweep_turns (λ (i : ℕ). P (suc i)) (λ (i : ℕ). Q (suc i)) (suc n) f (f n c e).clock es
          (λ i d x l p. let next : suc i + n ≡ i + suc n = omega arith in rw next at (h (suc i) d x (omega arith) p)) t.1,
    )

-- updates of every entry
pub updates_turn : (P Q : ℕ → Entry → Type 0) (w : Updates) (packet : List ℕ) (es : List Entry) → w.first ≡ 0 → length es ≤ w.end
    → ((id : ℕ) (d : Clock) (e : Entry) → id < length es → P id e → Q id (updated_at w packet id d e).entry) → All P es → All Q (updates w packet es).own_entries
unfolding updates
updates_turn P Q w packet es first all h t =
    let whole : part w.first (w.end - w.first) es ≡ es = rw first (take_all (w.end - 0) es (omega arith)) in
    rw whole
    (rw first
    (let past : length es ≤ 0 + length (sweep 0 (updated_at w packet) w.clock es).own_entries = omega (arith, sweep_length 0 (updated_at w packet) w.clock es) in
    rw (drop_of_length-le es past, append-nil (sweep 0 (updated_at w packet) w.clock es).own_entries)
    (sweep_turns P Q 0 (updated_at w packet) w.clock es (λ i d e l p. let z : i + 0 ≡ i = omega arith in rw z (h i d e l p)) t)))

-- the entry that an update leaves
pub updated_entry : (w : Updates) (packet : List ℕ) (id : ℕ) (d : Clock) (e : Entry) → (updated_at w packet id d e).entry ≡ left (lines (update_at w (id - w.base) packet) e)
unfolding update
updated_entry w packet id d e = go (lines (update_at w (id - w.base) packet) e)
  where
    go : (x : Stage Entry) → (settled (eqb (id - w.base) w.clock_host) w.hold_interval w.count w.date (update_at w (id - w.base) packet) d x).entry ≡ left x
    go (on y) = refl
    go (end y) = refl

-- one entry replaced
over_turns : (P Q : ℕ → Entry → Type 0) (n : ℕ) (y : Entry) → ((id : ℕ) (e : Entry) → (id ≡ n → ⊥) → P id e → Q id e) → Q n y
    → (es : List Entry) → All P es → All Q (over es n (map_from 0 (λ (q : ℕ) (e : Entry). y) (take 1 (drop n es))))
over_turns P Q zero y others here [] t = tt
over_turns P Q zero y others here (e ∷ es) t = (here, all_weaken (λ (q : ℕ). P (suc q)) (λ (q : ℕ). Q (suc q)) (λ q z p. others (suc q) z (λ v. omega (arith, v)) p) es t.1)
over_turns P Q (suc n) y others here [] t = rw (drop-nil (suc n + 0)) tt
over_turns P Q (suc n) y others here (e ∷ es) t =
    let next : suc n + length (map_from 0 (λ (q : ℕ) (z : Entry). y) (take 1 (drop n es))) ≡ suc (n + length (map_from 0 (λ (q : ℕ) (z : Entry). y) (take 1 (drop n es)))) = omega arith in
    rw next
    (others 0 e (λ v. omega (arith, v)) t.0, over_turns (λ (q : ℕ). P (suc q)) (λ (q : ℕ). Q (suc q)) n y (λ id z not. others (suc id) z (λ v. not (omega (arith, v)))) here es t.1)

pub put_turn : (P Q : ℕ → Entry → Type 0) (n : ℕ) (y : Entry) → ((id : ℕ) (e : Entry) → (id ≡ n → ⊥) → P id e → Q id e) → Q n y
    → (es : List Entry) → All P es → All Q (changes (one n (Put y)) es)
unfolding changes
put_turn P Q n y others here es t = let single : n + 1 - n ≡ 1 = omega arith in rw single (over_turns P Q n y others here es t)
