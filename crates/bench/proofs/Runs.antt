-- Steps one after the other: those of two allowances are those of their sum, and as many are done as the allowance or the file has.
use mathlib.Core.Path.{◌≡◌, refl, sym, ◌∙◌, ap}
use mathlib.Core.Bool.{Bool, true, false, cond}
use mathlib.Core.List.{List}
use Prim.Native.Nat.{ℕ, zero, suc, ◌+◌, ◌-◌, ◌≤◌, ◌<◌, min}
use native.Mathlib.Nat.{zero-add, suc-add}
use native.Mathlib.Omega.{arith}
use borrow.Author.Tests.{ltb-true, ltb-false, le-ltb, leb-true, leb-false}
use lib.Dec.{ltb, leb}
use Rattle.lists.proofs.Tests.{either}
use Rattle.net_table.specs.declared.NetTable.{NetTable}
use Rattle.bench_file.specs.declared.Header.{Header}
use Rattle.bench_file.specs.declared.Event.{Event}
use Rattle.bench_file.specs.declared.Event.TheVariants.{Tick, Adjust, Set, Second, SelfReport, Send, Arrival, Unknown}
use Rattle.bench_file.specs.Records.{event_at}
use Rattle.bench.specs.Bench.{Bench}
use Rattle.bench.specs.Slots.{empty}
use Rattle.bench.specs.Event.{After, carried}
use Rattle.bench.specs.Run.{header, next, steps}

-- an event keeps the copies and the number of events done
module _ (file : List ℕ) (t : NetTable) (h : Header) where
  pub same_done : (e : Event) (b : Bench) → (carried file t h e b).bench.done ≡ b.done
  same_done (Tick k n) b = refl
  same_done (Adjust k n) b = refl
  same_done (Set k ms n) b = refl
  same_done (Second k) b = refl
  same_done (SelfReport k n) b = refl
  same_done (Send c i n k) b = refl
  same_done (Arrival n k) b = either (λ (a : After). a.bench.done ≡ b.done) (empty n b.slots) _ _ (λ _. refl) (λ _. refl)
  same_done Unknown b = refl

  same_copies : (e : Event) (b : Bench) → (carried file t h e b).bench.copies ≡ b.copies
  same_copies (Tick k n) b = refl
  same_copies (Adjust k n) b = refl
  same_copies (Set k ms n) b = refl
  same_copies (Second k) b = refl
  same_copies (SelfReport k n) b = refl
  same_copies (Send c i n k) b = refl
  same_copies (Arrival n k) b = either (λ (a : After). a.bench.copies ≡ b.copies) (empty n b.slots) _ _ (λ _. refl) (λ _. refl)
  same_copies Unknown b = refl

module _ (file : List ℕ) (t : NetTable) where
  abbrev more : Bench → Bool
  more b = ltb b.done (header file t).events

  -- after the last event nothing is done
  stopped : (n : ℕ) (b : Bench) → more b ≡ false → steps file t n b ≡ b
  unfolding steps
  stopped zero b e = refl
  stopped (suc n) b e = rw e

  pub in_two : (m n : ℕ) (b : Bench) → steps file t n (steps file t m b) ≡ steps file t (m + n) b
  unfolding steps
  in_two zero n b = rw zero-add
  in_two (suc m) n b = rw (suc-add m n) (go (in_two m n (next file t b)) (more b) refl)
    where
      go : steps file t n (steps file t m (next file t b)) ≡ steps file t (m + n) (next file t b)
          → (c : Bool) → more b ≡ c → steps file t n (cond c (steps file t m (next file t b)) b) ≡ cond c (steps file t (m + n) (next file t b)) b
      go rest true e = rest
      go rest false e = stopped n b e

  -- what each event keeps, a run keeps
  pub keeps : (P : Bench → Type 0) → ((b : Bench) → P b → more b ≡ true → P (next file t b)) → (n : ℕ) (b : Bench) → P b → P (steps file t n b)
  unfolding steps
  keeps P each zero b p = p
  keeps P each (suc n) b p =
      either P (more b) (steps file t n (next file t b)) b (λ e. keeps P each n (next file t b) (each b p e)) (λ e. p)

  -- each event is one more
  one_more : (b : Bench) → (next file t b).done ≡ suc b.done
  unfolding next
  one_more b = ap suc (same_done file t (header file t) (event_at file (header file t) b.done) b)

  pub how_many : (n : ℕ) (b : Bench) → b.done ≤ (header file t).events → (steps file t n b).done ≡ b.done + min n ((header file t).events - b.done)
  unfolding steps
  how_many zero b h = omega arith
  how_many (suc n) b h =
      let s = one_more b in
      either (λ (c : Bench). c.done ≡ b.done + min (suc n) ((header file t).events - b.done)) (more b) (steps file t n (next file t b)) b
      (λ e. let l = ltb-true b.done (header file t).events e in how_many n (next file t b) (omega arith) ∙ rw s (omega arith))
      (λ e. let l = ltb-false b.done (header file t).events e in omega arith)

  next_copies : (b : Bench) → (next file t b).copies ≡ b.copies
  unfolding next
  next_copies b = same_copies file t (header file t) (event_at file (header file t) b.done) b

  pub kept_copies : (n : ℕ) (b : Bench) → (steps file t n b).copies ≡ b.copies
  kept_copies n b = keeps (λ (c : Bench). c.copies ≡ b.copies) (λ c e _. next_copies c ∙ e) n b refl

  -- an allowance of more than what the file still has is as good as that
  abbrev still : Bench → ℕ
  still b = (header file t).events - b.done

  pub in_file : (n : ℕ) (b : Bench) → b.done ≤ (header file t).events → steps file t n b ≡ steps file t (min n (still b)) b
  in_file n b h = go (leb n (still b)) refl
    where
      go : (c : Bool) → leb n (still b) ≡ c → steps file t n b ≡ steps file t (min n (still b)) b
      go true e =
          let l : n ≤ still b = leb-true n (still b) e in
          let same : n ≡ min n (still b) = omega arith in
          ap (λ (k : ℕ). steps file t k b) same
      go false e =
          let l : still b < n = leb-false n (still b) e in
          let same : min n (still b) ≡ still b = omega arith in
          let two : n ≡ still b + (n - still b) = omega arith in
          let all : (steps file t (still b) b).done ≡ (header file t).events = how_many (still b) b h ∙ omega arith in
          ap (λ (k : ℕ). steps file t k b) two ∙ sym (in_two (still b) (n - still b) b)
          ∙ stopped (n - still b) (steps file t (still b) b) (le-ltb (steps file t (still b) b).done (header file t).events (omega (arith, all)))
          ∙ ap (λ (k : ℕ). steps file t k b) (sym same)
