-- An entry that is up has a DELAY of at least n, because only an update that is 100 ms longer than a report renews its TTL. s seconds of the epoch are over.
-- Either its DELAY is already n + 100, or its TTL runs out within the epoch.
use mathlib.Core.Path.{◌≡◌, refl, sym, ◌∙◌}
use mathlib.Core.Bool.{Bool, true, false, false≢true, true≢false, cond, ◌&&◌}
use mathlib.Core.Logic.{◌⊎◌, inl, inr}
use Prim.Native.Nat.{ℕ, suc, ◌+◌, ◌-◌, ◌≤◌}
use native.Mathlib.Omega.{arith}
use borrow.Author.Tests.{eqb-true, eqb-false}
use lib.Dec.{eqb}
use lib.IntN.{ℤ}
use Rattle.lists.proofs.Tests.{either}
use Rattle.quantity.specs.Quantity.{fall_seconds}
use Rattle.quantity.proofs.Ints.{up, dn}
use Rattle.table.specs.declared.Entry.{Entry}
use Rattle.table.specs.declared.Update.{Update}
use Rattle.table.specs.Entry.{fresh_entry, taken_down, with_mark, with_ttl, aged}
use Rattle.table.specs.Entry as entry
use Rattle.table.proofs.Cases.{stored}
use Rattle.liveness_laws.specs.Numbers.{rise, epoch_seconds}

-- a number of milliseconds is n at least
abbrev pub AtLeast : ℕ → ℤ → Type 0
AtLeast n z = n + dn z ≤ up z

pub record Alive (n s : ℕ) (e : Entry) : Type 0 where
  pub ages : 1 ≤ e.ttl.0
  pub capped : e.ttl.0 ≤ epoch_seconds
  pub least : AtLeast n e.delay.0
  pub soon : AtLeast (n + rise) e.delay.0 ⊎ (e.ttl.0 + s ≤ epoch_seconds)

abbrev pub Fading : (n s : ℕ) → Entry → Type 0
Fading n s e = entry.up e ≡ true → Alive n s e

-- ---- what becomes of it

pub fresh_fades : (n s : ℕ) → Fading n s fresh_entry
unfolding fresh_entry
fresh_fades n s t = absurd (false≢true t)

pub marked_fades : (n s m : ℕ) (e : Entry) → Fading n s e → Fading n s (with_mark m e)
marked_fades n s m e f t = let a = f t in record { ages = a.ages; capped = a.capped; least = a.least; soon = a.soon }

pub down_fades : (n s : ℕ) (e : Entry) → Fading n s (taken_down e)
down_fades n s e t = absurd (false≢true t)

-- a second
pub aged_fades : (n s : ℕ) (e : Entry) → Fading n s e → Fading n (suc s) (aged e)
unfolding aged
aged_fades n s e f =
    either (Fading n (suc s)) (eqb e.ttl.0 0) _ _
    (λ t u. let a = f u in let z = eqb-true e.ttl.0 0 t in absurd (omega (arith, a.ages)))
    (λ t. go (eqb (fall_seconds e.ttl).0 0) (entry.up e) refl refl)
  where
    go : (b u : Bool) → eqb (fall_seconds e.ttl).0 0 ≡ b → entry.up e ≡ u → Fading n (suc s) (cond (b && u) (taken_down e) (with_ttl (fall_seconds e.ttl) e))
    go true true t v w = down_fades n (suc s) e w
    go true false t v w = absurd (true≢false (sym w ∙ v))
    go false u t v w =
        let a = f w in
        let z = eqb-false (e.ttl.0 - 1) 0 t in
        record { ages = one_more e.ttl.0 a.ages z; capped = omega (arith, a.capped); least = a.least; soon = later a.soon a.ages }
      where
        one_more : (m : ℕ) → 1 ≤ m → (m - 1 ≡ 0 → ⊥) → 1 ≤ m - 1
        one_more m h z = omega (arith, z)

        later : AtLeast (n + rise) e.delay.0 ⊎ (e.ttl.0 + s ≤ epoch_seconds) → 1 ≤ e.ttl.0 → AtLeast (n + rise) e.delay.0 ⊎ (e.ttl.0 - 1 + suc s ≤ epoch_seconds)
        later (inl h) o = inl h
        later (inr h) o = inr (omega arith)

-- stored, by an update that is 100 more; or early in the epoch
pub stored_fades : (n s : ℕ) (u : Update) (e : Entry) → AtLeast (n + rise) u.delay.0 → Fading n s (stored u e)
stored_fades n s u e h t = record { ages = omega arith; capped = omega arith; least = omega arith; soon = inl h }

pub stored_early : (n s : ℕ) (u : Update) (e : Entry) → s ≡ 0 → AtLeast n u.delay.0 → Fading n s (stored u e)
stored_early n s u e z h t = record { ages = omega arith; capped = omega arith; least = h; soon = inr (omega arith) }

-- ---- of fewer seconds, and in the next epoch

pub fewer_fades : (n s m : ℕ) (e : Entry) → m ≤ s → Fading n s e → Fading n m e
fewer_fades n s m e h f t = let a = f t in record { ages = a.ages; capped = a.capped; least = a.least; soon = go a.soon }
  where
    go : AtLeast (n + rise) e.delay.0 ⊎ (e.ttl.0 + s ≤ epoch_seconds) → AtLeast (n + rise) e.delay.0 ⊎ (e.ttl.0 + m ≤ epoch_seconds)
    go (inl x) = inl x
    go (inr x) = inr (omega arith)

pub next_fades : (n s : ℕ) (e : Entry) → epoch_seconds ≤ s → Fading n s e → Fading (n + rise) 0 e
next_fades n s e long f t =
    let a = f t in
    record { ages = a.ages; capped = a.capped; least = go a.soon a.ages; soon = inr (omega (arith, a.capped)) }
  where
    go : AtLeast (n + rise) e.delay.0 ⊎ (e.ttl.0 + s ≤ epoch_seconds) → 1 ≤ e.ttl.0 → AtLeast (n + rise) e.delay.0
    go (inl x) o = x
    go (inr x) o = absurd (omega arith)
