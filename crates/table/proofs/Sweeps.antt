-- A sweep over entries, by induction over them: it yields as many as it is given, and a clock that each update keeps fine stays so; one entry more ends it with the update of that entry; ids that are counted from another place make no difference; and the update of one id alone touches that entry alone.
use mathlib.Core.Path.{◌≡◌, refl, ap}
use mathlib.Core.List.{List, [], ◌∷◌, ◌++◌}
use Prim.Native.Nat.{ℕ, zero, suc, ◌+◌, ◌<◌}
use native.Mathlib.Omega.{arith}
use borrow.Author.Tests.{eq-eqb, ne_eqb}
use lib.ListN.{length, get_or}
use Rattle.lists.specs.Lists.{over}
use Rattle.clock.specs.declared.Clock.{Clock}
use Rattle.table.specs.declared.Entry.{Entry}
use Rattle.table.specs.declared.Updated.{Updated}
use Rattle.table.specs.Sweep.{sweep, only}

pub sweep_length : (i : ℕ) (update : ℕ → Clock → Entry → Updated) (c : Clock) (es : List Entry)
    → length (sweep i update c es).own_entries ≡ length es
unfolding sweep
sweep_length i update c [] = refl
sweep_length i update c (e ∷ es) = ap suc (sweep_length (suc i) update (update i c e).clock es)

-- a clock that each update keeps fine
pub sweep_clock : (Fine : Clock → Type 0) (update : ℕ → Clock → Entry → Updated)
    → ((i : ℕ) (c : Clock) (e : Entry) → Fine c → Fine (update i c e).clock)
    → (i : ℕ) (c : Clock) (es : List Entry) → Fine c → Fine (sweep i update c es).clock
unfolding sweep
sweep_clock Fine update keeps i c [] f = f
sweep_clock Fine update keeps i c (e ∷ es) f = sweep_clock Fine update keeps (suc i) (update i c e).clock es (keeps i c e f)

-- a sweep over one entry more ends with the update of that entry
pub sweep_more : (i : ℕ) (update : ℕ → Clock → Entry → Updated) (c : Clock) (es : List Entry) (e : Entry)
    → sweep i update c (es ++ (e ∷ []))
    ≡ record {
      clock = (update (i + length es) (sweep i update c es).clock e).clock;
      own_entries = (sweep i update c es).own_entries ++ ((update (i + length es) (sweep i update c es).clock e).entry ∷ []);
    }
unfolding sweep
sweep_more i update c [] e = let z : i + 0 ≡ i = omega arith in rw (z) refl
sweep_more i update c (x ∷ es) e =
    let s : i + suc (length es) ≡ suc i + length es = omega arith in
    rw (s, sweep_more (suc i) update (update i c x).clock es e) refl

-- ids that are counted from another place
pub sweep_from : (base : ℕ) (f g : ℕ → Clock → Entry → Updated) → ((i : ℕ) (c : Clock) (e : Entry) → f (base + i) c e ≡ g i c e)
    → (i : ℕ) (c : Clock) (es : List Entry) → sweep (base + i) f c es ≡ sweep i g c es
unfolding sweep
sweep_from base f g same i c [] = refl
sweep_from base f g same i c (e ∷ es) =
    let s : suc (base + i) ≡ base + suc i = omega arith in
    rw (same i c e, s, sweep_from base f g same (suc i) (g i c e).clock es) refl

-- no entry of the id
sweep_past : (id : ℕ) (update : Clock → Entry → Updated) (i : ℕ) (c : Clock) (es : List Entry) → id < i
    → sweep i (only id update) c es ≡ record { clock = c; own_entries = es }
unfolding sweep
sweep_past id update i c [] h = refl
sweep_past id update i c (e ∷ es) h =
    rw (ne_eqb i id (omega (arith, h)), sweep_past id update (suc i) c es (omega (arith, h))) refl

-- the entry of the id, the n-th from i on
pub sweep_only : (update : Clock → Entry → Updated) (i n : ℕ) (c : Clock) (es : List Entry) (none : Entry) → n < length es
    → sweep i (only (i + n) update) c es
    ≡ record { clock = (update c (get_or es n none)).clock; own_entries = over es n ((update c (get_or es n none)).entry ∷ []) }
unfolding sweep
sweep_only update i n c [] none h = absurd (omega (arith, h))
sweep_only update i zero c (e ∷ es) none h =
    let z : i + 0 ≡ i = omega arith in
    rw (z, eq-eqb i i refl, sweep_past i update (suc i) (update c e).clock es (omega arith)) refl
sweep_only update i (suc n) c (e ∷ es) none h =
    let s : i + suc n ≡ suc i + n = omega arith in
    let m : n + 1 ≡ suc n = omega arith in
    let m₂ : suc n + 1 ≡ suc (suc n) = omega arith in
    rw (s, ne_eqb i (suc i + n) (omega arith), sweep_only update (suc i) n c es none (omega (arith, h)), m, m₂) refl
