-- Integers for omega, which reads naturals only. A z is read as two naturals: `up z`, how far it lies above 0, and `dn z`, how far below; z is `up z - dn z`, and one of them is 0.
-- Each operation, test and order is a record of linear facts about these readings. A proof lists one entry for each: `omega (arith, sum a b, lt_yes a b e)`.
use mathlib.Core.Path.{◌≡◌, refl, sym, ap, subst}
use mathlib.Core.Bool.{Bool, true, false, cond}
use Prim.Native.Nat.{ℕ, zero, suc, ◌+◌, ◌*◌, ◌-◌, ◌≤◌, ◌<◌, ◌^◌, min}
use native.Mathlib.Nat.{div-add-mod, mod-lt, div-le_self}
use native.Mathlib.Omega.{arith}
use lib.IntN.{ℤ, pos, negsuc, neg_ℤ, nat_abs, ◌+ℤ◌, ◌-ℤ◌, ◌*ℤ◌}
use lib.Signed.{lt_z, le_z, shr_z, ◌≤ℤ◌, ◌<ℤ◌}
use lib.Dec.{T, ltb}
use borrow.Author.Tests.{ltb-true, ltb-false, leb-true, leb-false, le-leb}
use mir.Syntax.{Width}
use mir.Val.{SFits, hbits}

abbrev pub up : ℤ → ℕ
up (pos n) = n
up (negsuc n) = 0

abbrev pub dn : ℤ → ℕ
dn (pos n) = 0
dn (negsuc n) = suc n

-- ---- equal readings, equal numbers

pub same : (a b : ℤ) → up a + dn b ≡ up b + dn a → a ≡ b
same (pos a) (pos b) e = ap pos (omega arith)
same (pos a) (negsuc b) e = absurd (omega arith)
same (negsuc a) (pos b) e = absurd (omega arith)
same (negsuc a) (negsuc b) e = ap negsuc (omega arith)

-- one reading is 0: listed only where a number's sign matters, since omega then splits
pub one : (z : ℤ) → min (up z) (dn z) ≡ 0
one (pos n) = omega arith
one (negsuc n) = omega arith

-- ---- the operations

pub record Sum (a b z : ℤ) : Type 0 where
  pub eq : up z + (dn a + dn b) ≡ up a + up b + dn z
  pub above : up z ≤ up a + up b
  pub below : dn z ≤ dn a + dn b

difference : (a b : ℕ) (t : Bool) → ltb a b ≡ t → Sum (pos a) (neg_ℤ (pos b)) (cond t (negsuc (b - suc a)) (pos (a - b)))
difference a zero true e = absurd (omega (arith, ltb-true a 0 e))
difference a zero false e = omega arith
difference a (suc b) true e = let h : a < suc b = ltb-true a (suc b) e in omega arith
difference a (suc b) false e = let h : suc b ≤ a = ltb-false a (suc b) e in omega arith

swap : {a b z : ℤ} → Sum a b z → Sum b a z
swap s = omega arith

pub sum : (a b : ℤ) → Sum a b (a +ℤ b)
sum (pos a) (pos b) = omega arith
sum (pos a) (negsuc b) = difference a (suc b) (ltb a (suc b)) refl
sum (negsuc a) (pos b) = swap (difference b (suc a) (ltb b (suc a)) refl)
sum (negsuc a) (negsuc b) = omega arith

pub record Neg (a z : ℤ) : Type 0 where
  pub neg_up : up z ≡ dn a
  pub neg_dn : dn z ≡ up a

pub neg : (a : ℤ) → Neg a (neg_ℤ a)
neg (pos zero) = omega arith
neg (pos (suc n)) = omega arith
neg (negsuc n) = omega arith

pub record Diff (a b z : ℤ) : Type 0 where
  pub eq : up z + (dn a + up b) ≡ up a + dn b + dn z
  pub above : up z ≤ up a + dn b
  pub below : dn z ≤ dn a + up b

pub diff : (a b : ℤ) → Diff a b (a -ℤ b)
diff a b = let s = sum a (neg_ℤ b) in let n = neg b in omega arith

pub record Times (a : ℤ) (k : ℕ) (z : ℤ) : Type 0 where
  pub times_up : up z ≡ up a * k
  pub times_dn : dn z ≡ dn a * k

pub times : (a : ℤ) (k : ℕ) → Times a k (a *ℤ pos k)
times (pos a) k = omega arith
times (negsuc a) k = let n = neg (pos (suc a * k)) in omega arith

-- z is a / m, rounded down
pub record Floor (m : ℕ) (a z : ℤ) : Type 0 where
  pub low : m * up z + dn a ≤ up a + m * dn z
  pub high : up a + m * dn z < m * up z + dn a + m
  pub floor_up : up z ≤ up a
  pub floor_dn : dn z ≤ dn a

pub floor : (a : ℤ) (m : ℕ) → 0 < m → Floor m a (shr_z a m)
floor (pos a) m h = let e = div-add-mod a m in let l = mod-lt a h in let k = div-le_self a m in omega arith
floor (negsuc a) m h = let e = div-add-mod a m in let l = mod-lt a h in let k = div-le_self a m in omega arith

pub abs : (z : ℤ) → nat_abs z ≡ up z + dn z
abs (pos n) = omega arith
abs (negsuc n) = omega arith

-- ---- tests and orders

pub record Le (a b : ℤ) : Type 0 where
  pub le_up : up a ≤ up b
  pub le_dn : dn b ≤ dn a

pub record Lt (a b : ℤ) : Type 0 where
  pub lt : up a + dn b < up b + dn a
  pub lt_up : up a ≤ up b
  pub lt_dn : dn b ≤ dn a

pub lt_yes : (a b : ℤ) → lt_z a b ≡ true → Lt a b
lt_yes (pos a) (pos b) e = let h = ltb-true a b e in omega arith
lt_yes (pos a) (negsuc b) e = absurd (subst T (sym e) tt)
lt_yes (negsuc a) (pos b) e = omega arith
lt_yes (negsuc a) (negsuc b) e = let h = ltb-true b a e in omega arith

pub lt_no : (a b : ℤ) → lt_z a b ≡ false → Le b a
lt_no (pos a) (pos b) e = let h = ltb-false a b e in omega arith
lt_no (pos a) (negsuc b) e = omega arith
lt_no (negsuc a) (pos b) e = absurd (subst T e tt)
lt_no (negsuc a) (negsuc b) e = let h = ltb-false b a e in omega arith

pub le_yes : (a b : ℤ) → le_z a b ≡ true → Le a b
le_yes (pos a) (pos b) e = let h = leb-true a b e in omega arith
le_yes (pos a) (negsuc b) e = absurd (subst T (sym e) tt)
le_yes (negsuc a) (pos b) e = omega arith
le_yes (negsuc a) (negsuc b) e = let h = leb-true b a e in omega arith

pub le_no : (a b : ℤ) → le_z a b ≡ false → Lt b a
le_no (pos a) (pos b) e = let h = leb-false a b e in omega arith
le_no (pos a) (negsuc b) e = omega arith
le_no (negsuc a) (pos b) e = absurd (subst T e tt)
le_no (negsuc a) (negsuc b) e = let h = leb-false b a e in omega arith

-- and the tests of what is known by its readings
pub is_lt : (a b : ℤ) → up a + dn b < up b + dn a → lt_z a b ≡ true
is_lt a b h = go (lt_z a b) refl
  where
    go : (t : Bool) → lt_z a b ≡ t → t ≡ true
    go true e = refl
    go false e = absurd (omega (arith, lt_no a b e))

pub not_lt : (a b : ℤ) → up b + dn a ≤ up a + dn b → lt_z a b ≡ false
not_lt a b h = go (lt_z a b) refl
  where
    go : (t : Bool) → lt_z a b ≡ t → t ≡ false
    go true e = absurd (omega (arith, lt_yes a b e))
    go false e = refl

true_of : {b : Bool} → T b → b ≡ true
true_of {b = true} t = refl
true_of {b = false} t = elim t [ ]

pub of-≤ℤ : {a b : ℤ} → a ≤ℤ b → Le a b
of-≤ℤ {a} {b} h = le_yes a b (true_of h.le)

pub of-<ℤ : {a b : ℤ} → a <ℤ b → Lt a b
of-<ℤ {a} {b} h = lt_yes a b (true_of h.lt)

t_of : {b : Bool} → b ≡ true → T b
t_of e = subst T (sym e) tt

pub to-≤ℤ : (a b : ℤ) → up a + dn b ≤ up b + dn a → a ≤ℤ b
to-≤ℤ (pos a) (pos b) h = record { le = t_of (le-leb a b (omega arith)) }
to-≤ℤ (pos a) (negsuc b) h = absurd (omega arith)
to-≤ℤ (negsuc a) (pos b) h = record { le = tt }
to-≤ℤ (negsuc a) (negsuc b) h = record { le = t_of (le-leb b a (omega arith)) }

pub to-<ℤ : (a b : ℤ) → up a + dn b < up b + dn a → a <ℤ b
to-<ℤ a b h = record { lt = t_of (is_lt a b h) }

-- ---- ranges: -l ≤ z ≤ h, with fields that omega reads by itself

pub record Within (l h : ℕ) (z : ℤ) : Type 0 where
  pub low : dn z ≤ l
  pub high : up z ≤ h

pub fits : (w : Width) (z : ℤ) → (up z < 2 ^ hbits w) × (dn z ≤ 2 ^ hbits w) → SFits w z
fits w (pos n) h = record { sfits = h.0 }
fits w (negsuc n) h = record { sfits = h.1 }

pub fits_up : (w : Width) (z : ℤ) → SFits w z → up z < 2 ^ hbits w
fits_up w (pos n) h = h.sfits
fits_up w (negsuc n) h = omega (arith, h.sfits)

pub fits_dn : (w : Width) (z : ℤ) → SFits w z → dn z ≤ 2 ^ hbits w
fits_dn w (pos n) h = omega arith
fits_dn w (negsuc n) h = h.sfits
