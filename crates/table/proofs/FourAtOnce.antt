-- Four entries that are tested at once: the joined bits of four numbers are below a power of two only if each number is.
use mathlib.Core.Path.{◌≡◌, refl, sym, ap, ◌∙◌}
use mathlib.Core.Bool.{Bool, true, false, ◌&&◌, false≢true, and-true, and-false, and_assoc}
use mathlib.Core.List.{[], ◌∷◌}
use Prim.Native.Nat.{ℕ, suc, ◌+◌, ◌*◌, ◌/◌, ◌%◌, ◌≤◌, ◌<◌, ◌^◌}
use native.Mathlib.Nat.{div-one, div-div-eq-div-mul}
use native.Mathlib.Omega.{arith}
use borrow.Author.Tests.{lt-ltb, le-ltb, ltb-true, ltb-false, le-leb, leb-true, eq-eqb, eqb-true}
use lib.Bits.{bit_or, bit_xor, or_lt, or_mod, or_add_and, and_le_l, and_le_r, xor_add_and, xor_block, xor_zero_r, xor_self}
use lib.Dec.{eqb, ltb, leb}
use lib.Pow.{pow-add}
use Rattle.clock.specs.Midnight.{day_millis}
use Rattle.table.specs.declared.Entry.{Entry}
use Rattle.table.specs.Forms.{every_from}
use Rattle.table.specs.Marks.{bit}
use Rattle.table.specs.Entry.{max_delay, hold_down, up_to, entry_in_range}
use Rattle.table.specs.code.Words.{as_in_word}
use Rattle.table.specs.code.Fours.{wide_good, small_good, fields_good, over, over_good}

-- ---- truth values

alike : (a b : Bool) → (a ≡ true → b ≡ true) → (b ≡ true → a ≡ true) → a ≡ b
alike true true f g = refl
alike true false f g = sym (f refl)
alike false true f g = g refl
alike false false f g = refl

left : (a b : Bool) → (a && b) ≡ true → a ≡ true
left true b h = refl
left false b h = h

right : (a b : Bool) → (a && b) ≡ true → b ≡ true
right true b h = h
right false b h = absurd (false≢true h)

both : (a b : Bool) → a ≡ true → b ≡ true → (a && b) ≡ true
both a b p q = rw (p, q) refl

paired : (a b c d : Bool) → (a && b && (c && d)) ≡ (a && c && (b && d))
paired false b c d = refl
paired true true c d = refl
paired true false true d = refl
paired true false false d = refl

-- two tests of four elements
in_turn_lem : (w x y z p q r s : Bool) → (w && (x && (y && z)) && (p && (q && (r && s)))) ≡ (w && p && (x && q && (y && r && (z && s && true))))
in_turn_lem w x y z p q r s =
    paired w (x && (y && z)) p (q && (r && s))
    ∙ ap (λ (b : Bool). w && p && b) (paired x (y && z) q (r && s) ∙ ap (λ (b : Bool). x && q && b) (paired y z r s ∙ ap (λ (b : Bool). y && r && b) (sym (and-true (z && s)))))

-- ---- joined bits

left_in_or : (a b : ℕ) → a ≤ bit_or a b
left_in_or a b = omega (arith, or_add_and a b, and_le_r a b)

right_in_or : (a b : ℕ) → b ≤ bit_or a b
right_in_or a b = omega (arith, or_add_and a b, and_le_l a b)

or_below : (k a b : ℕ) → ltb (bit_or a b) (2 ^ k) ≡ (ltb a (2 ^ k) && ltb b (2 ^ k))
or_below k a b = go (ltb a (2 ^ k)) (ltb b (2 ^ k)) refl refl where
  go : (p q : Bool) → ltb a (2 ^ k) ≡ p → ltb b (2 ^ k) ≡ q → ltb (bit_or a b) (2 ^ k) ≡ (p && q)
  go true true p q = lt-ltb (bit_or a b) (2 ^ k) (or_lt k a b (ltb-true a (2 ^ k) p) (ltb-true b (2 ^ k) q))
  go true false p q = le-ltb (bit_or a b) (2 ^ k) (omega (arith, ltb-false b (2 ^ k) q, right_in_or a b))
  go false y p q = le-ltb (bit_or a b) (2 ^ k) (omega (arith, ltb-false a (2 ^ k) p, left_in_or a b))

or_good : (x y : ℕ) → over_good (bit_or x y) ≡ (over_good x && over_good y)
or_good x y =
    let low : ltb (bit_or x y % 65536) 128 ≡ (ltb (x % 65536) 128 && ltb (y % 65536) 128) =
    ap (λ (n : ℕ). ltb n 128) (or_mod x y 16) ∙ or_below 7 (x % 65536) (y % 65536) in
    let high : ltb (bit_or x y) 1048576 ≡ (ltb x 1048576 && ltb y 1048576) = or_below 20 x y in
    rw (low, high) (paired (ltb (x % 65536) 128) (ltb (y % 65536) 128) (ltb x 1048576) (ltb y 1048576))

-- a number with the number that is moved up
over_good_lem : (f : ℕ) → over_good (over f) ≡ fields_good f
over_good_lem f = or_good f (f + 458759) ∙ alike _ _ small larger where
  small : (over_good f && over_good (f + 458759)) ≡ true → fields_good f ≡ true
  small h =
      let one = left (over_good f) (over_good (f + 458759)) h in
      let two = right (over_good f) (over_good (f + 458759)) h in
      let low = ltb-true (f % 65536) 128 (left (ltb (f % 65536) 128) (ltb f 1048576) one) in
      let low' = ltb-true ((f + 458759) % 65536) 128 (left (ltb ((f + 458759) % 65536) 128) (ltb (f + 458759) 1048576) two) in
      let high = ltb-true (f + 458759) 1048576 (right (ltb ((f + 458759) % 65536) 128) (ltb (f + 458759) 1048576) two) in
      both (ltb (f % 65536) 121) (ltb f 589824) (lt-ltb (f % 65536) 121 (omega (arith, low, low'))) (lt-ltb f 589824 (omega (arith, low, high)))

  larger : fields_good f ≡ true → (over_good f && over_good (f + 458759)) ≡ true
  larger h =
      let low = ltb-true (f % 65536) 121 (left (ltb (f % 65536) 121) (ltb f 589824) h) in
      let high = ltb-true f 589824 (right (ltb (f % 65536) 121) (ltb f 589824) h) in
      both (over_good f) (over_good (f + 458759))
      (both (ltb (f % 65536) 128) (ltb f 1048576) (lt-ltb (f % 65536) 128 (omega (arith, low))) (lt-ltb f 1048576 (omega (arith, high))))
      (both (ltb ((f + 458759) % 65536) 128) (ltb (f + 458759) 1048576) (lt-ltb ((f + 458759) % 65536) 128 (omega (arith, low, high))) (lt-ltb (f + 458759) 1048576 (omega (arith, low, high))))

-- all bits of four
module _ (a b c d x y z u : ℕ) (xs : x ≡ over a) (ys : y ≡ over b) (zs : z ≡ over c) (us : u ≡ over d) where
  abbrev all : ℕ
  all = bit_or (bit_or x y) (bit_or z u)

  abbrev good : Bool
  good = fields_good a && (fields_good b && (fields_good c && fields_good d))

  four_good_lem : over_good all ≡ good
  four_good_lem =
      or_good (bit_or x y) (bit_or z u)
      ∙ rw (or_good x y, or_good z u, xs, ys, zs, us, over_good_lem a, over_good_lem b, over_good_lem c, over_good_lem d) (and_assoc (fields_good a) (fields_good b) (fields_good c && fields_good d))

  pub some_large : 1048576 ≤ all → false ≡ good
  some_large h = sym (rw (le-ltb all 1048576 h) (and-false (ltb (all % 65536) 128))) ∙ four_good_lem

  pub all_small : all < 1048576 → ltb (all % 65536) 128 ≡ good
  all_small h = sym (and-true (ltb (all % 65536) 128)) ∙ rw (lt-ltb all 1048576 h) at four_good_lem

-- ---- the number of an entry

pub fields_good_lem : (t p h : ℕ) → t < 65536 → p < 256 → fields_good (t + p * 65536 + h * 16777216) ≡ (eqb h 0 && (leb t 120 && leb p 8))
fields_good_lem t p h few less = go (t + p * 65536 + h * 16777216) refl where
  go : (f : ℕ) → f ≡ t + p * 65536 + h * 16777216 → fields_good f ≡ (eqb h 0 && (leb t 120 && leb p 8))
  go f is =
      alike (fields_good f) (eqb h 0 && (leb t 120 && leb p 8))
      (λ g.
      (let low = ltb-true (f % 65536) 121 (left (ltb (f % 65536) 121) (ltb f 589824) g) in
      let high = ltb-true f 589824 (right (ltb (f % 65536) 121) (ltb f 589824) g) in
      both (eqb h 0) (leb t 120 && leb p 8) (eq-eqb h 0 (omega (arith, is, high)))
      (both (leb t 120) (leb p 8) (le-leb t 120 (omega (arith, is, low, few))) (le-leb p 8 (omega (arith, is, high))))))
      (λ g.
      (let none = eqb-true h 0 (left (eqb h 0) (leb t 120 && leb p 8) g) in
      let rest = right (eqb h 0) (leb t 120 && leb p 8) g in
      let low = leb-true t 120 (left (leb t 120) (leb p 8) rest) in
      let high = leb-true p 8 (right (leb t 120) (leb p 8) rest) in
      both (ltb (f % 65536) 121) (ltb f 589824) (lt-ltb (f % 65536) 121 (omega (arith, is, none, low))) (lt-ltb f 589824 (omega (arith, is, none, low, high)))))

xor_none : (h m : ℕ) → eqb (bit_xor h m) 0 ≡ eqb h m
xor_none h m =
    alike _ _ (λ e. (let z = eqb-true (bit_xor h m) 0 e in eq-eqb h m (omega (arith, z, xor_add_and h m, and_le_l h m, and_le_r h m))))
    (λ e. (let s = eqb-true h m e in eq-eqb (bit_xor h m) 0 (ap (λ (x : ℕ). bit_xor x m) s ∙ xor_self m)))

-- with the mark's difference
pub by_mark : (t p h m : ℕ) → t < 65536 → p < 256 → bit_xor (t + p * 65536 + h * 16777216) (m * 16777216) ≡ t + p * 65536 + bit_xor h m * 16777216
by_mark t p h m few less =
    let one : t + p * 65536 + h * 16777216 ≡ h * 2 ^ 24 + (t + p * 65536) = omega arith in
    let two : m * 16777216 ≡ m * 2 ^ 24 + 0 = omega arith in
    let back : bit_xor h m * 2 ^ 24 + (t + p * 65536) ≡ t + p * 65536 + bit_xor h m * 16777216 = omega arith in
    rw (one, two) (xor_block 24 h m (t + p * 65536) 0 (omega (arith, few, less)) (omega arith) ∙ rw (xor_zero_r (t + p * 65536)) back)

pub by_mark_good : (t p h m : ℕ) → t < 65536 → p < 256
    → fields_good (bit_xor (t + p * 65536 + h * 16777216) (m * 16777216)) ≡ (eqb h m && (leb t 120 && leb p 8))
by_mark_good t p h m few less =
    ap fields_good (by_mark t p h m few less) ∙ fields_good_lem t p (bit_xor h m) few less ∙ ap (λ (b : Bool). b && (leb t 120 && leb p 8)) (xor_none h m)

-- four bits that are zero
pub no_bits : (q : ℕ) → (16 * q % 2 ≡ 0) × (16 * q / 2 % 2 ≡ 0) × (16 * q / 4 % 2 ≡ 0) × (16 * q / 8 % 2 ≡ 0)
no_bits q = (omega arith, omega arith, omega arith, omega arith)

-- ---- an entry in its word

parts : (x d t p z : Bool) → (x && (d && t && p && z)) ≡ (d && z && (x && (t && p)))
parts true false t p z = refl
parts false false t p z = refl
parts false true t p true = refl
parts false true t p false = refl
parts true true false p true = refl
parts true true false p false = refl
parts true true true false true = refl
parts true true true false false = refl
parts true true true true true = refl
parts true true true true false = refl

pub bit_at : (word n i j : ℕ) → i ≡ n + j → i < 64 → bit word (i % 64) ≡ word / 2 ^ n / 2 ^ j % 2
bit_at word n i j is l =
    let same : i % 64 ≡ n + j = omega (arith, is, l) in
    rw (same) (ap (λ (x : ℕ). x % 2) (ap (λ (x : ℕ). word / x) (pow-add 2 n j) ∙ sym (div-div-eq-div-mul word (2 ^ n) (2 ^ j))))

in_word : (word n i j m : ℕ) (e : Entry) → i ≡ n + j → i < 64 → word / 2 ^ n / 2 ^ j % 2 ≡ m → (wide_good e && small_good m e) ≡ as_in_word word i e
unfolding entry_in_range
in_word word n i j m e is l at =
    rw (bit_at word n i j is l ∙ at) (sym (parts (eqb e.here m) (up_to max_delay e.delay) (leb e.ttl.0 hold_down.0) (leb e.pid 8) (up_to day_millis e.time)))

pub four_in_word : (a b c d : Entry) (word k bits : ℕ) → bits ≡ word / 2 ^ (4 * k) → k < 16
    → (wide_good a && (wide_good b && (wide_good c && wide_good d)) && (small_good (bits % 2) a && (small_good (bits / 2 % 2) b && (small_good (bits / 4 % 2) c && small_good (bits / 8 % 2) d))))
    ≡ every_from (4 * k) (as_in_word word) (a ∷ b ∷ c ∷ d ∷ [])
four_in_word a b c d word k bits is l =
    let n = 4 * k in
    let first : word / 2 ^ n / 2 ^ 0 % 2 ≡ bits % 2 = ap (λ (x : ℕ). x % 2) (div-one (word / 2 ^ n) ∙ sym is) in
    in_turn_lem (wide_good a) (wide_good b) (wide_good c) (wide_good d) (small_good (bits % 2) a) (small_good (bits / 2 % 2) b) (small_good (bits / 4 % 2) c) (small_good (bits / 8 % 2) d)
    ∙ rw (in_word word n (4 * k) 0 (bits % 2) a (omega arith) (omega (arith, l)) first, in_word word n (suc (4 * k)) 1 (bits / 2 % 2) b (omega arith) (omega (arith, l)) (ap (λ (x : ℕ). x / 2 % 2) (sym is)), in_word word n (suc (suc (4 * k))) 2 (bits / 4 % 2) c (omega arith) (omega (arith, l)) (ap (λ (x : ℕ). x / 4 % 2) (sym is)), in_word word n (suc (suc (suc (4 * k)))) 3 (bits / 8 % 2) d (omega arith) (omega (arith, l)) (ap (λ (x : ℕ). x / 8 % 2) (sym is))) refl
