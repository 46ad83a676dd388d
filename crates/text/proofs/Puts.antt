-- What is put at a place of a buffer: one sign, signs behind signs, a list from its end.
use mathlib.Core.Path.{◌≡◌, refl, sym, ap, ◌∙◌}
use mathlib.Core.List.{List, [], ◌∷◌, ◌++◌, append_assoc}
use Prim.Native.Nat.{ℕ, zero, suc, ◌+◌, ◌-◌, ◌/◌, ◌%◌, ◌≤◌, ◌<◌}
use native.Mathlib.Numerals.{add-one}
use native.Mathlib.Nat.{lt-suc_self}
use native.Mathlib.Omega.{arith}
use lib.ListN.{length, drop, set, length-append, length-set}
use lib.Seq.{take-set-le, drop-set-lt, drop-cons, get_or-set_same}
use Rattle.lists.specs.Lists.{over}
use Rattle.lists.proofs.Parts.{over_twice, over_nothing, over_length}
use Rattle.text.specs.Numerals.{zero_sign, digits}
use Rattle.text.specs.code.Put.{Put}

module _ (b : List ℕ) (at c : ℕ) (ys : List ℕ) (h : at + length ys < length b) where
  abbrev place : ℕ
  place = at + length ys

  after_set : drop place (set b place c) ≡ c ∷ drop (suc place) b
  after_set =
      let l : place < length (set b place c) = rw length-set h in
      drop-cons (set b place c) place 0 l
      ∙ rw (get_or-set_same b place c 0 h, drop-set-lt (suc place) b place c (lt-suc_self place))

  -- a sign stored, and signs put in front of it
  pub set_over : over (set b place c) at ys ≡ over b at (ys ++ c ∷ [])
  set_over =
      let e : at + (length ys + 1) ≡ suc place = omega arith in
      rw (take-set-le at b place c (omega arith), after_set, length-append ys (c ∷ []), e) (simp append_assoc)

pub put : (b a : List ℕ) (at n : ℕ) (xs : List ℕ) → n ≡ at + length xs → n ≤ length b → a ≡ over b at xs → Put b a at n xs
put b a at n xs e h q =
    record { behind = e; inside = h; same = ap length q ∙ over_length at b xs (omega arith); buffer = q }

-- signs put behind signs
pub put_then : {b m a : List ℕ} {at p n : ℕ} {xs ys : List ℕ} → Put b m at p xs → Put m a p n ys → Put b a at n (xs ++ ys)
put_then {b} {m} {a} {at} {p} {n} {xs} {ys} f g =
    record {
      behind = omega (arith, length-append xs ys);
      inside = omega arith;
      same = omega arith;
      buffer = g.buffer ∙ rw (f.behind, f.buffer) (over_twice at b xs (omega arith) ys);
    }

-- the last digits put first
pub digits_length : (k n : ℕ) → length (digits k n) ≡ k
unfolding digits
digits_length zero n = refl
digits_length (suc k) n =
    rw (length-append (digits k (n / 10)) ((zero_sign + n % 10) ∷ []), digits_length k (n / 10), add-one)

pub digit_put : (b : List ℕ) (at j n : ℕ) → at + suc j ≤ length b
    → over (set b (at + j) (zero_sign + n % 10)) at (digits j (n / 10)) ≡ over b at (digits (suc j) n)
unfolding digits
digit_put b at j n h =
    let ys = digits j (n / 10) in
    let e : length ys ≡ j = digits_length j (n / 10) in
    ap (λ (m : ℕ). over (set b (at + m) (zero_sign + n % 10)) at ys) (sym e)
    ∙ set_over b at (zero_sign + n % 10) ys (rw e (omega arith))

pub digits_turn : (b : List ℕ) (at left n : ℕ) → 0 < left → at + left ≤ length b
    → over (set b (at + (left - 1)) (zero_sign + n % 10)) at (digits (left - 1) (n / 10)) ≡ over b at (digits left n)
digits_turn b at zero n p h = absurd (omega arith)
digits_turn b at (suc j) n p h = let e : suc j - 1 ≡ j = omega arith in rw e (digit_put b at j n h)

pub digits_none : (b : List ℕ) (at left n : ℕ) → left ≤ 0 → over b at (digits left n) ≡ b
unfolding digits
digits_none b at zero n h = over_nothing at b
digits_none b at (suc j) n h = absurd (omega arith)
