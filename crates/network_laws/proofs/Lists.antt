-- A predicate over the elements of a list, with their places. Nothing here knows of hosts.
use mathlib.Core.Path.{◌≡◌, refl, sym, ap, subst, ◌∙◌}
use mathlib.Core.Bool.{Bool, true, false}
use mathlib.Core.List.{List, [], ◌∷◌, ◌++◌, map}
use Prim.Native.Nat.{ℕ, zero, suc, ◌+◌, ◌-◌, ◌≤◌, ◌<◌, min}
use native.Mathlib.Nat.{zero-add}
use native.Mathlib.Omega.{arith}
use borrow.Author.Tests.{ltb-true, ltb-false}
use lib.Dec.{ltb}
use lib.ListN.{length, get_or, take, drop, set, length-append, length-take, length-drop, get_or-append}
use lib.Seq.{get_or-take, get_or-drop, get_or-append-add}
use Rattle.lists.specs.Lists.{part, over}
use Rattle.lists.proofs.Tests.{both}
use Rattle.table.specs.Forms.{every, every_from, map_from}

-- an element stored again at its place
pub set_same : {A : Type 0} (d : A) (l : List A) (i : ℕ) → set l i (get_or l i d) ≡ l
set_same d [] i = refl
set_same d (a ∷ l) zero = refl
set_same d (a ∷ l) (suc i) = ap (λ (m : List _). a ∷ m) (set_same d l i)

-- P holds of each element and its place, from 0
abbrev pub All : {A : Type 0} → (ℕ → A → Type 0) → List A → Type 0
All P [] = Unit {0}
All P (a ∷ l) = P 0 a × All (λ i. P (suc i)) l

-- of the element at place i, or of a default that satisfies P everywhere
pub all_at : {A : Type 0} (P : ℕ → A → Type 0) (d : A) → ((i : ℕ) → P i d) → (l : List A) → All P l → (i : ℕ) → P i (get_or l i d)
all_at P d h [] t i = h i
all_at P d h (a ∷ l) t zero = t.0
all_at P d h (a ∷ l) t (suc i) = all_at (λ j. P (suc j)) d (λ j. h (suc j)) l t.1 i

pub all_map : {A B : Type 0} (P : ℕ → A → Type 0) (Q : ℕ → B → Type 0) (f : A → B) (l : List A)
    → ((i : ℕ) (a : A) → i < length l → P i a → Q i (f a)) → All P l → All Q (map f l)
all_map P Q f [] h t = tt
all_map P Q f (a ∷ l) h t =
    (h 0 a (omega arith) t.0, all_map (λ i. P (suc i)) (λ i. Q (suc i)) f l (λ i b g. h (suc i) b (omega arith)) t.1)

-- of elements that are made anew with their counts, from k on
pub all_counted : {A B : Type 0} (P : ℕ → A → Type 0) (Q : ℕ → B → Type 0) (k : ℕ) (f : ℕ → A → B) (l : List A)
    → ((i : ℕ) (a : A) → i < length l → P i a → Q i (f (k + i) a)) → All P l → All Q (map_from k f l)
all_counted P Q k f [] h t = tt
all_counted P Q k f (a ∷ l) h t =
    let z : k + 0 ≡ k = omega arith in (
      rw z at (h 0 a (omega arith) t.0),
      all_counted (λ i. P (suc i)) (λ i. Q (suc i)) (suc k) f l
          (λ i b g p. let s : k + suc i ≡ suc k + i = omega arith in rw s at (h (suc i) b (omega arith) p)) t.1,
    )

-- of any elements
pub all_any : {A : Type 0} (P : ℕ → A → Type 0) → ((i : ℕ) (a : A) → P i a) → (l : List A) → All P l
all_any P h [] = tt
all_any P h (a ∷ l) = (h 0 a, all_any (λ i. P (suc i)) (λ i. h (suc i)) l)

pub all_weaken : {A : Type 0} (P Q : ℕ → A → Type 0) → ((i : ℕ) (a : A) → P i a → Q i a) → (l : List A) → All P l → All Q l
all_weaken P Q h [] t = tt
all_weaken P Q h (a ∷ l) t = (h 0 a t.0, all_weaken (λ i. P (suc i)) (λ i. Q (suc i)) (λ i. h (suc i)) l t.1)

-- a test of every element with its count, as a predicate and back
from_all : {A : Type 0} (k : ℕ) (test : ℕ → A → Bool) (l : List A) → every_from k test l ≡ true → All (λ (i : ℕ) (a : A). test (k + i) a ≡ true) l
from_all k test [] e = tt
from_all k test (a ∷ l) e =
    let b = both (test k a) (every_from (suc k) test l) e in
    let z : k + 0 ≡ k = omega arith in (
      rw z b.0,
      all_weaken (λ i c. test (suc k + i) c ≡ true) (λ i c. test (k + suc i) c ≡ true)
          (λ i c p. let s : k + suc i ≡ suc k + i = omega arith in rw s p) l (from_all (suc k) test l b.1),
    )

all_from : {A : Type 0} (k : ℕ) (test : ℕ → A → Bool) (l : List A) → All (λ (i : ℕ) (a : A). test (k + i) a ≡ true) l → every_from k test l ≡ true
all_from k test [] t = refl
all_from k test (a ∷ l) t =
    let z : k + 0 ≡ k = omega arith in
    let rest = all_weaken (λ i c. test (k + suc i) c ≡ true) (λ i c. test (suc k + i) c ≡ true)
    (λ i c p. let s : k + suc i ≡ suc k + i = omega arith in rw s at p) l t.1 in
    rw (rw z at t.0, all_from (suc k) test l rest) refl

pub each_all : {A : Type 0} (test : ℕ → A → Bool) (l : List A) → every_from 0 test l ≡ true → All (λ (i : ℕ) (a : A). test i a ≡ true) l
each_all test l e = all_weaken (λ i a. test (0 + i) a ≡ true) (λ i a. test i a ≡ true) (λ i a p. rw (zero-add i) at p) l (from_all 0 test l e)

pub all_each : {A : Type 0} (test : ℕ → A → Bool) (l : List A) → All (λ (i : ℕ) (a : A). test i a ≡ true) l → every_from 0 test l ≡ true
all_each test l t = all_from 0 test l (all_weaken (λ i a. test i a ≡ true) (λ i a. test (0 + i) a ≡ true) (λ i a p. rw (zero-add i) p) l t)

-- what is at each place
pub all_get_d : {A : Type 0} (d : A) (l : List A) → All (λ (i : ℕ) (a : A). a ≡ get_or l i d) l
all_get_d d [] = tt
all_get_d d (a ∷ l) = (refl, all_get_d d l)

-- with one element stored, where P holds of all the others
pub all_put : {A : Type 0} (P : ℕ → A → Type 0) (i : ℕ) (a : A) → P i a → (l : List A) → All (λ (j : ℕ) (b : A). (j ≡ i → ⊥) → P j b) l → All P (set l i a)
all_put P i a p [] t = tt
all_put P zero a p (b ∷ l) t = (p, all_weaken (λ j c. (suc j ≡ 0 → ⊥) → P (suc j) c) (λ j. P (suc j)) (λ j c f. f (λ e. omega arith)) l t.1)
all_put P (suc i) a p (b ∷ l) t = (
  t.0 (λ e. omega arith),
  all_put (λ j. P (suc j)) i a p l (all_weaken (λ j c. (suc j ≡ suc i → ⊥) → P (suc j) c) (λ j c. (j ≡ i → ⊥) → P (suc j) c) (λ j c f not. f (λ e. not (omega arith))) l t.1),
)

pub all_set : {A : Type 0} (P : ℕ → A → Type 0) (i : ℕ) (a : A) → P i a → (l : List A) → All P l → All P (set l i a)
all_set P i a p [] t = tt
all_set P zero a p (b ∷ l) t = (p, t.1)
all_set P (suc i) a p (b ∷ l) t = (t.0, all_set (λ j. P (suc j)) i a p l t.1)

pub all_take : {A : Type 0} (P : ℕ → A → Type 0) (n : ℕ) (l : List A) → All P l → All P (take n l)
all_take P zero l t = tt
all_take P (suc n) [] t = tt
all_take P (suc n) (a ∷ l) t = (t.0, all_take (λ i. P (suc i)) n l t.1)

-- of a list that begins like another, where P holds of all elements from place n on
pub all_first : {A : Type 0} (P : ℕ → A → Type 0) (n : ℕ) → ((i : ℕ) (a : A) → n ≤ i → P i a) → (l m : List A)
    → take n l ≡ take n m → All P l → All P m
all_first P n h l [] e t = tt
all_first P zero h l (b ∷ m) e t = (h 0 b (omega arith), all_first (λ i. P (suc i)) zero (λ i a g. h (suc i) a (omega arith)) [] m refl tt)
all_first P (suc n) h [] (b ∷ m) e t = absurd (let z : ◌≡◌ {A = ℕ} 0 1 = cc in omega arith)
all_first P (suc n) h (a ∷ l) (b ∷ m) e t =
    let same : a ≡ b = cc in
    let rest : take n l ≡ take n m = cc in
    (subst (P 0) same t.0, all_first (λ i. P (suc i)) n (λ i c g. h (suc i) c (omega arith)) l m rest t.1)

pub all_made : {A B : Type 0} (P : ℕ → B → Type 0) (f : A → B) → ((i : ℕ) (a : A) → P i (f a)) → (l : List A) → All P (map f l)
all_made P f h [] = tt
all_made P f h (a ∷ l) = (h 0 a, all_made (λ i. P (suc i)) f (λ i. h (suc i)) l)

-- a test of every element, as a predicate and back; two predicates at once
pub every_all : {A : Type 0} (test : A → Bool) (l : List A) → every test l ≡ true → All (λ (i : ℕ) (a : A). test a ≡ true) l
every_all test [] e = tt
every_all test (a ∷ l) e = let b = both (test a) (every test l) e in (b.0, every_all test l b.1)

pub all_every : {A : Type 0} (test : A → Bool) (l : List A) → All (λ (i : ℕ) (a : A). test a ≡ true) l → every test l ≡ true
all_every test [] t = refl
all_every test (a ∷ l) t = rw (t.0, all_every test l t.1)

pub all_both : {A : Type 0} (P Q : ℕ → A → Type 0) (l : List A) → All P l → All Q l → All (λ (i : ℕ) (a : A). P i a × Q i a) l
all_both P Q [] s t = tt
all_both P Q (a ∷ l) s t = ((s.0, t.0), all_both (λ i. P (suc i)) (λ i. Q (suc i)) l s.1 t.1)

-- ---- by places

-- of the element at a place of the list, and back
pub all_there : {A : Type 0} (P : ℕ → A → Type 0) (d : A) (l : List A) → All P l → (i : ℕ) → i < length l → P i (get_or l i d)
all_there P d [] t i h = absurd (omega arith)
all_there P d (a ∷ l) t zero h = t.0
all_there P d (a ∷ l) t (suc i) h = all_there (λ j. P (suc j)) d l t.1 i (omega arith)

pub all_of : {A : Type 0} (P : ℕ → A → Type 0) (d : A) (l : List A) → ((i : ℕ) → i < length l → P i (get_or l i d)) → All P l
all_of P d [] h = tt
all_of P d (a ∷ l) h = (h 0 (omega arith), all_of (λ j. P (suc j)) d l (λ i g. h (suc i) (omega arith)))

-- of a part of the list
pub all_part : {A : Type 0} (P : ℕ → A → Type 0) (d : A) (k n : ℕ) (l : List A) → All P l → All (λ i. P (i + k)) (part k n l)
all_part P d k n l t =
    all_of (λ i. P (i + k)) d (part k n l)
    (λ i h.
    let s : length (part k n l) ≡ min n (length l - k) = length-take n (drop k l) ∙ ap (min n) (length-drop k l) in
    let here : get_or (part k n l) i d ≡ get_or l (k + i) d = get_or-take n (drop k l) i d (omega arith) ∙ get_or-drop k l i d in
    let comm : i + k ≡ k + i = omega arith in
    rw (here, comm) (all_there P d l t (k + i) (omega arith)))

-- of a list with another over a part of it
module _ {A : Type 0} (k n : ℕ) (b r : List A) (same : length r ≡ length (part k n b)) where
  part_size : length r ≡ min n (length b - k)
  part_size = same ∙ length-take n (drop k b) ∙ ap (min n) (length-drop k b)

  pub over_size : length (over b k r) ≡ length b
  over_size = simp (length-append, length-take, length-drop) (omega (arith, part_size))

  pub all_over : (P : ℕ → A → Type 0) (d : A) → All P b → All (λ i. P (i + k)) r → All P (over b k r)
  all_over P d old new = all_of P d (over b k r) (λ i h. go i (omega (arith, over_size)) (ltb i k) (ltb i (k + length r)) refl refl)
    where
      front : (i : ℕ) → i < length b → i < k → get_or (over b k r) i d ≡ get_or b i d
      front i h g =
          get_or-append (take k b ++ r) (drop (k + length r) b) d i (omega (arith, length-append (take k b) r, length-take k b))
          ∙ get_or-append (take k b) r d i (omega (arith, length-take k b))
          ∙ get_or-take k b i d g

      go : (i : ℕ) → i < length b → (x y : Bool) → ltb i k ≡ x → ltb i (k + length r) ≡ y → P i (get_or (over b k r) i d)
      go i h true y e f = rw (front i h (ltb-true i k e)) (all_there P d b old i h)
      go i h false true e f =
          let low = ltb-false i k e in
          let high = ltb-true i (k + length r) f in
          let at : length (take k b) + (i - k) ≡ i = omega (arith, length-take k b) in
          let here : get_or (over b k r) i d ≡ get_or r (i - k) d =
          get_or-append (take k b ++ r) (drop (k + length r) b) d i (omega (arith, length-append (take k b) r, length-take k b))
          ∙ ap (λ j. get_or (take k b ++ r) j d) (sym at)
          ∙ get_or-append-add (take k b) r (i - k) d in
          let back : (i - k) + k ≡ i = omega arith in
          rw here (subst (λ j. P j (get_or r (i - k) d)) back (all_there (λ j. P (j + k)) d r new (i - k) (omega arith)))
      go i h false false e f =
          let high = ltb-false i (k + length r) f in
          let at : length (take k b ++ r) + (i - (k + length r)) ≡ i = omega (arith, length-append (take k b) r, length-take k b, part_size) in
          let back : k + length r + (i - (k + length r)) ≡ i = omega arith in
          let here : get_or (over b k r) i d ≡ get_or b i d =
          ap (λ j. get_or (over b k r) j d) (sym at)
          ∙ get_or-append-add (take k b ++ r) (drop (k + length r) b) (i - (k + length r)) d
          ∙ get_or-drop (k + length r) b (i - (k + length r)) d
          ∙ ap (λ j. get_or b j d) back in
          rw here (all_there P d b old i h)
