-- Parts of lists: a part with one place more, what is put over a list and stands there alone, one element more put behind it, and what is put over a part.
use mathlib.Core.Path.{◌≡◌, sym, ap, ◌∙◌}
use mathlib.Core.List.{List, [], ◌∷◌, ◌++◌, append_assoc, append-nil}
use Prim.Native.Nat.{ℕ, suc, ◌+◌, ◌≤◌, ◌<◌}
use native.Mathlib.Nat.{add-zero}
use native.Mathlib.Omega.{arith}
use lib.ListN.{length, take, drop, get_or, set, length-append, length-take, length-drop, take-append-drop}
use lib.Seq.{take-suc, take-add, take-take, drop-cons, drop-drop, drop-append-le, take_at, drop_at, get_or_at, set_at, get_or-drop, length-take-le}
use Rattle.lists.specs.Lists.{part, over}

module _ {A : Type 0} where
  pub part_length : (first count : ℕ) (l : List A) → first + count ≤ length l → length (part first count l) ≡ count
  part_length first count l h = length-take-le count (drop first l) (rw length-drop (omega arith))

  pub part_more : (first n : ℕ) (l : List A) (d : A) → first + n < length l
      → part first (suc n) l ≡ part first n l ++ (get_or l (first + n) d ∷ [])
  part_more first n l d h =
      take-suc (drop first l) n d (rw length-drop (omega arith))
      ∙ ap (λ (x : A). part first n l ++ (x ∷ [])) (get_or-drop first l n d)

  pub over_nothing : (k : ℕ) (b : List A) → over b k [] ≡ b
  over_nothing k b = rw (append-nil (take k b), add-zero k) (take-append-drop k b)

  -- what is put from k on: what stands there, what stands behind it, and what is put behind it in turn
  module _ (k : ℕ) (b xs : List A) (h : k ≤ length b) where
    front_length : length (take k b ++ xs) ≡ k + length xs
    front_length = rw (length-append, length-take-le k b h)

    pub over_there : (n : ℕ) → length xs ≡ n → take n (drop k (over b k xs)) ≡ xs
    over_there n e =
        let d = drop_at (take k b) (xs ++ drop (k + length xs) b) k (length-take-le k b h) in
        rw (append_assoc (take k b), d, take_at xs (drop (k + length xs) b) n e)

    over_front : take (k + length xs) (over b k xs) ≡ take k b ++ xs
    over_front = take_at (take k b ++ xs) (drop (k + length xs) b) (k + length xs) front_length

    pub over_rest : drop (k + length xs) (over b k xs) ≡ drop (k + length xs) b
    over_rest = drop_at (take k b ++ xs) (drop (k + length xs) b) (k + length xs) front_length

    pub over_twice : (ys : List A) → over (over b k xs) (k + length xs) ys ≡ over b k (xs ++ ys)
    over_twice ys =
        let m : k + (length xs + length ys) ≡ k + length xs + length ys = omega arith in
        rw (over_front, ← drop-drop (length ys) (k + length xs) (over b k xs), over_rest, drop-drop (length ys) (k + length xs) b, length-append xs ys, m) (simp append_assoc)

  pub over_length : (k : ℕ) (b r : List A) → k + length r ≤ length b → length (over b k r) ≡ length b
  over_length k b r h = simp (length-append, length-take, length-drop) (omega arith)

  pub over_after : (n k : ℕ) (b r : List A) → take n b ++ over (drop n b) k r ≡ over b (n + k) r
  over_after n k b r =
      let e : n + (k + length r) ≡ n + k + length r = omega arith in
      rw (drop-drop (k + length r) n b, e, take-add n k b) (simp append_assoc)

  -- the element behind what was put, and another in its place
  module _ (k n : ℕ) (b xs : List A) (e : length xs ≡ n) (h : k + n < length b) where
    front : length (take k b ++ xs) ≡ k + n
    front = front_length k b xs (omega arith) ∙ ap (λ (m : ℕ). k + m) e

    split : (d : A) → over b k xs ≡ take k b ++ xs ++ get_or b (k + n) d ∷ drop (suc (k + n)) b
    split d = rw (e) (ap (λ (r : List A). take k b ++ xs ++ r) (drop-cons b (k + n) d h))

    pub over_next : (d : A) → get_or (over b k xs) (k + n) d ≡ get_or b (k + n) d
    over_next d =
        ap (λ (l : List A). get_or l (k + n) d) (split d)
        ∙ get_or_at (take k b ++ xs) (get_or b (k + n) d) (drop (suc (k + n)) b) d (k + n) front

    pub over_more : (a : A) → set (over b k xs) (k + n) a ≡ over b k (xs ++ (a ∷ []))
    over_more a =
        let m : k + (n + 1) ≡ suc (k + n) = omega arith in
        ap (λ (l : List A). set l (k + n) a) (split a)
        ∙ set_at (take k b ++ xs) (get_or b (k + n) a) (drop (suc (k + n)) b) a (k + n) front
        ∙ rw (length-append xs (a ∷ []), e, m) (simp append_assoc)

  -- what is put over a part of a list is put over the list
  module _ (l : List A) (first n i : ℕ) (xs : List A) (inside : i + length xs ≤ n) (there : first + n ≤ length l) where
    abbrev d : List A
    d = drop first l

    long : length (take n d) ≡ n
    long = part_length first n l there

    put : over (take n d) i xs ++ drop n d ≡ over d i xs
    put =
        let t : take i (take n d) ≡ take i d = take-take i n d (omega arith) in
        let r : drop (i + length xs) (take n d) ++ drop n d ≡ drop (i + length xs) d =
        sym (drop-append-le (i + length xs) (take n d) (drop n d) (omega (arith, long))) ∙ ap (drop (i + length xs)) (take-append-drop n d) in
        rw (t) (append_assoc (take i d ++ xs) (drop (i + length xs) (take n d)) (drop n d) ∙ ap (λ z. take i d ++ xs ++ z) r)

    pub over_part : over l first (over (part first n l) i xs) ≡ over l (first + i) xs
    over_part =
        let m : length (over (take n d) i xs) ≡ n = over_length i (take n d) xs (omega (arith, long)) ∙ long in
        rw (m, ← drop-drop n first l) (append_assoc (take first l) (over (take n d) i xs) (drop n d) ∙ ap (λ z. take first l ++ z) put ∙ over_after first i l xs)
