-- Entries that are tested word by word: the tests of the words come to the test of all.
use mathlib.Core.Path.{◌≡◌, refl, sym, ap, ◌∙◌}
use mathlib.Core.Bool.{Bool, true, false, ◌&&◌}
use mathlib.Core.List.{List, [], ◌∷◌, ◌++◌}
use Prim.Native.Nat.{ℕ, suc, ◌+◌, ◌-◌, ◌*◌, ◌/◌, ◌%◌, ◌≤◌, ◌<◌}
use native.Mathlib.Omega.{arith}
use lib.ListN.{length, drop}
use lib.Seq.{take-add, drop-drop}
use Rattle.lists.specs.Lists.{part}
use Rattle.lists.proofs.Parts.{part_length}
use Rattle.table.specs.declared.Entry.{Entry}
use Rattle.table.specs.declared.entries.Scan.{Scan}
use Rattle.table.specs.Forms.{every, every_from}
use Rattle.table.specs.Marks.{mark}
use Rattle.table.specs.Entry.{as_marked, entry_in_range}
use Rattle.table.specs.code.Loops.{InEntries, all_in_range}
use Rattle.table.specs.code.Words.{word_of, InWord, stretch_of, StretchFits, as_in_word, all_as_in_word}
use Rattle.table.proofs.Loops.{both_lists}

-- ---- elements that are tested

shuffled : (a b c d : Bool) → (a && b && (c && d)) ≡ (c && a && (b && d))
shuffled false b false d = refl
shuffled false b true d = refl
shuffled true b true d = refl
shuffled true false false d = refl
shuffled true true false d = refl

-- by two tests, and by both at once
at_once : {A : Type 0} (i : ℕ) (test : A → Bool) (counted : ℕ → A → Bool) (xs : List A)
    → (every test xs && every_from i counted xs) ≡ every_from i (λ (n : ℕ) (x : A). counted n x && test x) xs
at_once i test counted [] = refl
at_once i test counted (x ∷ xs) =
    shuffled (test x) (every test xs) (counted i x) (every_from (suc i) counted xs)
    ∙ ap (λ (b : Bool). counted i x && test x && b) (at_once (suc i) test counted xs)

-- two tests that are the same, which are counted from two places
pub alike : {A : Type 0} (f g : ℕ → A → Bool) (c i : ℕ) (xs : List A) → ((n : ℕ) (x : A) → n < i + length xs → f n x ≡ g (c + n) x)
    → every_from i f xs ≡ every_from (c + i) g xs
alike f g c i [] same = refl
alike f g c i (x ∷ xs) same =
    let s : c + suc i ≡ suc (c + i) = omega arith in
    let here : f i x ≡ g (c + i) x = same i x (omega arith) in
    let rest : every_from (suc i) f xs ≡ every_from (c + suc i) g xs = alike f g c (suc i) xs (λ n y l. same n y (omega (arith, l))) in
    rw (here, rest, s) refl

-- a part of two
pub two_parts : {A : Type 0} (first a b : ℕ) (l : List A) → part first (a + b) l ≡ part first a l ++ part (first + a) b l
two_parts first a b l = rw (← drop-drop a first l) (take-add a b (drop first l))

-- ---- the entries of a word

-- the first n ids have their marks and are in range
abbrev pub passed : Scan → List Entry → (n : ℕ) → Bool
passed w entries n = every_from 0 (λ (id : ℕ) (e : Entry). as_marked w.marks id e && entry_in_range e) (part w.first n entries)

module _ (entries : List Entry) (w : Scan) (h : InEntries w.first w.end entries) where
  abbrev pub N : ℕ
  N = w.end - w.first

  abbrev test : ℕ → Entry → Bool
  test id e = as_marked w.marks id e && entry_in_range e

  -- an id's mark is the bit of its word
  in_word : (k n : ℕ) (e : Entry) → n < 64 → as_in_word (word_of w.marks (64 * k)) n e ≡ test (64 * k + n) e
  unfolding mark
  in_word k n e l =
      let which : (64 * k + n) / 64 ≡ 64 * k / 64 = omega (arith, l) in
      let place : (64 * k + n) % 64 ≡ n % 64 = omega (arith, l) in
      rw (which, place) refl

  -- the ids of one word more, up to m
  word_more : (k m : ℕ) → 64 * k ≤ m → m ≤ 64 * k + 64 → m ≤ N → (stretch_of k w).end ≡ w.first + m
      → (passed w entries (64 * k) && all_as_in_word (stretch_of k w) entries) ≡ passed w entries m
  word_more k m from to inside ends =
      let first = w.first + 64 * k in
      let count : (stretch_of k w).end - first ≡ m - 64 * k = omega (arith, ends) in
      let long : length (part first (m - 64 * k) entries) ≡ m - 64 * k = part_length first (m - 64 * k) entries (omega (arith, from, to, inside, h.rising, h.inside)) in
      let before : length (part w.first (64 * k) entries) ≡ 64 * k = part_length w.first (64 * k) entries (omega (arith, from, to, inside, h.rising, h.inside)) in
      let here : every_from 0 (as_in_word (word_of w.marks (64 * k))) (part first (m - 64 * k) entries) ≡ every_from (64 * k + 0) test (part first (m - 64 * k) entries) =
      alike (as_in_word (word_of w.marks (64 * k))) test (64 * k) 0 (part first (m - 64 * k) entries) (λ n e l. in_word k n e (omega (arith, l, long, to))) in
      let all : 64 * k + (m - 64 * k) ≡ m = omega (arith, from) in
      let at : 64 * k + 0 ≡ 0 + length (part w.first (64 * k) entries) = omega (arith, before) in
      rw (count, here, at) (both_lists 0 test (part w.first (64 * k) entries) (part first (m - 64 * k) entries)
      ∙ ap (every_from 0 test) (sym (two_parts w.first (64 * k) (m - 64 * k) entries)) ∙ ap (passed w entries) all)

  -- a word that is full, and the last
  pub full_word : (k : ℕ) → 64 * suc k ≤ N → (passed w entries (64 * k) && all_as_in_word (stretch_of k w) entries) ≡ passed w entries (64 * suc k)
  full_word k l = word_more k (64 * suc k) (omega arith) (omega arith) l (omega (arith, l))

  pub last_word : (k : ℕ) → 64 * k ≤ N → N < 64 * suc k → (passed w entries (64 * k) && all_as_in_word (stretch_of k w) entries) ≡ passed w entries N
  last_word k l m = word_more k N l (omega (arith, m)) (omega arith) (omega (arith, m, h.rising))

  -- and all
  pub all_good : passed w entries N ≡ all_in_range w entries
  unfolding all_in_range
  all_good = sym (at_once 0 entry_in_range (as_marked w.marks) (part w.first N entries))

-- ---- the stretch of a word

pub stretch_few : (k : ℕ) (w : Scan) → (stretch_of k w).end - (stretch_of k w).first ≤ 64
stretch_few k w = omega arith

pub stretch_fits : (entries : List Entry) (k : ℕ) (w : Scan) → InEntries w.first w.end entries → InWord k w → StretchFits (stretch_of k w) entries
stretch_fits entries k w h i =
    record { places = record { rising = omega (arith, i.before, i.rising); inside = omega (arith, h.inside) }; few = stretch_few k w }
