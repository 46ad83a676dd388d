-- A loop that tests entries ends at the first that fails. These lemmas go from the test of the first entries to that of one, four or a word more, and to that of all.
use mathlib.Core.Path.{◌≡◌, sym, ap, ◌∙◌}
use mathlib.Core.Bool.{Bool, true, false, ◌&&◌}
use mathlib.Core.List.{List}
use Prim.Native.Nat.{ℕ, suc, ◌+◌, ◌-◌, ◌*◌, ◌≤◌, ◌<◌}
use Rattle.std.proofs.Common.{⊎_elim}
use Rattle.std.proofs.lemmas.Bool.{cases_lt}
use native.Mathlib.Omega.{arith}
use lib.ListN.{length, get_or}
use Rattle.lists.specs.Lists.{part}
use Rattle.table.specs.declared.Entry.{Entry}
use Rattle.table.specs.declared.entries.Scan.{Scan}
use Rattle.table.specs.Forms.{every_from}
use Rattle.table.specs.Entry.{as_marked, entry_in_range}
use Rattle.table.specs.code.Loops.{InEntries, all_in_range}
use Rattle.table.specs.code.Words.{stretch_of, all_as_in_word}
use Rattle.table.proofs.ByWords.{passed, full_word, last_word, all_good}
use Rattle.table.proofs.Loops.{test_turn}
use Rattle.table.proofs.WordByFours.{two_tests}

module _ (entries : List Entry) (first : ℕ) (test : ℕ → Entry → Bool) where
  -- the first n entries pass
  abbrev pub good_to : (n : ℕ) → Bool
  good_to n = every_from 0 test (part first n entries)

  -- those before pass, and g is the test of one or four more
  pub one_more : (i : ℕ) (none : Entry) (g : Bool) → first ≤ i → i < length entries → good_to (i - first) ≡ true → g ≡ test (i - first) (get_or entries i none)
      → g ≡ good_to (i + 1 - first)
  one_more i none g low inside so is =
      let at : first + (i - first) ≡ i = omega (arith, low) in
      let next : suc (i - first) ≡ i + 1 - first = omega (arith, low) in
      is ∙ ap (λ (b : Bool). b && test (i - first) (get_or entries i none)) (sym so)
      ∙ ap (λ (j : ℕ). good_to (i - first) && test (j - first) (get_or entries j none)) (sym at)
      ∙ test_turn entries first (i - first) none (omega (arith, low, inside)) test ∙ ap good_to next

  pub four_more : (k : ℕ) (g : Bool) → first + 4 * k + 4 ≤ length entries → good_to (4 * k) ≡ true → g ≡ every_from (4 * k) test (part (first + 4 * k) 4 entries)
      → g ≡ good_to (4 * (k + 1))
  four_more k g inside so is =
      let at : 4 * k ≡ 0 + 4 * k = omega arith in
      let next : 4 * k + 4 ≡ 4 * (k + 1) = omega arith in
      is ∙ ap (λ (b : Bool). b && every_from (4 * k) test (part (first + 4 * k) 4 entries)) (sym so)
      ∙ ap (λ (j : ℕ). good_to (4 * k) && every_from j test (part (first + 4 * k) 4 entries)) at
      ∙ two_tests entries first (4 * k) 4 0 test (omega (arith, inside)) ∙ ap good_to next

  -- some entries fail, so all do
  pub fails : (n m : ℕ) → n ≤ m → first + m ≤ length entries → good_to n ≡ false → false ≡ good_to m
  fails n m low inside is =
      let sum : m ≡ n + (m - n) = omega (arith, low) in
      sym
      (ap good_to sum ∙ sym (two_tests entries first n (m - n) 0 test (omega (arith, low, inside)))
      ∙ ap (λ (b : Bool). b && every_from (0 + n) test (part (first + n) (m - n) entries)) is)

-- ---- entries tested word by word

module _ (entries : List Entry) (w : Scan) (h : InEntries w.first w.end entries) where
  abbrev N : ℕ
  N = w.end - w.first

  -- the ids of the first k words pass, as far as there are ids
  abbrev pub words_good : (k : ℕ) → Bool
  words_good k = passed w entries (N - (N - 64 * k))

  pub word_more : (k : ℕ) (g : Bool) → 64 * k ≤ N → words_good k ≡ true → g ≡ all_as_in_word (stretch_of k w) entries → g ≡ words_good (k + 1)
  word_more k g l so is =
      let here : N - (N - 64 * k) ≡ 64 * k = omega (arith, l) in
      is ∙ ap (λ (b : Bool). b && all_as_in_word (stretch_of k w) entries) (sym so)
      ∙ ap (λ (n : ℕ). passed w entries n && all_as_in_word (stretch_of k w) entries) here ∙ ⊎_elim last full (cases_lt N (64 * suc k))
    where
      last : N < 64 * suc k → (passed w entries (64 * k) && all_as_in_word (stretch_of k w) entries) ≡ words_good (k + 1)
      last m = let all : N ≡ N - (N - 64 * (k + 1)) = omega (arith, m) in last_word entries w h k l m ∙ ap (passed w entries) all

      full : 64 * suc k ≤ N → (passed w entries (64 * k) && all_as_in_word (stretch_of k w) entries) ≡ words_good (k + 1)
      full m = let next : 64 * suc k ≡ N - (N - 64 * (k + 1)) = omega (arith, m) in full_word entries w h k m ∙ ap (passed w entries) next

  pub words_done : (k : ℕ) → N < 64 * k → words_good k ≡ all_in_range w entries
  words_done k l =
      let all : N - (N - 64 * k) ≡ N = omega (arith, l) in
      ap (passed w entries) all ∙ all_good entries w h

  pub words_fail : (k : ℕ) → words_good k ≡ false → false ≡ all_in_range w entries
  words_fail k is =
      fails entries w.first (λ (id : ℕ) (e : Entry). as_marked w.marks id e && entry_in_range e) (N - (N - 64 * k)) N (omega arith) (omega (arith, h.rising, h.inside)) is
      ∙ all_good entries w h
