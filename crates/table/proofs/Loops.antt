-- What a loop over the run has made after n turns: what its definition makes of the first n places.
use mathlib.Core.Path.{◌≡◌, refl, sym, ap, ◌∙◌}
use mathlib.Core.Bool.{Bool, ◌&&◌, and-true, and_assoc}
use mathlib.Core.List.{List, [], ◌∷◌, ◌++◌, map, map-append}
use Prim.Native.Nat.{ℕ, suc, ◌+◌, ◌-◌, ◌≤◌, ◌<◌}
use native.Mathlib.Nat.{add-zero}
use native.Mathlib.Omega.{arith}
use lib.ListN.{length, get_or, set, length-map}
use Rattle.lists.specs.Lists.{part, over}
use Rattle.lists.proofs.Parts.{part_more, part_length, over_next, over_more}
use Rattle.clock.specs.declared.Clock.{Clock}
use Rattle.wire.specs.declared.Report.{Report}
use Rattle.wire.specs.code.Sealing.{with_report, with_reports}
use Rattle.table.specs.declared.Entry.{Entry}
use Rattle.table.specs.declared.Updated.{Updated}
use Rattle.table.specs.Forms.{every_from, map_from}
use Rattle.table.specs.Sweep.{Swept, sweep}
use Rattle.table.proofs.Sweeps.{sweep_length, sweep_more}

-- ---- one element more, and of a test as many as there are

-- the elements of two lists
pub both_lists : {A : Type 0} (i : ℕ) (test : ℕ → A → Bool) (xs ys : List A)
    → (every_from i test xs && every_from (i + length xs) test ys) ≡ every_from i test (xs ++ ys)
both_lists i test [] ys = rw (add-zero i) refl
both_lists i test (x ∷ xs) ys =
    let s : i + suc (length xs) ≡ suc i + length xs = omega arith in
    rw (s) (and_assoc (test i x) (every_from (suc i) test xs) (every_from (suc i + length xs) test ys) ∙ ap (λ (b : Bool). test i x && b) (both_lists (suc i) test xs ys))

pub map_length : {A B : Type 0} (i : ℕ) (f : ℕ → A → B) (xs : List A) → length (map_from i f xs) ≡ length xs
map_length i f [] = refl
map_length i f (x ∷ xs) = ap suc (map_length (suc i) f xs)

map_more : {A B : Type 0} (i : ℕ) (f : ℕ → A → B) (xs : List A) (a : A)
    → map_from i f (xs ++ (a ∷ [])) ≡ map_from i f xs ++ (f (i + length xs) a ∷ [])
map_more i f [] a = rw (add-zero i) refl
map_more i f (x ∷ xs) a =
    let s : i + suc (length xs) ≡ suc i + length xs = omega arith in
    rw (s, map_more (suc i) f xs a) refl

reports_more : (i : ℕ) (rs : List Report) (r : Report) (b : List ℕ) → with_reports i (rs ++ (r ∷ [])) b ≡ with_report (i + length rs) r (with_reports i rs b)
unfolding with_reports
reports_more i [] r b = let z : i + 0 ≡ i = omega arith in rw (z) refl
reports_more i (x ∷ rs) r b = let s : i + suc (length rs) ≡ suc i + length rs = omega arith in rw (s) (reports_more (suc i) rs r (with_report i x b))

-- four elements, and the part that has them
pub four_of : (entries : List Entry) (i : ℕ) (none : Entry) → i + 4 ≤ length entries
    → get_or entries i none ∷ get_or entries (i + 1) none ∷ get_or entries (i + 2) none ∷ get_or entries (i + 3) none ∷ [] ≡ part i 4 entries
four_of entries i none l =
    let at : i + 0 ≡ i = omega arith in
    let plus : (n : ℕ) → List Entry → List Entry = λ n xs. xs ++ (get_or entries (i + n) none ∷ []) in
    sym
    (part_more i 3 entries none (omega (arith, l)) ∙ ap (plus 3) (part_more i 2 entries none (omega (arith, l)) ∙ ap (plus 2) (part_more i 1 entries none (omega (arith, l))
    ∙ ap (plus 1) (part_more i 0 entries none (omega (arith, l)) ∙ ap (λ (j : ℕ). get_or entries j none ∷ []) at))))

-- ---- one turn more, at the place first + n

module _ (entries : List Entry) (first n : ℕ) (none : Entry) (inside : first + n < length entries) where
  abbrev e : Entry
  e = get_or entries (first + n) none

  abbrev done : List Entry
  done = part first n entries

  done_length : length done ≡ n
  done_length = part_length first n entries (omega arith)

  pub test_turn : (test : ℕ → Entry → Bool) → (every_from 0 test done && test (first + n - first) e) ≡ every_from 0 test (part first (suc n) entries)
  test_turn test =
      let at : first + n - first ≡ 0 + length done = omega (arith, done_length) in
      rw (part_more first n entries none inside, at)
      (ap (λ (b : Bool). every_from 0 test done && b) (sym (and-true (test (0 + length done) e))) ∙ both_lists 0 test done (e ∷ []))

  -- an entry put in its place behind those that were made
  pub put_turn : (es : List Entry) → length es ≡ n → (f : Entry → Entry)
      → set (over entries first es) (first + n) (f (get_or (over entries first es) (first + n) none)) ≡ over entries first (es ++ (f e ∷ []))
  put_turn es l f = rw (over_next first n entries es l inside none) (over_more first n entries es l inside (f e))

  pub map_turn : (f : ℕ → Entry → Entry)
      → set (over entries first (map_from 0 f done)) (first + n) (f (first + n - first) (get_or (over entries first (map_from 0 f done)) (first + n) none))
      ≡ over entries first (map_from 0 f (part first (suc n) entries))
  map_turn f =
      let id : first + n - first ≡ n = omega arith in
      let at : 0 + length done ≡ n = omega (arith, done_length) in
      let more = ap (map_from 0 f) (part_more first n entries none inside) ∙ map_more 0 f done e ∙ ap (λ m. map_from 0 f done ++ (f m e ∷ [])) at in
      rw (id) (put_turn (map_from 0 f done) (map_length 0 f done ∙ done_length) (f n) ∙ ap (over entries first) (sym more))

  pub report_turn : (f : Entry → Report) (b : List ℕ)
      → with_report (first + n - first) (f e) (with_reports 0 (map f done) b) ≡ with_reports 0 (map f (part first (suc n) entries)) b
  report_turn f b =
      let id : first + n - first ≡ n = omega arith in
      let at : 0 + length (map f done) ≡ n = omega (arith, length-map done f, done_length) in
      rw (part_more first n entries none inside, map-append f done (e ∷ []), reports_more 0 (map f done) (f e) b, at, id) refl

  module _ (update : ℕ → Clock → Entry → Updated) (c : Clock) where
    abbrev swept : Swept
    swept = sweep first update c done

    pub sweep_turn : sweep first update c (part first (suc n) entries)
        ≡ record {
          clock = (update (first + n) swept.clock e).clock;
          own_entries = swept.own_entries ++ ((update (first + n) swept.clock e).entry ∷ []);
        }
    sweep_turn = rw (part_more first n entries none inside, sweep_more first update c done e, done_length) refl

    -- the run and the clock after one turn more
    pub sweep_entries :
        set (over entries first swept.own_entries) (first + n)
        (update (first + n) swept.clock (get_or (over entries first swept.own_entries) (first + n) none)).entry
        ≡ over entries first (sweep first update c (part first (suc n) entries)).own_entries
    sweep_entries =
        put_turn swept.own_entries (sweep_length first update c done ∙ done_length) (λ (x : Entry). (update (first + n) swept.clock x).entry)
        ∙ ap (λ (s : Swept). over entries first s.own_entries) (sym sweep_turn)

    pub sweep_clock :
        (update (first + n) swept.clock (get_or (over entries first swept.own_entries) (first + n) none)).clock
        ≡ (sweep first update c (part first (suc n) entries)).clock
    sweep_clock =
        rw (over_next first n entries swept.own_entries (sweep_length first update c done ∙ done_length) inside none)
        (ap (λ (s : Swept). s.clock) (sym sweep_turn))
