-- An update changes an entry in one of five ways, because lines (a) and (b) each make one test.
use mathlib.Core.Path.{◌≡◌, refl, sym, ◌∙◌}
use mathlib.Core.Bool.{Bool, true, false, true≢false, false≢true, not, ◌&&◌}
use mathlib.Core.Logic.{◌⊎◌, inl, inr}
use Prim.Native.Nat.{ℕ}
use native.Mathlib.Omega.{arith}
use borrow.Author.Tests.{eqb-true}
use lib.Dec.{eqb}
use lib.IntN.{pos, ◌+ℤ◌}
use Rattle.lists.proofs.Tests.{either, both}
use Rattle.quantity.proofs.Ints.{sum, lt_yes, lt_no}
use Rattle.quantity.specs.Quantity.{add_millis, less_millis}
use Rattle.table.specs.declared.Entry.{Entry}
use Rattle.table.specs.declared.Update.{Update}
use Rattle.table.specs.Forms.{Stage, ◌then◌}
use Rattle.table.specs.Entry.{max_delay, min_delay, up, taken_down}
use Rattle.table.specs.Update.{line_a, line_b, line_c, lines, left}
use Rattle.table.proofs.Cases.{stored}

-- a way of more cables than this is never up: its DELAY would be 30,000 ms
abbrev pub farthest : ℕ
farthest = 298

-- more cables than any entry that is up has
abbrev pub any_hops : ℕ
any_hops = 300

-- line (a) ends here
abbrev pub stays : Update → Entry → Bool
stays u e = not (eqb u.pid e.pid) && less_millis e.delay (add_millis u.delay min_delay)

abbrev pub revives : Update → Entry → Bool
revives u e = less_millis u.delay max_delay && eqb e.ttl.0 0

pub lines_cases : (Q : Entry → Type 0) (u : Update) (e : Entry)
    → (stays u e ≡ true → Q e)
    → (stays u e ≡ false → up e ≡ true → less_millis u.delay max_delay ≡ true → Q (stored u e))
    → (stays u e ≡ false → up e ≡ true → less_millis u.delay max_delay ≡ false → Q (taken_down e))
    → (stays u e ≡ false → up e ≡ false → revives u e ≡ true → Q (stored u e))
    → (stays u e ≡ false → up e ≡ false → revives u e ≡ false → Q e)
    → Q (left (lines u e))
unfolding lines line_a line_b line_c
lines_cases Q u e same stores downs raises rests =
    either (λ (x : Stage Entry). Q (left (x then line_b u then line_c u))) (stays u e) _ _ same
    (λ t.
    either (λ (x : Stage Entry). Q (left (x then line_c u))) (up e) _ _
    (λ v. either (λ (x : Stage Entry). Q (left (x then line_c u))) (less_millis u.delay max_delay) _ _ (stores t v) (downs t v))
    (λ v. either (λ (x : Stage Entry). Q (left (x then line_c u))) (revives u e) _ _ (raises t v) (rests t v)))

-- line (a) ends, and line (a) goes on
pub line_a_ends : (u : Update) (e : Entry) → stays u e ≡ true → left (lines u e) ≡ e
unfolding lines line_a
line_a_ends u e t = rw t

pub line_a_goes : (u : Update) (e : Entry) → stays u e ≡ false → left (line_b u e then line_c u) ≡ left (lines u e)
unfolding lines line_a
line_a_goes u e t = rw t

-- an update of 30,000 ms or more, by a link that the entry did not come by, changes nothing
pub far_off : (e : Entry) (j : ℕ) → (up e ≡ true → e.pid ≡ j → ⊥) → (u : Update) → u.pid ≡ j → less_millis u.delay max_delay ≡ false → left (lines u e) ≡ e
far_off e j other u pid far =
    lines_cases (λ (f : Entry). f ≡ e) u e (λ _. refl) (λ _ _ low. absurd (false≢true (sym far ∙ low)))
    (λ t v _. absurd (stuck t v)) (λ _ _ w. absurd (false≢true (sym far ∙ (both _ _ w).0))) (λ _ _ _. refl)
  where
    stuck : stays u e ≡ false → up e ≡ true → ⊥
    stuck t v = go (eqb u.pid e.pid) (less_millis e.delay (add_millis u.delay min_delay)) refl refl t
      where
        go : (p q : Bool) → eqb u.pid e.pid ≡ p → less_millis e.delay (add_millis u.delay min_delay) ≡ q → (not p && q) ≡ false → ⊥
        go true q x y z = other v (sym (eqb-true u.pid e.pid x) ∙ pid)
        go false false x y z =
            let n = lt_no e.delay.0 (u.delay.0 +ℤ pos 100) y in
            let l = lt_yes e.delay.0 (pos 30000) v in
            let h = lt_no u.delay.0 (pos 30000) far in
            omega (arith, n, l, h, sum u.delay.0 (pos 100))
        go false true x y z = true≢false z

-- an entry that is up afterwards came by the update's link, or was up with the same PID
pub lines_from : (u : Update) (e : Entry) → up (left (lines u e)) ≡ true → ((left (lines u e)).pid ≡ u.pid) ⊎ ((up e ≡ true) × ((left (lines u e)).pid ≡ e.pid))
lines_from u e =
    lines_cases (λ (f : Entry). up f ≡ true → (f.pid ≡ u.pid) ⊎ ((up e ≡ true) × (f.pid ≡ e.pid))) u e
    (λ _ t. inr (t, refl)) (λ _ _ _ _. inl refl) (λ _ _ _ t. absurd (false≢true t)) (λ _ _ _ _. inl refl) (λ _ _ _ t. inr (t, refl))
