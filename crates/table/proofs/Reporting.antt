-- A self-report of places in two parts is that of all, because an entry's change does not depend on its place; and it keeps entries without marks.
use mathlib.Core.Path.{◌≡◌, refl, sym, ap, ◌∙◌}
use mathlib.Core.Bool.{Bool, false, not, ◌||◌, false≢true}
use mathlib.Core.List.{List, [], ◌∷◌}
use Prim.Native.Nat.{ℕ, zero, suc, ◌+◌, ◌-◌, ◌≤◌}
use native.Mathlib.Omega.{arith}
use borrow.Author.Tests.{ne_eqb}
use lib.Dec.{eqb}
use lib.ListN.{length, get_or, set}
use Rattle.lists.specs.Lists.{part, over}
use Rattle.lists.proofs.Parts.{part_length, over_length, over_nothing, over_part}
use Rattle.quantity.specs.declared.Millis.{Millis}
use Rattle.table.specs.declared.Entry.{Entry}
use Rattle.table.specs.declared.entries.Change.TheVariants.{Reported}
use Rattle.table.specs.declared.entries.Changes.{Changes}
use Rattle.table.specs.declared.marks.Marks.{Marks}
use Rattle.table.specs.Forms.{map_from}
use Rattle.table.specs.Entry.{fresh_entry}
use Rattle.table.specs.Update.{reported_here}
use Rattle.table.specs.Runs.{changed, changes}
use Rattle.table.specs.code.Loops.{InEntries}
use Rattle.table.specs.code.Blocks.{any_mark, between}
use Rattle.table.proofs.Loops.{map_length}
use Rattle.table.proofs.Changing.{made, all_turns}

change_length : (entries : List Entry) (w : Changes) → InEntries w.first w.end entries → length (changes w entries) ≡ length entries
unfolding changes
change_length entries w h =
    let f = changed w.marks w.change in
    let xs = part w.first (w.end - w.first) entries in
    let long : length (map_from 0 f xs) ≡ w.end - w.first = map_length 0 f xs ∙ part_length w.first (w.end - w.first) entries (omega (arith, h.rising, h.inside)) in
    over_length w.first entries (map_from 0 f xs) (omega (arith, long, h.rising, h.inside))

module _ (entries : List Entry) (reading : Millis) (marks : Marks) where
  abbrev mk : (first end : ℕ) → Changes
  mk first end = record { first = first; end = end; change = Reported reading; marks = marks }

  abbrev after : List Entry → Changes → ℕ → List Entry
  after es w n = made w es n

  -- where it ends does not matter before the end
  same_turns : (f e d n : ℕ) → after entries (mk f e) n ≡ after entries (mk f d) n
  same_turns f e d zero = refl
  same_turns f e d (suc n) =
      ap (λ (r : List Entry). set r (f + n) (reported_here reading (get_or r (f + n) fresh_entry))) (same_turns f e d n)

  more_turns : (f m e a b : ℕ) → m ≡ f + a → after entries (mk f e) (a + b) ≡ after (after entries (mk f m) a) (mk m e) b
  more_turns f m e a zero is = let z : a + 0 ≡ a = omega arith in ap (after entries (mk f e)) z ∙ same_turns f e m a
  more_turns f m e a (suc b) is =
      let s : a + suc b ≡ suc (a + b) = omega arith in
      let at : f + (a + b) ≡ m + b = omega (arith, is) in
      ap (after entries (mk f e)) s
      ∙ ap (λ (i : ℕ). set (after entries (mk f e) (a + b)) i (reported_here reading (get_or (after entries (mk f e) (a + b)) i fresh_entry))) at
      ∙ ap (λ (r : List Entry). set r (m + b) (reported_here reading (get_or r (m + b) fresh_entry))) (more_turns f m e a b is)

  both_parts : (f m e : ℕ) → f ≤ m → m ≤ e → e ≤ length entries → changes (mk m e) (changes (mk f m) entries) ≡ changes (mk f e) entries
  both_parts f m e low high inside =
      let first : InEntries f m entries = record { rising = low; inside = omega (arith, high, inside) } in
      let all : InEntries f e entries = record { rising = omega (arith, low, high); inside = inside } in
      let long = change_length entries (mk f m) first in
      let second : InEntries m e (changes (mk f m) entries) = record { rising = high; inside = omega (arith, long, inside) } in
      let sum : m - f + (e - m) ≡ e - f = omega (arith, low, high) in
      sym (all_turns (changes (mk f m) entries) (mk m e) second)
      ∙ ap (λ (r : List Entry). after r (mk m e) (e - m)) (sym (all_turns entries (mk f m) first))
      ∙ sym (more_turns f m e (m - f) (e - m) (omega (arith, low))) ∙ ap (after entries (mk f e)) sum ∙ all_turns entries (mk f e) all

  -- entries without marks
  no_mark : (h : ℕ) (rest : Bool) → (not (eqb h 0) || rest) ≡ false → (eqb h 1 ≡ false) × (rest ≡ false)
  no_mark zero rest is = (refl, is)
  no_mark (suc h) rest is = absurd (false≢true (sym (rw (ne_eqb (suc h) 0 (λ z. omega (arith, z))) at is)))

  kept : (i : ℕ) (es : List Entry) → any_mark es ≡ false → map_from i (changed marks (Reported reading)) es ≡ es
  unfolding reported_here
  kept i [] is = refl
  kept i (e ∷ es) is =
      let none = no_mark e.here (any_mark es) is in
      rw (none.0, kept (suc i) es none.1) refl

  nothing_stored : (f e : ℕ) → f ≤ e → e ≤ length entries → any_mark (part f (e - f) entries) ≡ false → entries ≡ changes (mk f e) entries
  unfolding changes
  nothing_stored f e up inside is =
      sym (ap (over entries f) (kept 0 (part f (e - f) entries) is) ∙ same)
    where
      same : over entries f (part f (e - f) entries) ≡ entries
      same = ap (over entries f) (sym (over_nothing 0 (part f (e - f) entries))) ∙ over_part entries f (e - f) 0 [] (omega arith) (omega (arith, up, inside)) ∙ over_nothing (f + 0) entries

-- for any change that is a self-report
pub two_parts : (entries : List Entry) (w : Changes) (reading : Millis) (f m e : ℕ) → w.change ≡ Reported reading → f ≤ m → m ≤ e → e ≤ length entries
    → changes (between m e w) (changes (between f m w) entries) ≡ changes (between f e w) entries
two_parts entries w reading f m e is low high inside = rw (is) (both_parts entries reading w.marks f m e low high inside)

pub none_marked : (entries : List Entry) (w : Changes) (reading : Millis) (f e : ℕ) → w.change ≡ Reported reading → f ≤ e → e ≤ length entries
    → any_mark (part f (e - f) entries) ≡ false → entries ≡ changes (between f e w) entries
none_marked entries w reading f e is up inside none = rw (is) (nothing_stored entries reading w.marks f e up inside none)

-- no place is changed
pub no_places_lem : (entries : List Entry) (w : Changes) (f : ℕ) → f ≤ length entries → entries ≡ changes (between f f w) entries
unfolding changes
no_places_lem entries w f inside =
    let none : f - f ≡ 0 = omega arith in
    sym (ap (λ (n : ℕ). over entries f (map_from 0 (changed w.marks w.change) (part f n entries))) none ∙ over_nothing f entries)
