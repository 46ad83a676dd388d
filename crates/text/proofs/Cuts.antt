-- Signs cut at each mark: at the first mark, past a sign that is none, and whole where there is none.
use mathlib.Core.Path.{◌≡◌, refl, sym}
use mathlib.Core.Bool.{Bool, true, false, cond}
use mathlib.Core.List.{List, [], ◌∷◌}
use Prim.Native.Nat.{ℕ, zero, suc, ◌+◌, ◌≤◌, ◌<◌}
use native.Mathlib.Numerals.{add-one}
use native.Mathlib.Omega.{arith}
use borrow.Author.Tests.{eq-eqb, ne_eqb, ltb-false}
use lib.Dec.{eqb, ltb}
use lib.ListN.{length, get_or, take, drop, length-drop}
use lib.Seq.{length-take-le}
use Rattle.std.specs.Prelude.{None, Some, position}
use Rattle.std.specs.List.{position_or_len}
use Rattle.std.proofs.lemmas.Option.{none-some}
use Rattle.std.proofs.lemmas.List.Quantifiers.{position-Some}
use Rattle.text.specs.Words.{ahead, cut}
use Rattle.text.specs.code.Scan.{CutAt}

-- there is always a first piece
pub record AtLeastOne (ps : List (List ℕ)) : Type 0 where
  pub first : List ℕ
  pub rest : List (List ℕ)
  pub is : ps ≡ first ∷ rest

pub cut_some : (mark : ℕ) (s : List ℕ) → AtLeastOne (cut mark s)
unfolding cut
cut_some mark [] = record { first = []; rest = []; is = refl }
cut_some mark (c ∷ s) = go (eqb c mark) (cut mark s) (cut_some mark s)
  where
    go : (t : Bool) (ps : List (List ℕ)) → AtLeastOne ps → AtLeastOne (cond t ([] ∷ ps) (ahead (c ∷ []) ps))
    go true ps p = record { first = []; rest = ps; is = refl }
    go false ps p = record { first = c ∷ p.first; rest = p.rest; is = rw p.is }

pub cut_here : (mark c : ℕ) (s : List ℕ) → c ≡ mark → cut mark (c ∷ s) ≡ [] ∷ cut mark s
unfolding cut
cut_here mark c s e = rw (eq-eqb c mark e)

pub cut_past : (mark c : ℕ) (s : List ℕ) → (c ≡ mark → ⊥) → cut mark (c ∷ s) ≡ ahead (c ∷ []) (cut mark s)
unfolding cut
cut_past mark c s h = rw (ne_eqb c mark h)

-- ---- the first mark

pub cut_found : (mark : ℕ) (s : List ℕ) (e : ℕ) → e < length s → eqb (get_or s e 0) mark ≡ true → ((k : ℕ) → k < e → eqb (get_or s k 0) mark ≡ false)
    → cut mark s ≡ take e s ∷ cut mark (drop (suc e) s)
unfolding cut
cut_found mark [] e h t f = absurd (omega arith)
cut_found mark (c ∷ s) zero h t f = rw t
cut_found mark (c ∷ s) (suc e) h t f =
    rw (f 0 (omega arith), cut_found mark s e (omega arith) t (λ k l. f (suc k) (omega arith)))

pub cut_whole : (mark : ℕ) (s : List ℕ) → length s ≤ position_or_len (λ c. eqb c mark) s → cut mark s ≡ s ∷ []
unfolding cut
cut_whole mark [] h = refl
cut_whole mark (c ∷ s) h = go (eqb c mark) refl (λ k. cut_whole mark s k)
  where
    go : (b : Bool) → eqb c mark ≡ b → (length s ≤ position_or_len (λ c. eqb c mark) s → cut mark s ≡ s ∷ []) → cond b ([] ∷ cut mark s) (ahead (c ∷ []) (cut mark s)) ≡ (c ∷ s) ∷ []
    go true e f = absurd (omega (arith, rw e at h))
    go false e f = rw (f (omega (arith, rw e at h)))

pub cut_open : (mark : ℕ) (s : List ℕ) → position (λ c. eqb c mark) s ≡ None → cut mark s ≡ s ∷ []
cut_open mark s e =
    let n = position_or_len (λ c. eqb c mark) s in
    cut_whole mark s (ltb-false n (length s) (none_not n (ltb n (length s)) e))
  where
    none_not : (n : ℕ) (b : Bool) → cond b (Some n) None ≡ None → b ≡ false
    none_not n true q = absurd (none-some n (sym q))
    none_not n false q = refl

pub cut_there : (mark : ℕ) (s : List ℕ) (e : ℕ) → position (λ c. eqb c mark) s ≡ Some e → CutAt mark s (take e s) (drop (e + 1) s)
cut_there mark s e p =
    let q = position-Some (λ c. eqb c mark) s e 0 p in
    record {
      split = rw (add-one) (cut_found mark s e q.0 q.1 q.2);
      whole = omega (arith, q.0, length-take-le e s, length-drop (e + 1) s);
    }
