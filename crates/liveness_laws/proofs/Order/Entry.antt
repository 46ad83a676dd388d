-- One update keeps an entry up and its DELAY no longer, because a report on the entry's own link is at least 100 ms below its DELAY.
use mathlib.Core.Path.{◌≡◌, refl, sym, ap, subst, ◌∙◌}
use mathlib.Core.Bool.{Bool, true, false, true≢false, false≢true, not, ◌&&◌}
use mathlib.Core.Logic.{◌⊎◌, inl, inr}
use Prim.Native.Nat.{ℕ, suc, ◌+◌, ◌*◌, ◌≤◌, ◌<◌}
use native.Mathlib.Omega.{arith}
use borrow.Author.Tests.{eqb-true, eqb-false, eq-eqb}
use lib.Dec.{eqb}
use lib.IntN.{pos, ◌+ℤ◌}
use Rattle.lists.proofs.Tests.{either, both}
use Rattle.quantity.specs.Quantity.{less_millis, add_millis}
use Rattle.quantity.proofs.Ints.{up, dn, sum, lt_yes, lt_no}
use Rattle.table.specs.declared.Entry.{Entry}
use Rattle.table.specs.declared.Update.{Update}
use Rattle.table.specs.Entry.{max_delay, min_delay}
use Rattle.table.specs.Entry as entry
use Rattle.table.specs.Update.{lines, left}
use Rattle.table.proofs.Cases.{stored}
use Rattle.network_laws.specs.Network.{Network, at}
use Rattle.liveness_laws.specs.Numbers.{rise}
use Rattle.liveness_laws.proofs.Lines.{farthest, any_hops}
use Rattle.liveness_laws.specs.Hops.{Hops, over, by}
use Rattle.liveness_laws.proofs.Lines.{stays, revives, lines_cases}
use Rattle.liveness_laws.proofs.Rounds.Entry.{Shown, Steady, hearing}

-- it is up if it was, and not longer; its PID is another one only if its DELAY fell by at least 100
pub record Better (e f : Entry) : Type 0 where
  pub is_up : entry.up e ≡ true → entry.up f ≡ true
  pub near : entry.up e ≡ true → up f.delay.0 ≤ up e.delay.0
  pub turns : entry.up e ≡ true → (f.pid ≡ e.pid) ⊎ (rise + up f.delay.0 ≤ up e.delay.0)

-- e is up, with a DELAY of 100 less at least
pub record Below (e f : Entry) : Type 0 where
  pub is_up : entry.up e ≡ true
  pub less : rise + up e.delay.0 ≤ up f.delay.0

pub better_same : (e : Entry) → Better e e
better_same e = record { is_up = λ t. t; near = λ _. omega arith; turns = λ _. inl refl }

module _ (r : Network) (c b : ℕ) where
  pub better_shown : (e f : Entry) → Better e f → (n : ℕ) → Shown r c b n e → Shown r c b n f
  better_shown e f x n o = record { is_up = x.is_up o.is_up; near = omega (arith, x.near o.is_up, o.near) }

  -- what a message of host a says, of y ms
  pub record Said (k a y : ℕ) : Type 0 where
    pub sound : y < 30000 → (g : ℕ) × (y ≡ rise * g) × Hops r c a g
    pub complete : (h : ℕ) → Hops r c a h → h < k → h ≤ farthest → (y ≤ rise * h) ⊎ ((g : ℕ) × (g < h) × Hops r c b g)

  module _ (k s : ℕ) (heard : ℕ → Bool) (e : Entry) (good : Steady r c b k any_hops s heard e) (j a l : ℕ) (from_1 : 1 ≤ j) (cable : r.cable b j ≡ at a l)
      (y : ℕ) (said : Said k a y) (near : entry.up e ≡ true → e.pid ≡ j → rise + y ≤ up e.delay.0) (u : Update) (pid : u.pid ≡ j) (is : u.delay.0 ≡ pos (rise + y)) where
    abbrev Hears : Entry → Type 0
    Hears f = (h : ℕ) → Hops r c a h → h < k → h < farthest → Shown r c b (suc h) f

    -- where it comes from
    pub data From (f : Entry) : Type 0 where
      before : entry.up e ≡ true → f.pid ≡ e.pid → up f.delay.0 ≡ up e.delay.0 → From f
      returned : f.pid ≡ j → up f.delay.0 ≡ rise + y → y < 29900 → (entry.up e ≡ true → rise + y ≤ up e.delay.0) → From f

    pub record Returned (f : Entry) : Type 0 where
      pub steady : Steady r c b k any_hops s (hearing r c b j heard) f
      pub hears : Hears f
      pub better : Better e f
      pub from : entry.up f ≡ true → From f

    delay_up : up u.delay.0 ≡ rise + y
    delay_up = ap up is

    delay_dn : dn u.delay.0 ≡ 0
    delay_dn = ap dn is

    goes : stays u e ≡ false → (e.pid ≡ j) ⊎ (rise + rise + y + dn e.delay.0 ≤ up e.delay.0)
    goes t = go (eqb u.pid e.pid) (less_millis e.delay (add_millis u.delay min_delay)) refl refl t
      where
        go : (p q : Bool) → eqb u.pid e.pid ≡ p → less_millis e.delay (add_millis u.delay min_delay) ≡ q → (not p && q) ≡ false → (e.pid ≡ j) ⊎ (rise + rise + y + dn e.delay.0 ≤ up e.delay.0)
        go true q x z v = inl (sym (eqb-true u.pid e.pid x) ∙ pid)
        go false false x z v = inr (let n = lt_no e.delay.0 (u.delay.0 +ℤ pos 100) z in omega (arith, n, sum u.delay.0 (pos 100), delay_up, delay_dn))
        go false true x z v = absurd (true≢false v)

    ends : stays u e ≡ true → (e.pid ≡ j → ⊥) × (up e.delay.0 < rise + rise + y + dn e.delay.0)
    ends t = go (eqb u.pid e.pid) (less_millis e.delay (add_millis u.delay min_delay)) refl refl t
      where
        go : (p q : Bool) → eqb u.pid e.pid ≡ p → less_millis e.delay (add_millis u.delay min_delay) ≡ q → (not p && q) ≡ true → (e.pid ≡ j → ⊥) × (up e.delay.0 < rise + rise + y + dn e.delay.0)
        go true q x z v = absurd (false≢true v)
        go false true x z v = (λ w. eqb-false u.pid e.pid x (pid ∙ sym w), (let n = lt_yes e.delay.0 (u.delay.0 +ℤ pos 100) z in omega (arith, n, sum u.delay.0 (pos 100), delay_up, delay_dn)))
        go false false x z v = absurd (false≢true v)

    -- it goes on with an entry that is up: the entry is no shorter
    shorter : stays u e ≡ false → entry.up e ≡ true → rise + y ≤ up e.delay.0
    shorter t v = elim (goes t) [ inl z ↦ near v z | inr z ↦ omega (arith, z) ]

    -- ---- unchanged

    kept : (entry.up e ≡ true → e.pid ≡ j → ⊥) → Hears e → Returned e
    kept other hears =
        record {
          steady =
              record {
                sound = good.sound;
                complete = good.complete;
                rests = good.rests;
                lasts = good.lasts;
                lasts_on = λ t on. good.lasts_on t (again t on);
              };
          hears = hears;
          better = better_same e;
          from = λ t. before t refl refl;
        }
      where
        again : (t : entry.up e ≡ true) → hearing r c b j heard e.pid ≡ true → heard e.pid ≡ true
        again t = either (λ (x : Bool). x ≡ true → heard e.pid ≡ true) (eqb e.pid j) _ _ (λ z _. absurd (other t (eqb-true e.pid j z))) (λ _ x. x)

    -- ---- stored

    module _ (low : less_millis u.delay max_delay ≡ true) (on_it : entry.up e ≡ true → (e.pid ≡ j) ⊎ (rise + rise + y + dn e.delay.0 ≤ up e.delay.0)) where
      no_worse : entry.up e ≡ true → rise + y ≤ up e.delay.0
      no_worse t = elim (on_it t) [ inl z ↦ near t z | inr z ↦ omega (arith, z) ]

      small : y < 29900
      small = let n = lt_yes u.delay.0 (pos 30000) low in omega (arith, n, delay_up, delay_dn)

      abbrev g : ℕ
      g = (said.sound (omega (arith, small))).0

      y_is : y ≡ rise * g
      y_is = (said.sound (omega (arith, small))).1

      new_delay : u.delay.0 ≡ pos (rise * suc g)
      new_delay = is ∙ ap pos (omega (arith, y_is))

      new_better : Better e (stored u e)
      new_better =
          record {
            is_up = λ _. low;
            near = λ t. omega (arith, no_worse t, delay_up);
            turns = λ t. elim (on_it t) [ inl z ↦ inl (pid ∙ sym z) | inr z ↦ inr (omega (arith, z, delay_up)) ];
          }

      store : Returned (stored u e)
      store =
          record {
            steady =
                record {
                  sound =
                      λ _.
                      record {
                        hops = suc g;
                        delay = new_delay;
                        way = over cable (said.sound (omega (arith, small))).2;
                        below = omega (arith, small, y_is);
                        via = by (ap (r.cable b) pid ∙ cable) (said.sound (omega (arith, small))).2;
                      };
                  complete = λ h way few short. better_shown e (stored u e) new_better h (good.complete h way few short);
                  rests = λ t. absurd (true≢false (sym low ∙ t));
                  lasts = λ _. omega arith;
                  lasts_on = λ _ _. omega arith;
                };
            hears = λ h way few short. heard_so h few short (said.complete h way few (omega arith));
            better = new_better;
            from = λ _. returned pid delay_up small no_worse;
          }
        where
          heard_so : (h : ℕ) → h < k → h < farthest → (y ≤ rise * h) ⊎ ((q : ℕ) × (q < h) × Hops r c b q) → Shown r c b (suc h) (stored u e)
          heard_so h few short (inl x) = record { is_up = low; near = omega (arith, x, delay_up) }
          heard_so h few short (inr x) =
              let o = better_shown e (stored u e) new_better x.0 (good.complete x.0 x.2 (omega (arith, x.1)) (omega (arith, x.1))) in
              record { is_up = o.is_up; near = omega (arith, o.near, x.1) }

    pub returned_entry : Returned (left (lines u e))
    returned_entry =
        lines_cases Returned u e
        (λ t. let x = ends t in kept (λ _. x.0) (λ h way few short. as_known h few short x.1 (said.complete h way few (omega arith))))
        (λ t v low. store low (λ _. goes t))
        (λ t v high. absurd (not_down t v high))
        (λ t v w. store (both _ _ w).0 (λ z. absurd (false≢true (sym v ∙ z))))
        (λ t v w. kept (λ z. absurd (false≢true (sym v ∙ z))) (λ h way few short. absurd (down_still v w h few short (said.complete h way few (omega arith)))))
      where
        not_down : stays u e ≡ false → entry.up e ≡ true → less_millis u.delay max_delay ≡ false → ⊥
        not_down t v high =
            let n = lt_no u.delay.0 (pos 30000) high in
            let z = lt_yes e.delay.0 (pos 30000) v in
            let f = good.sound v in
            omega (arith, n, z, delay_up, delay_dn, shorter t v, ap dn f.delay)

        as_known : (h : ℕ) → h < k → h < farthest → up e.delay.0 < rise + rise + y + dn e.delay.0 → (y ≤ rise * h) ⊎ ((q : ℕ) × (q < h) × Hops r c b q) → Shown r c b (suc h) e
        as_known h few short x (inl z) = by_up (entry.up e) refl
          where
            y_below : y < 30000
            y_below = omega (arith, z)

            by_up : (t : Bool) → entry.up e ≡ t → Shown r c b (suc h) e
            by_up true t =
                let f = good.sound t in
                let v = ap up f.delay in
                let w = ap dn f.delay in
                let q = said.sound y_below in
                record { is_up = t; near = omega (arith, x, z, v, w, q.1) }
            by_up false t = let n = lt_no e.delay.0 (pos 30000) t in absurd (omega (arith, n, x, z))
        as_known h few short x (inr z) =
            let o = good.complete z.0 z.2 (omega (arith, z.1)) (omega (arith, z.1)) in
            record { is_up = o.is_up; near = omega (arith, o.near, z.1) }

        down_still : entry.up e ≡ false → revives u e ≡ false → (h : ℕ) → h < k → h < farthest → (y ≤ rise * h) ⊎ ((q : ℕ) × (q < h) × Hops r c b q) → ⊥
        down_still v w h few short (inl z) = go (less_millis u.delay max_delay) refl
          where
            go : (t : Bool) → less_millis u.delay max_delay ≡ t → ⊥
            go true t = true≢false (sym (eq-eqb e.ttl.0 0 (good.rests v)) ∙ subst (λ (q : Bool). (q && eqb e.ttl.0 0) ≡ false) t w)
            go false t = let n = lt_no u.delay.0 (pos 30000) t in omega (arith, n, delay_up, delay_dn, z)
        down_still v w h few short (inr z) = false≢true (sym v ∙ (good.complete z.0 z.2 (omega (arith, z.1)) (omega (arith, z.1))).is_up)
