-- An entry that is up keeps its DELAY and PID, because it has the DELAY of a shortest way and no report is shorter. k rounds are over, and s seconds of this one.
use mathlib.Core.Path.{◌≡◌, refl, sym, ap, subst, ◌∙◌}
use mathlib.Core.Bool.{Bool, true, false, true≢false, false≢true, cond, not, ◌&&◌}
use mathlib.Core.Logic.{◌⊎◌, inl, inr}
use Prim.Native.Nat.{ℕ, suc, ◌+◌, ◌*◌, ◌-◌, ◌≤◌, ◌<◌}
use native.Mathlib.Omega.{arith}
use borrow.Author.Tests.{eqb-true, eqb-false, eq-eqb, ltb-true, ltb-false, leb-true, leb-false}
use lib.Dec.{ltb, leb, eqb}
use lib.IntN.{pos, ◌+ℤ◌}
use Rattle.lists.proofs.Tests.{either, both}
use Rattle.quantity.specs.declared.Millis.{Millis}
use Rattle.quantity.specs.Quantity.{less_millis, add_millis, fall_seconds}
use Rattle.quantity.proofs.Ints.{up, dn, sum, lt_yes, lt_no, is_lt}
use Rattle.table.specs.declared.Entry.{Entry}
use Rattle.table.specs.declared.Update.{Update}
use Rattle.table.specs.Entry.{max_delay, min_delay, taken_down, with_ttl, aged, advertised}
use Rattle.table.specs.Entry as entry
use Rattle.table.specs.Update.{lines, left, own_update}
use Rattle.table.proofs.Cases.{stored}
use Rattle.network_laws.specs.Network.{Network, at}
use Rattle.liveness_laws.specs.Numbers.{rise, round_seconds}
use Rattle.liveness_laws.proofs.Lines.{farthest}
use Rattle.liveness_laws.specs.Hops.{Hops, there, over, Via, own, by}
use Rattle.liveness_laws.proofs.Lines.{stays, revives, lines_cases}

-- the first cable of a way
pub record First (r : Network) (c q h : ℕ) : Type 0 where
  pub link : ℕ
  pub node : ℕ
  pub other : ℕ
  pub rest : ℕ
  pub cable : r.cable q link ≡ at node other
  pub way : Hops r c node rest
  pub is : h ≡ suc rest

pub first_cable : (r : Network) (c q h : ℕ) → Hops r c q h → ((q ≡ c) × (h ≡ 0)) ⊎ First r c q h
first_cable r c q h there = inl (refl, refl)
first_cable r c q h (over {j} {a} {i} {h = rest} cable way) = inr record { link = j; node = a; other = i; rest = rest; cable = cable; way = way; is = refl }

module _ (r : Network) (c b : ℕ) where
  -- below m cables
  pub record Known (m : ℕ) (e : Entry) : Type 0 where
    pub hops : ℕ
    pub delay : e.delay.0 ≡ pos (rise * hops)
    pub way : Hops r c b hops
    pub below : hops < m
    pub via : Via r c b e.pid hops

  -- up, with at most h cables
  pub record Shown (h : ℕ) (e : Entry) : Type 0 where
    pub is_up : entry.up e ≡ true
    pub near : up e.delay.0 ≤ rise * h

  pub record Steady (k m s : ℕ) (heard : ℕ → Bool) (e : Entry) : Type 0 where
    pub sound : entry.up e ≡ true → Known m e
    pub complete : (h : ℕ) → Hops r c b h → h < k → h ≤ farthest → Shown h e
    pub rests : entry.up e ≡ false → e.ttl.0 ≡ 0
    pub lasts : entry.up e ≡ true → 120 ≤ e.ttl.0 + s + round_seconds
    pub lasts_on : entry.up e ≡ true → heard e.pid ≡ true → 120 ≤ e.ttl.0 + s

  -- an entry that is up has no more cables than any way there
  pub least : (k m s : ℕ) (heard : ℕ → Bool) (e : Entry) → m ≤ suc k → Steady k m s heard e → (t : entry.up e ≡ true) → (h : ℕ) → Hops r c b h → (f : Known m e) → f.hops ≤ h
  least k m s heard e few good t h way f = go (ltb h k) (leb h farthest) refl refl
    where
      low : rise * f.hops < 30000
      low = let l = lt_yes e.delay.0 (pos 30000) t in let z = ap up f.delay in let y = ap dn f.delay in omega (arith, l, z, y)

      go : (x y : Bool) → ltb h k ≡ x → leb h farthest ≡ y → f.hops ≤ h
      go true true p q =
          let n = (good.complete h way (ltb-true h k p) (leb-true h farthest q)).near in
          let z = ap up f.delay in
          omega (arith, n, z)
      go true false p q = omega (arith, leb-false h farthest q, low)
      go false y p q = omega (arith, ltb-false h k p, f.below)

  -- ---- an update by link j, from host a, of 100 ms and a report of y ms

  pub record Report (k a : ℕ) (y : ℕ) : Type 0 where
    pub sound : y < 30000 → (g : ℕ) × (y ≡ rise * g) × (g < k) × Hops r c a g
    pub complete : (h : ℕ) → Hops r c a h → h < k → h ≤ farthest → (y ≤ rise * h) ⊎ ((g : ℕ) × (g < h) × Hops r c b g)

  abbrev pub hearing : (j : ℕ) → (ℕ → Bool) → ℕ → Bool
  hearing j heard q = cond (eqb q j) true (heard q)

  module _ (k m s : ℕ) (heard : ℕ → Bool) (few : m ≤ suc k) (e : Entry) (good : Steady k m s heard e)
      (j a l : ℕ) (from_1 : 1 ≤ j) (cable : r.cable b j ≡ at a l) (y : ℕ) (report : Report k a y) (u : Update) (pid : u.pid ≡ j) (is : u.delay.0 ≡ pos (rise + y)) where
    -- what a way from the sender comes to
    abbrev Hears : Entry → Type 0
    Hears f = (h : ℕ) → Hops r c a h → h < k → h < farthest → Shown (suc h) f

    pub record After (f : Entry) : Type 0 where
      pub steady : Steady k (suc k) s (hearing j heard) f
      pub hears : Hears f
      pub better : (n : ℕ) → Shown n e → Shown n f

    delay_up : up u.delay.0 ≡ rise + y
    delay_up = ap up is

    delay_dn : dn u.delay.0 ≡ 0
    delay_dn = ap dn is

    -- the same host at the other end
    same_end : (a' l' : ℕ) → r.cable b j ≡ at a' l' → a' ≡ a
    same_end a' l' z = cc

    -- of an entry that is up and came by this link: how many cables the sender has
    sender_hops : (t : entry.up e ≡ true) (f : Known m e) → e.pid ≡ j → (g : ℕ) × (f.hops ≡ suc g) × Hops r c a g × (y ≤ rise * g)
    sender_hops t f is-j = go f.hops refl f.via
      where
        low : rise * f.hops < 30000
        low = let l = lt_yes e.delay.0 (pos 30000) t in let z = ap up f.delay in let v = ap dn f.delay in omega (arith, l, z, v)

        go : (h : ℕ) → f.hops ≡ h → Via r c b e.pid h → (g : ℕ) × (f.hops ≡ suc g) × Hops r c a g × (y ≤ rise * g)
        go h same (own z) = absurd (omega (arith, z, is-j))
        go h same (by {a = a'} {l = l'} {g} z way) =
            let here : Hops r c a g = subst (λ (q : ℕ). Hops r c q g) (same_end a' l' (ap (r.cable b) (sym is-j) ∙ z)) way in
            (g, same, here, returned (report.complete g here (omega (arith, f.below, same)) (omega (arith, low, same))))
          where
            returned : (y ≤ rise * g) ⊎ ((q : ℕ) × (q < g) × Hops r c b q) → y ≤ rise * g
            returned (inl x) = x
            returned (inr x) = let n = least k m s heard e few good t x.0 x.2 f in absurd (omega (arith, n, x.1, same))

    -- line (a) goes on: the entry came by this link, or is 100 ms longer at least
    goes : stays u e ≡ false → (e.pid ≡ j) ⊎ (rise + rise + y + dn e.delay.0 ≤ up e.delay.0)
    goes t = go (eqb u.pid e.pid) (less_millis e.delay (add_millis u.delay min_delay)) refl refl t
      where
        go : (p q : Bool) → eqb u.pid e.pid ≡ p → less_millis e.delay (add_millis u.delay min_delay) ≡ q → (not p && q) ≡ false → (e.pid ≡ j) ⊎ (rise + rise + y + dn e.delay.0 ≤ up e.delay.0)
        go true q x z v = inl (sym (eqb-true u.pid e.pid x) ∙ pid)
        go false false x z v = inr (let n = lt_no e.delay.0 (u.delay.0 +ℤ pos 100) z in omega (arith, n, sum u.delay.0 (pos 100), delay_up, delay_dn))
        go false true x z v = absurd (true≢false v)

    -- it ends: the entry came by another link, and is no longer
    ends : stays u e ≡ true → (e.pid ≡ j → ⊥) × (up e.delay.0 < rise + rise + y + dn e.delay.0)
    ends t = go (eqb u.pid e.pid) (less_millis e.delay (add_millis u.delay min_delay)) refl refl t
      where
        go : (p q : Bool) → eqb u.pid e.pid ≡ p → less_millis e.delay (add_millis u.delay min_delay) ≡ q → (not p && q) ≡ true → (e.pid ≡ j → ⊥) × (up e.delay.0 < rise + rise + y + dn e.delay.0)
        go true q x z v = absurd (false≢true v)
        go false true x z v = (λ w. eqb-false u.pid e.pid x (pid ∙ sym w), (let n = lt_yes e.delay.0 (u.delay.0 +ℤ pos 100) z in omega (arith, n, sum u.delay.0 (pos 100), delay_up, delay_dn)))
        go false false x z v = absurd (false≢true v)

    -- ---- it is unchanged

    farther : (h n : ℕ) (f : Entry) → h ≤ n → Shown h f → Shown n f
    farther h n f x o = record { is_up = o.is_up; near = omega (arith, o.near) }

    kept : (entry.up e ≡ true → e.pid ≡ j → ⊥) → Hears e → After e
    kept other hears =
        record {
          steady =
              record {
                sound = λ t. let f = good.sound t in record { hops = f.hops; delay = f.delay; way = f.way; below = omega (arith, f.below); via = f.via };
                complete = good.complete;
                rests = good.rests;
                lasts = good.lasts;
                lasts_on = λ t on. good.lasts_on t (again t on);
              };
          hears = hears;
          better = λ n o. o;
        }
      where
        again : (t : entry.up e ≡ true) → hearing j heard e.pid ≡ true → heard e.pid ≡ true
        again t = either (λ (x : Bool). x ≡ true → heard e.pid ≡ true) (eqb e.pid j) _ _ (λ z _. absurd (other t (eqb-true e.pid j z))) (λ _ x. x)

    -- ---- it is stored

    module _ (low : less_millis u.delay max_delay ≡ true) where
      small : y < 29900
      small = let n = lt_yes u.delay.0 (pos 30000) low in omega (arith, n, delay_up, delay_dn)

      abbrev g : ℕ
      g = (report.sound (omega (arith, small))).0

      y_is : y ≡ rise * g
      y_is = (report.sound (omega (arith, small))).1

      new_delay : u.delay.0 ≡ pos (rise * suc g)
      new_delay = is ∙ ap pos (omega (arith, y_is))

      store : ((h : ℕ) → Hops r c b h → h < k → h ≤ farthest → suc g ≤ h) → ((n : ℕ) → Shown n e → suc g ≤ n) → After (stored u e)
      store shorter no_worse =
          record {
            steady =
                record {
                  sound =
                      λ _.
                      record {
                        hops = suc g;
                        delay = new_delay;
                        way = over cable (report.sound (omega (arith, small))).3;
                        below = omega (arith, (report.sound (omega (arith, small))).2);
                        via = by (ap (r.cable b) pid ∙ cable) (report.sound (omega (arith, small))).3;
                      };
                  complete = λ h way few' short. record { is_up = low; near = omega (arith, shorter h way few' short, delay_up, y_is) };
                  rests = λ t. absurd (true≢false (sym low ∙ t));
                  lasts = λ _. omega arith;
                  lasts_on = λ _ _. omega arith;
                };
            hears = λ h way few' short. returned h few' short (report.complete h way few' (omega arith));
            better = λ n o. record { is_up = low; near = omega (arith, no_worse n o, delay_up, y_is) };
          }
        where
          returned : (h : ℕ) → h < k → h < farthest → (y ≤ rise * h) ⊎ ((q : ℕ) × (q < h) × Hops r c b q) → Shown (suc h) (stored u e)
          returned h few' short (inl x) = record { is_up = low; near = omega (arith, x, delay_up, y_is) }
          returned h few' short (inr x) =
              let n = shorter x.0 x.2 (omega (arith, x.1)) (omega (arith, x.1)) in
              record { is_up = low; near = omega (arith, n, x.1, delay_up, y_is) }

    pub heard_entry : After (left (lines u e))
    heard_entry =
        lines_cases After u e
        -- (a) ends
        (λ t. let x = ends t in kept (λ _. x.0) (λ h way few' short. as_known h few' short x.1 (report.complete h way few' (omega arith))))
        -- stored, of an entry that is up
        (λ t v low. let f = good.sound v in store low (λ h way few' short. let n = least k m s heard e few good v h way f in let q = up_shorter t v f (y_is low) in omega (arith, n, q))
        (λ n o. let q = up_shorter t v f (y_is low) in let z = ap up f.delay in omega (arith, q, z, o.near)))
        -- taken down
        (λ t v high. absurd (not_down t v (good.sound v) high))
        -- stored, of an entry that is down
        (λ t v w. store (both _ _ w).0 (λ h way few' short. absurd (false≢true (sym v ∙ (good.complete h way few' short).is_up))) (λ n o. absurd (false≢true (sym v ∙ o.is_up))))
        -- down, and unchanged
        (λ t v w. kept (λ z. absurd (false≢true (sym v ∙ z))) (λ h way few' short. absurd (down_still v w h few' short (report.complete h way few' (omega arith)))))
      where
        as_known : (h : ℕ) → h < k → h < farthest → up e.delay.0 < rise + rise + y + dn e.delay.0 → (y ≤ rise * h) ⊎ ((q : ℕ) × (q < h) × Hops r c b q) → Shown (suc h) e
        as_known h few' short x (inl z) = by_up (entry.up e) refl
          where
            y_below : y < 30000
            y_below = omega (arith, z)

            by_up : (t : Bool) → entry.up e ≡ t → Shown (suc h) e
            by_up true t =
                let f = good.sound t in
                let v = ap up f.delay in
                let w = ap dn f.delay in
                let q = report.sound y_below in
                record { is_up = t; near = omega (arith, x, z, v, w, q.1) }
            by_up false t = let n = lt_no e.delay.0 (pos 30000) t in absurd (omega (arith, n, x, z))
        as_known h few' short x (inr z) = farther z.0 (suc h) e (omega (arith, z.1)) (good.complete z.0 z.2 (omega (arith, z.1)) (omega (arith, z.1)))

        up_shorter : stays u e ≡ false → (v : entry.up e ≡ true) (f : Known m e) → {g : ℕ} → y ≡ rise * g → suc g ≤ f.hops
        up_shorter t v f {g} y_is = go (goes t)
          where
            go : (e.pid ≡ j) ⊎ (rise + rise + y + dn e.delay.0 ≤ up e.delay.0) → suc g ≤ f.hops
            go (inl z) = let x = sender_hops v f z in omega (arith, x.1, x.3, y_is)
            go (inr z) = let w = ap up f.delay in omega (arith, z, w, y_is)

        not_down : stays u e ≡ false → (v : entry.up e ≡ true) (f : Known m e) → less_millis u.delay max_delay ≡ false → ⊥
        not_down t v f high = go (goes t)
          where
            wide : 29900 ≤ y
            wide = let n = lt_no u.delay.0 (pos 30000) high in omega (arith, n, delay_up, delay_dn)

            below : rise * f.hops < 30000
            below = let n = lt_yes e.delay.0 (pos 30000) v in let z = ap up f.delay in let w = ap dn f.delay in omega (arith, n, z, w)

            go : (e.pid ≡ j) ⊎ (rise + rise + y + dn e.delay.0 ≤ up e.delay.0) → ⊥
            go (inl z) = let x = sender_hops v f z in omega (arith, x.1, x.3, wide, below)
            go (inr z) = let w = ap up f.delay in omega (arith, z, w, wide, below)

        down_still : entry.up e ≡ false → revives u e ≡ false → (h : ℕ) → h < k → h < farthest → (y ≤ rise * h) ⊎ ((q : ℕ) × (q < h) × Hops r c b q) → ⊥
        down_still v w h few' short (inl z) = go (less_millis u.delay max_delay) refl
          where
            go : (t : Bool) → less_millis u.delay max_delay ≡ t → ⊥
            go true t = true≢false (sym (eq-eqb e.ttl.0 0 (good.rests v)) ∙ subst (λ (q : Bool). (q && eqb e.ttl.0 0) ≡ false) t w)
            go false t = let n = lt_no u.delay.0 (pos 30000) t in omega (arith, n, delay_up, delay_dn, z)
        down_still v w h few' short (inr z) = false≢true (sym v ∙ (good.complete z.0 z.2 (omega (arith, z.1)) (omega (arith, z.1))).is_up)

  -- ---- a second: 59 in a round at most

  pub ticking : (e : Entry) → entry.up e ≡ true → 2 ≤ e.ttl.0 → aged e ≡ with_ttl (fall_seconds e.ttl) e
  unfolding aged
  ticking e t more = go (eqb e.ttl.0 0) (eqb (e.ttl.0 - 1) 0) refl refl
    where
      go : (x y : Bool) → eqb e.ttl.0 0 ≡ x → eqb (e.ttl.0 - 1) 0 ≡ y → cond x e (cond (y && entry.up e) (taken_down e) (with_ttl (fall_seconds e.ttl) e)) ≡ with_ttl (fall_seconds e.ttl) e
      go true y p q = absurd (omega (arith, eqb-true e.ttl.0 0 p))
      go false true p q = absurd (omega (arith, eqb-true (e.ttl.0 - 1) 0 q))
      go false false p q = refl

  pub resting : (e : Entry) → e.ttl.0 ≡ 0 → aged e ≡ e
  unfolding aged
  resting e z = rw (eq-eqb e.ttl.0 0 z) refl

  -- and it is shown as before
  pub record Aged (k m s : ℕ) (heard : ℕ → Bool) (e f : Entry) : Type 0 where
    pub steady : Steady k m s heard f
    pub better : (n : ℕ) → Shown n e → Shown n f

  pub aged_entry : (k m s : ℕ) (heard : ℕ → Bool) (e : Entry) → s < round_seconds → Steady k m s heard e → Aged k m (suc s) heard e (aged e)
  aged_entry k m s heard e early good = go (entry.up e) refl
    where
      go : (t : Bool) → entry.up e ≡ t → Aged k m (suc s) heard e (aged e)
      go false t =
          rw (resting e (good.rests t))
          record {
            steady =
                record {
                  sound = good.sound;
                  complete = good.complete;
                  rests = good.rests;
                  lasts = λ v. absurd (true≢false (sym v ∙ t));
                  lasts_on = λ v. absurd (true≢false (sym v ∙ t));
                };
            better = λ n o. o;
          }
      go true t =
          let long = good.lasts t in
          let f = good.sound t in
          rw (ticking e t (omega (arith, long)))
          record {
            steady =
                record {
                  sound = λ _. record { hops = f.hops; delay = f.delay; way = f.way; below = f.below; via = f.via };
                  complete = λ h way few short. let o = good.complete h way few short in record { is_up = o.is_up; near = o.near };
                  rests = λ v. absurd (true≢false (sym t ∙ v));
                  lasts = λ _. omega (arith, long);
                  lasts_on = λ _ on. omega (arith, long, good.lasts_on t on);
                };
            better = λ n o. record { is_up = o.is_up; near = o.near };
          }

  -- ---- a self-report, at the host itself

  pub reported_entry : (k m s : ℕ) (heard : ℕ → Bool) (e : Entry) → 1 ≤ m → b ≡ c → Steady k m s heard e → (t : Millis)
      → Steady k m s (hearing 0 heard) (left (lines (own_update t) e)) × ((n : ℕ) → Shown n (left (lines (own_update t) e)))
  reported_entry k m s heard e some home good t =
      lines_cases Q (own_update t) e (λ v. absurd (go_on v)) (λ _ _ _. done) (λ _ _ z. absurd (true≢false z)) (λ _ _ _. done) (λ _ v w. absurd (free v w))
    where
      Q : Entry → Type 0
      Q f = Steady k m s (hearing 0 heard) f × ((n : ℕ) → Shown n f)

      home_way : Hops r c b 0
      home_way = subst (λ (q : ℕ). Hops r c q 0) (sym home) there

      done : Q (stored (own_update t) e)
      done = (
        record {
          sound = λ _. record { hops = 0; delay = refl; way = home_way; below = omega arith; via = own refl };
          complete = λ h way few short. record { is_up = refl; near = omega arith };
          rests = λ v. absurd (true≢false v);
          lasts = λ _. omega arith;
          lasts_on = λ _ _. omega arith;
        },
        λ n. record { is_up = refl; near = omega arith },
      )

      -- no entry that is up by a link has a DELAY under 100
      go_on : stays (own_update t) e ≡ true → ⊥
      go_on v = at_pid (eqb 0 e.pid) (less_millis e.delay (add_millis (own_update t).delay min_delay)) refl refl v
        where
          near_pid : entry.up e ≡ true → up e.delay.0 < rise + dn e.delay.0 → e.pid ≡ 0
          near_pid w low = let f = good.sound w in by_hops f.hops f.via (let z = ap up f.delay in let y = ap dn f.delay in omega (arith, low, z, y))
            where
              by_hops : (h : ℕ) → Via r c b e.pid h → h < 1 → e.pid ≡ 0
              by_hops h (own z) few = z
              by_hops h (by z way) few = absurd (omega arith)

          at_pid : (p q : Bool) → eqb 0 e.pid ≡ p → less_millis e.delay (add_millis (own_update t).delay min_delay) ≡ q → (not p && q) ≡ true → ⊥
          at_pid true q x y z = false≢true z
          at_pid false false x y z = false≢true z
          at_pid false true x y z = by_up (entry.up e) refl
            where
              low : up e.delay.0 < rise + dn e.delay.0
              low = let n = lt_yes e.delay.0 (pos 100) y in omega (arith, n)

              by_up : (w : Bool) → entry.up e ≡ w → ⊥
              by_up true w = eqb-false 0 e.pid x (sym (near_pid w low))
              by_up false w = let n = lt_no e.delay.0 (pos 30000) w in omega (arith, n, low)

      free : entry.up e ≡ false → revives (own_update t) e ≡ false → ⊥
      free v w = true≢false (sym (eq-eqb e.ttl.0 0 (good.rests v)) ∙ w)

  -- ---- the next round: every link was heard

  pub next_entry : (k s : ℕ) (heard : ℕ → Bool) (e : Entry) → s ≤ round_seconds → (entry.up e ≡ true → heard e.pid ≡ true)
      → (b ≡ c → Shown 0 e) → ((j a l : ℕ) → r.cable b j ≡ at a l → (h : ℕ) → Hops r c a h → h < k → h < farthest → Shown (suc h) e)
      → Steady k (suc k) s heard e → Steady (suc k) (suc k) 0 (λ q. false) e
  next_entry k s heard e few all home hears good =
      record {
        sound = good.sound;
        complete = complete;
        rests = good.rests;
        lasts = λ t. omega (arith, good.lasts_on t (all t));
        lasts_on = λ t on. absurd (false≢true on);
      }
    where
      complete : (h : ℕ) → Hops r c b h → h < suc k → h ≤ farthest → Shown h e
      complete h way less short = go (first_cable r c b h way)
        where
          go : ((b ≡ c) × (h ≡ 0)) ⊎ First r c b h → Shown h e
          go (inl z) = subst (λ (q : ℕ). Shown q e) (sym z.1) (home z.0)
          go (inr z) = subst (λ (q : ℕ). Shown q e) (sym z.is) (hears z.link z.node z.other z.cable z.rest z.way (omega (arith, z.is)) (omega (arith, z.is)))

  -- ---- what a send of host b says of the entry, to the host at the other end: the report of the law

  pub said_entry : (k m s : ℕ) (heard : ℕ → Bool) (e : Entry) → m ≤ k → Steady k m s heard e → (link d l : ℕ) → 1 ≤ link → r.cable b link ≡ at d l
      → dn e.delay.0 ≤ 0 → up e.delay.0 ≤ 30000
      → ((y : ℕ) → y ≡ up (advertised link e).delay.0 → y < 30000 → (g : ℕ) × (y ≡ rise * g) × (g < k) × Hops r c b g)
      × ((h : ℕ) → Hops r c b h → h < k → h ≤ farthest → (up (advertised link e).delay.0 ≤ rise * h) ⊎ ((g : ℕ) × (g < h) × Hops r c d g))
  unfolding advertised
  said_entry k m s heard e few good link d l from_1 cable low high = (sound, complete)
    where
      is_up : up e.delay.0 < 30000 → entry.up e ≡ true
      is_up z = is_lt e.delay.0 (pos 30000) (omega (arith, z, low))

      sound : (y : ℕ) → y ≡ up (cond (eqb e.pid link) max_delay e.delay).0 → y < 30000 → (g : ℕ) × (y ≡ rise * g) × (g < k) × Hops r c b g
      sound y =
          either (λ (x : Millis). y ≡ up x.0 → y < 30000 → (g : ℕ) × (y ≡ rise * g) × (g < k) × Hops r c b g) (eqb e.pid link) _ _
          (λ _ same z. absurd (omega (arith, same)))
          (λ _ same z. let f = good.sound (is_up (omega (arith, same, z))) in (f.hops, same ∙ ap up f.delay, omega (arith, f.below), f.way))

      complete : (h : ℕ) → Hops r c b h → h < k → h ≤ farthest → (up (cond (eqb e.pid link) max_delay e.delay).0 ≤ rise * h) ⊎ ((g : ℕ) × (g < h) × Hops r c d g)
      complete h way less short =
          let o = good.complete h way less short in
          let f = good.sound o.is_up in
          either (λ (x : Millis). (up x.0 ≤ rise * h) ⊎ ((g : ℕ) × (g < h) × Hops r c d g)) (eqb e.pid link) _ _
          (λ t. inr (nearer (eqb-true e.pid link t) f.hops f.via (let z = ap up f.delay in omega (arith, z, o.near))))
          (λ _. inl o.near)
        where
          nearer : e.pid ≡ link → (q : ℕ) → Via r c b e.pid q → q ≤ h → (g : ℕ) × (g < h) × Hops r c d g
          nearer same q (own z) x = absurd (omega (arith, same, z))
          nearer same q (by {a} {l = n} {g = rest} z way) x =
              let end : a ≡ d = end_is a n (ap (r.cable b) (sym same) ∙ z) in
              (rest, omega arith, subst (λ (t : ℕ). Hops r c t rest) end way)
            where
              end_is : (a n : ℕ) → r.cable b link ≡ at a n → a ≡ d
              end_is a n z = cc
