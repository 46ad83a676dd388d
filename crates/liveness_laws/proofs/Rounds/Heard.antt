-- A link that was heard in this round has brought the hosts of its neighbour, because the entry after its update is up and no longer.
use mathlib.Core.Path.{◌≡◌, refl, sym, ap, subst, ◌∙◌}
use mathlib.Core.Bool.{Bool, true}
use mathlib.Core.Logic.{◌⊎◌, inl, inr}
use Prim.Native.Nat.{ℕ, suc, ◌+◌, ◌≤◌, ◌<◌}
use native.Mathlib.Omega.{arith}
use borrow.Author.Tests.{eqb-true}
use lib.Dec.{eqb}
use lib.IntN.{pos}
use Rattle.lists.proofs.Tests.{either}
use Rattle.quantity.specs.declared.Millis.{Millis}
use Rattle.table.specs.declared.Entry.{Entry}
use Rattle.table.specs.declared.Update.{Update}
use Rattle.table.specs.Entry.{aged}
use Rattle.table.specs.Entry as entry
use Rattle.table.specs.Update.{lines, left, own_update}
use Rattle.network_laws.specs.Network.{Network, at}
use Rattle.liveness_laws.specs.Numbers.{rise, round_seconds}
use Rattle.liveness_laws.proofs.Lines.{farthest}
use Rattle.liveness_laws.specs.Hops.{Hops, Via, own, by}
use Rattle.liveness_laws.proofs.Rounds.Entry.{first_cable, Shown, Steady, Report, hearing, heard_entry, aged_entry, reported_entry}

pub record Mine (r : Network) (c b k m s : ℕ) (heard : ℕ → Bool) (e : Entry) : Type 0 where
  pub steady : Steady r c b k m s heard e
  pub hears : (j a l : ℕ) → r.cable b j ≡ at a l → heard j ≡ true → (h : ℕ) → Hops r c a h → h < k → h < farthest → Shown r c b (suc h) e
  pub home : heard 0 ≡ true → b ≡ c → Shown r c b 0 e

module _ (r : Network) (c b k m s : ℕ) (heard : ℕ → Bool) (e : Entry) (mine : Mine r c b k m s heard e) where
  pub mine_aged : s < round_seconds → Mine r c b k m (suc s) heard (aged e)
  mine_aged early =
      let a = aged_entry r c b k m s heard e early mine.steady in
      record {
        steady = a.steady;
        hears = λ j d l cable on h way few short. a.better (suc h) (mine.hears j d l cable on h way few short);
        home = λ on is. a.better 0 (mine.home on is);
      }

  pub mine_reported : 1 ≤ m → b ≡ c → ((j a l : ℕ) → r.cable b j ≡ at a l → 1 ≤ j) → (t : Millis) → Mine r c b k m s (hearing r c b 0 heard) (left (lines (own_update t) e))
  mine_reported some is from_1 t =
      let a = reported_entry r c b k m s heard e some is mine.steady t in
      record { steady = a.0; hears = λ j d l cable on h way few short. a.1 (suc h); home = λ _ _. a.1 0 }

  -- a flag that is on after link j was heard
  pub flag : (j q : ℕ) → hearing r c b j heard q ≡ true → (q ≡ j) ⊎ (heard q ≡ true)
  flag j q = either (λ (x : Bool). x ≡ true → (q ≡ j) ⊎ (heard q ≡ true)) (eqb q j) _ _ (λ t _. inl (eqb-true q j t)) (λ _ x. inr x)

  pub mine_heard : m ≤ suc k → (j a l : ℕ) → 1 ≤ j → r.cable b j ≡ at a l → (y : ℕ) → Report r c b k a y → (u : Update) → u.pid ≡ j → u.delay.0 ≡ pos (rise + y)
      → Mine r c b k (suc k) s (hearing r c b j heard) (left (lines u e))
  mine_heard few j a l from_1 cable y report u pid is =
      let f = heard_entry r c b k m s heard few e mine.steady j a l from_1 cable y report u pid is in
      record {
        steady = f.steady;
        hears =
            λ q d n cord on h way less short.
            elim (flag j q on) [
              | inl z ↦ (let same : d ≡ a = end d n (ap (r.cable b) (sym z) ∙ cord) in f.hears h (subst (λ (t : ℕ). Hops r c t h) same way) less short)
              | inr z ↦ f.better (suc h) (mine.hears q d n cord z h way less short)
            ];
        home =
            λ on is_c.
            elim (flag j 0 on) [ inl z ↦ absurd (omega (arith, z)) | inr z ↦ f.better 0 (mine.home z is_c) ];
      }
    where
      end : (d n : ℕ) → r.cable b j ≡ at d n → d ≡ a
      end d n z = cc

  -- a self-report elsewhere
  pub mine_away : (b ≡ c → ⊥) → ((j a l : ℕ) → r.cable b j ≡ at a l → 1 ≤ j) → Mine r c b k m s (hearing r c b 0 heard) e
  mine_away out from_1 =
      record {
        steady =
            record {
              sound = mine.steady.sound;
              complete = mine.steady.complete;
              rests = mine.steady.rests;
              lasts = mine.steady.lasts;
              lasts_on = λ t on. elim (flag 0 e.pid on) [ inl z ↦ absurd (let f = mine.steady.sound t in by_link z f.hops f.way f.via) | inr z ↦ mine.steady.lasts_on t z ];
            };
        hears = λ j d l cable on. elim (flag 0 j on) [ inl z ↦ absurd (let f = from_1 j d l cable in omega (arith, z)) | inr z ↦ mine.hears j d l cable z ];
        home = λ on is_c. absurd (out is_c);
      }
    where
      at_home : (h : ℕ) → Hops r c b h → h ≡ 0 → b ≡ c
      at_home h way z = elim (first_cable r c b h way) [ inl x ↦ x.0 | inr x ↦ absurd (omega (arith, x.is, z)) ]

      by_link : e.pid ≡ 0 → (h : ℕ) → Hops r c b h → Via r c b e.pid h → ⊥
      by_link z h way (own x) = out (at_home 0 way refl)
      by_link z h way (by {a} {l} x rest) = let f = from_1 0 a l (ap (r.cable b) (sym z) ∙ x) in omega arith

  -- with one link less heard
  pub mine_fewer : (on : ℕ → Bool) → ((q : ℕ) → on q ≡ true → heard q ≡ true) → Mine r c b k m s on e
  mine_fewer on less =
      record {
        steady =
            record {
              sound = mine.steady.sound;
              complete = mine.steady.complete;
              rests = mine.steady.rests;
              lasts = mine.steady.lasts;
              lasts_on = λ t z. mine.steady.lasts_on t (less e.pid z);
            };
        hears = λ j a l cable z. mine.hears j a l cable (less j z);
        home = λ z. mine.home (less 0 z);
      }

  -- in the first round, by a link that no entry came by, nothing is believed
  pub mine_deaf : k ≡ 0 → (j : ℕ) → 1 ≤ j → (entry.up e ≡ true → e.pid ≡ j → ⊥) → Mine r c b k m s (hearing r c b j heard) e
  mine_deaf first j from_1 other =
      record {
        steady =
            record {
              sound = mine.steady.sound;
              complete = mine.steady.complete;
              rests = mine.steady.rests;
              lasts = mine.steady.lasts;
              lasts_on = λ t on. elim (flag j e.pid on) [ inl z ↦ absurd (other t z) | inr z ↦ mine.steady.lasts_on t z ];
            };
        hears = λ q d n cord on h way less short. absurd (omega arith);
        home = λ on is_c. elim (flag j 0 on) [ inl z ↦ absurd (omega (arith, z)) | inr z ↦ mine.home z is_c ];
      }

  -- what is up by fewer than one cable is the host's own
  pub no_pid : m ≤ 1 → (j : ℕ) → 1 ≤ j → entry.up e ≡ true → e.pid ≡ j → ⊥
  no_pid few j from_1 t at_j = let f = mine.steady.sound t in go f.hops f.via (omega (arith, f.below))
    where
      go : (h : ℕ) → Via r c b e.pid h → h < 1 → ⊥
      go h (own z) low = omega (arith, z, at_j)
      go h (by z way) low = absurd (omega arith)
