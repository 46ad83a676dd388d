-- Entries at the two ends of a cable, and the messages on it, are ordered: a PID points to a smaller DELAY, because reports of one sender only fall.
use mathlib.Core.Path.{◌≡◌, refl, sym, ap, subst, subst₂, ◌∙◌}
use mathlib.Core.Bool.{Bool, true, false, cond}
use mathlib.Core.List.{List, [], ◌∷◌}
use mathlib.Core.Logic.{◌⊎◌, inl, inr}
use Prim.Native.Nat.{ℕ, ◌+◌, ◌*◌, ◌≤◌, ◌<◌}
use native.Mathlib.Omega.{arith}
use borrow.Author.Tests.{eqb-true, eqb-false, ltb-true, ltb-false}
use lib.Dec.{eqb, ltb}
use lib.IntN.{pos}
use lib.ListN.{length}
use Rattle.lists.proofs.Tests.{either}
use Rattle.quantity.specs.declared.Millis.{Millis}
use Rattle.quantity.proofs.Ints.{up, dn, is_lt}
use Rattle.wire.specs.Packet.{fields}
use Rattle.table.specs.declared.Entry.{Entry}
use Rattle.table.specs.Entry.{max_delay, aged, advertised}
use Rattle.table.specs.Entry as entry
use Rattle.network_laws.specs.Network.{Network, at, Proper}
use Rattle.network_laws.specs.Demand3.{Message}
use Rattle.liveness_laws.specs.Numbers.{rise, round_seconds}
use Rattle.liveness_laws.proofs.Lines.{any_hops}
use Rattle.liveness_laws.specs.Hops.{Hops, Via, own, by}
use Rattle.liveness_laws.specs.Order.{Stands}
use Rattle.liveness_laws.proofs.Rounds.Entry.{Shown, Steady, ticking, resting}
use Rattle.liveness_laws.proofs.Measured.{returned, Worded}
use Rattle.liveness_laws.proofs.Order.Entry.{Better, Below, better_same, Said}

-- a message that can be believed is in the mail, of link l of host a
pub record On (a l : ℕ) (mail : List Message) (m : Message) (n : ℕ) : Type 0 where
  pub stands : Stands m n mail
  pub node : m.node ≡ a
  pub link : m.link ≡ l
  pub worded : Worded m.octets

pub stands_below : (m : Message) (n : ℕ) (mail : List Message) → Stands m n mail → n < length mail
unfolding Stands
stands_below m n [] x = absurd x
stands_below m n (y ∷ ms) (inl x) = omega (arith, x.1)
stands_below m n (y ∷ ms) (inr x) = omega (arith, stands_below m n ms x)

module _ (r : Network) (c i k : ℕ) where
  -- what such a message of host a, for host b, is to the entry of host a
  pub record Word (b a : ℕ) (o : List ℕ) (d : Entry) : Type 0 where
    pub counted : eqb (fields o).nhosts 0 ≡ false
    pub said : Said r c b k a (returned i o)
    pub has : returned i o < 30000 → (entry.up d ≡ true) × (up d.delay.0 ≤ returned i o)

  -- the cable from link j of host b to link l of host a, with their entries e and d; the last message that arrived had number z
  pub record Edge (b j a l : ℕ) (e d : Entry) (mail : List Message) (z : ℕ) : Type 0 where
    pub leads : entry.up e ≡ true → e.pid ≡ j → Below d e
    pub words : (m : Message) (n : ℕ) → On a l mail m n → Word b a m.octets d
    pub heads : entry.up e ≡ true → e.pid ≡ j → (m : Message) (n : ℕ) → On a l mail m n → z ≤ n → rise + returned i m.octets ≤ up e.delay.0
    -- a later message says no more, or host b is nearer than the earlier says
    pub order : (m : Message) (n : ℕ) (m' : Message) (n' : ℕ) → On a l mail m n → On a l mail m' n' → n ≤ n'
        → (returned i m'.octets ≤ returned i m.octets) ⊎ ((entry.up e ≡ true) × (rise + up e.delay.0 ≤ returned i m.octets))

  abbrev pub Web : (E : ℕ → Entry) → List Message → (last : ℕ → ℕ → ℕ) → Type 0
  Web E mail last = (b j a l : ℕ) → r.cable b j ≡ at a l → Edge b j a l (E b) (E a) mail (last b j)

  -- ---- one host's entry moves

  pub record Arrow (b j a l : ℕ) (f d : Entry) (mail : List Message) (z : ℕ) : Type 0 where
    pub leads : Below d f
    pub heads : (m : Message) (n : ℕ) → On a l mail m n → z ≤ n → rise + returned i m.octets ≤ up f.delay.0

  better_below : (e e' f : Entry) → Better e e' → Below e f → Below e' f
  better_below e e' f x o = record { is_up = x.is_up o.is_up; less = omega (arith, x.near o.is_up, o.less) }

  nearer : (e f : Entry) (p q : ℕ) → Better e f → (p ≤ q) ⊎ ((entry.up e ≡ true) × (rise + up e.delay.0 ≤ q)) → (p ≤ q) ⊎ ((entry.up f ≡ true) × (rise + up f.delay.0 ≤ q))
  nearer e f p q x (inl z) = inl z
  nearer e f p q x (inr z) = inr (x.is_up z.0, omega (arith, x.near z.0, z.1))

  pub web_moves : (proper : Proper r) (E F : ℕ → Entry) (mail : List Message) (last last' : ℕ → ℕ → ℕ) → ((p q : ℕ) → last p q ≤ last' p q)
      → (b : ℕ) → ((q : ℕ) → q < r.nodes → (q ≡ b → ⊥) → F q ≡ E q) → Better (E b) (F b)
      → ((j a l : ℕ) → r.cable b j ≡ at a l → entry.up (F b) ≡ true → (F b).pid ≡ j → Arrow b j a l (F b) (E a) mail (last' b j))
      → Web E mail last → Web F mail last'
  web_moves proper E F mail last last' grows b others better arrows web p q a l cable = go (eqb p b) (eqb a b) refl refl
    where
      p_in : p < r.nodes
      p_in = (proper.cables p q a l cable).node_in

      a_in : a < r.nodes
      a_in = (proper.cables a l p q (proper.cables p q a l cable).other_end).node_in

      old : Edge p q a l (E p) (E a) mail (last' p q)
      old =
          let o = web p q a l cable in
          record { leads = o.leads; words = o.words; heads = λ t at-q m n on_it late. o.heads t at-q m n on_it (omega (arith, late, grows p q)); order = o.order }

      go : (x y : Bool) → eqb p b ≡ x → eqb a b ≡ y → Edge p q a l (F p) (F a) mail (last' p q)
      go true true x y = absurd ((proper.cables p q a l cable).two_nodes (eqb-true p b x ∙ sym (eqb-true a b y)))
      go true false x y =
          let is = eqb-true p b x in
          let same : F a ≡ E a = others a a_in (eqb-false a b y) in
          subst₂ (λ (t : ℕ) (d : Entry). Edge t q a l (F t) d mail (last' t q)) (sym is) (sym same)
          (let cord : r.cable b q ≡ at a l = ap (λ (t : ℕ). r.cable t q) (sym is) ∙ cable in
          let was : Edge b q a l (E b) (E a) mail (last' b q) = subst (λ (t : ℕ). Edge t q a l (E t) (E a) mail (last' t q)) is old in
          record {
            leads = λ t at-q. (arrows q a l cord t at-q).leads;
            words = was.words;
            heads = λ t at-q. (arrows q a l cord t at-q).heads;
            order = λ m n m' n' x x' less. nearer (E b) (F b) (returned i m'.octets) (returned i m.octets) better (was.order m n m' n' x x' less);
          })
      go false true x y =
          let is = eqb-true a b y in
          let same : F p ≡ E p = others p p_in (eqb-false p b x) in
          let moved : Better (E a) (F a) = subst (λ (t : ℕ). Better (E t) (F t)) (sym is) better in
          subst (λ (d : Entry). Edge p q a l d (F a) mail (last' p q)) (sym same)
          record {
            leads = λ t at-q. better_below (E a) (F a) (E p) moved (old.leads t at-q);
            words =
                λ m n x.
                let w = old.words m n x in
                record {
                  counted = w.counted;
                  said = w.said;
                  has = λ low. let h = w.has low in (moved.is_up h.0, omega (arith, moved.near h.0, h.1));
                };
            heads = old.heads;
            order = old.order;
          }
      go false false x y = subst₂ (λ (d e : Entry). Edge p q a l d e mail (last' p q)) (sym (others p p_in (eqb-false p b x))) (sym (others a a_in (eqb-false a b y))) old

  -- as it was
  pub same_arrow : (E : ℕ → Entry) (mail : List Message) (last : ℕ → ℕ → ℕ) → Web E mail last → (b : ℕ) (f : Entry)
      → (entry.up f ≡ true → ((entry.up (E b) ≡ true) × (f.pid ≡ (E b).pid) × (up f.delay.0 ≡ up (E b).delay.0)) ⊎ (f.pid ≡ 0))
      → (j a l z : ℕ) → last b j ≤ z → 1 ≤ j → r.cable b j ≡ at a l → entry.up f ≡ true → f.pid ≡ j → Arrow b j a l f (E a) mail z
  same_arrow E mail last web b f from j a l z late from_1 cable t at_j = go (from t)
    where
      go : ((entry.up (E b) ≡ true) × (f.pid ≡ (E b).pid) × (up f.delay.0 ≡ up (E b).delay.0)) ⊎ (f.pid ≡ 0) → Arrow b j a l f (E a) mail z
      go (inl x) =
          let old = web b j a l cable in
          let was = old.leads x.0 (sym x.1 ∙ at_j) in
          record {
            leads = record { is_up = was.is_up; less = omega (arith, was.less, x.2) };
            heads = λ m n on_it later. omega (arith, old.heads x.0 (sym x.1 ∙ at_j) m n on_it (omega (arith, late, later)), x.2);
          }
      go (inr x) = absurd (omega (arith, x, at_j, from_1))

  -- ---- a message is sent, from link l of host a

  pub record Letter (E : ℕ → Entry) (mail : List Message) (m : Message) : Type 0 where
    pub word : (b j : ℕ) → r.cable b j ≡ at m.node m.link → Worded m.octets → Word b m.node m.octets (E m.node)
    pub head : (b j : ℕ) → r.cable b j ≡ at m.node m.link → Worded m.octets → entry.up (E b) ≡ true → (E b).pid ≡ j → rise + returned i m.octets ≤ up (E b).delay.0
    pub after : (b j : ℕ) → r.cable b j ≡ at m.node m.link → Worded m.octets → (q : Message) (n : ℕ) → On m.node m.link mail q n
        → (returned i m.octets ≤ returned i q.octets) ⊎ ((entry.up (E b) ≡ true) × (rise + up (E b).delay.0 ≤ returned i q.octets))

  pub web_sends : (E : ℕ → Entry) (mail : List Message) (last : ℕ → ℕ → ℕ) (m : Message) → Letter E mail m → Web E mail last → Web E (m ∷ mail) last
  unfolding Stands
  web_sends E mail last m letter web b j a l cable =
      record {
        leads = old.leads;
        words = λ q n x. word_of q n x x.stands;
        heads = λ t at_j q n x late. head_of t at_j q n x late x.stands;
        order = λ q n q' n' x x' less. order_of q n q' n' x x' less x.stands x'.stands;
      }
    where
      old : Edge b j a l (E b) (E a) mail (last b j)
      old = web b j a l cable

      cord : (q : Message) → m ≡ q → q.node ≡ a → q.link ≡ l → r.cable b j ≡ at m.node m.link
      cord q is node link =
          cable ∙ subst₂ (λ (s t : ℕ). at s t ≡ at m.node m.link) (ap (λ (v : Message). v.node) is ∙ node) (ap (λ (v : Message). v.link) is ∙ link) refl

      word_of : (q : Message) (n : ℕ) → On a l (m ∷ mail) q n → ((m ≡ q) × (length mail ≡ n)) ⊎ Stands q n mail → Word b a q.octets (E a)
      word_of q n x (inl z) =
          let w = subst (λ (v : Message). Worded v.octets) (sym z.0) x.worded in
          let it = letter.word b j (cord q z.0 x.node x.link) w in
          subst₂ (λ (s : ℕ) (o : List ℕ). Word b s o (E s)) (ap (λ (v : Message). v.node) z.0 ∙ x.node) (ap (λ (v : Message). v.octets) z.0) it
      word_of q n x (inr z) = old.words q n record { stands = z; node = x.node; link = x.link; worded = x.worded }

      head_of : entry.up (E b) ≡ true → (E b).pid ≡ j → (q : Message) (n : ℕ) → On a l (m ∷ mail) q n → last b j ≤ n → ((m ≡ q) × (length mail ≡ n)) ⊎ Stands q n mail → rise + returned i q.octets ≤ up (E b).delay.0
      head_of t at_j q n x late (inl z) =
          let w = subst (λ (v : Message). Worded v.octets) (sym z.0) x.worded in
          subst (λ (v : Message). rise + returned i v.octets ≤ up (E b).delay.0) z.0 (letter.head b j (cord q z.0 x.node x.link) w t at_j)
      head_of t at_j q n x late (inr z) = old.heads t at_j q n record { stands = z; node = x.node; link = x.link; worded = x.worded } late

      abbrev_order : (q q' : Message) → Type 0
      abbrev_order q q' = (returned i q'.octets ≤ returned i q.octets) ⊎ ((entry.up (E b) ≡ true) × (rise + up (E b).delay.0 ≤ returned i q.octets))

      order_of : (q : Message) (n : ℕ) (q' : Message) (n' : ℕ) → On a l (m ∷ mail) q n → On a l (m ∷ mail) q' n' → n ≤ n'
          → ((m ≡ q) × (length mail ≡ n)) ⊎ Stands q n mail → ((m ≡ q') × (length mail ≡ n')) ⊎ Stands q' n' mail → abbrev_order q q'
      order_of q n q' n' x x' less (inl z) (inl z') = inl (subst₂ (λ (u v : Message). returned i v.octets ≤ returned i u.octets) z.0 z'.0 (omega arith))
      order_of q n q' n' x x' less (inl z) (inr z') = absurd (omega (arith, stands_below q' n' mail z', less, z.1))
      order_of q n q' n' x x' less (inr z) (inl z') =
          let w = subst (λ (v : Message). Worded v.octets) (sym z'.0) x'.worded in
          let node : q.node ≡ m.node = x.node ∙ sym x'.node ∙ ap (λ (v : Message). v.node) (sym z'.0) in
          let link : q.link ≡ m.link = x.link ∙ sym x'.link ∙ ap (λ (v : Message). v.link) (sym z'.0) in
          subst (abbrev_order q) z'.0 (letter.after b j (cord q' z'.0 x'.node x'.link) w q n record { stands = z; node = node; link = link; worded = x.worded })
      order_of q n q' n' x x' less (inr z) (inr z') =
          old.order q n q' n' record { stands = z; node = x.node; link = x.link; worded = x.worded } record { stands = z'; node = x'.node; link = x'.link; worded = x'.worded } less

  -- ---- what a send says

  module _ (a b l j s s' : ℕ) (heard heard' : ℕ → Bool) (d e : Entry) (at_a : Steady r c a k any_hops s heard d) (at_b : Steady r c b k any_hops s' heard' e)
      (out : entry.up d ≡ true → d.pid ≡ l → Below e d) (back : entry.up e ≡ true → e.pid ≡ j → Below d e)
      (low : dn d.delay.0 ≤ 0) (high : up d.delay.0 ≤ 30000) where
    is_up : up d.delay.0 < 30000 → entry.up d ≡ true
    is_up z = is_lt d.delay.0 (pos 30000) (omega (arith, z, low))

    pub sent_said : Said r c b k a (up (advertised l d).delay.0)
    unfolding advertised
    sent_said =
        record {
          sound =
              either (λ (x : Millis). up x.0 < 30000 → (g : ℕ) × (up x.0 ≡ rise * g) × Hops r c a g) (eqb d.pid l) _ _ (λ _ z. absurd (omega (arith, z)))
              (λ _ z. let f = at_a.sound (is_up z) in (f.hops, ap up f.delay, f.way));
          complete =
              λ h way few short.
              let o = at_a.complete h way few short in
              either (λ (x : Millis). (up x.0 ≤ rise * h) ⊎ ((g : ℕ) × (g < h) × Hops r c b g)) (eqb d.pid l) _ _
              (λ t.
              let w = out o.is_up (eqb-true d.pid l t) in
              let f = at_b.sound w.is_up in
              inr (f.hops, omega (arith, w.less, o.near, ap up f.delay), f.way))
              (λ _. inl o.near);
        }

    pub sent_has : up (advertised l d).delay.0 < 30000 → (entry.up d ≡ true) × (up d.delay.0 ≤ up (advertised l d).delay.0)
    unfolding advertised
    sent_has =
        either (λ (x : Millis). up x.0 < 30000 → (entry.up d ≡ true) × (up d.delay.0 ≤ up x.0)) (eqb d.pid l) _ _ (λ _ z. absurd (omega (arith, z)))
        (λ _ z. (is_up z, omega arith))

    pub sent_head : entry.up e ≡ true → e.pid ≡ j → rise + up (advertised l d).delay.0 ≤ up e.delay.0
    unfolding advertised
    sent_head t at_j =
        let w = back t at_j in
        either (λ (x : Millis). rise + up x.0 ≤ up e.delay.0) (eqb d.pid l) _ _
        (λ v. absurd (let z = out w.is_up (eqb-true d.pid l v) in omega (arith, z.less, w.less)))
        (λ _. w.less)

    -- after an earlier message of q ms
    pub sent_after : (q : ℕ) → (q < 30000 → (entry.up d ≡ true) × (up d.delay.0 ≤ q))
        → (up (advertised l d).delay.0 ≤ q) ⊎ ((entry.up e ≡ true) × (rise + up e.delay.0 ≤ q))
    unfolding advertised
    sent_after q has = by_size (ltb q 30000) refl
      where
        by_size : (t : Bool) → ltb q 30000 ≡ t → (up (cond (eqb d.pid l) max_delay d.delay).0 ≤ q) ⊎ ((entry.up e ≡ true) × (rise + up e.delay.0 ≤ q))
        by_size true t =
            let h = has (ltb-true q 30000 t) in
            either (λ (x : Millis). (up x.0 ≤ q) ⊎ ((entry.up e ≡ true) × (rise + up e.delay.0 ≤ q))) (eqb d.pid l) _ _
            (λ v. let w = out h.0 (eqb-true d.pid l v) in inr (w.is_up, omega (arith, w.less, h.1)))
            (λ _. inl h.1)
        by_size false t =
            let z = ltb-false q 30000 t in
            either (λ (x : Millis). (up x.0 ≤ q) ⊎ ((entry.up e ≡ true) × (rise + up e.delay.0 ≤ q))) (eqb d.pid l) _ _ (λ _. inl (omega (arith, z))) (λ _. inl (omega (arith, z, high)))

-- ---- seconds, and self-reports

pub aged_better : (r : Network) (c b k m s : ℕ) (heard : ℕ → Bool) (e : Entry) → s < round_seconds → Steady r c b k m s heard e
    → Better e (aged e) × (entry.up (aged e) ≡ true → (entry.up e ≡ true) × ((aged e).pid ≡ e.pid) × (up (aged e).delay.0 ≡ up e.delay.0))
aged_better r c b k m s heard e early good = go (entry.up e) refl
  where
    go : (t : Bool) → entry.up e ≡ t → Better e (aged e) × (entry.up (aged e) ≡ true → (entry.up e ≡ true) × ((aged e).pid ≡ e.pid) × (up (aged e).delay.0 ≡ up e.delay.0))
    go false t = rw (resting r c b e (good.rests t)) (better_same e, λ v. (v, refl, refl))
    go true t =
        let long = good.lasts t in
        rw (ticking r c b e t (omega (arith, long))) (record { is_up = λ v. v; near = λ _. omega arith; turns = λ _. inl refl }, λ v. (v, refl, refl))

-- an entry that is shown at its own host has PID 0
pub home_better : (r : Network) (c b k m s : ℕ) (heard heard' : ℕ → Bool) (e f : Entry) → Steady r c b k m s heard' e → Steady r c b k m s heard f → Shown r c b 0 f → Better e f × (f.pid ≡ 0)
home_better r c b k m s heard heard' e f was good o = (
  record { is_up = λ _. o.is_up; near = λ _. omega (arith, o.near); turns = λ t. let x = was.sound t in from x.hops x.via (ap up x.delay) },
  own_pid,
)
  where
    go : (h : ℕ) → Via r c b f.pid h → h < 1 → f.pid ≡ 0
    go h (own z) few = z
    go h (by z way) few = absurd (omega arith)

    own_pid : f.pid ≡ 0
    own_pid = let x = good.sound o.is_up in go x.hops x.via (omega (arith, o.near, ap up x.delay))

    from : (h : ℕ) → Via r c b e.pid h → up e.delay.0 ≡ rise * h → (f.pid ≡ e.pid) ⊎ (rise + up f.delay.0 ≤ up e.delay.0)
    from h (own z) is = inl (own_pid ∙ sym z)
    from h (by z way) is = inr (omega (arith, is, o.near))

-- ---- what is in the mail after a call of host b

pub data Posted (r : Network) (c i k : ℕ) (E : ℕ → Entry) (b : ℕ) (mail : List Message) : List Message → Type 0 where
  none : Posted r c i k E b mail mail
  one : (m : Message) → m.node ≡ b → Letter r c i k E mail m → Posted r c i k E b mail (m ∷ mail)

pub letter_moves : (r : Network) (c i k : ℕ) (proper : Proper r) (E F : ℕ → Entry) (mail : List Message) (m : Message) → ((q : ℕ) → q < r.nodes → (q ≡ m.node → ⊥) → F q ≡ E q) → Better (E m.node) (F m.node)
    → Letter r c i k E mail m → Letter r c i k F mail m
letter_moves r c i k proper E F mail m others better letter =
    record {
      word =
          λ b j cable worded.
          let w = letter.word b j cable worded in
          record {
            counted = w.counted;
            said = w.said;
            has = λ low. let h = w.has low in (better.is_up h.0, omega (arith, better.near h.0, h.1));
          };
      head =
          λ b j cable worded.
          let g = proper.cables b j m.node m.link cable in
          subst (λ (e : Entry). entry.up e ≡ true → e.pid ≡ j → rise + returned i m.octets ≤ up e.delay.0) (sym (others b g.node_in g.two_nodes)) (letter.head b j cable worded);
      after =
          λ b j cable worded q n x.
          let g = proper.cables b j m.node m.link cable in
          subst (λ (e : Entry). (returned i m.octets ≤ returned i q.octets) ⊎ ((entry.up e ≡ true) × (rise + up e.delay.0 ≤ returned i q.octets))) (sym (others b g.node_in g.two_nodes))
          (letter.after b j cable worded q n x);
    }

pub web_after : (r : Network) (c i k : ℕ) (proper : Proper r) (E F : ℕ → Entry) (mail mail' : List Message) (last last' : ℕ → ℕ → ℕ) → ((p q : ℕ) → last p q ≤ last' p q)
    → (b : ℕ) → ((q : ℕ) → q < r.nodes → (q ≡ b → ⊥) → F q ≡ E q) → Better (E b) (F b)
    → ((j a l : ℕ) → r.cable b j ≡ at a l → entry.up (F b) ≡ true → (F b).pid ≡ j → Arrow r c i k b j a l (F b) (E a) mail (last' b j))
    → Posted r c i k E b mail mail' → Web r c i k E mail last → Web r c i k F mail' last'
web_after r c i k proper E F mail mail' last last' grows b others better arrows none web = web_moves r c i k proper E F mail last last' grows b others better arrows web
web_after r c i k proper E F mail mail' last last' grows b others better arrows (one m is letter) web =
    web_sends r c i k F mail last' m
    (letter_moves r c i k proper E F mail m (λ q hq other. others q hq (λ z. other (z ∙ sym is))) (subst (λ (q : ℕ). Better (E q) (F q)) (sym is) better) letter)
    (web_moves r c i k proper E F mail last last' grows b others better arrows web)
