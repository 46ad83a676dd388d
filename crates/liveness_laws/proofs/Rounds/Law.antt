-- Each round brings every table one cable further, because every host heard what its neighbours had at the round's beginning.
use mathlib.Core.Path.{◌≡◌, refl, sym, ap, subst, ◌∙◌}
use mathlib.Core.Bool.{Bool, true, false, true≢false, false≢true}
use mathlib.Core.List.Memᴰ
use mathlib.Core.List.{List, [], ◌∷◌}
use mathlib.Core.Logic.{◌⊎◌, inl, inr}
use Prim.Native.Nat.{ℕ, zero, suc, ◌+◌, ◌*◌, ◌≤◌, ◌<◌}
use native.Mathlib.Omega.{arith}
use lib.IntN.{pos}
use lib.ListN.{take}
use lib.Seq.{get_or-take}
use Rattle.quantity.proofs.Ints.{to-≤ℤ}
use Rattle.route.specs.declared.Layout.{Layout}
use Rattle.table.specs.declared.Entry.{Entry}
use Rattle.table.specs.Entry.{fresh_entry}
use Rattle.table.specs.Entry as entry
use Rattle.host.specs.State.{host_count}
use Rattle.host.specs.Walk.{packet_of}
use Rattle.host.proofs.Sound.{sound}
use Rattle.network_laws.specs.Network.{longest_way, Network, at, HostAt, Proper}
use Rattle.network_laws.specs.Slots.{EverySlot}
use Rattle.network_laws.specs.Demand3.{Step, World, after_at, step, history, Allows, Starts, entry_of}
use Rattle.network_laws.proofs.Lists.{all_at}
use Rattle.network_laws.proofs.Demand3.Invariant.{RightEntry, RightWorld}
use Rattle.network_laws.proofs.Demand3.Nodes.{fresh_right, set_good}
use Rattle.liveness_laws.specs.Numbers.{rise, quick_way, round_seconds, ways_below}
use Rattle.liveness_laws.specs.Seconds.{emptied, counts, seconds_at}
use Rattle.liveness_laws.specs.Hops.{Hops, Via, own, by}
use Rattle.liveness_laws.specs.TablesFill as claim
use Rattle.liveness_laws.specs.TablesFill.{TablesFill}
use Rattle.liveness_laws.specs.Rounds.{NoWalks, Speaking, Listening, spoken, Underway, meanwhile, Round, Rounds, begin, next}
use Rattle.network_laws.proofs.Demand3.Histories.{world_right, history_right, starts_right}
use Rattle.liveness_laws.proofs.Rounds.Heard.{Mine}
use Rattle.liveness_laws.proofs.Rounds.Entry.{next_entry, least}
use Rattle.liveness_laws.proofs.Rounds.Believed.{Sent}
use Rattle.liveness_laws.proofs.Host.State.{WalkAt}
use Rattle.liveness_laws.proofs.Host.Flags.{own_gain, flags_after, flags_all, all_stay, heard_on, reported_on}
use Rattle.liveness_laws.proofs.Host.Turns.{HostOk}
use Rattle.liveness_laws.proofs.Host.Start.{fresh_ok}
use Rattle.liveness_laws.proofs.Rounds.Worlds.{GoodWorld, speak_turn, listen_turn, some_l, world_good}

module _ (r : Network) (proper : Proper r) (ways : r.longest ≤ longest_way) (quick : r.longest ≤ quick_way) (c i : ℕ) (hc : c < r.nodes) (host : HostAt r i c) (few : (b : ℕ) → b < r.nodes → i < host_count (r.settings b)) where
  -- ---- what was heard, along a list

  module _ (k : ℕ) where
    abbrev Good : (speaking : Bool) (m : ℕ) (s : ℕ → ℕ) (heard : ℕ → ℕ → Bool) → World → Type 0
    Good = GoodWorld r proper ways quick c i k hc host few

    -- ---- the two halves of a round

    same_seconds : (speaking : Bool) (m : ℕ) (s t : ℕ → ℕ) (heard : ℕ → ℕ → Bool) → ((b : ℕ) → s b ≡ t b) → (w : World) → Good speaking m s heard w → Good speaking m t heard w
    same_seconds speaking m s t heard same w f =
        record { nodes = λ b hb. subst (λ (q : ℕ). HostOk r c i k m b speaking (Sent r c i k b) q (heard b) (w.state (r.number b))) (same b) (f.nodes b hb); mail = f.mail }

    speak_list : (m : ℕ) (some : 1 ≤ m) (speaks : (k ≡ 0) ⊎ (m ≤ k)) (s : ℕ → ℕ) (heard : ℕ → ℕ → Bool) (w : World) (xs : List Step) → Allows r w xs → Speaking r w xs → RightWorld r w
        → ((b : ℕ) → b < r.nodes → s b + seconds_at r w b xs ≤ round_seconds) → Good true m s heard w → Good true m (λ b. s b + seconds_at r w b xs) (flags_all r c w xs heard) (history r w xs)
    unfolding Allows Speaking history seconds_at flags_all
    speak_list m some speaks s heard w [] ok may right short f = same_seconds true m s (λ b. s b + 0) heard (λ b. omega arith) w f
    speak_list m some speaks s heard w (x ∷ xs) ok may right short f =
        let turn =
        speak_turn r proper ways quick c i k hc host few m w right x.node ok.0.node_in x.nets x.links x.copy x.entries (s x.node) (heard x.node) (f.nodes x.node ok.0.node_in) f.mail some speaks x.call ok.0 may.0
        (omega (arith, short x.node ok.0.node_in, own_gain r w x)) in
        same_seconds true m (λ b. (s b + counts r w b x) + seconds_at r (step r w x) b xs) (λ b. s b + (counts r w b x + seconds_at r (step r w x) b xs)) _ (λ b. omega arith) (history r (step r w x) xs)
        (speak_list m some speaks (λ b. s b + counts r w b x) (flags_after r c w x heard) (step r w x) xs ok.1 may.1 (world_right r proper ways w x ok.0 right)
        (λ b hb. omega (arith, short b hb)) (world_good r proper ways quick c i k hc host few true m some s heard w right x ok.0 f turn))

    listen_list : (s : ℕ → ℕ) (heard : ℕ → ℕ → Bool) (w : World) (xs : List Step) → Allows r w xs → Listening xs → RightWorld r w
        → ((b : ℕ) → b < r.nodes → s b + seconds_at r w b xs ≤ round_seconds) → Good false (suc k) s heard w → Good false (suc k) (λ b. s b + seconds_at r w b xs) (flags_all r c w xs heard) (history r w xs)
    unfolding Allows Listening history seconds_at flags_all
    listen_list s heard w [] ok may right short f = same_seconds false (suc k) s (λ b. s b + 0) heard (λ b. omega arith) w f
    listen_list s heard w (x ∷ xs) ok may right short f =
        let turn =
        listen_turn r proper ways quick c i k hc host few w right x.node ok.0.node_in x.nets x.links x.copy x.entries (s x.node) (heard x.node) (f.nodes x.node ok.0.node_in) f.mail x.call ok.0 may.0
        (omega (arith, short x.node ok.0.node_in, own_gain r w x)) in
        same_seconds false (suc k) (λ b. (s b + counts r w b x) + seconds_at r (step r w x) b xs) (λ b. s b + (counts r w b x + seconds_at r (step r w x) b xs)) _ (λ b. omega arith) (history r (step r w x) xs)
        (listen_list (λ b. s b + counts r w b x) (flags_after r c w x heard) (step r w x) xs ok.1 may.1 (world_right r proper ways w x ok.0 right)
        (λ b hb. omega (arith, short b hb)) (world_good r proper ways quick c i k hc host few false (suc k)
        (some_l r proper ways quick c i k hc host few w right x.node ok.0.node_in x.nets x.links x.copy x.entries (s x.node) (heard x.node) (f.nodes x.node ok.0.node_in) f.mail) s heard w right x ok.0 f turn))

    -- from speaking to listening
    turns : (m : ℕ) → m ≤ suc k → (s : ℕ → ℕ) (heard : ℕ → ℕ → Bool) (w : World) → Good true m s heard w → Good false (suc k) s heard w
    turns m less s heard w f =
        record {
          nodes =
              λ b hb.
              let g = f.nodes b hb in
              record {
                room = g.room;
                long = g.long;
                mine = wider b (entry_of r w b i) g.mine;
                links = λ j a n cord. let o = g.links j a n cord in record { quiet = λ no. absurd (false≢true no); spoke = o.spoke; known = o.known; met = o.met };
                waits = λ no. absurd (false≢true no);
                walk =
                    λ opened.
                    subst (WalkAt r c i k (suc k) b (s b) (heard b) (Sent r c i k b) (entry_of r w b i) (after_at r w b).walk (packet_of (after_at r w b).walk (after_at r w b).copy) (after_at r w b).links) (sym (g.waits refl opened)) tt;
              };
          mail = f.mail;
        }
      where
        wider : (b : ℕ) (e : Entry) → Mine r c b k m (s b) (heard b) e → Mine r c b k (suc k) (s b) (heard b) e
        wider b e q =
            record {
              steady =
                  record {
                    sound = λ t. let z = q.steady.sound t in record { hops = z.hops; delay = z.delay; way = z.way; below = omega (arith, z.below); via = z.via };
                    complete = q.steady.complete;
                    rests = q.steady.rests;
                    lasts = q.steady.lasts;
                    lasts_on = q.steady.lasts_on;
                  };
              hears = q.hears;
              home = q.home;
            }

    -- the end of a round: every link was heard, and every host reported
    ends : (s : ℕ → ℕ) (heard : ℕ → ℕ → Bool) (w : World) → NoWalks r w → ((b : ℕ) → b < r.nodes → s b ≤ round_seconds) → ((b j a n : ℕ) → r.cable b j ≡ at a n → heard b j ≡ true) → ((b : ℕ) → b < r.nodes → heard b 0 ≡ true)
        → Good false (suc k) s heard w → GoodWorld r proper ways quick c i (suc k) hc host few true (suc k) (λ b. 0) (λ b q. false) (emptied w)
    ends s heard w over short all own-too f =
        record {
          nodes =
              λ b hb.
              let g = f.nodes b hb in
              record {
                room = g.room;
                long = g.long;
                mine = later b hb (entry_of r w b i) g.mine;
                links = λ j a n cord. let o = g.links j a n cord in record { quiet = λ _ no. absurd (omega arith); spoke = o.spoke; known = λ _. o.known (inr (all b j a n cord)); met = o.met };
                waits = λ _ opened. absurd (true≢false (sym opened ∙ over b hb));
                walk = λ opened. absurd (true≢false (sym opened ∙ over b hb));
              };
          mail = λ q y. absurd (Memᴰ.not-nil y);
        }
      where
        later : (b : ℕ) → b < r.nodes → (e : Entry) → Mine r c b k (suc k) (s b) (heard b) e → Mine r c b (suc k) (suc k) 0 (λ q. false) e
        later b hb e q =
            record {
              steady =
                  next_entry r c b k (s b) (heard b) e (short b hb) (λ t. let z = q.steady.sound t in pid_on z.hops z.via) (q.home (own-too b hb))
                  (λ j a l cord. q.hears j a l cord (all b j a l cord)) q.steady;
              hears = λ j a l cord no. absurd (false≢true no);
              home = λ no. absurd (false≢true no);
            }
          where
            pid_on : (h : ℕ) → Via r c b e.pid h → heard b e.pid ≡ true
            pid_on h (own z) = ap (heard b) z ∙ own-too b hb
            pid_on h (by {a} {l} z way) = all b e.pid a l z

  -- the entry of id i in a good world
  pub mine_at : (speaking : Bool) (k m : ℕ) (s : ℕ → ℕ) (heard : ℕ → ℕ → Bool) (u : World) → Good k speaking m s heard u → (b : ℕ) → b < r.nodes → Mine r c b k m (s b) (heard b) (entry_of r u b i)
  mine_at speaking k m s heard u good b hb = (good.nodes b hb).mine

  -- ---- rounds

  pub record Ready (k : ℕ) (w : World) : Type 0 where
    pub right : RightWorld r w
    pub m : ℕ
    pub some : 1 ≤ m
    pub less : m ≤ suc k
    pub speaks : (k ≡ 0) ⊎ (m ≤ k)
    pub good : GoodWorld r proper ways quick c i k hc host few true m (λ b. 0) (λ b q. false) (emptied w)

  emptied_right : (w : World) → RightWorld r w → RightWorld r (emptied w)
  emptied_right w right = record { nodes = right.nodes; mail = λ q y. absurd (Memᴰ.not-nil y) }

  -- a round that has begun
  right_then : (w : World) (xs ys : List Step) → Underway r w xs ys → RightWorld r w → RightWorld r (spoken r w xs)
  right_then w xs ys e right = history_right r proper ways (emptied w) xs e.allowed (emptied_right w right)

  pub meanwhile_good : (k : ℕ) (w : World) (xs ys : List Step) → Underway r w xs ys → Ready k w
      → Good k false (suc k) (λ b. 0 + seconds_at r (emptied w) b xs + seconds_at r (spoken r w xs) b ys) (flags_all r c (spoken r w xs) ys (flags_all r c (emptied w) xs (λ b q. false))) (meanwhile r w xs ys)
  meanwhile_good k w xs ys e g =
      let right = emptied_right w g.right in
      let said =
      speak_list k g.m g.some g.speaks (λ b. 0) (λ b q. false) (emptied w) xs e.allowed e.speak right (λ b hb. omega (arith, e.short b hb)) g.good in
      listen_list k (λ b. 0 + seconds_at r (emptied w) b xs) (flags_all r c (emptied w) xs (λ b q. false)) (spoken r w xs) ys e.allowed_then e.listen (right_then w xs ys e g.right) (λ b hb. omega (arith, e.short b hb)) (turns k g.m g.less _ _ (spoken r w xs) said)

  one_round : (k : ℕ) (w : World) (xs ys : List Step) → Round r w xs ys → Ready k w → Ready (suc k) (history r (spoken r w xs) ys)
  one_round k w xs ys e g =
      let heard = meanwhile_good k w xs ys e.underway g in
      record {
        right = history_right r proper ways (spoken r w xs) ys e.underway.allowed_then (right_then w xs ys e.underway g.right);
        m = suc k;
        some = omega arith;
        less = omega arith;
        speaks = inr (omega arith);
        good =
            ends k _ (flags_all r c (spoken r w xs) ys (flags_all r c (emptied w) xs (λ b q. false))) (history r (spoken r w xs) ys) e.over (λ b hb. omega (arith, e.underway.short b hb))
            (λ b j a n cord. heard_on r c (spoken r w xs) ys (flags_all r c (emptied w) xs (λ b q. false)) b j (e.heard b j a n cord))
            (λ b hb.
            elim (e.reported b hb) [
              | inl z ↦ all_stay r c (spoken r w xs) ys (flags_all r c (emptied w) xs (λ b q. false)) b 0 (reported_on r c (emptied w) xs (λ b q. false) b z)
              | inr z ↦ reported_on r c (spoken r w xs) ys (flags_all r c (emptied w) xs (λ b q. false)) b z
            ])
            heard;
      }

  rounds : (w : World) → Ready 0 w → (k : ℕ) (v : World) → Rounds r w k v → Ready k v
  rounds w g zero v begin = g
  rounds w g (suc k) v (next {v = u} before xs ys e) = one_round k u xs ys e (rounds w g k u before)

-- ---- the claim

pub rounds_right : (r : Network) → Proper r → r.longest ≤ longest_way → (w : World) → RightWorld r w → (k : ℕ) (v : World) → Rounds r w k v → RightWorld r v
rounds_right r proper ways w right zero v begin = right
rounds_right r proper ways w right (suc k) v (next {v = u} before xs ys e) =
    let was = rounds_right r proper ways w right k u before in
    history_right r proper ways (spoken r u xs) ys e.underway.allowed_then
    (history_right r proper ways (emptied u) xs e.underway.allowed record { nodes = was.nodes; mail = λ q y. absurd (Memᴰ.not-nil y) })

pub meanwhile_right : (r : Network) → Proper r → r.longest ≤ longest_way → (v : World) (xs ys : List Step) → Underway r v xs ys → RightWorld r v → RightWorld r (meanwhile r v xs ys)
meanwhile_right r proper ways v xs ys e right =
    history_right r proper ways (spoken r v xs) ys e.allowed_then
    (history_right r proper ways (emptied v) xs e.allowed record { nodes = right.nodes; mail = λ q y. absurd (Memᴰ.not-nil y) })

-- ---- the claim, for id i in the table of host b

module _ (r : Network) (proper : Proper r) (quick : r.longest ≤ quick_way) (slots : EverySlot r) (w : World) (start : Starts r w) (k : ℕ) (v : World) (es : Rounds r w (suc k) v)
    (b i : ℕ) (hb : b < r.nodes) (below : i < (r.settings b).layout.nhosts) where
  ways : r.longest ≤ longest_way
  ways = omega (arith, quick)

  sized : (a : ℕ) → a < r.nodes → i < host_count (r.settings a)
  sized a ha =
      let same = ap (λ (l : Layout). l.nhosts) (proper.one_layout a b ha hb) in
      let few = (sound (r.settings a) (set_good r a (proper.was_initialized a ha))).hosts_to in
      omega arith

  first : (c : ℕ) (hc : c < r.nodes) (host : HostAt r i c) → Ready r proper ways quick c i hc host sized 0 w
  first c hc host =
      record {
        right = starts_right r proper ways w start;
        m = 1;
        some = omega arith;
        less = omega arith;
        speaks = inl refl;
        good =
            record {
              nodes =
                  λ a ha.
                  subst (HostOk r c i 0 1 a true (Sent r c i 0 a) 0 (λ q. false)) (sym (start.was_initialized a ha))
                  (fresh_ok r proper c i 1 a true (Sent r c i 0 a) (slots a ha) (sized a ha) (proper.was_initialized a ha)).0;
              mail = λ q y. absurd (Memᴰ.not-nil y);
            };
      }

  last : (c : ℕ) (hc : c < r.nodes) (host : HostAt r i c) → Ready r proper ways quick c i hc host sized (suc k) v
  last c hc host = rounds r proper ways quick c i hc host sized w (first c hc host) (suc k) v es

  ready : (c : ℕ) (hc : c < r.nodes) (host : HostAt r i c) → Mine r c b (suc k) (last c hc host).m 0 (λ q. false) (entry_of r v b i)
  ready c hc host = mine_at r proper ways quick c i hc host sized true (suc k) (last c hc host).m (λ b. 0) (λ b q. false) (emptied v) (last c hc host).good b hb

  right_v : RightWorld r v
  right_v = rounds_right r proper ways w (starts_right r proper ways w start) (suc k) v es

  right_entry : (u : World) → RightWorld r u → RightEntry r b i (entry_of r u b i)
  right_entry u right =
      let places = (u.state (r.number b)).places in
      subst (RightEntry r b i) (get_or-take (host_count (r.settings b)) places i fresh_entry (sized b hb))
      (all_at (RightEntry r b) fresh_entry (fresh_right r b) (take (host_count (r.settings b)) places) (right.nodes b hb).table i)

  -- what the invariant says of an entry, at any moment
  module _ (u : World) (right : RightWorld r u) (n : ℕ) (m : (c : ℕ) → c < r.nodes → HostAt r i c → ℕ) (s : ℕ) (heard : (c : ℕ) → c < r.nodes → HostAt r i c → ℕ → Bool)
      (few : (c : ℕ) (hc : c < r.nodes) (host : HostAt r i c) → m c hc host ≤ suc n)
      (mine : (c : ℕ) (hc : c < r.nodes) (host : HostAt r i c) → Mine r c b n (m c hc host) s (heard c hc host) (entry_of r u b i)) where
    shown_at : (c h : ℕ) → c < r.nodes → HostAt r i c → Hops r c b h → h < n → h < ways_below → claim.Shown r u b i h
    shown_at c h hc host way less short =
        let o = (mine c hc host).steady.complete h way less (omega arith) in
        record { is_up = o.is_up; near = to-≤ℤ (entry_of r u b i).delay.0 (pos (rise * h)) (omega (arith, o.near)) }

    exact_at : (q : ℕ) → ((c : ℕ) (hc : c < r.nodes) (host : HostAt r i c) (h : ℕ) → h < m c hc host → h ≤ q) → entry.up (entry_of r u b i) ≡ true → claim.Exact r u q b i
    exact_at q soon t =
        let known = (right_entry u right).known t in
        let it = mine known.node known.node_in known.host_there in
        let f = it.steady.sound t in
        record {
          node = known.node;
          node_in = known.node_in;
          host_there = known.host_there;
          hops = f.hops;
          way = f.way;
          shortest = λ g way. least r known.node b n (m known.node known.node_in known.host_there) s (heard known.node known.node_in known.host_there) (entry_of r u b i) (few known.node known.node_in known.host_there) it.steady t g way f;
          in_time = soon known.node known.node_in known.host_there f.hops f.below;
          delay = f.delay;
          pid = f.via;
        }

  soon : (h m : ℕ) → h < m → (suc k ≡ 0) ⊎ (m ≤ suc k) → h ≤ k
  soon h m z (inl x) = absurd (omega arith)
  soon h m z (inr x) = omega arith

  complete : (c h : ℕ) → c < r.nodes → HostAt r i c → Hops r c b h → h ≤ k → h < ways_below → claim.Shown r v b i h
  complete c h hc host way less short = shown_at v right_v (suc k) (λ c hc host. (last c hc host).m) 0 (λ c hc host q. false) (λ c hc host. (last c hc host).less) ready c h hc host way (omega arith) short

  exact : entry.up (entry_of r v b i) ≡ true → claim.Exact r v k b i
  exact = exact_at v right_v (suc k) (λ c hc host. (last c hc host).m) 0 (λ c hc host q. false) (λ c hc host. (last c hc host).less) ready k (λ c hc host h below-m. soon h (last c hc host).m below-m (last c hc host).speaks)

  -- in the middle of the next round
  module _ (xs ys : List Step) (e : Underway r v xs ys) where
    right_u : RightWorld r (meanwhile r v xs ys)
    right_u = meanwhile_right r proper ways v xs ys e right_v

    abbrev heard_now : (c : ℕ) → c < r.nodes → HostAt r i c → ℕ → Bool
    heard_now c hc host = flags_all r c (spoken r v xs) ys (flags_all r c (emptied v) xs (λ b q. false)) b

    mine_u : (c : ℕ) (hc : c < r.nodes) (host : HostAt r i c) → Mine r c b (suc k) (suc (suc k)) (0 + seconds_at r (emptied v) b xs + seconds_at r (spoken r v xs) b ys) (heard_now c hc host) (entry_of r (meanwhile r v xs ys) b i)
    mine_u c hc host = mine_at r proper ways quick c i hc host sized false (suc k) (suc (suc k)) _ _ (meanwhile r v xs ys) (meanwhile_good r proper ways quick c i hc host sized (suc k) v xs ys e (last c hc host)) b hb

    complete_on : (c h : ℕ) → c < r.nodes → HostAt r i c → Hops r c b h → h ≤ k → h < ways_below → claim.Shown r (meanwhile r v xs ys) b i h
    complete_on c h hc host way less short = shown_at (meanwhile r v xs ys) right_u (suc k) (λ c hc host. suc (suc k)) _ heard_now (λ c hc host. omega arith) mine_u c h hc host way (omega arith) short

    exact_on : entry.up (entry_of r (meanwhile r v xs ys) b i) ≡ true → claim.Exact r (meanwhile r v xs ys) (suc k) b i
    exact_on = exact_at (meanwhile r v xs ys) right_u (suc k) (λ c hc host. suc (suc k)) _ heard_now (λ c hc host. omega arith) mine_u (suc k) (λ c hc host h below-m. omega arith)

pub tables_fill : TablesFill
unfolding TablesFill
tables_fill r proper quick slots w start k v es b i hb below =
    record {
      complete = complete r proper quick slots w start k v es b i hb below;
      exact = exact r proper quick slots w start k v es b i hb below;
      complete_on = complete_on r proper quick slots w start k v es b i hb below;
      exact_on = exact_on r proper quick slots w start k v es b i hb below;
    }
