-- Each round in any order brings every table one cable further, because every cable was heard in it and no DELAY rises.
use mathlib.Core.Path.{◌≡◌, refl, sym, ap, subst, ◌∙◌}
use mathlib.Core.Bool.{Bool, true, false, true≢false, false≢true}
use mathlib.Core.List.Memᴰ
use mathlib.Core.List.{List, [], ◌∷◌}
use mathlib.Core.Logic.{◌⊎◌, inl, inr}
use Prim.Native.Nat.{ℕ, zero, suc, ◌+◌, ◌*◌, ◌≤◌, ◌<◌}
use native.Mathlib.Omega.{arith}
use lib.IntN.{pos, ◌+ℤ◌}
use lib.ListN.{get_or, take}
use lib.Seq.{get_or-take}
use Rattle.quantity.proofs.Ints.{up, dn, sum, to-≤ℤ}
use Rattle.route.specs.declared.Layout.{Layout}
use Rattle.table.specs.declared.Entry.{Entry}
use Rattle.table.specs.Entry.{fresh_entry}
use Rattle.table.specs.Entry as entry
use Rattle.host.specs.State.{host_count}
use Rattle.host.proofs.Sound.{sound}
use Rattle.network_laws.specs.Network.{longest_way, Network, at, HostAt, Proper}
use Rattle.network_laws.specs.History.{HostAfter}
use Rattle.network_laws.specs.Slots.{EverySlot}
use Rattle.network_laws.specs.Demand3.{Step, World, step, history, Allows, Starts, entry_of}
use Rattle.network_laws.proofs.Lists.{all_at}
use Rattle.network_laws.proofs.Demand3.Invariant.{RightEntry, RightWorld}
use Rattle.network_laws.proofs.Demand3.Nodes.{fresh_right, set_good}
use Rattle.liveness_laws.specs.Numbers.{rise, quick_way, round_seconds, ways_below}
use Rattle.liveness_laws.specs.Seconds.{emptied, counts, seconds_at}
use Rattle.liveness_laws.proofs.Lines.{farthest, any_hops}
use Rattle.liveness_laws.specs.Hops.{Hops, Via, own, by}
use Rattle.liveness_laws.specs.TablesFill as claim
use Rattle.liveness_laws.specs.Rounds.{NoWalks}
use Rattle.liveness_laws.specs.Order.{Stands, AllFresh, nothing_came, last_after, Begun, OrderedRound, OrderedRounds, begin, next}
use Rattle.liveness_laws.specs.OrderClaim.{Measured, Leads, Follows, here, on, Led, Stays, StaysOn, Settled, SettledOn, AnyOrder}
use Rattle.network_laws.proofs.Demand3.Histories.{world_right, history_right, starts_right}
use Rattle.liveness_laws.proofs.Rounds.Heard.{Mine}
use Rattle.liveness_laws.proofs.Rounds.Entry.{First, first_cable, Shown}
use Rattle.liveness_laws.proofs.Order.Entry.{Better}
use Rattle.host.proofs.Guarded.{counted}
use Rattle.liveness_laws.proofs.Host.Flags.{own_gain, flags_after, flags_all, heard_on, reported_on}
use Rattle.liveness_laws.proofs.Host.Turns.{HostOk}
use Rattle.liveness_laws.proofs.Host.Start.{fresh_ok}
use Rattle.liveness_laws.proofs.Order.Believed.{Sent}
use Rattle.liveness_laws.proofs.Order.Worlds.{FreeWorld, any_turn, world_free}

module _ (r : Network) (proper : Proper r) (ways : r.longest ≤ longest_way) (quick : r.longest ≤ quick_way) (c i : ℕ) (hc : c < r.nodes) (host : HostAt r i c) (few : (b : ℕ) → b < r.nodes → i < host_count (r.settings b)) where
  abbrev Free : (k : ℕ) (s : ℕ → ℕ) (heard : ℕ → ℕ → Bool) (last : ℕ → ℕ → ℕ) → World → Type 0
  Free k = FreeWorld r proper ways quick c i k hc host few

  -- ---- along a list

  module _ (k : ℕ) where
    same_seconds : (s t : ℕ → ℕ) (heard : ℕ → ℕ → Bool) (last : ℕ → ℕ → ℕ) → ((b : ℕ) → s b ≡ t b) → (w : World) → Free k s heard last w → Free k t heard last w
    same_seconds s t heard last same w f =
        record { nodes = λ b hb. subst (λ (q : ℕ). HostOk r c i k any_hops b false (Sent r i b w.mail (last b)) q (heard b) (w.state (r.number b))) (same b) (f.nodes b hb); web = f.web }

    -- an entry that is up has a DELAY that is not negative
    stays_up : (s : ℕ → ℕ) (heard : ℕ → ℕ → Bool) (last : ℕ → ℕ → ℕ) (w v : World) (b : ℕ) → b < r.nodes → Free k s heard last w → Better (entry_of r w b i) (entry_of r v b i)
        → entry.up (entry_of r w b i) ≡ true → Stays r w v b i
    stays_up s heard last w v b hb f better t =
        let z = (f.nodes b hb).mine.steady.sound t in
        let low = ap dn z.delay in
        record {
          is_up = better.is_up t;
          no_longer = to-≤ℤ (entry_of r v b i).delay.0 (entry_of r w b i).delay.0 (omega (arith, better.near t, low));
          turns =
              elim (better.turns t) [
                | inl y ↦ inl y
                | inr y ↦ inr (to-≤ℤ ((entry_of r v b i).delay.0 +ℤ pos rise) (entry_of r w b i).delay.0 (omega (arith, y, low, sum (entry_of r v b i).delay.0 (pos rise))))
              ];
        }

    -- of the shortest way
    module _ (b : ℕ) (hb : b < r.nodes) (h : ℕ) (way : Hops r c b h) (shortest : (g : ℕ) → Hops r c b g → h ≤ g) (less : h < k) (short : h ≤ farthest) where
      exact : (s : ℕ → ℕ) (heard : ℕ → ℕ → Bool) (last : ℕ → ℕ → ℕ) (w : World) → Free k s heard last w → (entry.up (entry_of r w b i) ≡ true) × ((entry_of r w b i).delay.0 ≡ pos (rise * h))
      exact s heard last w f =
          let q = (f.nodes b hb).mine.steady in
          let o = q.complete h way less short in
          let z = q.sound o.is_up in
          let same : z.hops ≡ h = omega (arith, o.near, ap up z.delay, shortest z.hops z.way) in
          (o.is_up, z.delay ∙ ap (λ (g : ℕ). pos (rise * g)) same)

      settles : (s t : ℕ → ℕ) (heard heard' : ℕ → ℕ → Bool) (last last' : ℕ → ℕ → ℕ) (w v : World) → Free k s heard last w → Free k t heard' last' v → Better (entry_of r w b i) (entry_of r v b i) → Settled r w v b i h
      settles s t heard heard' last last' w v f g better =
          let x = exact s heard last w f in
          let y = exact t heard' last' v g in
          record {
            delay = x.1;
            delay_then = y.1;
            same_pid = elim (better.turns x.0) [ inl z ↦ z | inr z ↦ absurd (omega (arith, z, ap up x.1, ap up y.1)) ];
          }

    -- PIDs
    module _ (s : ℕ → ℕ) (heard : ℕ → ℕ → Bool) (last : ℕ → ℕ → ℕ) (u : World) (f : Free k s heard last u) where
      abbrev e : ℕ → Entry
      e b = entry_of r u b i

      pub record Trail (b : ℕ) : Type 0 where
        pub count : ℕ
        pub follows : Follows r u i c b count
        pub short : rise * count ≤ up (e b).delay.0

      trail : (fuel b : ℕ) → b < r.nodes → entry.up (e b) ≡ true → up (e b).delay.0 < rise * fuel → Trail b
      trail zero b hb t low = absurd (omega (arith, low))
      trail (suc fuel) b hb t low = let x = (f.nodes b hb).mine.steady.sound t in go (λ a ha v less. trail fuel a ha v less) x.hops x.way x.via
        where
          home : (h : ℕ) → Hops r c b h → h ≡ 0 → c ≡ b
          home h way z = elim (first_cable r c b h way) [ inl y ↦ sym y.0 | inr y ↦ absurd (omega (arith, y.is, z)) ]

          go : ((a : ℕ) → a < r.nodes → entry.up (e a) ≡ true → up (e a).delay.0 < rise * fuel → Trail a) → (h : ℕ) → Hops r c b h → Via r c b (e b).pid h → Trail b
          go again h way (own z) = record { count = 0; follows = subst (λ (q : ℕ). Follows r u i c q 0) (home 0 way refl) here; short = omega arith }
          go again h way (by {a} {l} cord rest) =
              let link = proper.cables b (e b).pid a l cord in
              let o = (f.web b (e b).pid a l cord).leads t refl in
              let more = again a (proper.cables a l b (e b).pid link.other_end).node_in o.is_up (omega (arith, o.less, low)) in
              let one = (counted (r.settings b) (e b).pid link.link_in).from_one in
              record { count = suc more.count; follows = on t (λ z. omega (arith, z, one)) cord more.follows; short = omega (arith, more.short, o.less) }

      lower : (a b n : ℕ) → Follows r u i a b n → entry.up (e b) ≡ true → (entry.up (e a) ≡ true) × (rise * n + up (e a).delay.0 ≤ up (e b).delay.0)
      lower a b n here t = (t, omega arith)
      lower a b n (on {d} {l} t' other cord rest) t =
          let o = (f.web b (e b).pid d l cord).leads t refl in
          let more = lower a d _ rest o.is_up in
          (more.0, omega (arith, more.1, o.less))

    pub record Ran (s : ℕ → ℕ) (heard : ℕ → ℕ → Bool) (w : World) (xs : List Step) : Type 0 where
      pub last : ℕ → ℕ → ℕ
      pub free : Free k (λ b. s b + seconds_at r w b xs) (flags_all r c w xs heard) last (history r w xs)
      pub stays : (b : ℕ) → b < r.nodes → StaysOn r w b i xs
      pub settled : (b : ℕ) → b < r.nodes → (h : ℕ) → Hops r c b h → ((g : ℕ) → Hops r c b g → h ≤ g) → h < k → h ≤ farthest → SettledOn r w b i h xs

    any_list : (s : ℕ → ℕ) (heard : ℕ → ℕ → Bool) (last : ℕ → ℕ → ℕ) (w : World) (xs : List Step) → Allows r w xs → AllFresh r w last xs → RightWorld r w
        → ((b : ℕ) → b < r.nodes → s b + seconds_at r w b xs ≤ round_seconds) → Free k s heard last w → Ran s heard w xs
    unfolding Allows AllFresh history seconds_at flags_all StaysOn SettledOn
    any_list s heard last w [] ok may right short f = record { last = last; free = same_seconds s (λ b. s b + 0) heard last (λ b. omega arith) w f; stays = λ _ _. tt; settled = λ _ _ _ _ _ _ _. tt }
    any_list s heard last w (x ∷ xs) ok may right short f =
        let next_last = last_after r w last x.node x.call may.0 in
        let turn =
        any_turn r proper ways quick c i k hc host few w right x.node ok.0.node_in x.nets x.links x.copy x.entries s heard last f x.call ok.0 may.0
        (omega (arith, short x.node ok.0.node_in, own_gain r w x)) in
        let one = world_free r proper ways quick c i k hc host few s heard last next_last w right x ok.0 f turn in
        let rest =
        any_list (λ b. s b + counts r w b x) (flags_after r c w x heard) next_last (step r w x) xs ok.1 may.1 (world_right r proper ways w x ok.0 right)
        (λ b hb. omega (arith, short b hb)) one.free in
        record {
          last = rest.last;
          free =
              same_seconds (λ b. (s b + counts r w b x) + seconds_at r (step r w x) b xs) (λ b. s b + (counts r w b x + seconds_at r (step r w x) b xs)) _ rest.last (λ b. omega arith) (history r (step r w x) xs)
              rest.free;
          stays = λ b hb. (stays_up s heard last w (step r w x) b hb f (one.better b hb), rest.stays b hb);
          settled =
              λ b hb h way shortest less far.
              (settles b hb h way shortest less far s _ heard _ last next_last w (step r w x) f one.free (one.better b hb), rest.settled b hb h way shortest less far);
        }

    -- PIDs after a list
    module _ (s : ℕ → ℕ) (heard : ℕ → ℕ → Bool) (w : World) (xs : List Step) (ran : Ran s heard w xs) (b : ℕ) where
      pub ran_trail : b < r.nodes → entry.up (entry_of r (history r w xs) b i) ≡ true
          → Trail (λ b. s b + seconds_at r w b xs) (flags_all r c w xs heard) ran.last (history r w xs) ran.free b
      ran_trail hb t =
          trail (λ b. s b + seconds_at r w b xs) (flags_all r c w xs heard) ran.last (history r w xs) ran.free (suc (up (entry_of r (history r w xs) b i).delay.0)) b hb t
          (omega arith)

      pub ran_lower : (a n : ℕ) → Follows r (history r w xs) i a b n → entry.up (entry_of r (history r w xs) b i) ≡ true
          → rise * n + up (entry_of r (history r w xs) a i).delay.0 ≤ up (entry_of r (history r w xs) b i).delay.0
      ran_lower a n way t =
          (lower (λ b. s b + seconds_at r w b xs) (flags_all r c w xs heard) ran.last (history r w xs) ran.free a b n way t).1

    -- ---- the end of a round: every link was heard, and every host reported

    next_mine : (b s : ℕ) (heard : ℕ → Bool) (e : Entry) → s ≤ round_seconds → ((j a n : ℕ) → r.cable b j ≡ at a n → heard j ≡ true) → heard 0 ≡ true → Mine r c b k any_hops s heard e → Mine r c b (suc k) 300 0 (λ q. false) e
    next_mine b s heard e short all own-too q =
        record {
          steady =
              record {
                sound = q.steady.sound;
                complete = complete;
                rests = q.steady.rests;
                lasts = λ t. omega (arith, q.steady.lasts_on t (let z = q.steady.sound t in pid_on z.hops z.via));
                lasts_on = λ t flag. absurd (false≢true flag);
              };
          hears = λ j a l cord no. absurd (false≢true no);
          home = λ no. absurd (false≢true no);
        }
      where
        pid_on : (h : ℕ) → Via r c b e.pid h → heard e.pid ≡ true
        pid_on h (own z) = ap heard z ∙ own-too
        pid_on h (by {a} {l} z way) = all e.pid a l z

        complete : (h : ℕ) → Hops r c b h → h < suc k → h ≤ farthest → Shown r c b h e
        complete h way less far = go (first_cable r c b h way)
          where
            go : ((b ≡ c) × (h ≡ 0)) ⊎ First r c b h → Shown r c b h e
            go (inl z) = subst (λ (t : ℕ). Shown r c b t e) (sym z.1) (q.home own-too z.0)
            go (inr z) =
                subst (λ (t : ℕ). Shown r c b t e) (sym z.is)
                (q.hears z.link z.node z.other z.cable (all z.link z.node z.other z.cable) z.rest z.way (omega (arith, z.is)) (omega (arith, z.is)))

    ends : (s : ℕ → ℕ) (heard : ℕ → ℕ → Bool) (last : ℕ → ℕ → ℕ) (w : World) → NoWalks r w → ((b : ℕ) → b < r.nodes → s b ≤ round_seconds) → ((b j a n : ℕ) → r.cable b j ≡ at a n → heard b j ≡ true) → ((b : ℕ) → b < r.nodes → heard b 0 ≡ true)
        → Free k s heard last w → Free (suc k) (λ b. 0) (λ b q. false) nothing_came (emptied w)
    unfolding Stands
    ends s heard last w over short all own-too f =
        record {
          nodes =
              λ b hb.
              let g = f.nodes b hb in
              record {
                room = g.room;
                long = g.long;
                mine = next_mine b (s b) (heard b) (entry_of r w b i) (short b hb) (all b) (own-too b hb) g.mine;
                links =
                    λ j a n cord.
                    let o = g.links j a n cord in
                    record { quiet = λ no. absurd (false≢true no); spoke = o.spoke; known = λ _. o.known (inr (all b j a n cord)); met = o.met };
                waits = g.waits;
                walk = λ opened. absurd (true≢false (sym opened ∙ over b hb));
              };
          web =
              λ b j a l cord.
              record { leads = (f.web b j a l cord).leads; words = λ m n x. absurd x.stands; heads = λ _ _ m n x. absurd x.stands; order = λ m n m' n' x. absurd x.stands };
        }

  -- ---- the beginning

  first_free : EverySlot r → (w : World) → Starts r w → Free 0 (λ b. 0) (λ b q. false) nothing_came (emptied w)
  unfolding Stands
  first_free slots w start =
      record {
        nodes = λ b hb. node b hb;
        web =
            λ b j a l cord.
            record {
              leads = λ t. absurd (down b (proper.cables b j a l cord).node_in t);
              words = λ m n x. absurd x.stands;
              heads = λ _ _ m n x. absurd x.stands;
              order = λ m n m' n' x. absurd x.stands;
            };
      }
    where
      node : (b : ℕ) → b < r.nodes → HostOk r c i 0 any_hops b false (Sent r i b [] (nothing_came b)) 0 (λ q. false) (w.state (r.number b))
      node b hb =
          subst (HostOk r c i 0 any_hops b false (Sent r i b [] (nothing_came b)) 0 (λ q. false)) (sym (start.was_initialized b hb))
          (fresh_ok r proper c i any_hops b false (Sent r i b [] (nothing_came b)) (slots b hb) (few b hb) (proper.was_initialized b hb)).0

      down : (b : ℕ) → b < r.nodes → entry.up (entry_of r w b i) ≡ true → ⊥
      down b hb t =
          (fresh_ok r proper c i any_hops b false (Sent r i b [] (nothing_came b)) (slots b hb) (few b hb) (proper.was_initialized b hb)).1
          (subst (λ (x : HostAfter). entry.up (get_or x.places i fresh_entry) ≡ true) (start.was_initialized b hb) t)

  -- ---- rounds

  pub record Ready (k : ℕ) (w : World) : Type 0 where
    pub right : RightWorld r w
    pub free : Free k (λ b. 0) (λ b q. false) nothing_came (emptied w)

  emptied_right : (w : World) → RightWorld r w → RightWorld r (emptied w)
  emptied_right w right = record { nodes = right.nodes; mail = λ q y. absurd (Memᴰ.not-nil y) }

  pub begun_ran : (k : ℕ) (w : World) (xs : List Step) → Begun r w xs → Ready k w → Ran k (λ b. 0) (λ b q. false) (emptied w) xs
  begun_ran k w xs e g =
      any_list k (λ b. 0) (λ b q. false) nothing_came (emptied w) xs e.allowed e.fresh (emptied_right w g.right) (λ b hb. omega (arith, e.short b hb)) g.free

  one_round : (k : ℕ) (w : World) (xs : List Step) → OrderedRound r w xs → Ready k w → Ready (suc k) (history r (emptied w) xs)
  one_round k w xs e g =
      record {
        right = history_right r proper ways (emptied w) xs e.begun.allowed (emptied_right w g.right);
        free =
            ends k _ (flags_all r c (emptied w) xs (λ b q. false)) (begun_ran k w xs e.begun g).last (history r (emptied w) xs) e.over (λ b hb. omega (arith, e.begun.short b hb))
            (λ b j a n cord. heard_on r c (emptied w) xs (λ b q. false) b j (e.heard b j a n cord))
            (λ b hb. reported_on r c (emptied w) xs (λ b q. false) b (e.reported b hb))
            (begun_ran k w xs e.begun g).free;
      }

  pub rounds : EverySlot r → (w : World) → Starts r w → (k : ℕ) (v : World) → OrderedRounds r w k v → Ready k v
  rounds slots w start zero v begin = record { right = starts_right r proper ways w start; free = first_free slots w start }
  rounds slots w start (suc k) v (next {v = u} before xs e) = one_round k u xs e (rounds slots w start k u before)

-- ---- the claim

pub rounds_right : (r : Network) → Proper r → r.longest ≤ longest_way → (w : World) → RightWorld r w → (k : ℕ) (v : World) → OrderedRounds r w k v → RightWorld r v
rounds_right r proper ways w right zero v begin = right
rounds_right r proper ways w right (suc k) v (next {v = u} before xs e) =
    let was = rounds_right r proper ways w right k u before in
    history_right r proper ways (emptied u) xs e.begun.allowed record { nodes = was.nodes; mail = λ q y. absurd (Memᴰ.not-nil y) }

pub any_order : AnyOrder
unfolding AnyOrder StaysOn Allows
any_order r proper quick slots w start k v es xs entries b i hb below =
    record { there = shown; measured = λ t. measured_so t; leads = λ t other. leads_so t other; led = λ t. led_so t; no_loop = λ n trail. no_loop_so n trail; stays = stays_so (emptied v) xs entries.allowed right_v (λ c hc host. (ran c hc host).stays b hb); settled = λ c h hc host way shortest less far. (ran c hc host).settled b hb h way shortest less (omega arith) }
  where
    ways : r.longest ≤ longest_way
    ways = omega (arith, quick)

    u : World
    u = history r (emptied v) xs

    sized : (a : ℕ) → a < r.nodes → i < host_count (r.settings a)
    sized a ha =
        let same = ap (λ (l : Layout). l.nhosts) (proper.one_layout a b ha hb) in
        let few = (sound (r.settings a) (set_good r a (proper.was_initialized a ha))).hosts_to in
        omega arith

    right_v : RightWorld r (emptied v)
    right_v = let was = rounds_right r proper ways w (starts_right r proper ways w start) k v es in record { nodes = was.nodes; mail = λ q y. absurd (Memᴰ.not-nil y) }

    right_u : RightWorld r u
    right_u = history_right r proper ways (emptied v) xs entries.allowed right_v

    ran : (c : ℕ) (hc : c < r.nodes) (host : HostAt r i c) → Ran r proper ways quick c i hc host sized k (λ b. 0) (λ b q. false) (emptied v) xs
    ran c hc host = begun_ran r proper ways quick c i hc host sized k v xs entries (rounds r proper ways quick c i hc host sized slots w start k v es)

    right_entry : (w : World) → RightWorld r w → RightEntry r b i (entry_of r w b i)
    right_entry w right =
        let places = (w.state (r.number b)).places in
        subst (RightEntry r b i) (get_or-take (host_count (r.settings b)) places i fresh_entry (sized b hb))
        (all_at (RightEntry r b) fresh_entry (fresh_right r b) (take (host_count (r.settings b)) places) (right.nodes b hb).table i)

    shown : (c h : ℕ) → c < r.nodes → HostAt r i c → Hops r c b h → h < k → h < ways_below → claim.Shown r u b i h
    shown c h hc host way less short =
        let o = ((ran c hc host).free.nodes b hb).mine.steady.complete h way less (omega arith) in
        record { is_up = o.is_up; near = to-≤ℤ (entry_of r u b i).delay.0 (pos (rise * h)) (omega (arith, o.near)) }

    measured_so : entry.up (entry_of r u b i) ≡ true → Measured r u b i
    measured_so t =
        let known = (right_entry u right_u).known t in
        let f = ((ran known.node known.node_in known.host_there).free.nodes b hb).mine.steady.sound t in
        record { node = known.node; node_in = known.node_in; host_there = known.host_there; hops = f.hops; way = f.way; delay = f.delay }

    leads_so : entry.up (entry_of r u b i) ≡ true → ((entry_of r u b i).pid ≡ 0 → ⊥) → Leads r u b i
    leads_so t other =
        let known = (right_entry u right_u).known t in
        let free = (ran known.node known.node_in known.host_there).free in
        let f = (free.nodes b hb).mine.steady.sound t in
        go known.node known.node_in known.host_there f.hops f.via (ap dn f.delay)
      where
        go : (c : ℕ) (hc : c < r.nodes) (host : HostAt r i c) (h : ℕ) → Via r c b (entry_of r u b i).pid h → dn (entry_of r u b i).delay.0 ≡ 0 → Leads r u b i
        go c hc host h (own z) low = absurd (other z)
        go c hc host h (by {a} {l} cord way) low =
            let free = (ran c hc host).free in
            let o = (free.web b (entry_of r u b i).pid a l cord).leads t refl in
            record {
              node = a;
              link = l;
              cable = cord;
              is_up = o.is_up;
              less = to-≤ℤ ((entry_of r u a i).delay.0 +ℤ pos rise) (entry_of r u b i).delay.0 (omega (arith, o.less, low, sum (entry_of r u a i).delay.0 (pos rise)));
            }

    led_so : entry.up (entry_of r u b i) ≡ true → Led r u b i
    led_so t =
        let known = (right_entry u right_u).known t in
        let free = (ran known.node known.node_in known.host_there).free in
        let low = (free.nodes b hb).mine.steady.sound t in
        let way =
        ran_trail r proper ways quick known.node i known.node_in known.host_there sized k (λ b. 0) (λ b q. false) (emptied v) xs (ran known.node known.node_in known.host_there) b hb t in
        record {
          node = known.node;
          node_in = known.node_in;
          host_there = known.host_there;
          count = way.count;
          follows = way.follows;
          few = to-≤ℤ (pos (rise * way.count)) (entry_of r u b i).delay.0 (omega (arith, way.short, ap dn low.delay));
        }

    no_loop_so : (n : ℕ) → Follows r u i b b (suc n) → ⊥
    no_loop_so n way = go b (suc n) way refl (omega arith)
      where
        go : (a m : ℕ) → Follows r u i b a m → a ≡ b → 1 ≤ m → ⊥
        go a m here same one = omega (arith, one)
        go a m (on t other cord rest) same one =
            let t' : entry.up (entry_of r u b i) ≡ true = subst (λ (q : ℕ). entry.up (entry_of r u q i) ≡ true) same t in
            let known = (right_entry u right_u).known t' in
            let low =
            ran_lower r proper ways quick known.node i known.node_in known.host_there sized k (λ b. 0) (λ b q. false) (emptied v) xs (ran known.node known.node_in known.host_there) b b (suc n) way t' in
            omega (arith, low)

    stays_so : (w : World) (xs : List Step) → Allows r w xs → RightWorld r w → ((c : ℕ) → c < r.nodes → HostAt r i c → StaysOn r w b i xs) → StaysOn r w b i xs
    stays_so w [] ok right all = tt
    stays_so w (x ∷ xs) ok right all = (
      λ t. (let known = (right_entry w right).known t in (all known.node known.node_in known.host_there).0 t),
      stays_so (step r w x) xs ok.1 (world_right r proper ways w x ok.0 right) (λ c hc host. (all c hc host).1),
    )
