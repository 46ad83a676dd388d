-- Every host is near enough to be in the table with the DELAY of a shortest way, and demand 3 bounds its OFFSET by that DELAY.
use mathlib.Core.Path.{◌≡◌, refl, sym, ap, subst}
use mathlib.Core.Bool.{Bool, true, false}
use mathlib.Core.List.Memᴰ
use mathlib.Core.List.{List}
use Prim.Native.Nat.{ℕ, suc, ◌*◌, ◌≤◌, ◌<◌}
use native.Mathlib.Omega.{arith}
use borrow.Author.Tests.{eqb-true, eqb-false, leb-true, leb-false}
use lib.Dec.{eqb, leb}
use lib.IntN.{pos, ◌-ℤ◌, ◌*ℤ◌, nat_abs}
use lib.Signed.{◌≤ℤ◌}
use Rattle.quantity.proofs.Ints.{up, dn, sum, of-≤ℤ}
use Rattle.route.specs.declared.Layout.{Layout}
use Rattle.table.specs.Entry as entry
use Rattle.network_laws.specs.Network.{longest_way, error_parts, delay_parts, Network, HostAt, Proper}
use Rattle.network_laws.specs.Slots.{EverySlot}
use Rattle.network_laws.specs.Demand3.{Step, World, Starts, Claim, entry_of}
use Rattle.network_laws.proofs.Demand3.Invariant.{RightWorld}
use Rattle.network_laws.proofs.Demand3.Histories.{history_right, starts_right, right_claim}
use Rattle.liveness_laws.specs.Numbers.{rise, quick_way, ways_below}
use Rattle.liveness_laws.specs.Seconds.{emptied}
use Rattle.liveness_laws.specs.Numbers.{half_millis}
use Rattle.liveness_laws.specs.Hops.{Hops, there, over, Shortest, Via, own, by, Width}
use Rattle.liveness_laws.specs.TablesFill.{Shown, Exact, Filled, TablesFill}
use Rattle.liveness_laws.specs.Rounds.{Underway, Rounds, meanwhile}
use Rattle.liveness_laws.specs.Order.{Begun, OrderedRounds}
use Rattle.liveness_laws.specs.OrderClaim.{Follows, here, on, SettledOn, moment, OrderClaim, AnyOrder}
use Rattle.liveness_laws.specs.TotalCorrectness.{Listed, HostOf, Correct, StaysCorrect, TotalCorrectness}
use Rattle.liveness_laws.proofs.Rounds.Law as in_rounds
use Rattle.liveness_laws.proofs.Order.Law as in_order

-- 101/200 of a DELAY of 100 ms a cable is 50.5 ms a cable
per_cable : (n h : ℕ) → pos (delay_parts * n) ≤ℤ (pos (rise * h) *ℤ pos error_parts) → 2 * n ≤ half_millis * h
per_cable n h close = let z = of-≤ℤ close in omega (arith, z)

module _ (r : Network) (proper : Proper r) (ways : r.longest ≤ longest_way) (v : World) (right : RightWorld r v) where
  -- what demand 3 says of an entry that has the DELAY of h cables
  offset_right : (b i c h : ℕ) → b < r.nodes → c < r.nodes → i < (r.settings b).layout.nhosts → HostAt r i c → entry.up (entry_of r v b i) ≡ true → (entry_of r v b i).delay.0 ≡ pos (rise * h)
      → 2 * nat_abs ((entry_of r v b i).offset.0 -ℤ (r.fixed c -ℤ r.fixed b)) ≤ half_millis * h
  unfolding Claim
  offset_right b i c h hb hc below host t delay =
      let d = right_claim r proper ways v right b i hb below t in
      let same : d.node ≡ c = proper.marked_once d.node c i d.node_in hc d.host_there host in
      let close = subst (λ (s : ℕ). pos (delay_parts * nat_abs ((entry_of r v b i).offset.0 -ℤ (r.fixed s -ℤ r.fixed b))) ≤ℤ ((entry_of r v b i).delay.0 *ℤ pos error_parts)) same d.close in
      per_cable _ h (rw delay at close)

  other_host : (b i : ℕ) → b < r.nodes → i < (r.settings b).layout.nhosts → entry.up (entry_of r v b i) ≡ true → HostOf r i
  unfolding Claim
  other_host b i hb below t = let d = right_claim r proper ways v right b i hb below t in record { host = d.node; host_in = d.node_in; host_there = d.host_there }

-- ---- rounds in any order

module _ (r : Network) (proper : Proper r) (quick : r.longest ≤ quick_way) (slots : EverySlot r) (d : ℕ) (wide : Width r d) (near : d < ways_below) (w : World) (start : Starts r w)
    (k : ℕ) (v : World) (rounds : OrderedRounds r w k v) (enough : d < k) (xs : List Step) (entries : Begun r v xs) where
  ways : r.longest ≤ longest_way
  ways = omega (arith, quick)

  abbrev u : World
  u = moment r v xs

  right_u : RightWorld r u
  right_u =
      let was = in_order.rounds_right r proper ways w (starts_right r proper ways w start) k v rounds in
      history_right r proper ways (emptied v) xs entries.allowed record { nodes = was.nodes; mail = λ q y. absurd (Memᴰ.not-nil y) }

  module _ (i : ℕ) (nhosts : (b : ℕ) → b < r.nodes → i < (r.settings b).layout.nhosts) (c : ℕ) (hc : c < r.nodes) (host : HostAt r i c) where
    claim : (b : ℕ) → b < r.nodes → OrderClaim r k v xs b i
    unfolding AnyOrder
    claim b hb = in_order.any_order r proper quick slots w start k v rounds xs entries b i hb (nhosts b hb)

    -- an entry that is up has the DELAY of some way to host c
    pub record Far (b : ℕ) : Type 0 where
      pub hops : ℕ
      pub way : Hops r c b hops
      pub delay : (entry_of r u b i).delay.0 ≡ pos (rise * hops)

    far : (b : ℕ) → b < r.nodes → entry.up (entry_of r u b i) ≡ true → Far b
    far b hb t =
        let m = (claim b hb).measured t in
        let same : m.node ≡ c = proper.marked_once m.node c i m.node_in hc m.host_there host in
        record { hops = m.hops; way = subst (λ (s : ℕ). Hops r s b m.hops) same m.way; delay = m.delay }

    module _ (b : ℕ) (hb : b < r.nodes) where
      shown : Shown r u b i (wide b c hb hc).0
      shown = let way = wide b c hb hc in (claim b hb).there c way.0 hc host way.1 (omega (arith, way.2)) (omega (arith, way.2))

      f : Far b
      f = far b hb shown.is_up

      at_most : (g : ℕ) → Shown r u b i g → f.hops ≤ g
      at_most g o = let z = of-≤ℤ o.near in omega (arith, z, ap up f.delay, ap dn f.delay)

      shortest : Shortest r c b f.hops
      shortest g way = go (leb g d) refl
        where
          go : (t : Bool) → leb g d ≡ t → f.hops ≤ g
          go true t = let less = leb-true g d t in at_most g ((claim b hb).there c g hc host way (omega arith) (omega arith))
          go false t = omega (arith, leb-false g d t, at_most _ shown, (wide b c hb hc).2)

      -- PID 0 is the host itself
      at_home : (entry_of r u b i).pid ≡ 0 → f.hops ≡ 0
      at_home zero-pid =
          let led = (claim b hb).led shown.is_up in
          let same : led.node ≡ c = proper.marked_once led.node c i led.node_in hc led.host_there host in
          go b led.count led.follows same zero-pid shortest
        where
          go : {s : ℕ} (q n : ℕ) → Follows r u i s q n → s ≡ c → (entry_of r u q i).pid ≡ 0 → Shortest r c q f.hops → f.hops ≡ 0
          go {s} q n here same z least = let x = least 0 (subst (λ (a : ℕ). Hops r c a 0) (sym same) there) in omega (arith, x)
          go q n (on t other cord rest) same z least = absurd (other z)

      -- else its cable leads to a host that is one cable nearer
      via : Via r c b (entry_of r u b i).pid f.hops
      via = go (eqb (entry_of r u b i).pid 0) refl
        where
          go : (t : Bool) → eqb (entry_of r u b i).pid 0 ≡ t → Via r c b (entry_of r u b i).pid f.hops
          go true t = let z = eqb-true (entry_of r u b i).pid 0 t in subst (Via r c b (entry_of r u b i).pid) (sym (at_home z)) (own z)
          go false t =
              let lead = (claim b hb).leads shown.is_up (eqb-false (entry_of r u b i).pid 0 t) in
              let inside = (proper.cables lead.node lead.link b (entry_of r u b i).pid (proper.cables b (entry_of r u b i).pid lead.node lead.link lead.cable).other_end).node_in in
              let g = far lead.node inside lead.is_up in
              let less = of-≤ℤ lead.less in
              let more = shortest (suc g.hops) (over lead.cable g.way) in
              let is : suc g.hops ≡ f.hops = omega (arith, less, more, ap up f.delay, ap dn f.delay, ap up g.delay, ap dn g.delay, sum (entry_of r u lead.node i).delay.0 (pos rise)) in
              subst (Via r c b (entry_of r u b i).pid) is (by lead.cable g.way)

      listed : Listed r u b i c
      listed =
          record {
            is_up = shown.is_up;
            hops = f.hops;
            way = f.way;
            shortest = shortest;
            delay = f.delay;
            pid = via;
            offset = offset_right r proper ways u right_u b i c f.hops hb hc (nhosts b hb) host shown.is_up f.delay;
          }

      settled : (h : ℕ) × Hops r c b h × SettledOn r (emptied v) b i h xs
      settled = (f.hops, f.way, (claim b hb).settled c f.hops hc host f.way shortest (omega (arith, at_most _ shown, (wide b c hb hc).2)) (omega (arith, at_most _ shown, (wide b c hb hc).2)))

  -- all hosts have one NHOSTS
  same_hosts : (b i : ℕ) → b < r.nodes → i < (r.settings b).layout.nhosts → (a : ℕ) → a < r.nodes → i < (r.settings a).layout.nhosts
  same_hosts b i hb below a ha = subst (λ (n : ℕ). i < n) (ap (λ (l : Layout). l.nhosts) (proper.one_layout b a hb ha)) below

  pub stays_correct : StaysCorrect r v xs
  stays_correct =
      record {
        correct =
            record {
              every_host = λ b i c hb hc below host. listed i (same_hosts b i hb below) c hc host b hb;
              no_other = λ b i hb below t. other_host r proper ways u right_u b i hb below t;
            };
        settled = λ b i c hb hc below host. settled i (same_hosts b i hb below) c hc host b hb;
      }

-- ---- rounds in which all send before any hears

module _ (r : Network) (proper : Proper r) (quick : r.longest ≤ quick_way) (slots : EverySlot r) (d : ℕ) (wide : Width r d) (near : d < ways_below) (w : World) (start : Starts r w)
    (k : ℕ) (v : World) (rounds : Rounds r w (suc k) v) (enough : d ≤ k) where
  short_ways : r.longest ≤ longest_way
  short_ways = omega (arith, quick)

  right_v : RightWorld r v
  right_v = in_rounds.rounds_right r proper short_ways w (starts_right r proper short_ways w start) (suc k) v rounds

  -- at a moment at which every host within d cables is listed, and every entry that is up is exact
  module _ (u : World) (right : RightWorld r u) (n : ℕ) (shown : (b i : ℕ) → b < r.nodes → i < (r.settings b).layout.nhosts → (c h : ℕ) → c < r.nodes → HostAt r i c → Hops r c b h → h ≤ k → h < ways_below → Shown r u b i h)
      (exact : (b i : ℕ) → b < r.nodes → i < (r.settings b).layout.nhosts → entry.up (entry_of r u b i) ≡ true → Exact r u n b i) where
    correct_at : Correct r u
    correct_at =
        record {
          every_host =
              λ b i c hb hc below host.
              let way = wide b c hb hc in
              let o = shown b i hb below c way.0 hc host way.1 (omega (arith, way.2)) (omega (arith, way.2)) in
              let e = exact b i hb below o.is_up in
              let same : e.node ≡ c = proper.marked_once e.node c i e.node_in hc e.host_there host in
              record {
                is_up = o.is_up;
                hops = e.hops;
                way = subst (λ (s : ℕ). Hops r s b e.hops) same e.way;
                shortest = subst (λ (s : ℕ). Shortest r s b e.hops) same e.shortest;
                delay = e.delay;
                pid = subst (λ (s : ℕ). Via r s b (entry_of r u b i).pid e.hops) same e.pid;
                offset = offset_right r proper short_ways u right b i c e.hops hb hc below host o.is_up e.delay;
              };
          no_other = λ b i hb below t. other_host r proper short_ways u right b i hb below t;
        }

  fill : (b i : ℕ) → b < r.nodes → i < (r.settings b).layout.nhosts → Filled r v k b i
  unfolding TablesFill
  fill b i hb below = in_rounds.tables_fill r proper quick slots w start k v rounds b i hb below

  pub correct : Correct r v
  correct = correct_at v right_v k (λ b i hb below. (fill b i hb below).complete) (λ b i hb below. (fill b i hb below).exact)

  pub correct_on : (xs ys : List Step) → Underway r v xs ys → Correct r (meanwhile r v xs ys)
  correct_on xs ys e =
      correct_at (meanwhile r v xs ys) (in_rounds.meanwhile_right r proper short_ways v xs ys e right_v) (suc k)
      (λ b i hb below. (fill b i hb below).complete_on xs ys e) (λ b i hb below. (fill b i hb below).exact_on xs ys e)

pub total_correctness : TotalCorrectness
total_correctness =
    record {
      any_order = λ r proper quick slots d wide near w start k v rounds enough xs entries. stays_correct r proper quick slots d wide near w start k v rounds enough xs entries;
      in_rounds = λ r proper quick slots d wide near w start k v rounds enough. (correct r proper quick slots d wide near w start k v rounds enough, correct_on r proper quick slots d wide near w start k v rounds enough);
    }
