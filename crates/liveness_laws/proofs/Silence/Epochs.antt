-- Each epoch raises the least DELAY by 100, because an entry that was not renewed by a longer report runs out within its 120 seconds.
use mathlib.Core.Path.{◌≡◌, refl, sym, ap, subst, ◌∙◌}
use mathlib.Core.Bool.{Bool, true, false, false≢true}
use mathlib.Core.List.Memᴰ
use mathlib.Core.List.{List, [], ◌∷◌, Memᴰ}
use mathlib.Core.Logic.{◌⊎◌, inl, inr}
use Prim.Native.Nat.{ℕ, zero, suc, ◌+◌, ◌*◌, ◌≤◌, ◌<◌}
use native.Mathlib.Omega.{arith}
use lib.IntN.{pos}
use lib.ListN.{length, get_or, take}
use lib.Seq.{get_or-take, take-nil}
use lib.Signed.{◌≤ℤ◌}
use Rattle.lists.proofs.Tests.{either}
use Rattle.quantity.proofs.Ints.{up, to-≤ℤ, of-≤ℤ, lt_yes}
use Rattle.answer.specs.declared.Answer.TheVariants.{Done}
use Rattle.route.specs.declared.Layout.{Layout}
use Rattle.table.specs.declared.Entry.{Entry}
use Rattle.table.specs.declared.entries.Change.TheVariants.{Fresh}
use Rattle.table.specs.Entry.{fresh_entry}
use Rattle.table.specs.Entry as entry
use Rattle.table.specs.Runs.{changed, changes}
use Rattle.host.specs.Effect.{each}
use Rattle.host.specs.Guard.{done}
use Rattle.host.specs.CallState.{CallState, entries_of}
use lib.Dec.{ltb}
use Rattle.host.specs.State.{host_count, with_entries, first_place, places_per_host}
use Rattle.host.proofs.Places.{entries_length}
use Rattle.host.proofs.Sound.{sound}
use Rattle.calls.specs.declared.Request.TheVariants.{Initialize}
use Rattle.calls.specs.Effects.{initialize}
use Rattle.calls.specs.Perform.{ask, Outcome}
use Rattle.network_laws.specs.History.{after_outcome}
use Rattle.network_laws.specs.Network.{longest_way, Network, state_at, initialized, HostAt, Proper}
use Rattle.network_laws.specs.Demand3.{Step, World, step, history, Allowed, Allows, Starts, entry_of}
use Rattle.network_laws.proofs.Lists.{All, all_any, all_at, all_counted, all_weaken}
use Rattle.network_laws.proofs.HostPlaces.{entries_first}
use Rattle.network_laws.proofs.Performs.{performs, there}
use Rattle.network_laws.proofs.Swept.{changes_length, changes_each}
use Rattle.network_laws.proofs.Written.{written_back}
use Rattle.network_laws.proofs.Demand3.Invariant.{RightWorld}
use Rattle.network_laws.proofs.Demand3.Nodes.{set_good}
use Rattle.liveness_laws.specs.Numbers.{rise, epoch_seconds}
use Rattle.liveness_laws.specs.Seconds.{emptied, counts, seconds_at}
use Rattle.liveness_laws.specs.Rounds.{Reported}
use Rattle.liveness_laws.specs.Silence.{NothingOf, Epoch, Epochs, begin, next, SilentHostFades, SilentHostGone}
use Rattle.network_laws.proofs.Demand3.Histories.{world_right, starts_right}
use Rattle.liveness_laws.proofs.Silence.TabledWorlds.{TabledWorld, world_tabled, starts_tabled}
use Rattle.liveness_laws.proofs.Silence.Entry.{fresh_fades, marked_fades, next_fades}
use Rattle.liveness_laws.proofs.Silence.Invariant.{Arriving, new, early, Ours, FadeNode, FadeWorld}
use Rattle.liveness_laws.proofs.Silence.Worlds.{world_fades, fewer}

-- with the same seconds, counted otherwise
same_seconds : (r : Network) (out i n : ℕ) (s t : ℕ → ℕ) → ((b : ℕ) → s b ≡ t b) → (w : World) → FadeWorld r out i n s w → FadeWorld r out i n t w
same_seconds r out i n s t same w f = record { nodes = λ b hb other. subst (λ (m : ℕ). FadeNode r i n b m (w.state (r.number b))) (same b) (f.nodes b hb other); mail = f.mail }

module _ (r : Network) (proper : Proper r) (ways : r.longest ≤ longest_way) where
  -- ---- right worlds, whose messages have a table or no TSP

  pub record Sane (w : World) : Type 0 where
    pub right : RightWorld r w
    pub tabled : TabledWorld r w

  emptied_sane : (w : World) → Sane w → Sane (emptied w)
  emptied_sane w sane =
      record {
        right = record { nodes = sane.right.nodes; mail = λ m x. absurd (Memᴰ.not-nil x) };
        tabled = record { nodes = sane.tabled.nodes; mail = λ m x. absurd (Memᴰ.not-nil x) };
      }

  -- ---- an id, at every host except `out`

  module _ (out i : ℕ) (few : (b : ℕ) → b < r.nodes → i < host_count (r.settings b)) where
    enough : (b : ℕ) → b < r.nodes → 0 < host_count (r.settings b)
    enough b inside = omega (arith, few b inside)

    one_sane : (w : World) (x : Step) → Allowed r w x → Sane w → Sane (step r w x)
    one_sane w x ok sane = record { right = world_right r proper ways w x ok sane.right; tabled = world_tabled r proper ways enough w x ok sane.right sane.tabled }

    all_sane : (w : World) (xs : List Step) → Allows r w xs → Sane w → Sane (history r w xs)
    unfolding Allows history
    all_sane w [] ok sane = sane
    all_sane w (x ∷ xs) ok sane = all_sane (step r w x) xs ok.1 (one_sane w x ok.0 sane)

    -- no host of the id, except `out`, reports itself
    abbrev pub Hushed : World → List Step → Type 0
    Hushed w xs = (b : ℕ) → b < r.nodes → (b ≡ out → ⊥) → HostAt r i b → Reported r w b xs → ⊥

    -- what the proof needs of an epoch
    pub record Fit (w : World) (xs : List Step) : Type 0 where
      pub allowed : Allows r (emptied w) xs
      pub unheard : NothingOf r (emptied w) out xs
      pub hushed : Hushed (emptied w) xs
      pub long : (b : ℕ) → b < r.nodes → (b ≡ out → ⊥) → epoch_seconds ≤ seconds_at r (emptied w) b xs

    -- ---- an epoch

    module _ (n : ℕ) where
      along : (s : ℕ → ℕ) (w : World) (xs : List Step) → Allows r w xs → NothingOf r w out xs → Hushed w xs → Sane w → FadeWorld r out i n s w
          → FadeWorld r out i n (λ b. s b + seconds_at r w b xs) (history r w xs)
      unfolding Allows NothingOf Reported history seconds_at
      along s w [] ok away hushed sane f = same_seconds r out i n s (λ b. s b + 0) (λ b. omega arith) w f
      along s w (x ∷ xs) ok away hushed sane f =
          same_seconds r out i n (λ b. (s b + counts r w b x) + seconds_at r (step r w x) b xs) (λ b. s b + (counts r w b x + seconds_at r (step r w x) b xs)) (λ b. omega arith) (history r (step r w x) xs)
          (along (λ b. s b + counts r w b x) (step r w x) xs ok.1 away.1 (λ b hb other home z. hushed b hb other home (inr z)) (one_sane w x ok.0 sane)
          (world_fades r proper ways out i n few s w x ok.0 (inl away.0) (λ other. inl (λ home now. hushed x.node ok.0.node_in other home (inl now))) sane.right sane.tabled f))

      -- the next one
      rises : (s : ℕ → ℕ) (w : World) → ((b : ℕ) → b < r.nodes → (b ≡ out → ⊥) → epoch_seconds ≤ s b) → FadeWorld r out i n s w → FadeWorld r out i (n + rise) (λ b. 0) (emptied w)
      rises s w long f =
          record {
            nodes =
                λ b hb other.
                let g = f.nodes b hb other in
                record {
                  walk = λ opened begins. held b (long b hb other) (g.walk opened begins);
                  table = all_weaken (Ours r i n (s b)) (Ours r i (n + rise) 0) (λ id e h same. next_fades n (s b) e (long b hb other) (h same)) (take (host_count (r.settings b)) (w.state (r.number b)).places) g.table;
                };
            mail = λ m x. absurd (Memᴰ.not-nil x);
          }
        where
          held : (b : ℕ) {octets : List ℕ} → epoch_seconds ≤ s b → Arriving i n (s b) octets → Arriving i (n + rise) 0 octets
          held b long (new least) = early refl (λ some low. omega (arith, least some low))
          held b long (early z least) = absurd (omega arith)

    -- ---- before the epochs, from n = 100 at the hosts without the id, or from n = 0 at all

    module _ (n : ℕ) (least : n ≤ rise) (first : ((a : ℕ) → a < r.nodes → (a ≡ out → ⊥) → HostAt r i a → ⊥) ⊎ (n ≡ 0)) where
      past : (w : World) (xs : List Step) → Allows r w xs → Sane w → FadeWorld r out i n (λ b. 0) w → FadeWorld r out i n (λ b. 0) (history r w xs)
      unfolding Allows history
      past w [] ok sane f = f
      past w (x ∷ xs) ok sane f =
          past (step r w x) xs ok.1 (one_sane w x ok.0 sane)
          (fewer r proper ways out i n few (λ b. 0 + counts r w b x) (λ b. 0) (λ b. omega arith) (step r w x)
          (world_fades r proper ways out i n few (λ b. 0) w x ok.0 (inr (refl, least))
          (λ other. elim first [ inl never ↦ inl (λ home _. never x.node ok.0.node_in other home) | inr none ↦ inr (refl, none) ]) sane.right sane.tabled f))

      -- ---- the beginning

      initialized_fades : (b : ℕ) → b < r.nodes → FadeNode r i n b 0 (after_outcome (r.number b) [] (initialized r b))
      unfolding initialize
      initialized_fades b hb =
          performs (ask Initialize) x (λ (o : Outcome). o.reply.answer ≡ Done → FadeNode r i n b 0 (after_outcome (r.number b) [] o))
          (λ no is. absurd (false≢true (sym no ∙ ap done is)))
          (λ e _.
          let held = there (ask Initialize) x e in
          record {
            walk = λ opened. absurd (false≢true opened);
            table =
                either (λ (l : List Entry). All P (take (host_count (r.settings b)) l)) (ltb (length new_run) (first_place (r.number b) + places_per_host)) _ _ (λ _. subst (All P) (sym (take-nil (host_count (r.settings b)))) tt)
                (λ _.
                subst (All P) (entries_first (r.settings b) (r.number b) new_run)
                (subst (All P) (sym (written_back x (changes (each (r.settings b) Fresh) (entries_of x)) held (changes_length (each (r.settings b) Fresh) (entries_of x))))
                (rw (changes_each (host_count (r.settings b)) Fresh (r.settings b).marks (entries_of x) (omega (arith, entries_length (r.settings b) (r.number b) (r.entries b) held)))
                (all_counted (λ _ _. Unit {0}) P 0 (changed (r.settings b).marks Fresh) (entries_of x) (λ j _ _ _ same. marked_fades n 0 _ fresh_entry (fresh_fades n 0))
                (all_any (λ _ _. Unit {0}) (λ _ _. tt) (entries_of x))))));
          })
          (proper.was_initialized b hb)
        where
          x : CallState
          x = state_at r b (r.nets b) (r.clock b) (r.links b) (r.walk b) (r.copy b) (r.entries b)

          new_run : List Entry
          new_run = with_entries (r.number b) (changes (each (r.settings b) Fresh) (entries_of x)) (r.entries b)

          P : ℕ → Entry → Type 0
          P = Ours r i n 0

      starts_fades : (w : World) → Starts r w → FadeWorld r out i n (λ b. 0) w
      starts_fades w start =
          record {
            nodes = λ b hb out. subst (FadeNode r i n b 0) (sym (start.was_initialized b hb)) (initialized_fades b hb);
            mail = λ m x. absurd (Memᴰ.not-nil (subst (Memᴰ m) start.no_mail x));
          }

      -- ---- epochs

      pub record After (k : ℕ) (w : World) : Type 0 where
        pub sane : Sane w
        pub fades : FadeWorld r out i (n + rise * k) (λ b. 0) (emptied w)

      -- the messages under way are lost
      begins : (w : World) → Starts r w → (xs : List Step) → Allows r w xs → After 0 (history r w xs)
      begins w start xs ok =
          let sane : Sane w = record { right = starts_right r proper ways w start; tabled = starts_tabled r proper ways enough w start } in
          let f = past w xs ok sane (starts_fades w start) in
          let count : n ≡ n + rise * 0 = omega arith in
          record { sane = all_sane w xs ok sane; fades = record { nodes = subst (λ (m : ℕ). (b : ℕ) → b < r.nodes → (b ≡ out → ⊥) → FadeNode r i m b 0 ((history r w xs).state (r.number b))) count f.nodes; mail = λ m x. absurd (Memᴰ.not-nil x) } }

      pub epochs : (Each : World → List Step → Type 0) → ((v : World) (ys : List Step) → Each v ys → Fit v ys) → (w : World) → Starts r w → (xs : List Step) → Allows r w xs
          → (k : ℕ) (v : World) → Epochs r Each (history r w xs) k v → After k v
      epochs Each fit w start xs ok zero v begin = begins w start xs ok
      epochs Each fit w start xs ok (suc k) v (next {v = u} before ys each) =
          let e = fit u ys each in
          let g = epochs Each fit w start xs ok k u before in
          let sane = emptied_sane u g.sane in
          let now = along (n + rise * k) (λ b. 0) (emptied u) ys e.allowed e.unheard e.hushed sane g.fades in
          let more = rises (n + rise * k) (λ b. 0 + seconds_at r (emptied u) b ys) (history r (emptied u) ys) (λ b hb other. omega (arith, e.long b hb other)) now in
          let count : n + rise * k + rise ≡ n + rise * suc k = omega arith in
          record { sane = all_sane (emptied u) ys e.allowed sane; fades = subst (λ (m : ℕ). FadeWorld r out i m (λ b. 0) (emptied (history r (emptied u) ys))) count more }

    -- ---- one entry

    pub entry_fades : {n m : ℕ} (v : World) → FadeWorld r out i n (λ b. 0) (emptied v) → m ≤ n → (b : ℕ) → b < r.nodes → (b ≡ out → ⊥) → entry.up (entry_of r v b i) ≡ true → pos m ≤ℤ (entry_of r v b i).delay.0
    entry_fades {n} {m} v fades less b hb other alive =
        let places = (v.state (r.number b)).places in
        let here : get_or (take (host_count (r.settings b)) places) i fresh_entry ≡ get_or places i fresh_entry = get_or-take (host_count (r.settings b)) places i fresh_entry (few b hb) in
        let e : Ours r i n 0 i (get_or places i fresh_entry) =
        rw here at (all_at (Ours r i n 0) fresh_entry (λ j _. fresh_fades n 0) (take (host_count (r.settings b)) places) (fades.nodes b hb other).table i) in
        let a = e refl alive in
        to-≤ℤ (pos m) (entry_of r v b i).delay.0 (omega (arith, a.least))

-- every host has room for the id
pub sized : (r : Network) → Proper r → (b i : ℕ) → b < r.nodes → i < (r.settings b).layout.nhosts → (a : ℕ) → a < r.nodes → i < host_count (r.settings a)
sized r proper b i hb below a ha =
    let same = ap (λ (l : Layout). l.nhosts) (proper.one_layout a b ha hb) in
    let few = (sound (r.settings a) (set_good r a (proper.was_initialized a ha))).hosts_to in
    omega arith

-- from 30,000 on an entry is down
pub down_at : (n : ℕ) (e : Entry) → 30000 ≤ n → (entry.up e ≡ true → pos n ≤ℤ e.delay.0) → entry.up e ≡ false
down_at n e many fades = go (entry.up e) refl
  where
    go : (t : Bool) → entry.up e ≡ t → t ≡ false
    go false z = refl
    go true z = let long = of-≤ℤ (fades z) in let low = lt_yes e.delay.0 (pos 30000) z in absurd (omega arith)

-- ---- the claim: `out` is the silent host, and other tables have at least 100 from the beginning

pub fades_holds : SilentHostFades
unfolding SilentHostFades
fades_holds r proper ways w start xs ok c i hc host k v es b hb other below up =
    let few = sized r proper b i hb below in
    let never : (a : ℕ) → a < r.nodes → (a ≡ c → ⊥) → HostAt r i a → ⊥ = λ a ha apart here. apart (proper.marked_once a c i ha hc here host) in
    let last = epochs r proper ways c i few rise (omega arith) (inl never) (Epoch r c)
    (λ u ys e. record { allowed = e.allowed; unheard = e.unheard; hushed = λ a ha apart home _. never a ha apart home; long = e.long }) w start xs ok k v es in
    entry_fades r proper ways c i few v last.fades (omega arith) b hb other up

pub gone_holds : SilentHostGone
unfolding SilentHostGone SilentHostFades
gone_holds r proper ways w start xs ok c i hc host k v es many b hb other below =
    down_at (rise * suc k) (entry_of r v b i) (omega arith) (fades_holds r proper ways w start xs ok c i hc host k v es b hb other below)
