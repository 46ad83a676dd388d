-- A call writes nothing into the host table, or its host's entries from the host's first place on. It stores no link except one that it names, up to the count.
use mathlib.Core.Path.{◌≡◌, refl, ap}
use mathlib.Core.Bool.{true, false}
use mathlib.Core.List.{List}
use Prim.Native.Nat.{ℕ, ◌-◌}
use native.Mathlib.Omega.{arith}
use lib.Dec.{ltb}
use lib.ListN.{length}
use lib.Seq.{drop-set-lt}
use Rattle.lists.proofs.Tests.{either}
use Rattle.clock.specs.declared.Counter.{Counter}
use Rattle.wire.specs.Packet.{packet_length}
use Rattle.table.specs.declared.Entry.{Entry}
use Rattle.host.specs.declared.Link.{Link}
use Rattle.host.specs.declared.Links.{Links}
use Rattle.host.specs.Settings.{link_count_of}
use Rattle.host.specs.State.{link_of, with_link, no_link}
use Rattle.host.specs.declared.Effect.{Effect}
use Rattle.host.specs.declared.guard.Scope.TheVariants.{Opening, Walking}
use Rattle.host.specs.CallState.{CallState, entries_of, own_walk_in_range}
use Rattle.host.specs.Guard.{done}
use Rattle.host.proofs.Places.{Holds}
use Rattle.host.proofs.Guarded.{passed, counted, walk_state}
use Rattle.sending.specs.declared.Sending.{Sending}
use Rattle.sending.specs.Send.{report_count}
use Rattle.arrival.specs.declared.Arrived.{Arrived}
use Rattle.arrival.specs.Arrival.{on_link, delivered}
use Rattle.walk.specs.declared.Opening as declared
use Rattle.walk.specs.Boxes.{at_hand, step}
use Rattle.calls.specs.declared.Request.{Request}
use Rattle.calls.specs.declared.Request.TheVariants.{Initialize, Tick, Adjust, Set, Read, Second, SelfReport, Lookup, Step}
use Rattle.calls.specs.Effects.{tick, adjust, set_by, read, second, self_report, lookup, wanted, effect}
use Rattle.calls.specs.Perform.{Call, ask, send, deliver, open_walk, scope_of_call, entry_at, opened_by, work, perform}
use Rattle.network_laws.specs.Frame.{Kept, spare_links, Elsewhere, Frame}
use Rattle.network_laws.proofs.Performs.{guard_of, performs, there}
use Rattle.network_laws.proofs.Arrivals.{delivery_ways}
use Rattle.network_laws.proofs.Swept.{changes_length, updates_length}
use Rattle.network_laws.proofs.Written.{written_kept}
use Rattle.network_laws.proofs.Walking.{Touched, as_were, stored_in, step_ways}
use Rattle.network_laws.proofs.Openings.{opening_ways, packet_short, nothing_copied, copied_length}

module _ (x : CallState) where
  -- ---- the host table

  untouched : Kept x.host.settings x.number x.entries x.entries
  untouched = record { same_length = refl; before_places = λ i d h. refl; behind = λ i d h. refl }

  abbrev does : Request → Effect
  does q = effect q x.nets x.host x.walk x.copy (entry_at (wanted q x.nets x.host.settings x.walk) x)

  worked : (c : Call) → Holds x.number x.entries → Kept x.host.settings x.number x.entries (work c x).entries
  worked (ask q) h = written_kept x _ h (changes_length (does q).work (entries_of x))
  worked (send i k buffer) h = untouched
  worked (deliver d octets) h = written_kept x _ h (updates_length (delivered d octets x.nets x.host).work octets (entries_of x))
  worked (open_walk i packet) h = untouched

  -- ---- the links

  abbrev Spared : Links → Type 0
  Spared l = spare_links x.host.settings l ≡ spare_links x.host.settings x.host.links

  stored : (i : ℕ) → no_link x.host.settings i ≡ false → (l : Link) → Spared (with_link i l x.host.links)
  stored i has l = drop-set-lt (link_count_of x.host.settings) x.host.links.all (i - 1) l (counted x.host.settings i has).at_place

  touched : (l : Links) → Touched x.host x.walk l → Spared l
  touched l as_were = refl
  touched l (stored_in y has good) = stored x.walk.link has y

  stepped : (k : Counter) (e : Entry) → own_walk_in_range x ≡ true → Spared (step k x.nets x.host x.walk x.copy e).links
  stepped k e in_range =
      step_ways k x.nets x.host x.walk x.copy e (λ (y : Effect). Spared y.links)
      record {
        none = refl;
        reads = λ v c. refl;
        delays = λ has. stored x.walk.link has _;
        unknown = refl;
        goes = λ r is v h c t l s work d. touched l s;
      }
      in_range

  asked : (q : Request) → (ask q ≡ ask Initialize → ⊥) → done (guard_of (ask q) x) ≡ true → Spared (does q).links
  unfolding tick adjust set_by read second self_report lookup
  asked Initialize not ok = absurd (not refl)
  asked (Tick n) not ok = refl
  asked (Adjust n) not ok = refl
  asked (Set ms n) not ok = refl
  asked (Read k) not ok = refl
  asked Second not ok = refl
  asked (SelfReport k) not ok = refl
  asked (Lookup a) not ok = refl
  asked (Step k) not ok = stepped k (entry_at (at_hand x.walk) x) (walk_state x ((passed Walking x ok).call_state refl))

  spared : (c : Call) → (c ≡ ask Initialize → ⊥) → done (guard_of c x) ≡ true → Spared (work c x).links
  spared (ask q) not e = asked q not e
  spared (send i k buffer) not e =
      let has = (passed (scope_of_call (send i k buffer)) x e).link i refl in
      either (λ (s : Sending). Spared s.links)
      (ltb (length buffer) (packet_length (report_count x.host.settings (link_of x.host.links i)))) _ _ (λ _. refl) (λ _. stored i has _)
  spared (deliver d octets) not e =
      let has = (passed (scope_of_call (deliver d octets)) x e).link (on_link d) refl in
      delivery_ways d x.nets x.host (λ (a : Arrived). Spared a.links)
      record {
        refuses = λ a few. refl;
        looks = λ p. refl;
        ended = λ f g n. stored (on_link d) has f.link;
        unknown = λ f g. stored (on_link d) has f.link;
        one = λ p f id g. stored (on_link d) has f.link;
        all = λ p f g. stored (on_link d) has f.link;
      }
      octets
  spared (open_walk i packet) not e = refl

  -- ---- the walk and its copy

  kept_copy : (c : Call) → ((i : ℕ) (packet : List ℕ) → c ≡ open_walk i packet → ⊥) → (work c x).copy ≡ x.copy
  kept_copy (ask q) not = refl
  kept_copy (send i k buffer) not = refl
  kept_copy (deliver d octets) not = refl
  kept_copy (open_walk i packet) not = absurd (not i packet refl)

  copy_long : (c : Call) → done (guard_of c x) ≡ true → length (work c x).copy ≡ length x.copy
  copy_long (ask q) e = refl
  copy_long (send i k buffer) e = refl
  copy_long (deliver d octets) e = refl
  copy_long (open_walk i packet) e =
      let p = passed (Opening i) x e in
      opening_ways i packet x.host.settings x.walk (λ (o : declared.Opening). length (opened_by o packet x).copy ≡ length x.copy)
      (λ a few. ap length (nothing_copied packet x.copy))
      (λ q is fits. copied_length packet x.copy (omega (arith, packet_short x.host.settings q packet p.settings fits, (p.opening i refl).1)))

  kept_walk : (c : Call) → Elsewhere c → (work c x).walk ≡ x.walk
  unfolding tick adjust set_by read second self_report lookup
  kept_walk (ask Initialize) not = absurd (not.not_initialize refl)
  kept_walk (ask (Tick n)) not = refl
  kept_walk (ask (Adjust n)) not = refl
  kept_walk (ask (Set ms n)) not = refl
  kept_walk (ask (Read k)) not = refl
  kept_walk (ask Second) not = refl
  kept_walk (ask (SelfReport k)) not = refl
  kept_walk (ask (Lookup a)) not = refl
  kept_walk (ask (Step k)) not = absurd (not.not_step k refl)
  kept_walk (send i k buffer) not = refl
  kept_walk (deliver d octets) not = refl
  kept_walk (open_walk i packet) not = absurd (not.not_opening i packet refl)

pub kept_places : (c : Call) (x : CallState) → Kept x.host.settings x.number x.entries (perform c x).entries
kept_places c x = performs c x (λ o. Kept x.host.settings x.number x.entries o.entries) (λ _. untouched x) (λ e. worked x c (there c x e))

pub frame_holds : Frame
unfolding Frame
frame_holds c x =
    record {
      places = kept_places c x;
      copy = λ not. performs c x (λ o. o.copy ≡ x.copy) (λ _. refl) (λ _. kept_copy x c not);
      copy_length = performs c x (λ o. length o.copy ≡ length x.copy) (λ _. refl) (copy_long x c);
      walk = λ not. performs c x (λ o. o.walk ≡ x.walk) (λ _. refl) (λ _. kept_walk x c not);
      spare = λ not. performs c x (λ o. Spared x o.links) (λ _. refl) (spared x c not);
    }
