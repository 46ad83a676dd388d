-- A call changes one host, which is as the law asks before and after: the call gets the state after the host's last call.
use mathlib.Core.Path.{◌≡◌, refl, sym, ap, subst, subst₂, ◌∙◌}
use mathlib.Core.Bool.{Bool, true, false, and-false, or-true}
use mathlib.Core.List.{List}
use Prim.Native.Nat.{ℕ, ◌+◌, ◌-◌, ◌≤◌, ◌<◌}
use native.Mathlib.Omega.{arith}
use borrow.Author.Tests.{ltb-false}
use lib.Dec.{ltb}
use lib.IntN.{ℤ}
use lib.ListN.{length, get_or, take, length-take}
use lib.Seq.{get_or-take}
use Rattle.std.proofs.Common.{Some}
use Rattle.lists.proofs.Tests.{either}
use Rattle.quantity.specs.declared.Millis.{Millis}
use Rattle.clock.specs.declared.Counter.{Counter}
use Rattle.table.specs.declared.Entry.{Entry}
use Rattle.table.specs.Entry.{fresh_entry, aged}
use Rattle.table.specs.Update.{lines, left, own_update}
use Rattle.net_table.specs.declared.NetTable.{NetTable}
use Rattle.host.specs.declared.Link.{Link}
use Rattle.host.specs.declared.Links.{Links}
use Rattle.host.specs.declared.walk.Walk.{Walk}
use Rattle.host.specs.declared.walk.Place.TheVariants.{Step1}
use Rattle.host.specs.Guard.{done, no_places}
use Rattle.host.specs.Settings.{link_count_of}
use Rattle.host.specs.State.{places_per_host, first_place, host_count, link_of, fresh_link, unset}
use Rattle.host.specs.Walk.{is_open, place_of, packet_of}
use Rattle.host.proofs.Guarded.{counted}
use Rattle.host.proofs.Places.{Holds}
use Rattle.calls.specs.Perform.{Outcome}
use Rattle.network_laws.specs.History.{HostAfter, after_outcome, places}
use Rattle.network_laws.specs.Network.{Network, at, state_at, HostAt, Proper}
use Rattle.network_laws.specs.Demand3.{NetworkCall, ticks, seconds, reports, inspects, opens, adjusts, sets, clocks, looks, call_of, Step, World, result, Allowed}
use Rattle.network_laws.proofs.Lists.{All, all_get_d, all_weaken, all_there}
use Rattle.network_laws.proofs.HostPlaces.{entries_first}
use Rattle.network_laws.proofs.Performs.{perform_short}
use Rattle.network_laws.proofs.Demand3.Outcomes.{same_packet}
use Rattle.liveness_laws.specs.Numbers.{round_seconds}
use Rattle.liveness_laws.specs.Seconds.{is_second}
use Rattle.liveness_laws.proofs.Links.{LinkOk, LinksOk, learns}
use Rattle.liveness_laws.proofs.Rounds.Heard.{Mine}
use Rattle.liveness_laws.proofs.Host.State.{WalkAt, WalkOk, walk_moves_lem, Good, Before, After}
use Rattle.liveness_laws.proofs.Host.Calls.{tick_good, adjust_good, set_good, clock_good, look_good, inspect_good, open_good, second_good, report_good}
use Rattle.liveness_laws.proofs.Host.Flags.{gain, full_places, flags, no_flags}

module _ (r : Network) (c i k m b : ℕ) (speaking : Bool) where
  -- the host after its last call
  pub record HostOk (Sent : Entry → (link : ℕ) → (octets : List ℕ) → Type 0) (s : ℕ) (heard : ℕ → Bool) (x : HostAfter) : Type 0 where
    pub room : link_count_of (r.settings b) ≤ length x.links.all
    pub long : host_count (r.settings b) ≤ length x.places
    pub mine : Mine r c b k m s heard (get_or x.places i fresh_entry)
    pub links : LinksOk r k speaking (learns x.walk) heard b (get_or x.places i fresh_entry) x.links
    pub waits : speaking ≡ true → is_open x.walk ≡ true → place_of x.walk ≡ Some Step1
    pub walk : WalkOk r c i k m b s heard Sent (get_or x.places i fresh_entry) x.walk x.copy x.links

  -- more is known of messages
  pub host_moves : (Sent Sent' : Entry → (link : ℕ) → (octets : List ℕ) → Type 0) → ((e : Entry) (j : ℕ) (octets : List ℕ) → Sent e j octets → Sent' e j octets)
      → (s : ℕ) (heard : ℕ → Bool) (x : HostAfter) → HostOk Sent s heard x → HostOk Sent' s heard x
  host_moves Sent Sent' more s heard x was =
      record {
        room = was.room;
        long = was.long;
        mine = was.mine;
        links = was.links;
        waits = was.waits;
        walk =
            λ opened.
            walk_moves_lem r c i k m b s heard Sent Sent' (get_or x.places i fresh_entry) x.walk (packet_of x.walk x.copy) x.links x.links (more _ _ _) (λ _ _ _. refl) (place_of x.walk) (was.walk opened);
      }

module _ (r : Network) (proper : Proper r) (c i k m b : ℕ) (speaking : Bool) (inside : b < r.nodes) (few : i < host_count (r.settings b)) (Sent : Entry → (link : ℕ) → (octets : List ℕ) → Type 0) (Rest : Entry → Type 0) (w : World) (nets : NetTable) (links : Links) (copy : List ℕ) (entries : List Entry) (s : ℕ) (heard : ℕ → Bool) where
  abbrev now : HostAfter
  now = w.state (r.number b)

  abbrev e : Entry
  e = get_or now.places i fresh_entry

  abbrev at_node : NetworkCall → Step
  at_node call = record { node = b; nets = nets; links = links; copy = copy; entries = entries; call = call }

  -- what a call has to show
  abbrev pub Left : NetworkCall → Type 0
  Left call =
      After r c i k m b speaking Sent Rest (s + gain call (result r w (at_node call))) (flags r c b now.walk call (result r w (at_node call)) heard) entries
      (result r w (at_node call)).walk (result r w (at_node call)).copy (result r w (at_node call)).links (result r w (at_node call)).entries

  module _ (node : HostOk r c i k m b speaking Sent s heard now) (rest : Rest e) where
    pub call_state : (call : NetworkCall) → Allowed r w (at_node call) → Before r c i k m b speaking Sent Rest s heard now.walk copy links entries e
    call_state call ok =
        record {
          room = omega (arith, node.room, length-take (link_count_of (r.settings b)) links.all, length-take (link_count_of (r.settings b)) now.links.all, ap length ok.continues.own_links_lem);
          good =
              record {
                mine = node.mine;
                rest = rest;
                links = λ j a n cord. subst (LinkOk r k speaking (learns now.walk j) (heard j) j a e) (sym (same_link j a n cord)) (node.links j a n cord);
                waits = node.waits;
                walk =
                    λ opened.
                    subst (λ (o : List ℕ). WalkAt r c i k m b s heard Sent e now.walk o links (place_of now.walk)) (sym (same_packet r b now nets now.clock links copy entries ok.continues opened))
                    (walk_moves_lem r c i k m b s heard Sent Sent e now.walk (packet_of now.walk now.copy) now.links links (λ sent. sent) (same_link now.walk.link) (place_of now.walk) (node.walk opened));
              };
          table =
              λ holds.
              subst (All (λ (id : ℕ) (z : Entry). id ≡ i → z ≡ e)) (sym (ok.continues.own_entries_lem holds))
              (all_weaken (λ (id : ℕ) (z : Entry). z ≡ get_or (take (host_count (r.settings b)) now.places) id fresh_entry) (λ (id : ℕ) (z : Entry). id ≡ i → z ≡ e)
              (λ id z is same.
              is ∙ ap (λ (q : ℕ). get_or (take (host_count (r.settings b)) now.places) q fresh_entry) same ∙ get_or-take (host_count (r.settings b)) now.places i fresh_entry few)
              (take (host_count (r.settings b)) now.places) (all_get_d fresh_entry (take (host_count (r.settings b)) now.places)));
        }
      where
        same_link : (j a n : ℕ) → r.cable b j ≡ at a n → link_of links j ≡ link_of now.links j
        same_link j a n cord =
            let h = (counted (r.settings b) j (proper.cables b j a n cord).link_in).at_place in
            sym (get_or-take (link_count_of (r.settings b)) links.all (j - 1) (fresh_link unset) h)
            ∙ ap (λ (ys : List Link). get_or ys (j - 1) (fresh_link unset)) ok.continues.own_links_lem
            ∙ get_or-take (link_count_of (r.settings b)) now.links.all (j - 1) (fresh_link unset) h

    -- a call that is no second
    pub none_more : {on : ℕ → Bool} {v : Walk} {copied : List ℕ} {l : Links} {es : List Entry} → After r c i k m b speaking Sent Rest s on entries v copied l es → After r c i k m b speaking Sent Rest (s + 0) on entries v copied l es
    none_more f = let z : s + 0 ≡ s = omega arith in rw z f

    pub tick_left : (n : _) → Allowed r w (at_node (ticks n)) → Left (ticks n)
    tick_left n ok = none_more (tick_good r proper c i k m b speaking Sent Rest s heard nets now.clock links now.walk copy entries e (call_state (ticks n) ok) n).after

    pub adjust_left : (n : _) → Allowed r w (at_node (adjusts n)) → Left (adjusts n)
    adjust_left n ok = none_more (adjust_good r proper c i k m b speaking Sent Rest s heard nets now.clock links now.walk copy entries e (call_state (adjusts n) ok) n).after

    pub set_left : (ms : ℤ) (n : _) → Allowed r w (at_node (sets ms n)) → Left (sets ms n)
    set_left ms n ok = none_more (set_good r proper c i k m b speaking Sent Rest s heard nets now.clock links now.walk copy entries e (call_state (sets ms n) ok) ms n).after

    pub clock_left : (κ : Counter) → Allowed r w (at_node (clocks κ)) → Left (clocks κ)
    clock_left κ ok = none_more (clock_good r proper c i k m b speaking Sent Rest s heard nets now.clock links now.walk copy entries e (call_state (clocks κ) ok) κ).after

    pub look_left : (d : _) → Allowed r w (at_node (looks d)) → Left (looks d)
    look_left d ok = none_more (look_good r proper c i k m b speaking Sent Rest s heard nets now.clock links now.walk copy entries e (call_state (looks d) ok) d).after

    pub inspect_left : (j : ℕ) (packet : List ℕ) → Allowed r w (at_node (inspects j packet)) → Left (inspects j packet)
    inspect_left j packet ok = none_more (inspect_good r proper c i k m b speaking Sent Rest s heard nets now.clock links now.walk copy entries e (call_state (inspects j packet) ok) j packet).after

    pub open_left : (j : ℕ) (packet : List ℕ) → Allowed r w (at_node (opens j packet)) → Left (opens j packet)
    open_left j packet ok = none_more (open_good r proper c i k m b speaking Sent Rest s heard nets now.clock links now.walk copy entries e (call_state (opens j packet) ok) j packet).after

    pub second_left : (s < round_seconds → Rest (aged e)) → Allowed r w (at_node seconds) → s + gain seconds (result r w (at_node seconds)) ≤ round_seconds → Left seconds
    second_left aged_rest ok short = (second_good r proper c i k m b speaking Sent Rest s heard nets now.clock links now.walk copy entries e (call_state seconds ok) aged_rest short).after

    pub report_left : c < r.nodes → HostAt r i c → 1 ≤ m → (b ≡ c → (t : Millis) → Rest (left (lines (own_update t) e))) → (κ : Counter) → Allowed r w (at_node (reports κ)) → Left (reports κ)
    report_left hc host some home_rest κ ok =
        none_more
        (report_good r proper c i k m b speaking Sent Rest s heard nets now.clock links now.walk copy entries e (call_state (reports κ) ok) inside hc host some
        (λ j a n cord. (counted (r.settings b) j (proper.cables b j a n cord).link_in).from_one) home_rest κ).after

    -- ---- the host afterwards

    abbrev after_there : NetworkCall → HostAfter
    after_there call = after_outcome (r.number b) now.places (result r w (at_node call))

    pub after_good : (call : NetworkCall) → Allowed r w (at_node call) → Left call
        → Good r c i k m b speaking Sent Rest (s + gain call (result r w (at_node call))) (flags r c b now.walk call (result r w (at_node call)) heard)
        (result r w (at_node call)).walk (result r w (at_node call)).copy (result r w (at_node call)).links (get_or (after_there call).places i fresh_entry)
    unfolding no_places
    after_good call ok t =
        either (λ (l : List Entry). Now (get_or l i fresh_entry)) (ltb (length o.entries) (first_place (r.number b) + places_per_host)) _ _
        (λ z. short_run (rw t.same_length at z))
        (λ z.
        let h = ltb-false (length o.entries) (first_place (r.number b) + places_per_host) z in
        let held : Holds (r.number b) entries = omega (arith, t.same_length) in
        let all : All (λ (id : ℕ) (y : Entry). id ≡ i → Now y) (take (host_count (r.settings b)) (places (r.number b) o.entries)) =
        subst (All (λ (id : ℕ) (y : Entry). id ≡ i → Now y)) (entries_first (r.settings b) (r.number b) o.entries) (t.table held) in
        let it = all_there (λ (id : ℕ) (y : Entry). id ≡ i → Now y) fresh_entry (take (host_count (r.settings b)) (places (r.number b) o.entries)) all i
        (omega (arith, few, full_places (r.settings b) (r.number b) o.entries h, length-take (host_count (r.settings b)) (places (r.number b) o.entries))) refl in
        subst Now (get_or-take (host_count (r.settings b)) (places (r.number b) o.entries) i fresh_entry few) it)
      where
        o : Outcome
        o = result r w (at_node call)

        Now : Entry → Type 0
        Now = Good r c i k m b speaking Sent Rest (s + gain call o) (flags r c b now.walk call o heard) o.walk o.copy o.links

        -- if the run does not have the host's places, the call is refused
        short_run : ltb (length entries) (first_place (r.number b) + places_per_host) ≡ true → Now e
        short_run z =
            let x = state_at r b nets now.clock links now.walk copy entries in
            let gone : no_places (r.number b) entries ≡ true = rw z (or-true (ltb 15 (r.number b))) in
            let short = perform_short (call_of call) x gone in
            let refused : done o.reply.answer ≡ false = ap (λ (q : Outcome). done q.reply.answer) short in
            let zero_more : gain call o ≡ 0 = ap (gain call) short ∙ rw (and-false (is_second call)) in
            let z : s + gain call o ≡ s = omega arith in
            subst (λ (l : Links). Good r c i k m b speaking Sent Rest (s + gain call o) (flags r c b now.walk call o heard) o.walk o.copy l e) (sym (ap (λ (q : Outcome). q.links) short))
            (subst₂ (λ (v : Walk) (copied : List ℕ). Good r c i k m b speaking Sent Rest (s + gain call o) (flags r c b now.walk call o heard) v copied links e) (sym (ap (λ (q : Outcome). q.walk) short)) (sym (ap (λ (q : Outcome). q.copy) short))
            (subst₂ (λ (t : ℕ) (on : ℕ → Bool). Good r c i k m b speaking Sent Rest t on now.walk copy links e) (sym z) (sym (no_flags r c b now.walk call o heard refused)) (call_state call ok).good))

    pub after_ok : (call : NetworkCall) → Allowed r w (at_node call) → Left call → HostOk r c i k m b speaking Sent (s + gain call (result r w (at_node call))) (flags r c b now.walk call (result r w (at_node call)) heard) (after_there call)
    after_ok call ok t =
        let o = result r w (at_node call) in
        let g = after_good call ok t in
        record {
          room = t.room;
          long =
              either (λ (l : List Entry). host_count (r.settings b) ≤ length l) (ltb (length o.entries) (first_place (r.number b) + places_per_host)) _ _ (λ _. node.long)
              (λ z. full_places (r.settings b) (r.number b) o.entries (ltb-false (length o.entries) (first_place (r.number b) + places_per_host) z));
          mine = g.mine;
          links = g.links;
          waits = g.waits;
          walk = g.walk;
        }
