-- Every call of the network keeps it, because it touches one host's table and adds at most one message.
use mathlib.Core.Path.{◌≡◌, refl, sym, ap, subst, ◌∙◌}
use mathlib.Core.Bool.{Bool, true, false, cond, and-false, or-true, ◌&&◌}
use mathlib.Core.List.Memᴰ
use mathlib.Core.List.{List, ◌∷◌, Memᴰ}
use mathlib.Core.Logic.{◌⊎◌, inl, inr}
use Prim.Native.Nat.{ℕ, ◌+◌, ◌≤◌, ◌<◌}
use native.Mathlib.Omega.{arith}
use borrow.Author.Tests.{eqb-true, eqb-false, eq-eqb, ne_eqb, ltb-false}
use lib.Dec.{ltb, eqb}
use lib.IntN.{ℤ}
use lib.ListN.{length, take}
use Rattle.std.proofs.Common.{Some}
use Rattle.lists.proofs.Tests.{either}
use Rattle.clock.specs.declared.Counter.{Counter}
use Rattle.table.specs.declared.Entry.{Entry}
use Rattle.net_table.specs.declared.NetTable.{NetTable}
use Rattle.host.specs.declared.Links.{Links}
use Rattle.host.specs.declared.walk.Place.TheVariants.{Step1}
use Rattle.host.specs.Guard.{done, no_places}
use Rattle.host.specs.State.{places_per_host, first_place, host_count}
use Rattle.host.specs.Walk.{is_open, place_of, packet_of}
use Rattle.host.proofs.Places.{Holds}
use Rattle.arrival.specs.declared.Delivery.TheVariants.{Inspect, Act}
use Rattle.calls.specs.declared.Request.TheVariants.{Tick, Adjust, Set, Read, Lookup, Second, SelfReport}
use Rattle.calls.specs.Perform.{act, Outcome, perform}
use Rattle.calls.proofs.Pair.{receive_acts}
use Rattle.network_laws.specs.HostAfter.{message_of}
use Rattle.network_laws.specs.History.{HostAfter, after_outcome, after}
use Rattle.network_laws.specs.Network.{longest_way, Network, at, state_at, HostAt, Proper}
use Rattle.network_laws.specs.Demand3.{NetworkCall, ticks, seconds, reports, sends, arrives, acts, inspects, opens, steps, adjusts, sets, clocks, looks, call_of, Step, Message, World, result, mail_after, step, Delivered, Allowed}
use Rattle.network_laws.proofs.Lists.{All, all_weaken}
use Rattle.network_laws.proofs.HostPlaces.{entries_first}
use Rattle.network_laws.proofs.Performs.{perform_short}
use Rattle.network_laws.proofs.Demand3.Invariant.{RightWorld}
use Rattle.network_laws.proofs.Demand3.Outcomes.{same_packet}
use Rattle.liveness_laws.specs.Numbers.{rise}
use Rattle.liveness_laws.specs.Seconds.{is_second, counts}
use Rattle.liveness_laws.specs.Rounds.{ReportsNow}
use Rattle.liveness_laws.specs.Silence.{NotFrom, Unheard}
use Rattle.network_laws.proofs.Demand3.Histories.{unlike, a_request, a_send_lem, a_delivery}
use Rattle.network_laws.proofs.Demand3.Histories as rooms
use Rattle.liveness_laws.proofs.Silence.TabledWorlds.{TabledWorld}
use Rattle.liveness_laws.proofs.Silence.TabledWorlds as tabled-worlds
use Rattle.liveness_laws.proofs.Silence.Entry.{fewer_fades}
use Rattle.liveness_laws.proofs.Silence.Invariant.{Reports, Arriving, new, early, any_reports, Ours, FadeNode, FadeState, FadeAfter, FadeWorld}
use Rattle.liveness_laws.proofs.Silence.Calls.{tick_fades, adjust_fades, set_fades, clock_fades, look_fades, second_fades, report_fades, send_fades, inspect_fades, act_fades}
use Rattle.liveness_laws.proofs.Silence.Sends.{send_reports}
use Rattle.liveness_laws.proofs.Silence.Walks.{open_fades, step_fades}

-- the seconds that a call adds at its host
abbrev gain : NetworkCall → Outcome → ℕ
gain call o = cond (is_second call && done o.reply.answer) 1 0

module _ (r : Network) (proper : Proper r) (ways : r.longest ≤ longest_way) (out i n : ℕ) (few : (b : ℕ) → b < r.nodes → i < host_count (r.settings b)) where
  -- nothing of host `out` is heard; or the epochs have not begun
  abbrev pub Silent : (s : ℕ) → Type 0 → Type 0
  Silent s unheard = unheard ⊎ ((s ≡ 0) × (n ≤ rise))

  -- the id's host does not report itself; or the epochs have not begun
  abbrev pub Unsaid : (s : ℕ) → World → Step → Type 0
  Unsaid s w x = (HostAt r i x.node → ReportsNow r w x.node x x.call → ⊥) ⊎ ((s ≡ 0) × (n ≡ 0))

  enough : (b : ℕ) → b < r.nodes → 0 < host_count (r.settings b)
  enough b inside = omega (arith, few b inside)

  -- ---- a call at one host

  module _ (w : World) (right : RightWorld r w) (tabled : TabledWorld r w) (b : ℕ) (inside : b < r.nodes) (nets : NetTable) (links : Links) (copy : List ℕ) (entries : List Entry) (s : ℕ) where
    abbrev now : HostAfter
    now = w.state (r.number b)

    abbrev at_node : NetworkCall → Step
    at_node call = record { node = b; nets = nets; links = links; copy = copy; entries = entries; call = call }

    abbrev Fades : NetworkCall → Type 0
    Fades call = FadeAfter r i n b (s + gain call (result r w (at_node call))) entries (result r w (at_node call))

    module _ (node : FadeNode r i n b s now) where
      call_state : (call : NetworkCall) → Allowed r w (at_node call) → FadeState r i n b s now.walk copy entries
      call_state call ok =
          record {
            walk = λ opened begins. subst (Arriving i n s) (sym (same_packet r b now nets now.clock links copy entries ok.continues opened)) (node.walk opened begins);
            table = λ holds. subst (All (Ours r i n s)) (sym (ok.continues.own_entries_lem holds)) node.table;
          }

      module _ (mail : (m : Message) → Memᴰ m w.mail → (m.node ≡ out → ⊥) → Reports i n 0 m.octets) where
        -- a message at the other end of a cable that does not lead to host `out` is not of it
        not_of : (link : ℕ) (m : Message) → r.cable b link ≡ at m.node m.link → NotFrom r out b link → m.node ≡ out → ⊥
        not_of link m cable away z = away m.link (cable ∙ ap (λ (a : ℕ). at a m.link) z)

        arriving : (link : ℕ) (m : Message) → r.cable b link ≡ at m.node m.link → Memᴰ m w.mail → Silent s (NotFrom r out b link) → Arriving i n s m.octets
        arriving link m cable sent (inl away) = new (mail m sent (not_of link m cable away))
        arriving link m cable sent (inr z) = early z.0 (any_reports i n m.octets z.1)

        acted : (link : ℕ) (k : Counter) (packet : List ℕ) (t : ℤ) → Allowed r w (at_node (acts link k packet t)) → Silent s (NotFrom r out b link) → FadeAfter r i n b s entries (result r w (at_node (acts link k packet t)))
        acted link k packet t ok away =
            let d = ok.timely in
            let m = d.message in
            subst (λ (o : List ℕ). FadeAfter r i n b s entries (perform (act link k o) (state_at r b nets now.clock links now.walk copy entries))) (sym d.a_copy)
            (act_fades r i n b s nets now.clock links now.walk copy entries (call_state (acts link k packet t) ok) link m.octets
            (proper.cables b link m.node m.link d.other_end).point_to_point (tabled.mail m d.earlier) (arriving link m d.other_end d.earlier away) k (a_delivery r proper ways w right b inside nets links copy entries (Act link k) m.octets))

        arrived : (link : ℕ) (k : Counter) (packet : List ℕ) (t : ℤ) → Allowed r w (at_node (arrives link k packet t)) → Silent s (NotFrom r out b link) → FadeAfter r i n b s entries (result r w (at_node (arrives link k packet t)))
        arrived link k packet t ok away =
            let same = receive_acts link k packet (state_at r b nets now.clock links now.walk copy entries) in
            subst (FadeAfter r i n b s entries) (sym same)
            (acted link k packet t record { node_in = ok.node_in; continues = ok.continues; timely = subst (λ (o : Outcome). Delivered r w b link k packet t o.reply.answer) same ok.timely } away)

        -- box 1 takes a message
        taken : (k : Counter) (t : ℤ) (ok : Allowed r w (at_node (steps k t))) → Silent s (Unheard r w out b (steps k t)) → is_open now.walk ≡ true → place_of now.walk ≡ Some Step1
            → Arriving i n s (packet_of now.walk copy)
        taken k t ok away opened first =
            let d = ok.timely opened first in
            subst (Arriving i n s) (sym (same_packet r b now nets now.clock links copy entries ok.continues opened ∙ d.a_copy))
            (arriving now.walk.link d.message d.other_end d.earlier (elim away [ inl z ↦ inl (z opened first) | inr z ↦ inr z ]))

        no_more : {o : Outcome} → FadeAfter r i n b s entries o → FadeAfter r i n b (s + 0) entries o
        no_more f = let z : s + 0 ≡ s = omega arith in rw z f

        call_fades : (call : NetworkCall) → Allowed r w (at_node call) → Silent s (Unheard r w out b call) → Unsaid s w (at_node call) → Fades call
        call_fades (ticks k) ok away unsaid = no_more (tick_fades r i n b s nets now.clock links now.walk copy entries (call_state (ticks k) ok) k (a_request r proper ways w right b inside nets links copy entries (Tick k) (λ e. unlike cc) (λ j e. unlike cc)))
        call_fades seconds ok away unsaid = second_fades r i n b s nets now.clock links now.walk copy entries (call_state seconds ok) (a_request r proper ways w right b inside nets links copy entries Second (λ e. unlike cc) (λ j e. unlike cc))
        call_fades (reports k) ok away unsaid = no_more (report_fades r i n b s nets now.clock links now.walk copy entries (call_state (reports k) ok) k (elim unsaid [ inl never ↦ inl (λ home is. never home (refl, is)) | inr z ↦ inr z ]) (a_request r proper ways w right b inside nets links copy entries (SelfReport k) (λ e. unlike cc) (λ j e. unlike cc)))
        call_fades (sends link k buffer t) ok away unsaid = no_more (send_fades r i n b s nets now.clock links now.walk copy entries (call_state (sends link k buffer t) ok) link k buffer (a_send_lem r proper ways w right b inside nets links copy entries link k buffer))
        call_fades (arrives link k packet t) ok away unsaid = no_more (arrived link k packet t ok away)
        call_fades (acts link k packet t) ok away unsaid = no_more (acted link k packet t ok away)
        call_fades (inspects link packet) ok away unsaid = no_more (inspect_fades r i n b s nets now.clock links now.walk copy entries (call_state (inspects link packet) ok) link packet (a_delivery r proper ways w right b inside nets links copy entries (Inspect link) packet))
        call_fades (opens link packet) ok away unsaid = no_more (open_fades r i n b s nets now.clock links now.walk copy entries (call_state (opens link packet) ok) link packet)
        call_fades (steps k t) ok away unsaid =
            no_more (step_fades r i n b s nets now.clock links now.walk copy entries (call_state (steps k t) ok) (rooms.call_state r proper ways w right b inside nets links copy entries (steps k t) ok) (tabled-worlds.borrowed r proper ways enough w right tabled b inside nets links copy entries ok) k (taken k t ok away))
        call_fades (adjusts m) ok away unsaid = no_more (adjust_fades r i n b s nets now.clock links now.walk copy entries (call_state (adjusts m) ok) m (a_request r proper ways w right b inside nets links copy entries (Adjust m) (λ e. unlike cc) (λ j e. unlike cc)))
        call_fades (sets ms m) ok away unsaid = no_more (set_fades r i n b s nets now.clock links now.walk copy entries (call_state (sets ms m) ok) ms m (a_request r proper ways w right b inside nets links copy entries (Set ms m) (λ e. unlike cc) (λ j e. unlike cc)))
        call_fades (clocks κ) ok away unsaid = no_more (clock_fades r i n b s nets now.clock links now.walk copy entries (call_state (clocks κ) ok) κ (a_request r proper ways w right b inside nets links copy entries (Read κ) (λ e. unlike cc) (λ j e. unlike cc)))
        call_fades (looks d) ok away unsaid = no_more (look_fades r i n b s nets now.clock links now.walk copy entries (call_state (looks d) ok) d (a_request r proper ways w right b inside nets links copy entries (Lookup d) (λ e. unlike cc) (λ j e. unlike cc)))

        -- if the run does not have the host's places, the call is refused
        short : (call : NetworkCall) → ltb (length entries) (first_place (r.number b) + places_per_host) ≡ true → gain call (result r w (at_node call)) ≡ 0
        unfolding no_places
        short call e =
            let x = state_at r b nets now.clock links now.walk copy entries in
            let gone : no_places (r.number b) entries ≡ true = rw e (or-true (ltb 15 (r.number b))) in
            ap (gain call) (perform_short (call_of call) x gone) ∙ rw (and-false (is_second call))

        after_fades : (call : NetworkCall) → Allowed r w (at_node call) → Silent s (Unheard r w out b call) → Unsaid s w (at_node call)
            → FadeNode r i n b (s + gain call (result r w (at_node call))) (after_outcome (r.number b) now.places (result r w (at_node call)))
        after_fades call ok away unsaid =
            let o = result r w (at_node call) in
            let done-now = call_fades call ok away unsaid in
            record {
              walk = done-now.walk;
              table =
                  either (λ (l : List Entry). All (Ours r i n (s + gain call o)) (take (host_count (r.settings b)) l)) (ltb (length o.entries) (first_place (r.number b) + places_per_host)) _ _
                  (λ t.
                  let none : gain call o ≡ 0 = short call (rw done-now.same_length at t) in
                  let z : s + gain call o ≡ s = omega arith in
                  rw z node.table)
                  (λ t.
                  let h = ltb-false (length o.entries) (first_place (r.number b) + places_per_host) t in
                  let holds : Holds (r.number b) entries = omega (arith, done-now.same_length) in
                  subst (All (Ours r i n (s + gain call o))) (entries_first (r.settings b) (r.number b) o.entries) (done-now.table holds));
            }

        -- what it sends
        mail_fades : (call : NetworkCall) → Allowed r w (at_node call) → (m : Message) → Memᴰ m (mail_after b (result r w (at_node call)) call w.mail) → (m.node ≡ out → ⊥) → Reports i n 0 m.octets
        mail_fades (ticks k) ok m x other_host = mail m x other_host
        mail_fades seconds ok m x other_host = mail m x other_host
        mail_fades (reports k) ok m x other_host = mail m x other_host
        mail_fades (sends link k buffer t) ok m x other_host = go (done o.reply.answer) refl x
          where
            o : Outcome
            o = result r w (at_node (sends link k buffer t))

            sent : Message
            sent = record { node = b; link = link; ms = t; octets = message_of o }

            go : (d : Bool) → done o.reply.answer ≡ d → Memᴰ m (cond d (sent ∷ w.mail) w.mail) → Reports i n 0 m.octets
            go false e y = mail m y other_host
            go true e y = one (Memᴰ.cases_cons y)
              where
                one : (m ≡ sent) ⊎ Memᴰ m w.mail → Reports i n 0 m.octets
                one (inl z) = subst (λ (q : Message). Reports i n 0 q.octets) (sym z) (send_reports r i n b s (few b inside) nets now.clock links now.walk copy entries (call_state (sends link k buffer t) ok) link k buffer e)
                one (inr z) = mail m z other_host
        mail_fades (arrives link k packet t) ok m x other_host = mail m x other_host
        mail_fades (acts link k packet t) ok m x other_host = mail m x other_host
        mail_fades (inspects link packet) ok m x other_host = mail m x other_host
        mail_fades (opens link packet) ok m x other_host = mail m x other_host
        mail_fades (steps k t) ok m x other_host = mail m x other_host
        mail_fades (adjusts _) ok m x other_host = mail m x other_host
        mail_fades (sets _ _) ok m x other_host = mail m x other_host
        mail_fades (clocks _) ok m x other_host = mail m x other_host
        mail_fades (looks _) ok m x other_host = mail m x other_host

  -- ---- the world

  pub world_fades : (s : ℕ → ℕ) (w : World) (x : Step) → Allowed r w x → Silent (s x.node) (Unheard r w out x.node x.call) → ((x.node ≡ out → ⊥) → Unsaid (s x.node) w x) → RightWorld r w → TabledWorld r w → FadeWorld r out i n s w
      → FadeWorld r out i n (λ b. s b + counts r w b x) (step r w x)
  unfolding step after
  world_fades s w x ok away unsaid right tabled fades = record { nodes = nodes; mail = mail }
    where
      a : ℕ
      a = x.node

      here : eqb a a ≡ true
      here = eq-eqb a a refl

      own : (a ≡ out → ⊥) → FadeNode r i n a (s a + counts r w a x) (after_outcome (r.number a) (w.state (r.number a)).places (result r w x))
      own away-from =
          rw here
          (after_fades w right tabled a ok.node_in x.nets x.links x.copy x.entries (s a) (fades.nodes a ok.node_in away-from) fades.mail x.call ok away (unsaid away-from))

      nodes : (b : ℕ) → b < r.nodes → (b ≡ out → ⊥) → FadeNode r i n b (s b + counts r w b x) ((step r w x).state (r.number b))
      nodes b hb other_host =
          either (FadeNode r i n b (s b + counts r w b x)) (eqb (r.number b) (r.number a)) _ _
          (λ e.
          let same : a ≡ b = proper.numbers_differ a b ok.node_in hb (sym (eqb-true (r.number b) (r.number a) e)) in
          subst (λ (d : ℕ). FadeNode r i n d (s d + counts r w d x) (after_outcome (r.number a) (w.state (r.number a)).places (result r w x))) same
          (own (λ z. other_host (sym same ∙ z))))
          (λ e.
          let other : eqb a b ≡ false = ne_eqb a b (λ z. eqb-false (r.number b) (r.number a) e (ap r.number (sym z))) in
          let none : counts r w b x ≡ 0 = rw other in
          let z : s b + counts r w b x ≡ s b = omega arith in
          rw z (fades.nodes b hb other_host))

      mail : (m : Message) → Memᴰ m (step r w x).mail → (m.node ≡ out → ⊥) → Reports i n 0 m.octets
      mail m y other_host = go (eqb a out) refl
        where
          -- a message of host `out` is none of these
          go : (t : Bool) → eqb a out ≡ t → Reports i n 0 m.octets
          go false e =
              let away-from : a ≡ out → ⊥ = eqb-false a out e in
              mail_fades w right tabled a ok.node_in x.nets x.links x.copy x.entries (s a) (fades.nodes a ok.node_in away-from) fades.mail x.call ok m y other_host
          go true e = from_out x.call y
            where
              from_out : (call : NetworkCall) → Memᴰ m (mail_after a (result r w x) call w.mail) → Reports i n 0 m.octets
              from_out (ticks k) z = fades.mail m z other_host
              from_out seconds z = fades.mail m z other_host
              from_out (reports k) z = fades.mail m z other_host
              from_out (sends link k buffer t) z = one (done (result r w x).reply.answer) z
                where
                  one : (d : Bool) → Memᴰ m (cond d (record { node = a; link = link; ms = t; octets = message_of (result r w x) } ∷ w.mail) w.mail) → Reports i n 0 m.octets
                  one false q = fades.mail m q other_host
                  one true q = two (Memᴰ.cases_cons q)
                    where
                      two : (m ≡ record { node = a; link = link; ms = t; octets = message_of (result r w x) }) ⊎ Memᴰ m w.mail → Reports i n 0 m.octets
                      two (inl v) = absurd (other_host (ap (λ (g : Message). g.node) v ∙ eqb-true a out e))
                      two (inr v) = fades.mail m v other_host
              from_out (arrives link k packet t) z = fades.mail m z other_host
              from_out (acts link k packet t) z = fades.mail m z other_host
              from_out (inspects link packet) z = fades.mail m z other_host
              from_out (opens link packet) z = fades.mail m z other_host
              from_out (steps k t) z = fades.mail m z other_host
              from_out (adjusts _) z = fades.mail m z other_host
              from_out (sets _ _) z = fades.mail m z other_host
              from_out (clocks _) z = fades.mail m z other_host
              from_out (looks _) z = fades.mail m z other_host

  -- with fewer seconds
  pub fewer : (s t : ℕ → ℕ) → ((b : ℕ) → t b ≤ s b) → (w : World) → FadeWorld r out i n s w → FadeWorld r out i n t w
  fewer s t less w fades =
      record {
        nodes =
            λ b hb other_host.
            let f = fades.nodes b hb other_host in
            record {
              walk = λ opened begins. go b (less b) (f.walk opened begins);
              table = all_weaken (Ours r i n (s b)) (Ours r i n (t b)) (λ id e h same. fewer_fades n (s b) (t b) e (less b) (h same)) (take (host_count (r.settings b)) (w.state (r.number b)).places) f.table;
            };
        mail = fades.mail;
      }
    where
      go : (b : ℕ) {octets : List ℕ} → t b ≤ s b → Arriving i n (s b) octets → Arriving i n (t b) octets
      go b less (new least) = new least
      go b less (early z least) = early (omega arith) least
