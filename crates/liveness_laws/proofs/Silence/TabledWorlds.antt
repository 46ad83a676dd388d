-- Every call keeps each host's links and walk so, and each message; a network that was just initialized has no message.
use mathlib.Core.Path.{◌≡◌, refl, sym, ap, subst, subst₂, ◌∙◌}
use mathlib.Core.Bool.{Bool, true, false, true≢false, false≢true, cond}
use mathlib.Core.List.Memᴰ
use mathlib.Core.List.{List, [], ◌∷◌, map, Memᴰ}
use mathlib.Core.Logic.{◌⊎◌, inl, inr}
use Prim.Native.Nat.{ℕ, zero, suc, ◌-◌, ◌≤◌, ◌<◌}
use borrow.Author.Tests.{eqb-true}
use lib.Dec.{eqb}
use lib.IntN.{ℤ}
use lib.ListN.{get_or}
use lib.Seq.{get_or-take}
use Rattle.lists.proofs.Tests.{either}
use Rattle.answer.specs.declared.Answer.TheVariants.{Done}
use Rattle.clock.specs.declared.Counter.{Counter}
use Rattle.table.specs.declared.Entry.{Entry}
use Rattle.net_table.specs.declared.NetTable.{NetTable}
use Rattle.host.specs.declared.LinkSetting.{LinkSetting}
use Rattle.host.specs.declared.Links.{Links}
use Rattle.host.specs.declared.walk.Walk.{Walk}
use Rattle.host.specs.Settings.{link_count_of}
use Rattle.host.specs.State.{host_count, unset, fresh_link, fresh_links, link_of, no_link}
use Rattle.host.specs.CallState.{CallState}
use Rattle.host.specs.Guard.{done}
use Rattle.host.specs.Walk.{place_of}
use Rattle.host.proofs.Guarded.{counted}
use Rattle.arrival.specs.declared.Delivery.TheVariants.{Inspect, Act}
use Rattle.calls.specs.declared.Request.TheVariants.{Initialize, Tick, Adjust, Set, Read, Lookup, Second, SelfReport}
use Rattle.calls.specs.Effects.{initialize, tick, second, self_report}
use Rattle.calls.specs.Effects as effects
use Rattle.calls.specs.Perform.{ask, act, Outcome, perform}
use Rattle.calls.proofs.Pair.{receive_acts}
use Rattle.network_laws.specs.Frame.{Elsewhere, Frame}
use Rattle.network_laws.specs.HostAfter.{message_of}
use Rattle.network_laws.specs.History.{HostAfter, after}
use Rattle.network_laws.specs.Network.{longest_way, Network, state_at, initialized, Proper}
use Rattle.network_laws.specs.Demand3.{NetworkCall, ticks, seconds, reports, sends, arrives, acts, inspects, opens, steps, adjusts, sets, clocks, looks, call_of, Step, Message, World, result, mail_after, step, Delivered, Allowed, Starts}
use Rattle.network_laws.proofs.Performs.{performs}
use Rattle.network_laws.proofs.Demand1.Frame.{frame_holds}
use Rattle.network_laws.proofs.Demand3.Invariant.{RightWorld}
use Rattle.network_laws.proofs.Demand3.Outcomes.{same_packet}
use Rattle.network_laws.proofs.Demand3.Histories.{unlike, a_request, a_delivery}
use Rattle.network_laws.proofs.Demand3.Histories as histories
use Rattle.liveness_laws.proofs.Silence.Tables.{Tabled, Ready, TabledAt, TabledHost, SendTabled, send_tabled, act_tabled, open_tabled, step_tabled}

pub record TabledWorld (r : Network) (w : World) : Type 0 where
  pub nodes : (a : ℕ) → a < r.nodes → TabledHost (r.settings a) (w.state (r.number a)).walk (w.state (r.number a)).copy (w.state (r.number a)).links
  pub mail : (m : Message) → Memᴰ m w.mail → Tabled m.octets

module _ (r : Network) (proper : Proper r) (ways : r.longest ≤ longest_way) (few : (b : ℕ) → b < r.nodes → 0 < host_count (r.settings b)) where
  module _ (w : World) (right : RightWorld r w) (tabled : TabledWorld r w) (b : ℕ) (inside : b < r.nodes) (nets : NetTable) (links : Links) (copy : List ℕ) (entries : List Entry) where
    abbrev now : HostAfter
    now = w.state (r.number b)

    abbrev at_node : NetworkCall → Step
    at_node call = record { node = b; nets = nets; links = links; copy = copy; entries = entries; call = call }

    abbrev x : CallState
    x = state_at r b nets now.clock links now.walk copy entries

    abbrev Kept : Outcome → Type 0
    Kept o = TabledHost (r.settings b) o.walk o.copy o.links

    -- ---- what a call borrows

    module _ {call : NetworkCall} (ok : Allowed r w (at_node call)) where
      same_link : (j : ℕ) → no_link (r.settings b) j ≡ false → link_of links j ≡ link_of now.links j
      same_link j has =
          let h = (counted (r.settings b) j has).at_place in
          sym (get_or-take (link_count_of (r.settings b)) links.all (j - 1) (fresh_link unset) h)
          ∙ ap (λ ys. get_or ys (j - 1) (fresh_link unset)) ok.continues.own_links_lem
          ∙ get_or-take (link_count_of (r.settings b)) now.links.all (j - 1) (fresh_link unset) h

      pub borrowed : TabledHost (r.settings b) now.walk copy links
      borrowed =
          let host = tabled.nodes b inside in
          record {
            links = λ j has off. subst (Ready (r.settings b)) (sym (same_link j has)) (host.links j has off);
            walk = λ opened. subst (λ (o : List ℕ). TabledAt now.walk o (place_of now.walk)) (sym (same_packet r b now nets now.clock links copy entries ok.continues opened)) (host.walk opened);
          }

      -- a call that changes neither the walk nor its packet
      plain : Elsewhere (call_of call) → TabledHost (r.settings b) now.walk copy (result r w (at_node call)).links → Kept (result r w (at_node call))
      unfolding Frame
      plain else t =
          let f = frame_holds (call_of call) x in
          subst₂ (λ (v : Walk) (o : List ℕ). TabledHost (r.settings b) v o (result r w (at_node call)).links) (sym (f.walk else)) (sym (f.copy else.not_opening)) t

      -- nor the links
      quiet : Elsewhere (call_of call) → (result r w (at_node call)).links ≡ links → Kept (result r w (at_node call))
      quiet else same = plain else (subst (TabledHost (r.settings b) now.walk copy) (sym same) borrowed)

    acted : (i : ℕ) (k : Counter) (packet : List ℕ) (t : ℤ) → Allowed r w (at_node (acts i k packet t)) → Kept (result r w (at_node (acts i k packet t)))
    acted i k packet t ok =
        let d = ok.timely in
        plain ok (a_delivery r proper ways w right b inside nets links copy entries (Act i k) packet)
        (subst (λ (o : List ℕ). TabledHost (r.settings b) now.walk copy (perform (act i k o) x).links) (sym d.a_copy)
        (act_tabled r proper b inside (few b inside) nets now.clock links now.walk copy entries (borrowed ok) i d.message d.other_end (right.mail d.message d.earlier) k))

    arrived : (i : ℕ) (k : Counter) (packet : List ℕ) (t : ℤ) → Allowed r w (at_node (arrives i k packet t)) → Kept (result r w (at_node (arrives i k packet t)))
    arrived i k packet t ok =
        let same = receive_acts i k packet x in
        subst Kept (sym same)
        (acted i k packet t record { node_in = ok.node_in; continues = ok.continues; timely = subst (λ (o : Outcome). Delivered r w b i k packet t o.reply.answer) same ok.timely })

    -- ---- what it leaves

    pub record After (call : NetworkCall) : Type 0 where
      pub host : Kept (result r w (at_node call))
      pub mail : (m : Message) → Memᴰ m (mail_after b (result r w (at_node call)) call w.mail) → Tabled m.octets

    call_tabled : (call : NetworkCall) → Allowed r w (at_node call) → After call
    unfolding tick second self_report effects.adjust effects.set_by effects.read effects.lookup
    call_tabled (ticks n) ok =
        record { host = quiet ok (a_request r proper ways w right b inside nets links copy entries (Tick n) (λ e. unlike cc) (λ j e. unlike cc)) (performs (ask (Tick n)) x (λ o. o.links ≡ links) (λ _. refl) (λ _. refl)); mail = tabled.mail }
    call_tabled seconds ok =
        record { host = quiet ok (a_request r proper ways w right b inside nets links copy entries Second (λ e. unlike cc) (λ j e. unlike cc)) (performs (ask Second) x (λ o. o.links ≡ links) (λ _. refl) (λ _. refl)); mail = tabled.mail }
    call_tabled (reports k) ok =
        record { host = quiet ok (a_request r proper ways w right b inside nets links copy entries (SelfReport k) (λ e. unlike cc) (λ j e. unlike cc)) (performs (ask (SelfReport k)) x (λ o. o.links ≡ links) (λ _. refl) (λ _. refl)); mail = tabled.mail }
    call_tabled (sends i k buffer t) ok = record { host = sent.host; mail = posted }
      where
        o : Outcome
        o = result r w (at_node (sends i k buffer t))

        sent : SendTabled r proper b inside (few b inside) nets now.clock links now.walk copy entries (borrowed ok) i k o
        sent = send_tabled r proper b inside (few b inside) nets now.clock links now.walk copy entries (borrowed ok) i k buffer

        new : Message
        new = record { node = b; link = i; ms = t; octets = message_of o }

        posted : (m : Message) → Memᴰ m (cond (done o.reply.answer) (new ∷ w.mail) w.mail) → Tabled m.octets
        posted m y = go (done o.reply.answer) refl y
          where
            one : done o.reply.answer ≡ true → (m ≡ new) ⊎ Memᴰ m w.mail → Tabled m.octets
            one e (inl z) = subst (λ (q : Message). Tabled q.octets) (sym z) (sent.message e)
            one e (inr z) = tabled.mail m z

            go : (d : Bool) → done o.reply.answer ≡ d → Memᴰ m (cond d (new ∷ w.mail) w.mail) → Tabled m.octets
            go false e z = tabled.mail m z
            go true e z = one e (Memᴰ.cases_cons z)
    call_tabled (arrives i k packet t) ok = record { host = arrived i k packet t ok; mail = tabled.mail }
    call_tabled (acts i k packet t) ok = record { host = acted i k packet t ok; mail = tabled.mail }
    call_tabled (inspects i packet) ok =
        record { host = quiet ok (a_delivery r proper ways w right b inside nets links copy entries (Inspect i) packet) (performs (call_of (inspects i packet)) x (λ o. o.links ≡ links) (λ _. refl) (λ _. refl)); mail = tabled.mail }
    call_tabled (opens i packet) ok = record { host = open_tabled r proper b inside (few b inside) nets now.clock links now.walk copy entries (borrowed ok) i packet; mail = tabled.mail }
    call_tabled (steps k t) ok =
        record {
          host =
              step_tabled r proper b inside (few b inside) nets now.clock links now.walk copy entries (borrowed ok) (histories.call_state r proper ways w right b inside nets links copy entries (steps k t) ok).walk k
              (λ opened first.
              let d = ok.timely opened first in
              subst Tabled (sym (same_packet r b now nets now.clock links copy entries ok.continues opened ∙ d.a_copy)) (tabled.mail d.message d.earlier));
          mail = tabled.mail;
        }
    call_tabled (adjusts n) ok =
        record { host = quiet ok (a_request r proper ways w right b inside nets links copy entries (Adjust n) (λ e. unlike cc) (λ j e. unlike cc)) (performs (ask (Adjust n)) x (λ o. o.links ≡ links) (λ _. refl) (λ _. refl)); mail = tabled.mail }
    call_tabled (sets ms n) ok =
        record { host = quiet ok (a_request r proper ways w right b inside nets links copy entries (Set ms n) (λ e. unlike cc) (λ j e. unlike cc)) (performs (ask (Set ms n)) x (λ o. o.links ≡ links) (λ _. refl) (λ _. refl)); mail = tabled.mail }
    call_tabled (clocks k) ok =
        record { host = quiet ok (a_request r proper ways w right b inside nets links copy entries (Read k) (λ e. unlike cc) (λ j e. unlike cc)) (performs (ask (Read k)) x (λ o. o.links ≡ links) (λ _. refl) (λ _. refl)); mail = tabled.mail }
    call_tabled (looks d) ok =
        record { host = quiet ok (a_request r proper ways w right b inside nets links copy entries (Lookup d) (λ e. unlike cc) (λ j e. unlike cc)) (performs (ask (Lookup d)) x (λ o. o.links ≡ links) (λ _. refl) (λ _. refl)); mail = tabled.mail }

  -- ---- the world

  pub world_tabled : (w : World) (x : Step) → Allowed r w x → RightWorld r w → TabledWorld r w → TabledWorld r (step r w x)
  unfolding step after
  world_tabled w x ok right tabled =
      let s = call_tabled w right tabled x.node ok.node_in x.nets x.links x.copy x.entries x.call ok in
      record {
        nodes =
            λ b hb.
            either (λ (q : HostAfter). TabledHost (r.settings b) q.walk q.copy q.links) (eqb (r.number b) (r.number x.node)) _ _
            (λ e.
            let same : x.node ≡ b = proper.numbers_differ x.node b ok.node_in hb (sym (eqb-true (r.number b) (r.number x.node) e)) in
            subst (λ (a : ℕ). TabledHost (r.settings a) (result r w x).walk (result r w x).copy (result r w x).links) same s.host)
            (λ _. tabled.nodes b hb);
        mail = s.mail;
      }

  -- ---- the beginning

  pub starts_tabled : (w : World) → Starts r w → TabledWorld r w
  unfolding initialize fresh_links
  starts_tabled w start =
      record {
        nodes =
            λ a inside. subst (λ (q : HostAfter). TabledHost (r.settings a) q.walk q.copy q.links) (sym (start.was_initialized a inside)) (fresh a (proper.was_initialized a inside));
        mail = λ m x. absurd (Memᴰ.not-nil (subst (Memᴰ m) start.no_mail x));
      }
    where
      no_count_lem : (ys : List LinkSetting) (n : ℕ) → (get_or (map fresh_link ys) n (fresh_link unset)).keep_alive ≡ 0
      no_count_lem [] n = refl
      no_count_lem (y ∷ ys) zero = refl
      no_count_lem (y ∷ ys) (suc n) = no_count_lem ys n

      fresh : (a : ℕ) → (initialized r a).reply.answer ≡ Done → TabledHost (r.settings a) (initialized r a).walk (initialized r a).copy (initialized r a).links
      fresh a =
          performs (ask Initialize) (state_at r a (r.nets a) (r.clock a) (r.links a) (r.walk a) (r.copy a) (r.entries a))
          (λ (o : Outcome). o.reply.answer ≡ Done → TabledHost (r.settings a) o.walk o.copy o.links) (λ no is. absurd (false≢true (sym no ∙ ap done is)))
          (λ _ _.
          record {
            links = λ j has _ some. absurd (true≢false (sym (ap (λ (n : ℕ). eqb n 0) (no_count_lem (r.settings a).links (j - 1))) ∙ some));
            walk = λ opened. absurd (false≢true opened);
          })
