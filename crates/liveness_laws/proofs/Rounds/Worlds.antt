-- Every call of a round keeps the invariant of the network, because it changes one host and adds at most one message.
use mathlib.Core.Path.{◌≡◌, refl, sym, ap, subst, ◌∙◌}
use mathlib.Core.Bool.{Bool, true, false, cond}
use mathlib.Core.List.Memᴰ
use mathlib.Core.List.{List, ◌∷◌, Memᴰ}
use mathlib.Core.Logic.{◌⊎◌, inl, inr}
use Prim.Native.Nat.{ℕ, suc, ◌+◌, ◌≤◌, ◌<◌}
use native.Mathlib.Omega.{arith}
use borrow.Author.Tests.{eqb-true, eqb-false, eq-eqb, ne_eqb}
use lib.Dec.{T, eqb}
use lib.IntN.{ℤ, ◌+ℤ◌}
use lib.ListN.{get_or}
use Rattle.lists.proofs.Tests.{either}
use Rattle.clock.specs.declared.Counter.{Counter}
use Rattle.table.specs.declared.Entry.{Entry}
use Rattle.table.specs.Entry.{fresh_entry}
use Rattle.net_table.specs.declared.NetTable.{NetTable}
use Rattle.host.specs.declared.Links.{Links}
use Rattle.host.specs.Guard.{done}
use Rattle.host.specs.State.{host_count}
use Rattle.host.specs.CallState.{CallState}
use Rattle.host.specs.Walk.{is_open}
use Rattle.calls.specs.Perform.{act, Outcome, perform}
use Rattle.calls.proofs.Pair.{receive_acts}
use Rattle.network_laws.specs.HostAfter.{message_of}
use Rattle.network_laws.specs.History.{HostAfter, after_outcome, after}
use Rattle.network_laws.specs.Network.{longest_way, Network, state_at, HostAt, Proper}
use Rattle.network_laws.specs.Demand3.{NetworkCall, ticks, seconds, reports, sends, arrives, acts, inspects, opens, steps, adjusts, sets, clocks, looks, Step, Message, World, result, mail_after, step, timed, Later, Delivered, Allowed}
use Rattle.network_laws.proofs.Demand3.Invariant.{RightWorld}
use Rattle.network_laws.proofs.Demand3.Outcomes.{same_packet}
use Rattle.network_laws.proofs.Demand3.Histories as histories
use Rattle.liveness_laws.specs.Numbers.{quick_way, round_seconds}
use Rattle.liveness_laws.specs.Seconds.{counts}
use Rattle.liveness_laws.specs.Rounds.{NotBox1, Speaks, Listens}
use Rattle.liveness_laws.proofs.Rounds.Entry.{hearing}
use Rattle.liveness_laws.proofs.Rounds.Believed.{GoodMail, Sent, Rest, taken, believes}
use Rattle.liveness_laws.proofs.Rounds.Sends.{send_good}
use Rattle.liveness_laws.proofs.Host.State.{Before, After}
use Rattle.liveness_laws.proofs.Host.Calls.{idle_good}
use Rattle.liveness_laws.proofs.Host.Arrivals.{act_good}
use Rattle.liveness_laws.proofs.Host.Walks.{step_good}
use Rattle.liveness_laws.proofs.Host.Flags.{gain, flags, flags_after}
use Rattle.liveness_laws.proofs.Host.Turns.{HostOk, Left, call_state, none_more, tick_left, adjust_left, set_left, clock_left, look_left, inspect_left, open_left, second_left, report_left, after_ok}

-- a call that takes and sends no message, and is no step
abbrev Quiet : NetworkCall → Type 0
Quiet (ticks n) = Unit {0}
Quiet seconds = Unit {0}
Quiet (reports k) = Unit {0}
Quiet (sends i k buffer t) = ⊥
Quiet (arrives i k packet t) = ⊥
Quiet (acts i k packet t) = ⊥
Quiet (inspects i packet) = Unit {0}
Quiet (opens i packet) = Unit {0}
Quiet (steps k t) = ⊥
Quiet (adjusts n) = Unit {0}
Quiet (sets ms n) = Unit {0}
Quiet (clocks κ) = Unit {0}
Quiet (looks d) = Unit {0}

module _ (r : Network) (proper : Proper r) (ways : r.longest ≤ longest_way) (quick : r.longest ≤ quick_way) (c i k : ℕ) (hc : c < r.nodes) (host : HostAt r i c) (few : (b : ℕ) → b < r.nodes → i < host_count (r.settings b)) where
  pub record GoodWorld (speaking : Bool) (m : ℕ) (s : ℕ → ℕ) (heard : ℕ → ℕ → Bool) (w : World) : Type 0 where
    pub nodes : (b : ℕ) → b < r.nodes → HostOk r c i k m b speaking (Sent r c i k b) (s b) (heard b) (w.state (r.number b))
    pub mail : (q : Message) → Memᴰ q w.mail → GoodMail r c i k q

  module _ (speaking : Bool) (m : ℕ) (w : World) (right : RightWorld r w) (b : ℕ) (inside : b < r.nodes) (nets : NetTable) (links : Links) (copy : List ℕ) (entries : List Entry) (s : ℕ) (heard : ℕ → Bool)
      (node : HostOk r c i k m b speaking (Sent r c i k b) s heard (w.state (r.number b))) (mail : (q : Message) → Memᴰ q w.mail → GoodMail r c i k q) (some : 1 ≤ m) where
    abbrev now : HostAfter
    now = w.state (r.number b)

    abbrev e : Entry
    e = get_or now.places i fresh_entry

    abbrev at_node : NetworkCall → Step
    at_node call = record { node = b; nets = nets; links = links; copy = copy; entries = entries; call = call }

    -- what a call has to show
    pub record Turn (call : NetworkCall) : Type 0 where
      pub left : Left r proper c i k m b speaking inside (few b inside) (Sent r c i k b) Rest w nets links copy entries s heard call
      pub post : (q : Message) → Memᴰ q (mail_after b (result r w (at_node call)) call w.mail) → GoodMail r c i k q

    pub state : (call : NetworkCall) → Allowed r w (at_node call) → Before r c i k m b speaking (Sent r c i k b) Rest s heard now.walk copy links entries e
    state = call_state r proper c i k m b speaking inside (few b inside) (Sent r c i k b) Rest w nets links copy entries s heard node tt

    -- a call that takes and sends no message
    pub quiet_turn : (call : NetworkCall) → Allowed r w (at_node call) → s + gain call (result r w (at_node call)) ≤ round_seconds → Quiet call → Turn call
    quiet_turn (ticks n) ok short may = record { left = tick_left r proper c i k m b speaking inside (few b inside) (Sent r c i k b) Rest w nets links copy entries s heard node tt n ok; post = mail }
    quiet_turn seconds ok short may = record { left = second_left r proper c i k m b speaking inside (few b inside) (Sent r c i k b) Rest w nets links copy entries s heard node tt (λ _. tt) ok short; post = mail }
    quiet_turn (reports κ) ok short may =
        record { left = report_left r proper c i k m b speaking inside (few b inside) (Sent r c i k b) Rest w nets links copy entries s heard node tt hc host some (λ _ _. tt) κ ok; post = mail }
    quiet_turn (sends j κ buffer t) ok short may = absurd may
    quiet_turn (arrives j κ packet t) ok short may = absurd may
    quiet_turn (acts j κ packet t) ok short may = absurd may
    quiet_turn (inspects j packet) ok short may = record { left = inspect_left r proper c i k m b speaking inside (few b inside) (Sent r c i k b) Rest w nets links copy entries s heard node tt j packet ok; post = mail }
    quiet_turn (opens j packet) ok short may = record { left = open_left r proper c i k m b speaking inside (few b inside) (Sent r c i k b) Rest w nets links copy entries s heard node tt j packet ok; post = mail }
    quiet_turn (steps κ t) ok short may = absurd may
    quiet_turn (adjusts n) ok short may = record { left = adjust_left r proper c i k m b speaking inside (few b inside) (Sent r c i k b) Rest w nets links copy entries s heard node tt n ok; post = mail }
    quiet_turn (sets ms n) ok short may = record { left = set_left r proper c i k m b speaking inside (few b inside) (Sent r c i k b) Rest w nets links copy entries s heard node tt ms n ok; post = mail }
    quiet_turn (clocks κ) ok short may = record { left = clock_left r proper c i k m b speaking inside (few b inside) (Sent r c i k b) Rest w nets links copy entries s heard node tt κ ok; post = mail }
    quiet_turn (looks d) ok short may = record { left = look_left r proper c i k m b speaking inside (few b inside) (Sent r c i k b) Rest w nets links copy entries s heard node tt d ok; post = mail }

    -- a step without a walk
    pub idle_turn : is_open now.walk ≡ false → (κ : Counter) (t : ℤ) → Allowed r w (at_node (steps κ t)) → Turn (steps κ t)
    idle_turn shut κ t ok =
        record {
          left =
              none_more r proper c i k m b speaking inside (few b inside) (Sent r c i k b) Rest w nets links copy entries s heard node tt
              (idle_good r proper c i k m b speaking (Sent r c i k b) Rest s heard nets now.clock links now.walk copy entries e (state (steps κ t) ok) shut κ).after;
          post = mail;
        }

    pub after_good : (call : NetworkCall) → Allowed r w (at_node call) → Turn call
        → HostOk r c i k m b speaking (Sent r c i k b) (s + gain call (result r w (at_node call))) (flags r c b now.walk call (result r w (at_node call)) heard) (after_outcome (r.number b) now.places (result r w (at_node call)))
    after_good call ok t = after_ok r proper c i k m b speaking inside (few b inside) (Sent r c i k b) Rest w nets links copy entries s heard node tt call ok t.left

  -- ---- speaking

  module _ (m : ℕ) (w : World) (right : RightWorld r w) (b : ℕ) (inside : b < r.nodes) (nets : NetTable) (links : Links) (copy : List ℕ) (entries : List Entry) (s : ℕ) (heard : ℕ → Bool)
      (node : HostOk r c i k m b true (Sent r c i k b) s heard (w.state (r.number b))) (mail : (q : Message) → Memᴰ q w.mail → GoodMail r c i k q) (some : 1 ≤ m) (speaks : (k ≡ 0) ⊎ (m ≤ k)) where
    abbrev at_s : NetworkCall → Step
    at_s call = record { node = b; nets = nets; links = links; copy = copy; entries = entries; call = call }

    abbrev TurnS : NetworkCall → Type 0
    TurnS call = Turn true m w right b inside nets links copy entries s heard node mail some call

    quiet_s : (call : NetworkCall) → Allowed r w (at_s call) → s + gain call (result r w (at_s call)) ≤ round_seconds → Quiet call → TurnS call
    quiet_s = quiet_turn true m w right b inside nets links copy entries s heard node mail some

    send_turn : (j : ℕ) (κ : Counter) (buffer : List ℕ) (t : ℤ) → Allowed r w (at_s (sends j κ buffer t)) → TurnS (sends j κ buffer t)
    send_turn j κ buffer t ok =
        let sent =
        send_good r proper c i k m b s heard (Sent r c i k b) Rest inside (few b inside) speaks nets (w.state (r.number b)).clock links (w.state (r.number b)).walk copy entries
        (get_or (w.state (r.number b)).places i fresh_entry) (state true m w right b inside nets links copy entries s heard node mail some (sends j κ buffer t) ok) j κ buffer in
        record {
          left = none_more r proper c i k m b true inside (few b inside) (Sent r c i k b) Rest w nets links copy entries s heard node tt sent.left;
          post = posted (λ e. record { says = (sent.message e).says }) (done o.reply.answer) refl;
        }
      where
        o : Outcome
        o = result r w (at_s (sends j κ buffer t))

        letter : Message
        letter = record { node = b; link = j; ms = t; octets = message_of o }

        posted : (done o.reply.answer ≡ true → GoodMail r c i k letter) → (d : Bool) → done o.reply.answer ≡ d → (q : Message) → Memᴰ q (cond d (letter ∷ w.mail) w.mail) → GoodMail r c i k q
        posted says false e q y = mail q y
        posted says true e q y = one (Memᴰ.cases_cons y)
          where
            one : (q ≡ letter) ⊎ Memᴰ q w.mail → GoodMail r c i k q
            one (inl z) = subst (GoodMail r c i k) (sym z) (says e)
            one (inr z) = mail q z

    -- an open walk is before box 1
    step_turn : (κ : Counter) (t : ℤ) → Allowed r w (at_s (steps κ t)) → NotBox1 r w b → TurnS (steps κ t)
    step_turn κ t ok other = go (is_open (w.state (r.number b)).walk) refl
      where
        go : (d : Bool) → is_open (w.state (r.number b)).walk ≡ d → TurnS (steps κ t)
        go true opened = absurd (other opened (node.waits refl opened))
        go false shut = idle_turn true m w right b inside nets links copy entries s heard node mail some shut κ t ok

    pub speak_turn : (call : NetworkCall) → Allowed r w (at_s call) → Speaks r w b call → s + gain call (result r w (at_s call)) ≤ round_seconds → TurnS call
    speak_turn (ticks n) ok may short = quiet_s (ticks n) ok short tt
    speak_turn seconds ok may short = quiet_s seconds ok short tt
    speak_turn (reports κ) ok may short = quiet_s (reports κ) ok short tt
    speak_turn (sends j κ buffer t) ok may short = send_turn j κ buffer t ok
    speak_turn (arrives j κ packet t) ok may short = absurd may
    speak_turn (acts j κ packet t) ok may short = absurd may
    speak_turn (inspects j packet) ok may short = quiet_s (inspects j packet) ok short tt
    speak_turn (opens j packet) ok may short = quiet_s (opens j packet) ok short tt
    speak_turn (steps κ t) ok may short = step_turn κ t ok may
    speak_turn (adjusts n) ok may short = quiet_s (adjusts n) ok short tt
    speak_turn (sets ms n) ok may short = quiet_s (sets ms n) ok short tt
    speak_turn (clocks κ) ok may short = quiet_s (clocks κ) ok short tt
    speak_turn (looks d) ok may short = quiet_s (looks d) ok short tt

  -- ---- listening

  module _ (w : World) (right : RightWorld r w) (b : ℕ) (inside : b < r.nodes) (nets : NetTable) (links : Links) (copy : List ℕ) (entries : List Entry) (s : ℕ) (heard : ℕ → Bool)
      (node : HostOk r c i k (suc k) b false (Sent r c i k b) s heard (w.state (r.number b))) (mail : (q : Message) → Memᴰ q w.mail → GoodMail r c i k q) where
    abbrev here : HostAfter
    here = w.state (r.number b)

    abbrev ours : Entry
    ours = get_or here.places i fresh_entry

    abbrev at_l : NetworkCall → Step
    at_l call = record { node = b; nets = nets; links = links; copy = copy; entries = entries; call = call }

    pub some_l : 1 ≤ suc k
    some_l = omega arith

    abbrev TurnL : NetworkCall → Type 0
    TurnL call = Turn false (suc k) w right b inside nets links copy entries s heard node mail some_l call

    quiet_l : (call : NetworkCall) → Allowed r w (at_l call) → s + gain call (result r w (at_l call)) ≤ round_seconds → Quiet call → TurnL call
    quiet_l = quiet_turn false (suc k) w right b inside nets links copy entries s heard node mail some_l

    state_l : (call : NetworkCall) → Allowed r w (at_l call) → Before r c i k (suc k) b false (Sent r c i k b) Rest s heard here.walk copy links entries ours
    state_l = state false (suc k) w right b inside nets links copy entries s heard node mail some_l

    acts_turn : (j : ℕ) (κ : Counter) (packet : List ℕ) (t : ℤ) → Allowed r w (at_l (acts j κ packet t)) → TurnL (acts j κ packet t)
    acts_turn j κ packet t ok =
        record {
          left =
              none_more r proper c i k (suc k) b false inside (few b inside) (Sent r c i k b) Rest w nets links copy entries s heard node tt
              (subst (λ (o : List ℕ). After r c i k (suc k) b false (Sent r c i k b) Rest s (cond (done (perform (act j κ o) x).reply.answer) (hearing r c b j heard) heard) entries (perform (act j κ o) x).walk (perform (act j κ o) x).copy (perform (act j κ o) x).links (perform (act j κ o) x).entries) (sym d.a_copy)
              (act_good r proper quick c i k (suc k) b (Sent r c i k b) Rest s heard nets here.clock links here.walk copy entries ours (state_l (acts j κ packet t) ok)
              j d.message d.other_end (right.mail d.message d.earlier) (taken r proper c i k b ours j d.message d.other_end (mail d.message d.earlier)) (believes r proper c i k b s heard ours node.mine) κ
              (λ e.
              let later = subst (λ (o : List ℕ). T (timed (result r w (at_l (acts j κ o t))).reply.answer) → Later r w b κ t d.message) d.a_copy d.in_time e in
              record { way = later.way; short = later.short; clock = later.reads.clock ∙ ap (λ (z : ℤ). z +ℤ r.fixed b) later.later })));
          post = mail;
        }
      where
        x : CallState
        x = state_at r b nets here.clock links here.walk copy entries

        d : Delivered r w b j κ packet t (result r w (at_l (acts j κ packet t))).reply.answer
        d = ok.timely

    arrives_turn : (j : ℕ) (κ : Counter) (packet : List ℕ) (t : ℤ) → Allowed r w (at_l (arrives j κ packet t)) → TurnL (arrives j κ packet t)
    arrives_turn j κ packet t ok =
        let x = state_at r b nets here.clock links here.walk copy entries in
        let same = receive_acts j κ packet x in
        let a =
        acts_turn j κ packet t
        record { node_in = ok.node_in; continues = ok.continues; timely = subst (λ (o : Outcome). Delivered r w b j κ packet t o.reply.answer) same ok.timely } in
        record {
          left =
              subst (λ (o : Outcome). After r c i k (suc k) b false (Sent r c i k b) Rest (s + 0) (cond (done o.reply.answer) (hearing r c b j heard) heard) entries o.walk o.copy o.links o.entries) (sym same) a.left;
          post = mail;
        }

    box_turn : (κ : Counter) (t : ℤ) → Allowed r w (at_l (steps κ t)) → TurnL (steps κ t)
    box_turn κ t ok =
        record {
          left =
              none_more r proper c i k (suc k) b false inside (few b inside) (Sent r c i k b) Rest w nets links copy entries s heard node tt
              (step_good r proper quick c i k (suc k) b (Sent r c i k b) Rest s heard (few b inside) nets here.clock links here.walk copy entries ours (state_l (steps κ t) ok)
              (believes r proper c i k b s heard ours node.mine) (histories.call_state r proper ways w right b inside nets links copy entries (steps κ t) ok).walk κ
              (λ opened first.
              let d = ok.timely opened first in
              subst (Sent r c i k b ours here.walk.link) (sym (same_packet r b here nets here.clock links copy entries ok.continues opened ∙ d.a_copy))
              (taken r proper c i k b ours here.walk.link d.message d.other_end (mail d.message d.earlier))));
          post = mail;
        }

    pub listen_turn : (call : NetworkCall) → Allowed r w (at_l call) → Listens call → s + gain call (result r w (at_l call)) ≤ round_seconds → TurnL call
    listen_turn (ticks n) ok may short = quiet_l (ticks n) ok short tt
    listen_turn seconds ok may short = quiet_l seconds ok short tt
    listen_turn (reports κ) ok may short = quiet_l (reports κ) ok short tt
    listen_turn (sends j κ buffer t) ok may short = absurd may
    listen_turn (arrives j κ packet t) ok may short = arrives_turn j κ packet t ok
    listen_turn (acts j κ packet t) ok may short = acts_turn j κ packet t ok
    listen_turn (inspects j packet) ok may short = quiet_l (inspects j packet) ok short tt
    listen_turn (opens j packet) ok may short = quiet_l (opens j packet) ok short tt
    listen_turn (steps κ t) ok may short = box_turn κ t ok
    listen_turn (adjusts n) ok may short = quiet_l (adjusts n) ok short tt
    listen_turn (sets ms n) ok may short = quiet_l (sets ms n) ok short tt
    listen_turn (clocks κ) ok may short = quiet_l (clocks κ) ok short tt
    listen_turn (looks d) ok may short = quiet_l (looks d) ok short tt

  -- ---- the world

  pub world_good : (speaking : Bool) (m : ℕ) (some : 1 ≤ m) (s : ℕ → ℕ) (heard : ℕ → ℕ → Bool) (w : World) (right : RightWorld r w) (x : Step) (ok : Allowed r w x) (good : GoodWorld speaking m s heard w)
      → Turn speaking m w right x.node ok.node_in x.nets x.links x.copy x.entries (s x.node) (heard x.node) (good.nodes x.node ok.node_in) good.mail some x.call
      → GoodWorld speaking m (λ b. s b + counts r w b x) (flags_after r c w x heard) (step r w x)
  unfolding step after flags_after
  world_good speaking m some s heard w right x ok good turn = record { nodes = nodes; mail = turn.post }
    where
      a : ℕ
      a = x.node

      own : HostOk r c i k m a speaking (Sent r c i k a) (s a + counts r w a x) (flags_after r c w x heard a) (after_outcome (r.number a) (w.state (r.number a)).places (result r w x))
      own = rw (eq-eqb a a refl) (after_good speaking m w right a ok.node_in x.nets x.links x.copy x.entries (s a) (heard a) (good.nodes a ok.node_in) good.mail some x.call ok turn)

      nodes : (b : ℕ) → b < r.nodes → HostOk r c i k m b speaking (Sent r c i k b) (s b + counts r w b x) (flags_after r c w x heard b) ((step r w x).state (r.number b))
      nodes b hb =
          either (HostOk r c i k m b speaking (Sent r c i k b) (s b + counts r w b x) (flags_after r c w x heard b)) (eqb (r.number b) (r.number a)) _ _
          (λ e.
          let same : a ≡ b = proper.numbers_differ a b ok.node_in hb (sym (eqb-true (r.number b) (r.number a) e)) in
          subst (λ (d : ℕ). HostOk r c i k m d speaking (Sent r c i k d) (s d + counts r w d x) (flags_after r c w x heard d) (after_outcome (r.number a) (w.state (r.number a)).places (result r w x))) same own)
          (λ e.
          let other : eqb a b ≡ false = ne_eqb a b (λ z. eqb-false (r.number b) (r.number a) e (ap r.number (sym z))) in
          let none : counts r w b x ≡ 0 = rw other in
          let z : s b + counts r w b x ≡ s b = omega arith in
          rw (z, other) (good.nodes b hb))
