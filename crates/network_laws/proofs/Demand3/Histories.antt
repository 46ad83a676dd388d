-- Every call keeps the world right, so every list does, and the claim is a part of that.
use mathlib.Core.Path.{◌≡◌, refl, sym, ap, subst, ◌∙◌}
use mathlib.Core.Bool.{Bool, true, false, cond, true≢false, false≢true}
use mathlib.Core.List.Memᴰ
use mathlib.Core.List.{List, [], ◌∷◌, Memᴰ}
use mathlib.Core.Logic.{◌⊎◌, inl, inr}
use Prim.Native.Nat.{ℕ, ◌≤◌, ◌<◌}
use native.Mathlib.Omega.{arith}
use borrow.Author.Tests.{eqb-true}
use lib.Dec.{T, eqb}
use lib.IntN.{ℤ, ◌+ℤ◌}
use lib.ListN.{get_or, take}
use lib.Seq.{get_or-take, take-nil}
use Rattle.std.proofs.Common.{Some}
use Rattle.lists.proofs.Tests.{either}
use Rattle.answer.specs.declared.Answer.TheVariants.{Done}
use Rattle.clock.specs.declared.Counter.{Counter}
use Rattle.table.specs.declared.Entry.{Entry}
use Rattle.table.specs.Entry.{fresh_entry}
use Rattle.net_table.specs.declared.NetTable.{NetTable}
use Rattle.host.specs.declared.Links.{Links}
use Rattle.host.specs.declared.guard.Scope.TheVariants.{OnLink}
use Rattle.host.specs.declared.walk.Walk.{Walk}
use Rattle.host.specs.declared.walk.Place.TheVariants.{Step1}
use Rattle.host.specs.State.{host_count}
use Rattle.host.specs.Walk.{is_open, no_walk, place_of, packet_of}
use Rattle.host.specs.Guard.{in_walk, done}
use Rattle.host.proofs.Guarded.{passed}
use Rattle.host.proofs.Sound.{Sound, sound}
use Rattle.arrival.specs.Arrival.{inspection}
use Rattle.arrival.specs.declared.Delivery.{Delivery}
use Rattle.arrival.specs.declared.Delivery.TheVariants.{Inspect, Act, Receive}
use Rattle.calls.specs.declared.Request.{Request}
use Rattle.calls.specs.declared.Request.TheVariants as variants
use Rattle.calls.specs.declared.Request.TheVariants.{Initialize, Tick, Adjust, Set, Read, Lookup, Second, SelfReport}
use Rattle.calls.specs.Effects.{initialize}
use Rattle.calls.specs.Perform.{ask, send, deliver, inspect, Outcome, scope_of_call}
use Rattle.calls.proofs.Pair.{receive_acts}
use Rattle.network_laws.specs.HostAfter.{message_of}
use Rattle.network_laws.specs.Frame.{Elsewhere}
use Rattle.network_laws.specs.History.{HostAfter, after_outcome, after}
use Rattle.network_laws.specs.Network.{longest_way, Network, state_at, initialized, Proper}
use Rattle.network_laws.proofs.Performs.{performs, there}
use Rattle.network_laws.specs.Demand3.{NetworkCall, ticks, seconds, reports, sends, arrives, acts, inspects, opens, steps, adjusts, sets, clocks, looks, call_of, Step, Message, World, reading_at, result, mail_after, step, history, timed, Later, Delivered, Allowed, Allows, Starts, Claim, AllCallsWithin, Demand3AllCalls, Demand3Within, Demand3}
use Rattle.network_laws.proofs.Lists.{All, all_at}
use Rattle.network_laws.proofs.Demand3.Near.{near_close}
use Rattle.network_laws.proofs.Demand3.Invariant.{RightEntry, RightMessage, Taken, RightWalk, RightNode, RightWorld}
use Rattle.network_laws.proofs.Demand3.Outcomes.{RightOutcome, RightState, NodeState, NodeAfter, same_right, updated_right, same_packet, state_right, after_right, any_walk, no_walk_lem, plain_right}
use Rattle.network_laws.proofs.Demand3.Nodes.{fresh_right, initialized_right, tick_right, adjust_right, set_right, clock_right, look_right, second_right, self_right, set_good}
use Rattle.network_laws.proofs.Demand3.Sending.{send_right}
use Rattle.network_laws.proofs.Demand3.Arrival.{act_right}
use Rattle.network_laws.proofs.Demand3.Walks.{open_right, step_right}

-- an equation of two calls that differ
pub unlike : {A : Type 0} → ◌≡◌ {A = ℕ} 0 1 → A
unlike z = absurd (omega arith)

module _ (r : Network) (proper : Proper r) (ways : r.longest ≤ longest_way) where
  -- ---- one call

  -- afterwards the node is right, and so is the mail
  pub record StepRight (w : World) (x : Step) : Type 0 where
    pub node : NodeAfter r x.node x.entries (result r w x)
    pub mail : (m : Message) → Memᴰ m (mail_after x.node (result r w x) x.call w.mail) → RightMessage r m

  -- the mail with one message more, if it was sent
  post : (new : Message) (mail : List Message) (sent : Bool) → (sent ≡ true → RightMessage r new) → ((m : Message) → Memᴰ m mail → RightMessage r m)
      → (m : Message) → Memᴰ m (cond sent (new ∷ mail) mail) → RightMessage r m
  post new mail false here old m x = old m x
  post new mail true here old m x = go (Memᴰ.cases_cons x)
    where
      go : (m ≡ new) ⊎ Memᴰ m mail → RightMessage r m
      go (inl e) = subst (RightMessage r) (sym e) (here refl)
      go (inr y) = old m y

  module _ (w : World) (right : RightWorld r w) (a : ℕ) (inside : a < r.nodes) (nets : NetTable) (links : Links) (copy : List ℕ) (entries : List Entry) where
    abbrev now : HostAfter
    now = w.state (r.number a)

    abbrev at_node : NetworkCall → Step
    at_node call = record { node = a; nets = nets; links = links; copy = copy; entries = entries; call = call }

    pub call_state : (call : NetworkCall) → Allowed r w (at_node call) → NodeState r a now.walk copy links entries
    call_state call ok = state_right r a proper now nets now.clock links copy entries ok.continues (right.nodes a inside)

    -- a call that changes no walk
    plain : (call : NetworkCall) → Allowed r w (at_node call) → Elsewhere (call_of call) → ((v : Walk) → in_walk (scope_of_call (call_of call)) v ≡ is_open v)
        → (RightState r a links entries → RightOutcome r a entries (result r w (at_node call))) → NodeAfter r a entries (result r w (at_node call))
    plain call ok else refuses by_itself = plain_right r a nets now.clock links now.walk copy entries (call_state call ok) (call_of call) else refuses by_itself

    acts_right : (i : ℕ) (k : Counter) (packet : List ℕ) (t : ℤ) → Allowed r w (at_node (acts i k packet t)) → RightState r a links entries
        → RightOutcome r a entries (result r w (at_node (acts i k packet t)))
    acts_right i k packet t ok call_state =
        let d = ok.timely in
        subst (λ (o : List ℕ). RightOutcome r a entries (result r w (at_node (acts i k o t)))) (sym d.a_copy)
        (act_right r proper ways a i inside d.message d.other_end (right.mail d.message d.earlier) nets now.clock links now.walk copy entries
        call_state k
        (λ e.
        let later = subst (λ (o : List ℕ). T (timed (result r w (at_node (acts i k o t))).reply.answer) → Later r w a k t d.message) d.a_copy d.in_time e in
        record { way = later.way; short = later.short; clock = later.reads.clock ∙ ap (λ (z : ℤ). z +ℤ r.fixed a) later.later }))

    arrives_right : (i : ℕ) (k : Counter) (packet : List ℕ) (t : ℤ) → Allowed r w (at_node (arrives i k packet t)) → RightState r a links entries
        → RightOutcome r a entries (result r w (at_node (arrives i k packet t)))
    arrives_right i k packet t ok call_state =
        let same = receive_acts i k packet (state_at r a nets now.clock links now.walk copy entries) in
        subst (RightOutcome r a entries) (sym same)
        (acts_right i k packet t
        record {
          node_in = ok.node_in;
          continues = ok.continues;
          timely = subst (λ (o : Outcome). Delivered r w a i k packet t o.reply.answer) same ok.timely;
        }
        call_state)

    inspects_right : (i : ℕ) (packet : List ℕ) → RightState r a links entries → RightOutcome r a entries (result r w (at_node (inspects i packet)))
    inspects_right i packet right =
        let x = state_at r a nets now.clock links now.walk copy entries in
        performs (inspect i packet) x (RightOutcome r a entries) (λ _. same_right r a links entries right)
        (λ e.
        updated_right r a nets now.clock links now.walk copy entries right (there (inspect i packet) x e) (inspection i packet x.host) packet right.links
        (λ id d y low high inside h. absurd (omega arith)))

    -- no initialize, no opening and no step
    pub a_request : (q : Request) → (q ≡ Initialize → ⊥) → ((k : Counter) → q ≡ variants.Step k → ⊥) → Elsewhere (ask q)
    a_request q fresh stepping = record { not_initialize = λ e. fresh cc; not_opening = λ i packet e. unlike cc; not_step = λ k e. stepping k cc }

    pub a_send_lem : (i : ℕ) (k : Counter) (buffer : List ℕ) → Elsewhere (send i k buffer)
    a_send_lem i k buffer = record { not_initialize = λ e. unlike cc; not_opening = λ j packet e. unlike cc; not_step = λ j e. unlike cc }

    pub a_delivery : (d : Delivery) (packet : List ℕ) → Elsewhere (deliver d packet)
    a_delivery d packet = record { not_initialize = λ e. unlike cc; not_opening = λ j p e. unlike cc; not_step = λ j e. unlike cc }

    -- box 1 is taken as an arrival
    in_time : (k : Counter) (t : ℤ) (ok : Allowed r w (at_node (steps k t))) → T (timed (result r w (at_node (steps k t))).reply.answer) → is_open now.walk ≡ true → place_of now.walk ≡ Some Step1
        → Taken r a now.walk.link (reading_at r a now.clock k).time (packet_of now.walk copy)
    in_time k t ok timed-answer opened first =
        let d = ok.timely opened first in
        let later = d.in_time timed-answer in
        record {
          message = d.message;
          right = right.mail d.message d.earlier;
          cable = d.other_end;
          octets_are = same_packet r a now nets now.clock links copy entries ok.continues opened ∙ d.a_copy;
          way = later.way;
          short = later.short;
          clock = later.reads.clock ∙ ap (λ (z : ℤ). z +ℤ r.fixed a) later.later;
        }

    call_right : (call : NetworkCall) → Allowed r w (at_node call) → StepRight w (at_node call)
    call_right (ticks n) ok =
        record {
          node = plain (ticks n) ok (a_request (Tick n) (λ e. unlike cc) (λ k e. unlike cc)) (λ v. refl) (λ call_state. tick_right r a nets now.clock links now.walk copy entries call_state n);
          mail = right.mail;
        }
    call_right seconds ok =
        record {
          node = plain seconds ok (a_request Second (λ e. unlike cc) (λ k e. unlike cc)) (λ v. refl) (λ call_state. second_right r a nets now.clock links now.walk copy entries call_state);
          mail = right.mail;
        }
    call_right (reports k) ok =
        record {
          node = plain (reports k) ok (a_request (SelfReport k) (λ e. unlike cc) (λ j e. unlike cc)) (λ v. refl) (λ call_state. self_right r a nets now.clock links now.walk copy entries call_state inside k);
          mail = right.mail;
        }
    call_right (sends i k buffer t) ok =
        record {
          node = plain (sends i k buffer t) ok (a_send_lem i k buffer) (λ v. refl) (λ call_state. (send_right r a i inside nets now.clock links now.walk copy entries call_state k buffer t (λ e. (let q = ok.timely e in (q.clock, q.no_midnight)))).node);
          mail = post _ w.mail _ (sent i k buffer t ok (is_open now.walk) refl) right.mail;
        }
      where
        sent : (i : ℕ) (k : Counter) (buffer : List ℕ) (t : ℤ) (ok : Allowed r w (at_node (sends i k buffer t))) (b : Bool) → is_open now.walk ≡ b
            → done (result r w (at_node (sends i k buffer t))).reply.answer ≡ true
            → RightMessage r record { node = a; link = i; ms = t; octets = message_of (result r w (at_node (sends i k buffer t))) }
        sent i k buffer t ok false e =
            let l = call_state (sends i k buffer t) ok in
            (send_right r a i inside nets now.clock links now.walk copy entries record { links = no_walk_lem r a now.walk links.all e l.links; table = l.table } k buffer t
            (λ z. (let q = ok.timely z in (q.clock, q.no_midnight)))).message
        sent i k buffer t ok true e =
            performs (send i k buffer) (state_at r a nets now.clock links now.walk copy entries)
            (λ o. done o.reply.answer ≡ true → RightMessage r record { node = a; link = i; ms = t; octets = message_of o })
            (λ no is. absurd (false≢true (sym no ∙ is))) (λ yes. absurd (true≢false (sym e ∙ (passed (OnLink i) (state_at r a nets now.clock links now.walk copy entries) yes).closed)))
    call_right (arrives i k packet t) ok =
        record { node = plain (arrives i k packet t) ok (a_delivery (Receive i k) packet) (λ v. refl) (arrives_right i k packet t ok); mail = right.mail }
    call_right (acts i k packet t) ok =
        record { node = plain (acts i k packet t) ok (a_delivery (Act i k) packet) (λ v. refl) (acts_right i k packet t ok); mail = right.mail }
    call_right (inspects i packet) ok =
        record { node = plain (inspects i packet) ok (a_delivery (Inspect i) packet) (λ v. refl) (inspects_right i packet); mail = right.mail }
    call_right (opens i packet) ok =
        record { node = open_right r proper ways a inside nets now.clock links now.walk copy entries (call_state (opens i packet) ok) i packet; mail = right.mail }
    call_right (steps k t) ok =
        record { node = step_right r proper ways a inside nets now.clock links now.walk copy entries (call_state (steps k t) ok) k (in_time k t ok); mail = right.mail }
    call_right (adjusts n) ok =
        record {
          node = plain (adjusts n) ok (a_request (Adjust n) (λ e. unlike cc) (λ j e. unlike cc)) (λ v. refl) (λ call_state. adjust_right r a nets now.clock links now.walk copy entries call_state n);
          mail = right.mail;
        }
    call_right (sets ms n) ok =
        record {
          node = plain (sets ms n) ok (a_request (Set ms n) (λ e. unlike cc) (λ j e. unlike cc)) (λ v. refl) (λ call_state. set_right r a nets now.clock links now.walk copy entries call_state ms n);
          mail = right.mail;
        }
    call_right (clocks k) ok =
        record {
          node = plain (clocks k) ok (a_request (Read k) (λ e. unlike cc) (λ j e. unlike cc)) (λ v. refl) (λ call_state. clock_right r a nets now.clock links now.walk copy entries call_state k);
          mail = right.mail;
        }
    call_right (looks d) ok =
        record {
          node = plain (looks d) ok (a_request (Lookup d) (λ e. unlike cc) (λ j e. unlike cc)) (λ v. refl) (λ call_state. look_right r a nets now.clock links now.walk copy entries call_state d);
          mail = right.mail;
        }

  pub world_right : (w : World) (x : Step) → Allowed r w x → RightWorld r w → RightWorld r (step r w x)
  unfolding step after
  world_right w x ok right =
      let s = call_right w right x.node ok.node_in x.nets x.links x.copy x.entries x.call ok in
      record {
        nodes =
            λ b hb.
            either (RightNode r b) (eqb (r.number b) (r.number x.node)) _ _
            (λ e.
            let same : x.node ≡ b = proper.numbers_differ x.node b ok.node_in hb (sym (eqb-true (r.number b) (r.number x.node) e)) in
            subst (λ (c : ℕ). RightNode r c (after_outcome (r.number x.node) (w.state (r.number x.node)).places (result r w x))) same
            (after_right r x.node (w.state (r.number x.node)) x.entries (result r w x) (right.nodes x.node ok.node_in) s.node))
            (λ e. right.nodes b hb);
        mail = s.mail;
      }

  -- ---- the complete list

  pub history_right : (w : World) (xs : List Step) → Allows r w xs → RightWorld r w → RightWorld r (history r w xs)
  unfolding Allows history
  history_right w [] ok right = right
  history_right w (x ∷ xs) ok right = history_right (step r w x) xs ok.1 (world_right w x ok.0 right)

  -- the beginning
  pub starts_right : (w : World) → Starts r w → RightWorld r w
  unfolding initialize
  starts_right w start =
      record {
        nodes = λ a inside. subst (RightNode r a) (sym (start.was_initialized a inside)) (initialized_node a (proper.was_initialized a inside));
        mail = λ m x. absurd (Memᴰ.not-nil (subst (Memᴰ m) start.no_mail x));
      }
    where
      -- no walk is open
      initialized_walk : (a : ℕ) → (initialized r a).reply.answer ≡ Done → (initialized r a).walk ≡ no_walk
      initialized_walk a =
          performs (ask Initialize) (state_at r a (r.nets a) (r.clock a) (r.links a) (r.walk a) (r.copy a) (r.entries a))
          (λ (o : Outcome). o.reply.answer ≡ Done → o.walk ≡ no_walk) (λ no is. absurd (false≢true (sym no ∙ ap done is))) (λ _ _. refl)

      initialized_node : (a : ℕ) → (initialized r a).reply.answer ≡ Done → RightNode r a (after_outcome (r.number a) [] (initialized r a))
      initialized_node a done =
          let o = initialized_right r a done in
          let shut : is_open (initialized r a).walk ≡ false = ap is_open (initialized_walk a done) in
          let links = any_walk r a (initialized r a).walk (initialized r a).links.all o.links in
          let walk : RightWalk r a (initialized r a).walk (initialized r a).copy (initialized r a).links = λ opened. absurd (true≢false (sym opened ∙ shut)) in
          after_right r a record { clock = (initialized r a).clock; links = (initialized r a).links; walk = (initialized r a).walk; copy = (initialized r a).copy; places = [] } (r.entries a) (initialized r a)
          record { links = links; walk = walk; table = subst (All (RightEntry r a)) (sym (take-nil (host_count (r.settings a)))) tt }
          record { links = links; walk = walk; table = o.table; same_length = o.same_length }

  -- ---- the claim

  pub right_claim : (w : World) → RightWorld r w → Claim r w
  unfolding Claim
  right_claim w right b i hb hi up =
      let few : i < host_count (r.settings b) = omega (arith, (good b hb).hosts_to) in
      let same : get_or (take (host_count (r.settings b)) (places b)) i fresh_entry ≡ get_or (places b) i fresh_entry = get_or-take (host_count (r.settings b)) (places b) i fresh_entry few in
      let e : RightEntry r b i (get_or (places b) i fresh_entry) = rw same at (all_at (RightEntry r b) fresh_entry (fresh_right r b) (take (host_count (r.settings b)) (places b)) (right.nodes b hb).table i) in
      let k = e.known up in
      record { node = k.node; node_in = k.node_in; host_there = k.host_there; close = near_close _ (r.fixed k.node) (r.fixed b) _ k.near }
    where
      places : ℕ → List Entry
      places a = (w.state (r.number a)).places

      good : (a : ℕ) → a < r.nodes → Sound (r.settings a)
      good a inside = sound (r.settings a) (set_good r a (proper.was_initialized a inside))

pub all_calls : Demand3AllCalls
unfolding AllCallsWithin
all_calls r proper ways w start xs ok =
    right_claim r proper ways (history r w xs) (history_right r proper ways w xs ok (starts_right r proper ways w start))

-- the calls that demand 3 names are some of all calls
pub demand_3 : Demand3
unfolding Demand3Within AllCallsWithin
demand_3 r proper ways w start xs named ok = all_calls r proper ways w start xs ok
