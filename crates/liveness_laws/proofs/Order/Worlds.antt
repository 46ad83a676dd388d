-- Every call of a round in any order keeps the invariant of the network, because it changes one host and adds at most one message.
use mathlib.Core.Path.{◌≡◌, refl, sym, ap, subst, subst₂, ◌∙◌}
use mathlib.Core.Bool.{Bool, true, false, cond, ◌&&◌}
use mathlib.Core.List.{List, ◌∷◌}
use mathlib.Core.Logic.{inl, inr}
use Prim.Native.Nat.{ℕ, ◌+◌, ◌≤◌, ◌<◌}
use native.Mathlib.Omega.{arith}
use borrow.Author.Tests.{eqb-true, eqb-false, eq-eqb, ne_eqb}
use lib.Dec.{T, eqb}
use lib.IntN.{ℤ, ◌+ℤ◌}
use lib.ListN.{get_or}
use Rattle.std.proofs.Common.{Some}
use Rattle.lists.proofs.Tests.{either, both}
use Rattle.quantity.specs.declared.Millis.{Millis}
use Rattle.quantity.proofs.Ints.{up}
use Rattle.clock.specs.declared.Counter.{Counter}
use Rattle.table.specs.declared.Entry.{Entry}
use Rattle.table.specs.Entry.{fresh_entry, aged}
use Rattle.table.specs.Entry as entry
use Rattle.table.specs.Update.{lines, left, own_update}
use Rattle.net_table.specs.declared.NetTable.{NetTable}
use Rattle.host.specs.declared.Links.{Links}
use Rattle.host.specs.declared.walk.Place.TheVariants.{Step1}
use Rattle.host.specs.Guard.{done}
use Rattle.host.specs.State.{host_count}
use Rattle.host.specs.CallState.{CallState}
use Rattle.host.specs.Walk.{is_open, place_of, packet_of}
use Rattle.host.proofs.Guarded.{counted}
use Rattle.calls.specs.Perform.{act, Outcome, perform}
use Rattle.calls.proofs.Pair.{receive_acts}
use Rattle.network_laws.specs.HostAfter.{message_of}
use Rattle.network_laws.specs.History.{HostAfter, after_outcome, after}
use Rattle.network_laws.specs.Network.{longest_way, Network, at, state_at, HostAt, Proper}
use Rattle.network_laws.specs.Demand3.{NetworkCall, ticks, seconds, reports, sends, arrives, acts, inspects, opens, steps, adjusts, sets, clocks, looks, Step, Message, World, result, mail_after, step, timed, Later, Delivered, Allowed, entry_of}
use Rattle.network_laws.proofs.Demand3.Invariant.{RightWorld}
use Rattle.network_laws.proofs.Demand3.Outcomes.{same_packet}
use Rattle.network_laws.proofs.Demand3.Histories as histories
use Rattle.liveness_laws.specs.Numbers.{rise, quick_way, round_seconds}
use Rattle.liveness_laws.specs.Seconds.{counts}
use Rattle.liveness_laws.specs.Order.{Stands, Next, Fresh, came, last_after}
use Rattle.liveness_laws.proofs.Lines.{any_hops}
use Rattle.liveness_laws.proofs.Measured.{returned, Worded}
use Rattle.liveness_laws.proofs.Rounds.Heard.{mine_reported}
use Rattle.liveness_laws.proofs.Rounds.Entry.{hearing}
use Rattle.liveness_laws.proofs.Host.State.{Believes, Before, After}
use Rattle.liveness_laws.proofs.Host.Arrivals.{act_good}
use Rattle.liveness_laws.proofs.Host.Walks.{step_good}
use Rattle.liveness_laws.proofs.Host.Flags.{gain, flags, flags_after}
use Rattle.liveness_laws.proofs.Host.Turns.{HostOk, host_moves, Left, call_state, none_more, tick_left, adjust_left, set_left, clock_left, look_left, inspect_left, open_left, second_left, report_left, after_good, after_ok}
use Rattle.liveness_laws.proofs.Order.Entry.{Better, better_same}
use Rattle.liveness_laws.proofs.Order.Cables.{Web, Arrow, Letter, Posted, none, one, web_after, same_arrow, aged_better, home_better}
use Rattle.liveness_laws.proofs.Order.Believed.{Sent, Rest, believes}
use Rattle.liveness_laws.proofs.Order.Sends.{send_good}

module _ (r : Network) (proper : Proper r) (ways : r.longest ≤ longest_way) (quick : r.longest ≤ quick_way) (c i k : ℕ) (hc : c < r.nodes) (host : HostAt r i c) (few : (b : ℕ) → b < r.nodes → i < host_count (r.settings b)) where
  abbrev pub table : World → ℕ → Entry
  table w b = entry_of r w b i

  pub record FreeWorld (s : ℕ → ℕ) (heard : ℕ → ℕ → Bool) (last : ℕ → ℕ → ℕ) (w : World) : Type 0 where
    pub nodes : (b : ℕ) → b < r.nodes → HostOk r c i k any_hops b false (Sent r i b w.mail (last b)) (s b) (heard b) (w.state (r.number b))
    pub web : Web r c i k (table w) w.mail last

  from_1 : (b j a l : ℕ) → r.cable b j ≡ at a l → 1 ≤ j
  from_1 b j a l cord = (counted (r.settings b) j (proper.cables b j a l cord).link_in).from_one

  module _ (w : World) (right : RightWorld r w) (b : ℕ) (inside : b < r.nodes) (nets : NetTable) (links : Links) (copy : List ℕ) (entries : List Entry) (sd : ℕ → ℕ) (hd : ℕ → ℕ → Bool) (last : ℕ → ℕ → ℕ) (free : FreeWorld sd hd last w) where
    abbrev now : HostAfter
    now = w.state (r.number b)

    abbrev E : ℕ → Entry
    E = table w

    abbrev s : ℕ
    s = sd b

    abbrev heard : ℕ → Bool
    heard = hd b

    abbrev at_node : NetworkCall → Step
    at_node call = record { node = b; nets = nets; links = links; copy = copy; entries = entries; call = call }

    abbrev SentBy : (ℕ → ℕ → ℕ) → Entry → (link : ℕ) → (octets : List ℕ) → Type 0
    SentBy last' = Sent r i b w.mail (last' b)

    abbrev RestBy : (ℕ → ℕ → ℕ) → Entry → Type 0
    RestBy last' = Rest r c i k E w.mail b (last' b)

    -- what a call has to show
    pub record Turn (call : NetworkCall) (last' : ℕ → ℕ → ℕ) : Type 0 where
      pub grows : (p q : ℕ) → last p q ≤ last' p q
      pub left : Left r proper c i k any_hops b false inside (few b inside) (SentBy last') (RestBy last') w nets links copy entries s heard call
      pub post : Posted r c i k E b w.mail (mail_after b (result r w (at_node call)) call w.mail)

    -- what came before does not come any more
    module _ (last' : ℕ → ℕ → ℕ) (grows : (p q : ℕ) → last p q ≤ last' p q) where
      node_then : HostOk r c i k any_hops b false (SentBy last') s heard now
      node_then =
          host_moves r c i k any_hops b false (SentBy last) (SentBy last')
          (λ e j o sent.
          record {
            letter = sent.letter;
            number = sent.number;
            stands = sent.stands;
            other_end = sent.other_end;
            a_copy = sent.a_copy;
            no_later = omega (arith, sent.no_later, grows b j);
            near = sent.near;
          })
          s heard now (free.nodes b inside)

      rest_then : RestBy last' (E b)
      rest_then =
          record {
            better = better_same (E b);
            arrows = λ j a n cord t at_j. let e = free.web b j a n cord in record { leads = e.leads t at_j; heads = λ m g it late. e.heads t at_j m g it (omega (arith, late, grows b j)) };
          }

      state : (call : NetworkCall) → Allowed r w (at_node call) → Before r c i k any_hops b false (SentBy last') (RestBy last') s heard now.walk copy links entries (E b)
      state = call_state r proper c i k any_hops b false inside (few b inside) (SentBy last') (RestBy last') w nets links copy entries s heard node_then rest_then

    same_last : (p q : ℕ) → last p q ≤ last p q
    same_last p q = omega arith

    abbrev node : HostOk r c i k any_hops b false (SentBy last) s heard now
    node = node_then last same_last

    abbrev rest : RestBy last (E b)
    rest = rest_then last same_last

    -- a call that takes and sends no message
    plain : (call : NetworkCall) → mail_after b (result r w (at_node call)) call w.mail ≡ w.mail → Left r proper c i k any_hops b false inside (few b inside) (SentBy last) (RestBy last) w nets links copy entries s heard call → Turn call last
    plain call same left = record { grows = same_last; left = left; post = subst (Posted r c i k E b w.mail) (sym same) none }

    aged_rest : s < round_seconds → RestBy last (aged (E b))
    aged_rest early =
        let z = aged_better r c b k any_hops s heard (E b) early (free.nodes b inside).mine.steady in
        record {
          better = z.0;
          arrows = λ j a n cord t at_j. same_arrow r c i k E w.mail last free.web b (aged (E b)) (λ t. inl (z.1 t)) j a n (last b j) (omega arith) (from_1 b j a n cord) cord t at_j;
        }

    home_rest : b ≡ c → (t : Millis) → RestBy last (left (lines (own_update t) (E b)))
    home_rest is t =
        let was = (free.nodes b inside).mine in
        let mine = mine_reported r c b k any_hops s heard (E b) was (omega arith) is (from_1 b) t in
        let z = home_better r c b k any_hops s (hearing r c b 0 heard) heard (E b) (left (lines (own_update t) (E b))) was.steady mine.steady (mine.home refl is) in
        record {
          better = z.0;
          arrows = λ j a n cord v at_j. same_arrow r c i k E w.mail last free.web b (left (lines (own_update t) (E b))) (λ _. inr z.1) j a n (last b j) (omega arith) (from_1 b j a n cord) cord v at_j;
        }

    send_turn : (j : ℕ) (κ : Counter) (buffer : List ℕ) (t : ℤ) → Allowed r w (at_node (sends j κ buffer t)) → Turn (sends j κ buffer t) last
    send_turn j κ buffer t ok =
        let sent =
        send_good r proper c i k E w.mail last free.web sd hd (λ d hd-in. (free.nodes d hd-in).mine.steady) b s heard inside (few b inside) nets now.clock links now.walk copy entries
        (state last same_last (sends j κ buffer t) ok) j κ buffer in
        record {
          grows = same_last;
          left = none_more r proper c i k any_hops b false inside (few b inside) (SentBy last) (RestBy last) w nets links copy entries s heard node rest sent.left;
          post =
              posted
              (λ e.
              record {
                word = λ d n cord. let back = (proper.cables d n b j cord).other_end in λ worded. ((sent.message e).says d n back worded).0;
                head = λ d n cord. let back = (proper.cables d n b j cord).other_end in λ worded. ((sent.message e).says d n back worded).1;
                after = λ d n cord. let back = (proper.cables d n b j cord).other_end in λ worded. ((sent.message e).says d n back worded).2;
              })
              (done o.reply.answer) refl;
        }
      where
        o : Outcome
        o = result r w (at_node (sends j κ buffer t))

        letter : Message
        letter = record { node = b; link = j; ms = t; octets = message_of o }

        posted : (done o.reply.answer ≡ true → Letter r c i k E w.mail letter) → (d : Bool) → done o.reply.answer ≡ d → Posted r c i k E b w.mail (cond d (letter ∷ w.mail) w.mail)
        posted says false e = none
        posted says true e = one letter refl (says e)

    -- ---- a message is taken in order

    module _ (j : ℕ) (packet : List ℕ) (new : Next r w last b j packet) where
      abbrev last_now : ℕ → ℕ → ℕ
      last_now = came b j new.number last

      grow : (p q : ℕ) → last p q ≤ last_now p q
      grow p q =
          either (λ (v : ℕ). last p q ≤ v) (eqb p b && eqb q j) _ _
          (λ t. let x = both _ _ t in subst₂ (λ (y z : ℕ). last y z ≤ new.number) (sym (eqb-true p b x.0)) (sym (eqb-true q j x.1)) new.in_order)
          (λ _. omega arith)

      taken : SentBy last_now (E b) j packet
      taken =
          record {
            letter = new.message;
            number = new.number;
            stands = new.stands;
            other_end = new.other_end;
            a_copy = new.a_copy;
            no_later = rw (eq-eqb b b refl, eq-eqb j j refl) (omega arith);
            near =
                λ worded t at_j.
                subst (λ (o : List ℕ). rise + returned i o ≤ up (E b).delay.0) (sym new.a_copy)
                ((free.web b j new.message.node new.message.link new.other_end).heads t at_j new.message new.number
                record { stands = new.stands; node = refl; link = refl; worded = subst (λ (o : List ℕ). Worded o) new.a_copy worded } new.in_order);
          }

      believed : Believes r c i k any_hops b s heard (SentBy last_now) (RestBy last_now) (E b)
      believed = believes r proper c i k E w.mail last free.web b s heard (free.nodes b inside).mine (last_now b) (grow b)

      acts_turn : (κ : Counter) (t : ℤ) → Allowed r w (at_node (acts j κ packet t)) → Turn (acts j κ packet t) last_now
      acts_turn κ t ok =
          record {
            grows = grow;
            left =
                none_more r proper c i k any_hops b false inside (few b inside) (SentBy last_now) (RestBy last_now) w nets links copy entries s heard (node_then last_now grow) (rest_then last_now grow)
                (subst (λ (o : List ℕ). After r c i k any_hops b false (SentBy last_now) (RestBy last_now) s (cond (done (perform (act j κ o) x).reply.answer) (hearing r c b j heard) heard) entries (perform (act j κ o) x).walk (perform (act j κ o) x).copy (perform (act j κ o) x).links (perform (act j κ o) x).entries) (sym d.a_copy)
                (act_good r proper quick c i k any_hops b (SentBy last_now) (RestBy last_now) s heard nets now.clock links now.walk copy entries (E b) (state last_now grow (acts j κ packet t) ok)
                j d.message d.other_end (right.mail d.message d.earlier) (subst (SentBy last_now (E b) j) d.a_copy taken) believed κ
                (λ e.
                let later = subst (λ (o : List ℕ). T (timed (result r w (at_node (acts j κ o t))).reply.answer) → Later r w b κ t d.message) d.a_copy d.in_time e in
                record { way = later.way; short = later.short; clock = later.reads.clock ∙ ap (λ (z : ℤ). z +ℤ r.fixed b) later.later })));
            post = none;
          }
        where
          x : CallState
          x = state_at r b nets now.clock links now.walk copy entries

          d : Delivered r w b j κ packet t (result r w (at_node (acts j κ packet t))).reply.answer
          d = ok.timely

      arrives_turn : (κ : Counter) (t : ℤ) → Allowed r w (at_node (arrives j κ packet t)) → Turn (arrives j κ packet t) last_now
      arrives_turn κ t ok =
          let x = state_at r b nets now.clock links now.walk copy entries in
          let same = receive_acts j κ packet x in
          let a =
          acts_turn κ t record { node_in = ok.node_in; continues = ok.continues; timely = subst (λ (o : Outcome). Delivered r w b j κ packet t o.reply.answer) same ok.timely } in
          record {
            grows = grow;
            left =
                subst (λ (o : Outcome). After r c i k any_hops b false (SentBy last_now) (RestBy last_now) (s + 0) (cond (done o.reply.answer) (hearing r c b j heard) heard) entries o.walk o.copy o.links o.entries) (sym same) a.left;
            post = none;
          }

    -- ---- a box of a walk

    box_turn : (κ : Counter) (t : ℤ) (ok : Allowed r w (at_node (steps κ t))) (last' : ℕ → ℕ → ℕ) (grows : (p q : ℕ) → last p q ≤ last' p q)
        → (is_open now.walk ≡ true → place_of now.walk ≡ Some Step1 → SentBy last' (E b) now.walk.link (packet_of now.walk now.copy)) → Turn (steps κ t) last'
    box_turn κ t ok last' grows takes =
        record {
          grows = grows;
          left =
              none_more r proper c i k any_hops b false inside (few b inside) (SentBy last') (RestBy last') w nets links copy entries s heard (node_then last' grows) (rest_then last' grows)
              (step_good r proper quick c i k any_hops b (SentBy last') (RestBy last') s heard (few b inside) nets now.clock links now.walk copy entries (E b) (state last' grows (steps κ t) ok)
              (believes r proper c i k E w.mail last free.web b s heard (free.nodes b inside).mine (last' b) (grows b))
              (histories.call_state r proper ways w right b inside nets links copy entries (steps κ t) ok).walk κ
              (λ opened first. subst (SentBy last' (E b) now.walk.link) (sym (same_packet r b now nets now.clock links copy entries ok.continues opened)) (takes opened first)));
          post = none;
        }

    step_turn : (κ : Counter) (t : ℤ) (ok : Allowed r w (at_node (steps κ t))) (may : Fresh r w last b (steps κ t)) → Turn (steps κ t) (last_after r w last b (steps κ t) may)
    step_turn κ t ok (inl other) = box_turn κ t ok last same_last (λ opened first. absurd (other opened first))
    step_turn κ t ok (inr new) =
        box_turn κ t ok (came b now.walk.link new.number last) (grow now.walk.link (packet_of now.walk now.copy) new)
        (λ _ _. taken now.walk.link (packet_of now.walk now.copy) new)

    pub any_turn : (call : NetworkCall) → Allowed r w (at_node call) → (may : Fresh r w last b call) → s + gain call (result r w (at_node call)) ≤ round_seconds → Turn call (last_after r w last b call may)
    any_turn (ticks n) ok may short = plain (ticks n) refl (tick_left r proper c i k any_hops b false inside (few b inside) (SentBy last) (RestBy last) w nets links copy entries s heard node rest n ok)
    any_turn seconds ok may short = plain seconds refl (second_left r proper c i k any_hops b false inside (few b inside) (SentBy last) (RestBy last) w nets links copy entries s heard node rest aged_rest ok short)
    any_turn (reports κ) ok may short =
        plain (reports κ) refl (report_left r proper c i k any_hops b false inside (few b inside) (SentBy last) (RestBy last) w nets links copy entries s heard node rest hc host (omega arith) home_rest κ ok)
    any_turn (sends j κ buffer t) ok may short = send_turn j κ buffer t ok
    any_turn (arrives j κ packet t) ok may short = arrives_turn j packet may κ t ok
    any_turn (acts j κ packet t) ok may short = acts_turn j packet may κ t ok
    any_turn (inspects j packet) ok may short = plain (inspects j packet) refl (inspect_left r proper c i k any_hops b false inside (few b inside) (SentBy last) (RestBy last) w nets links copy entries s heard node rest j packet ok)
    any_turn (opens j packet) ok may short = plain (opens j packet) refl (open_left r proper c i k any_hops b false inside (few b inside) (SentBy last) (RestBy last) w nets links copy entries s heard node rest j packet ok)
    any_turn (steps κ t) ok may short = step_turn κ t ok may
    any_turn (adjusts n) ok may short = plain (adjusts n) refl (adjust_left r proper c i k any_hops b false inside (few b inside) (SentBy last) (RestBy last) w nets links copy entries s heard node rest n ok)
    any_turn (sets ms n) ok may short = plain (sets ms n) refl (set_left r proper c i k any_hops b false inside (few b inside) (SentBy last) (RestBy last) w nets links copy entries s heard node rest ms n ok)
    any_turn (clocks κ) ok may short = plain (clocks κ) refl (clock_left r proper c i k any_hops b false inside (few b inside) (SentBy last) (RestBy last) w nets links copy entries s heard node rest κ ok)
    any_turn (looks d) ok may short = plain (looks d) refl (look_left r proper c i k any_hops b false inside (few b inside) (SentBy last) (RestBy last) w nets links copy entries s heard node rest d ok)

    -- ---- the host afterwards

    pub after_sure : (call : NetworkCall) (last' : ℕ → ℕ → ℕ) → Allowed r w (at_node call) → Turn call last' → RestBy last' (get_or (after_outcome (r.number b) now.places (result r w (at_node call))).places i fresh_entry)
    after_sure call last' ok t =
        (after_good r proper c i k any_hops b false inside (few b inside) (SentBy last') (RestBy last') w nets links copy entries s heard (node_then last' t.grows) (rest_then last' t.grows) call ok t.left).rest

    pub after_free : (call : NetworkCall) (last' : ℕ → ℕ → ℕ) → Allowed r w (at_node call) → Turn call last'
        → HostOk r c i k any_hops b false (SentBy last') (s + gain call (result r w (at_node call))) (flags r c b now.walk call (result r w (at_node call)) heard) (after_outcome (r.number b) now.places (result r w (at_node call)))
    after_free call last' ok t =
        after_ok r proper c i k any_hops b false inside (few b inside) (SentBy last') (RestBy last') w nets links copy entries s heard (node_then last' t.grows) (rest_then last' t.grows) call ok t.left

  -- ---- the world

  -- a message that was taken stays in the mail
  stands_on : (E : ℕ → Entry) (b : ℕ) (mail mail' : List Message) → Posted r c i k E b mail mail' → (m : Message) (n : ℕ) → Stands m n mail → Stands m n mail'
  unfolding Stands
  stands_on E b mail mail' none m n x = x
  stands_on E b mail mail' (one letter is says) m n x = inr x

  pub record Then (s : ℕ → ℕ) (heard : ℕ → ℕ → Bool) (last' : ℕ → ℕ → ℕ) (w : World) (x : Step) : Type 0 where
    pub free : FreeWorld (λ b. s b + counts r w b x) (flags_after r c w x heard) last' (step r w x)
    pub better : (b : ℕ) → b < r.nodes → Better (table w b) (table (step r w x) b)

  pub world_free : (s : ℕ → ℕ) (heard : ℕ → ℕ → Bool) (last last' : ℕ → ℕ → ℕ) (w : World) (right : RightWorld r w) (x : Step) (ok : Allowed r w x) (free : FreeWorld s heard last w)
      → Turn w right x.node ok.node_in x.nets x.links x.copy x.entries s heard last free x.call last'
      → Then s heard last' w x
  unfolding step after flags_after
  world_free s heard last last' w right x ok free turn =
      record { free = record { nodes = nodes; web = web_after r c i k proper (table w) (table (step r w x)) w.mail (step r w x).mail last last' turn.grows a others own_better own_arrows turn.post free.web }; better = better }
    where
      a : ℕ
      a = x.node

      here : eqb a a ≡ true
      here = eq-eqb a a refl

      -- what walks have taken
      moves : (b : ℕ) (last₁ : ℕ → ℕ) → ((q : ℕ) → last₁ q ≤ last' b q) → (e : Entry) (j : ℕ) (o : List ℕ) → Sent r i b w.mail last₁ e j o → Sent r i b (step r w x).mail (last' b) e j o
      moves b last₁ less e j o sent =
          record {
            letter = sent.letter;
            number = sent.number;
            stands = stands_on (table w) a w.mail (step r w x).mail turn.post sent.letter sent.number sent.stands;
            other_end = sent.other_end;
            a_copy = sent.a_copy;
            no_later = omega (arith, sent.no_later, less j);
            near = sent.near;
          }

      own : HostOk r c i k any_hops a false (Sent r i a (step r w x).mail (last' a)) (s a + counts r w a x) (flags_after r c w x heard a) (after_outcome (r.number a) (w.state (r.number a)).places (result r w x))
      own =
          host_moves r c i k any_hops a false (Sent r i a w.mail (last' a)) (Sent r i a (step r w x).mail (last' a)) (moves a (last' a) (λ q. omega arith)) (s a + counts r w a x) (flags_after r c w x heard a)
          (after_outcome (r.number a) (w.state (r.number a)).places (result r w x))
          (rw here (after_free w right a ok.node_in x.nets x.links x.copy x.entries s heard last free x.call last' ok turn))

      nodes : (b : ℕ) → b < r.nodes → HostOk r c i k any_hops b false (Sent r i b (step r w x).mail (last' b)) (s b + counts r w b x) (flags_after r c w x heard b) ((step r w x).state (r.number b))
      nodes b hb =
          either (HostOk r c i k any_hops b false (Sent r i b (step r w x).mail (last' b)) (s b + counts r w b x) (flags_after r c w x heard b)) (eqb (r.number b) (r.number a)) _ _
          (λ e.
          let same : a ≡ b = proper.numbers_differ a b ok.node_in hb (sym (eqb-true (r.number b) (r.number a) e)) in
          subst (λ (d : ℕ). HostOk r c i k any_hops d false (Sent r i d (step r w x).mail (last' d)) (s d + counts r w d x) (flags_after r c w x heard d) (after_outcome (r.number a) (w.state (r.number a)).places (result r w x))) same own)
          (λ e.
          let other : eqb a b ≡ false = ne_eqb a b (λ z. eqb-false (r.number b) (r.number a) e (ap r.number (sym z))) in
          let no_more : counts r w b x ≡ 0 = rw other in
          let z : s b + counts r w b x ≡ s b = omega arith in
          rw (z, other)
          (host_moves r c i k any_hops b false (Sent r i b w.mail (last b)) (Sent r i b (step r w x).mail (last' b)) (moves b (last b) (turn.grows b)) (s b) (heard b) (w.state (r.number b)) (free.nodes b hb)))

      others : (q : ℕ) → q < r.nodes → (q ≡ a → ⊥) → table (step r w x) q ≡ table w q
      others q hq other =
          let e : eqb (r.number q) (r.number a) ≡ false = ne_eqb (r.number q) (r.number a) (λ z. other (proper.numbers_differ q a hq ok.node_in z)) in
          rw e refl

      own_is : table (step r w x) a ≡ get_or (after_outcome (r.number a) (w.state (r.number a)).places (result r w x)).places i fresh_entry
      own_is = rw (eq-eqb (r.number a) (r.number a) refl) refl

      sure : Rest r c i k (table w) w.mail a (last' a) (table (step r w x) a)
      sure = rw own_is (after_sure w right a ok.node_in x.nets x.links x.copy x.entries s heard last free x.call last' ok turn)

      own_better : Better (table w a) (table (step r w x) a)
      own_better = sure.better

      own_arrows : (j d l : ℕ) → r.cable a j ≡ at d l → entry.up (table (step r w x) a) ≡ true → (table (step r w x) a).pid ≡ j → Arrow r c i k a j d l (table (step r w x) a) (table w d) w.mail (last' a j)
      own_arrows = sure.arrows

      better : (b : ℕ) → b < r.nodes → Better (table w b) (table (step r w x) b)
      better b hb = go (eqb b a) refl
        where
          go : (t : Bool) → eqb b a ≡ t → Better (table w b) (table (step r w x) b)
          go true e = subst (λ (q : ℕ). Better (table w q) (table (step r w x) q)) (sym (eqb-true b a e)) own_better
          go false e = subst (Better (table w b)) (sym (others b hb (eqb-false b a e))) (better_same (table w b))
