-- A refusal changes nothing: by the guard, a lookup, a send into too short a buffer, the inspection of a packet. Steps 2 to 4 of an arrival change its link, after the reading.
use Rattle.std.specs.Prelude.{Option, Some, None}
use mathlib.Core.Path.{◌≡◌, refl, ap, ◌∙◌}
use mathlib.Core.Bool.{true, not}
use mathlib.Core.List.{List, []}
use Prim.Native.Nat.{ℕ, ◌-◌, ◌≤◌}
use native.Mathlib.Omega.{arith}
use lib.Dec.{ltb}
use lib.ListN.{length}
use Rattle.lists.proofs.Tests.{either}
use Rattle.answer.specs.declared.Answer.{Answer}
use Rattle.answer.specs.declared.Answer.TheVariants.{DelayNotValid, NoHost, HostDown, NoWalk}
use Rattle.answer.specs.Answer.{number}
use Rattle.clock.specs.declared.Counter.{Counter}
use Rattle.wire.specs.declared.Address.{Address}
use Rattle.wire.specs.Packet.{packet_length}
use Rattle.table.specs.declared.Entry.{Entry}
use Rattle.table.specs.Entry.{up}
use Rattle.host.specs.declared.Link.{Link}
use Rattle.host.specs.declared.Links.{Links}
use Rattle.host.specs.declared.Effect.{Effect}
use Rattle.host.specs.declared.Reply.{Reply}
use Rattle.host.specs.Settings.{settings_fit, found_for}
use Rattle.host.specs.State.{unset, fresh_link, link_of, with_link}
use Rattle.host.specs.Walk.{no_walk}
use Rattle.host.specs.declared.guard.Scope.{Scope}
use Rattle.host.specs.declared.guard.Scope.TheVariants.{OnLink, Walking}
use Rattle.host.specs.Effect.{answers}
use Rattle.host.specs.CallState.{CallState, own_walk_in_range}
use Rattle.host.specs.Guard.{out_of_range, in_walk, guard, done}
use Rattle.host.specs.Reply.{plainly}
use Rattle.host.proofs.Places.{Holds}
use Rattle.host.proofs.Guarded.{passed, walk_state}
use Rattle.sending.specs.declared.Sending.{Sending}
use Rattle.sending.specs.Send.{report_count}
use Rattle.arrival.specs.declared.Flight.{Flight}
use Rattle.arrival.specs.declared.Arrived.{Arrived}
use Rattle.arrival.specs.declared.Delivery.{Delivery}
use Rattle.arrival.specs.declared.Delivery.TheVariants.{Inspect, Act, Receive}
use Rattle.arrival.specs.Arrival.{ends, on_link}
use Rattle.walk.specs.declared.Opening as declared
use Rattle.walk.specs.Boxes.{at_hand, step}
use Rattle.calls.specs.declared.Request.{Request}
use Rattle.calls.specs.declared.Request.TheVariants.{Initialize, Tick, Adjust, Set, Read, Second, SelfReport, Lookup, Step}
use Rattle.calls.specs.Effects.{initialize, tick, adjust, set_by, read, second, self_report, lookup, looked}
use Rattle.calls.specs.Perform.{Call, ask, send, deliver, open_walk, Outcome, refused, entry_at, carried_out, sent_by, updated_by, opened_by, work, perform}
use Rattle.network_laws.specs.Refusals.{Refuses, clock_read, relinked, closed, Refusals}
use Rattle.network_laws.specs.Range.{count_by}
use Rattle.network_laws.proofs.Lists.{set_same}
use Rattle.network_laws.proofs.Performs.{guard_of, performs, there}
use Rattle.network_laws.proofs.Arrivals.{storing, read_by, delivery_ways}
use Rattle.network_laws.proofs.Written.{leaving, answered, ended}
use Rattle.network_laws.proofs.Walking.{step_ways}
use Rattle.network_laws.proofs.Openings.{opening_ways, nothing_copied}

module _ (x : CallState) where
  -- ---- refusals that change nothing

  -- the answer refuses, and nothing is changed
  abbrev Unchanged : Call → Outcome → Type 0
  Unchanged c o = Refuses c o.reply.answer → o ≡ refused o.reply.answer c x

  looks : (a : Address) → Holds x.number x.entries → (f : Option ℕ) (e : Entry)
      → Unchanged (ask (Lookup a)) (carried_out (answers (looked f e) x.host.clock x.host.links x.walk) x)
  looks a h None e = λ w. answered x h (plainly NoHost) x.host.clock x.host.links x.walk
  looks a h (Some id) e =
      either (λ (r : Reply). Unchanged (ask (Lookup a)) (carried_out (answers r x.host.clock x.host.links x.walk) x)) (not (up e)) _ _
      (λ _ _. answered x h (plainly HostDown) x.host.clock x.host.links x.walk) (λ _ w. absurd (w.not_done refl))

  -- a step's effect, carried out
  abbrev did : Effect → Outcome
  did y = carried_out y x

  -- 10 and 11 at a step are answered by a walk that is closed, and change nothing else
  module _ (k : Counter) (e : Entry) (h : Holds x.number x.entries) (in_range : own_walk_in_range x ≡ true) where
    steps : Unchanged (ask (Step k)) (did (step k x.nets x.host x.walk x.copy e))
    steps =
        step_ways k x.nets x.host x.walk x.copy e (λ (y : Effect). Unchanged (ask (Step k)) (did y))
        record {
          none = λ w. answered x h (plainly NoWalk) x.host.clock x.host.links x.walk;
          reads = λ v c w. absurd (w.not_done refl);
          delays = λ has w. absurd ((w.early_step k refl).0 refl);
          unknown = λ w. absurd ((w.early_step k refl).1 refl);
          goes = λ r is v g c t l s work d w. absurd (w.not_done is);
        }
        in_range

    Closes : Answer → Effect → Type 0
    Closes a y = y.reply.answer ≡ a → did y ≡ refused a (ask (Step k)) (closed x)

    same_links : with_link x.walk.link (link_of x.host.links x.walk.link) x.host.links ≡ x.host.links
    same_links = λ j. record { all = set_same (fresh_link unset) x.host.links.all (x.walk.link - 1) j }

    stops : Closes DelayNotValid (step k x.nets x.host x.walk x.copy e)
    unfolding Closes
    stops =
        step_ways k x.nets x.host x.walk x.copy e (Closes DelayNotValid)
        record {
          none = λ is. absurd (omega (arith, ap number is));
          reads = λ v c is. absurd (omega (arith, ap number is));
          delays = λ has is.
              answered x h (plainly DelayNotValid) x.host.clock _ no_walk
              ∙ ap (λ (l : Links). leaving x h (plainly DelayNotValid) x.host.clock l no_walk) same_links;
          unknown = λ is. absurd (omega (arith, ap number is));
          goes = λ r z v g c t l s work d is. absurd (omega (arith, ap number z, ap number is));
        }
        in_range

    finds_none : Closes NoHost (step k x.nets x.host x.walk x.copy e)
    unfolding Closes
    finds_none =
        step_ways k x.nets x.host x.walk x.copy e (Closes NoHost)
        record {
          none = λ is. absurd (omega (arith, ap number is));
          reads = λ v c is. absurd (omega (arith, ap number is));
          delays = λ has is. absurd (omega (arith, ap number is));
          unknown = λ is. answered x h (plainly NoHost) x.host.clock x.host.links no_walk;
          goes = λ r z v g c t l s work d is. absurd (omega (arith, ap number z, ap number is));
        }
        in_range

  asked : (q : Request) → Holds x.number x.entries → done (guard_of (ask q) x) ≡ true → Unchanged (ask q) (work (ask q) x)
  unfolding initialize tick adjust set_by read second self_report lookup
  asked Initialize h ok = λ w. absurd (w.not_done refl)
  asked (Tick n) h ok = λ w. absurd (w.not_done refl)
  asked (Adjust n) h ok = λ w. absurd (w.not_done refl)
  asked (Set ms n) h ok = λ w. absurd (w.not_done refl)
  asked (Read k) h ok = λ w. absurd (w.not_done refl)
  asked Second h ok = λ w. absurd (w.not_done refl)
  asked (SelfReport k) h ok = λ w. absurd (w.not_done refl)
  asked (Lookup a) h ok = looks a h (found_for x.nets x.host.settings a) (entry_at (found_for x.nets x.host.settings a) x)
  asked (Step k) h ok = steps k (entry_at (at_hand x.walk) x) h (walk_state x ((passed Walking x ok).call_state refl))

  opens : (i : ℕ) (packet : List ℕ) → Unchanged (open_walk i packet) (work (open_walk i packet) x)
  opens i packet =
      opening_ways i packet x.host.settings x.walk (λ (o : declared.Opening). Unchanged (open_walk i packet) (opened_by o packet x))
      (λ a few w. ap (λ (copy : List ℕ). record { reply = plainly a; clock = x.host.clock; links = x.host.links; walk = x.walk; copy = copy; entries = x.entries; buffer = [] }) (nothing_copied packet x.copy))
      (λ p is fits w. absurd (w.not_done refl))

  works : (c : Call) → Holds x.number x.entries → done (guard_of c x) ≡ true → Unchanged c (work c x)
  works (open_walk i packet) h ok = opens i packet
  works (ask q) h ok = asked q h ok
  works (send i k buffer) h ok =
      either (λ (s : Sending). Unchanged (send i k buffer) (sent_by s buffer x))
      (ltb (length buffer) (packet_length (report_count x.host.settings (link_of x.host.links i)))) _ _ (λ _ _. refl) (λ _ w. absurd (w.not_done refl))
  works (deliver d octets) h ok =
      delivery_ways d x.nets x.host (λ (a : Arrived). Unchanged (deliver d octets) (updated_by a octets x))
      record {
        refuses = λ a few w. ended x h a x.host octets;
        looks = λ p w. absurd (w.not_done refl);
        ended = λ f g n w. absurd ((w.early d octets refl).0 refl);
        unknown = λ f g w. absurd ((w.early d octets refl).1 refl);
        one = λ p f id g w. absurd (w.not_done refl);
        all = λ p f g w. absurd (w.not_done refl);
      }
      octets

  unchanged : (c : Call) → Unchanged c (perform c x)
  unchanged c = performs c x (Unchanged c) (λ _ _. refl) (λ e. works c (there c x e) e)

  -- ---- refusals that change the link, and keep the reading's clock

  -- the guard refuses with 1, 12 and 16 only
  guard_number : (a : Scope) (n : ℕ) → 2 ≤ n → n ≤ 11 → number (guard a x) ≡ n → ⊥
  unfolding guard
  guard_number a n low high =
      either (λ (b : Answer). number b ≡ n → ⊥) (out_of_range a x) _ _ (λ _ e. omega arith)
      (λ _. either (λ (b : Answer). number b ≡ n → ⊥) (in_walk a x.walk) _ _ (λ _ e. omega arith)
      (λ _. either (λ (b : Answer). number b ≡ n → ⊥) (not (settings_fit x.nets x.host.settings)) _ _ (λ _ e. omega arith) (λ _ e. omega arith)))

  -- ---- refusals that close a walk

  module _ (k : Counter) where
    closes : (a : Answer) → ((e : Entry) → Holds x.number x.entries → own_walk_in_range x ≡ true → (did (step k x.nets x.host x.walk x.copy e)).reply.answer ≡ a
        → did (step k x.nets x.host x.walk x.copy e) ≡ refused a (ask (Step k)) (closed x))
        → 2 ≤ number a → number a ≤ 11
        → (perform (ask (Step k)) x).reply.answer ≡ a → perform (ask (Step k)) x ≡ refused a (ask (Step k)) (closed x)
    closes a does low high =
        performs (ask (Step k)) x (λ (o : Outcome). o.reply.answer ≡ a → o ≡ refused a (ask (Step k)) (closed x))
        (λ e is. absurd (guard_number Walking (number a) low high (ap number is)))
        (λ e. does (entry_at (at_hand x.walk) x) (there (ask (Step k)) x e) (walk_state x ((passed Walking x e).call_state refl)))

  module _ (d : Delivery) (octets : List ℕ) where
    abbrev i : ℕ
    i = on_link d

    same_clock : (d : Delivery) → (read_by d x.host).clock ≡ clock_read d x.host
    same_clock (Inspect i) = refl
    same_clock (Act i k) = refl
    same_clock (Receive i k) = refl

    stored : Holds x.number x.entries → (a : Answer) (f : Flight)
        → updated_by (ends a (storing i (read_by d x.host) (count_by d) x.host f)) octets x ≡ refused a (deliver d octets) (relinked d f.link x)
    stored h a f = rw (← same_clock d) (ended x h a (storing i (read_by d x.host) (count_by d) x.host f) octets)

    -- 10 keeps the link's neighbour too
    Delayed : Outcome → Type 0
    Delayed o =
        o.reply.answer ≡ DelayNotValid
        → (l : Link) × (o ≡ refused DelayNotValid (deliver d octets) (relinked d l x)) × (l.neighbor ≡ (link_of x.host.links i).neighbor)

    delayed : Delayed (perform (deliver d octets) x)
    unfolding Delayed
    delayed =
        performs (deliver d octets) x Delayed
        (λ e is. absurd (guard_number (OnLink i) 10 (omega arith) (omega arith) (ap number is)))
        (λ e.
        let h = there (deliver d octets) x e in
        delivery_ways d x.nets x.host (λ (a : Arrived). Delayed (updated_by a octets x))
        record {
          refuses = λ a few is. absurd (omega (arith, few, ap number is));
          looks = λ p is. absurd (omega (arith, ap number is));
          ended = λ f g n is. (f.link, stored h DelayNotValid f, n);
          unknown = λ f g is. absurd (omega (arith, ap number is));
          one = λ p f id g is. absurd (omega (arith, ap number is));
          all = λ p f g is. absurd (omega (arith, ap number is));
        }
        octets)

    Unfound : Outcome → Type 0
    Unfound o = o.reply.answer ≡ NoHost → (l : Link) × (o ≡ refused NoHost (deliver d octets) (relinked d l x))

    unfound : Unfound (perform (deliver d octets) x)
    unfolding Unfound
    unfound =
        performs (deliver d octets) x Unfound
        (λ e is. absurd (guard_number (OnLink i) 11 (omega arith) (omega arith) (ap number is)))
        (λ e.
        let h = there (deliver d octets) x e in
        delivery_ways d x.nets x.host (λ (a : Arrived). Unfound (updated_by a octets x))
        record {
          refuses = λ a few is. absurd (omega (arith, few, ap number is));
          looks = λ p is. absurd (omega (arith, ap number is));
          ended = λ f g n is. absurd (omega (arith, ap number is));
          unknown = λ f g is. (f.link, stored h NoHost f);
          one = λ p f id g is. absurd (omega (arith, ap number is));
          all = λ p f g is. absurd (omega (arith, ap number is));
        }
        octets)

pub refusals_hold : Refusals
unfolding Delayed Unfound Closes
refusals_hold =
    record {
      unchanged = λ c x. unchanged x c;
      delay = λ d octets x. delayed x d octets;
      unknown = λ d octets x. unfound x d octets;
      walk_delay = λ k x. closes x k DelayNotValid (λ e h r. stops x k e h r) (omega arith) (omega arith);
      walk_unknown = λ k x. closes x k NoHost (λ e h r. finds_none x k e h r) (omega arith) (omega arith);
    }
