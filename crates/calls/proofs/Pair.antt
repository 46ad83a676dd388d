-- An inspection changes nothing, and the action behind it goes one way with it until the packet passes. So the two in turn are the arrival in one piece.
use Rattle.std.specs.Prelude.{Result, Ok, Err}
use Rattle.answer.specs.declared.Answer.{Answer}
use mathlib.Core.Path.{◌≡◌, refl, sym, ap, ◌∙◌}
use mathlib.Core.Bool.{Bool, true, false, cond, not}
use mathlib.Core.List.{List, []}
use Prim.Native.Nat.{ℕ}
use Rattle.lists.proofs.Parts.{over_nothing}
use Rattle.clock.specs.declared.Counter.{Counter}
use Rattle.wire.specs.declared.Packet.{Packet}
use Rattle.table.specs.declared.Entry.{Entry}
use Rattle.table.specs.Sweep.{sweep}
use Rattle.table.specs.Runs.{updates}
use Rattle.host.specs.declared.guard.Scope.TheVariants.{OnLink}
use Rattle.host.specs.declared.Reply.{Reply}
use Rattle.host.specs.declared.Host.{Host}
use Rattle.host.specs.CallState.{CallState, entries_of}
use Rattle.host.specs.Guard.{guard, done}
use Rattle.host.specs.Inspection.{tells}
use Rattle.host.specs.Inspection as inspecting
use Rattle.host.proofs.Places.{Holds}
use Rattle.host.proofs.Guarded.{passed, holds, either}
use Rattle.arrival.specs.declared.Arrived.{Arrived}
use Rattle.arrival.specs.Arrival.{quiet, action, inspected, inspection}
use Rattle.arrival.specs.Arrival as arrivals
use Rattle.arrival.proofs.Pair as pieces
use Rattle.calls.specs.Perform.{Outcome, inspect, act, receive, refused, updated_by, perform, left, in_turn}
use Rattle.calls.proofs.Carried.{entries_put}

-- ---- an inspection changes nothing

pub quieted : (x : CallState) → Holds x.number x.entries → (r : Reply) (h : Host) (octets : List ℕ)
    → updated_by (quiet r h) octets x ≡ record { reply = r; clock = h.clock; links = h.links; walk = x.walk; copy = x.copy; entries = x.entries; buffer = [] }
unfolding updates sweep
quieted x there r h octets =
    ap (λ (entries : List Entry). record { reply = r; clock = h.clock; links = h.links; walk = x.walk; copy = x.copy; entries = entries; buffer = [] })
    (rw (over_nothing 0 (entries_of x)) (entries_put x.host.settings x.number x.entries there))

module _ (i : ℕ) (octets : List ℕ) (x : CallState) where
  pub leaves : perform (inspect i octets) x ≡ record { reply = (perform (inspect i octets) x).reply; clock = x.host.clock; links = x.host.links; walk = x.walk; copy = x.copy; entries = x.entries; buffer = [] }
  unfolding perform
  leaves =
      either (λ (o : Outcome). o ≡ record { reply = o.reply; clock = x.host.clock; links = x.host.links; walk = x.walk; copy = x.copy; entries = x.entries; buffer = [] }) (guard (OnLink i) x) (λ _. refl)
      (λ e. quieted x (holds x.number x.entries (passed (OnLink i) x e).places) (tells (inspecting.inspect x.host.settings i octets)) x.host octets)

  pub looks : left x (perform (inspect i octets) x) ≡ x
  looks = ap (left x) leaves

module _ (i : ℕ) (k : Counter) (octets : List ℕ) (x : CallState) where
  abbrev h : Host
  h = x.host

  -- ---- the action alone

  pub receive_acts : perform (receive i k octets) x ≡ perform (act i k octets) x
  unfolding perform
  receive_acts =
      ap (λ (a : Arrived). cond (not (done (guard (OnLink i) x))) (refused (guard (OnLink i) x) (act i k octets) x) (updated_by a octets x))
      (pieces.one_piece i k octets x.nets h)

  -- ---- the inspection and the action, side by side

  module _ (P : Outcome → Outcome → Type 0) (alike : (o : Outcome) → P o o)
      (passes : (p : Packet) → P (updated_by (quiet (tells (Ok p)) h) octets x) (updated_by (action k x.nets h i p) octets x)) where
    by_packet : (q : Result Packet Answer) → P (updated_by (quiet (tells q) h) octets x) (updated_by (inspected k x.nets h i q) octets x)
    by_packet (Err a) = alike _
    by_packet (Ok p) = passes p

    pub pair_ways : P (perform (inspect i octets) x) (perform (act i k octets) x)
    unfolding perform
    pair_ways = go (not (done (guard (OnLink i) x)))
      where
        go : (b : Bool)
            → P (cond b (refused (guard (OnLink i) x) (inspect i octets) x) (updated_by (inspection i octets h) octets x))
            (cond b (refused (guard (OnLink i) x) (act i k octets) x) (updated_by (arrivals.act i k octets x.nets h) octets x))
        go true = alike _
        go false = by_packet (inspecting.inspect h.settings i octets)

  in_turn_lem : perform (act i k octets) x ≡ cond (done (perform (inspect i octets) x).reply.answer) (perform (act i k octets) x) (perform (inspect i octets) x)
  in_turn_lem = pair_ways (λ o o'. o' ≡ cond (done o.reply.answer) o' o) (λ o. same (done o.reply.answer) o) (λ p. refl)
    where
      same : (b : Bool) (o : Outcome) → o ≡ cond b o o
      same true o = refl
      same false o = refl

  pub one_piece : perform (receive i k octets) x ≡ in_turn i k octets x
  one_piece =
      receive_acts ∙ in_turn_lem
      ∙ ap (λ (y : CallState). cond (done (perform (inspect i octets) x).reply.answer) (perform (act i k octets) y) (perform (inspect i octets) x)) (sym (looks i octets x))
