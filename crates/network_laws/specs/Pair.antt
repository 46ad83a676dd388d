-- INSPECT-3, INSPECT-4: inspection and action, and the arrival in one call.
use Rattle.std.specs.Prelude.{◌≡◌, false, List, [], ◌∷◌, ◌++◌, ◌↔◌, ℕ, ◌≤◌}
use Rattle.answer.specs.declared.Answer.{Answer}
use Rattle.answer.specs.Answer.{number}
use Rattle.clock.specs.declared.Counter.{Counter}
use Rattle.host.specs.CallState.{CallState}
use Rattle.host.specs.Guard.{done}
use Rattle.calls.specs.Perform.{Call, inspect, act, receive, perform, left, in_turn}
use Rattle.network_laws.specs.History.{Event, State, number_of, outcome, ContinuesFully, after_all}

-- INSPECT-5: the answer of a call
abbrev pub answer_of : Call → CallState → Answer
answer_of c x = (perform c x).reply.answer

-- INSPECT-4: another call with the same state
abbrev pub instead : Call → Event → Event
instead c e = record { call = c; call_state = e.call_state }

-- INSPECT-4: how the three calls belong together
pub record Pair : Type 0 where
  pub one_piece : (i : ℕ) (k : Counter) (octets : List ℕ) (x : CallState) → perform (receive i k octets) x ≡ in_turn i k octets x
  pub action_alone : (i : ℕ) (k : Counter) (octets : List ℕ) (x : CallState) → perform (receive i k octets) x ≡ perform (act i k octets) x
  -- INSPECT-1: an inspection changes nothing
  pub looks : (i : ℕ) (octets : List ℕ) (x : CallState) → left x (perform (inspect i octets) x) ≡ x
  -- INSPECT-3: what it refuses, the action refuses with the same answer
  pub refuses : (i : ℕ) (k : Counter) (octets : List ℕ) (x : CallState) → done (answer_of (inspect i octets) x) ≡ false → perform (act i k octets) x ≡ perform (inspect i octets) x
  -- INSPECT-5: 3 to 9 exactly if the inspection gives it
  pub exactly : (i : ℕ) (k : Counter) (octets : List ℕ) (x : CallState) (n : ℕ) → 3 ≤ n → n ≤ 9
      → (number (answer_of (inspect i octets) x) ≡ n) ↔ (number (answer_of (act i k octets) x) ≡ n)
  -- INSPECT-3: any calls between the two: the action is an arrival then
  pub between : (w : State) (e f : Event) (es : List Event) (i j : ℕ) (k : Counter) (octets packet : List ℕ)
      → e.call ≡ inspect i octets → ContinuesFully (w (number_of e)) e.call_state → f.call ≡ act j k packet
      → (outcome f ≡ perform (receive j k packet) f.call_state)
      × (after_all w (e ∷ es ++ f ∷ []) ≡ after_all w (es ++ instead (receive j k packet) f ∷ []))
