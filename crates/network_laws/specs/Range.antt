-- HOST-6: initialize gives a state that 12 does not refuse, and calls keep it so.
use Rattle.std.specs.Prelude.{◌≡◌, false, List, ℕ, ◌<◌, ◌^◌}
use Rattle.quantity.specs.declared.Count.{Count}
use Rattle.clock.specs.declared.Counter.{Counter}
use Rattle.clock.specs.Clock.{count_used}
use Rattle.clock.specs.LineClock.{no_count}
use Rattle.answer.specs.declared.Answer.TheVariants.{Done, OutOfRange}
use Rattle.net_table.specs.declared.NetTable.{NetTable}
use Rattle.net_table.specs.Table.{table_bad}
use Rattle.host.specs.declared.guard.Scope.TheVariants.{All}
use Rattle.host.specs.CallState.{CallState, call_state}
use Rattle.host.specs.Guard.{guard}
use Rattle.arrival.specs.declared.Delivery.{Delivery}
use Rattle.arrival.specs.declared.Delivery.TheVariants.{Inspect, Act, Receive}
use Rattle.calls.specs.declared.Request.TheVariants.{Initialize, Tick, Adjust, Set, Read, Second, SelfReport, Lookup, Step}
use Rattle.calls.specs.Perform.{Call, ask, send, deliver, open_walk, step, perform, left}
use Rattle.network_laws.specs.Refusals.{closed}

-- HOST-6: 12 does not refuse the state
abbrev pub Accepted : CallState → Type 0
Accepted x = guard All x ≡ OutOfRange → ⊥

-- NET-10: the state with another net table
abbrev pub under : NetTable → CallState → CallState
under t x = call_state x.host.settings t x.number x.host.clock x.host.links x.walk x.copy x.entries

-- CLOCK-16: the count of a packet's call
abbrev pub count_by : Delivery → Count
count_by (Inspect i) = no_count
count_by (Act i k) = count_used k
count_by (Receive i k) = count_used k

-- CLOCK-16: the count that a call uses
abbrev pub count_of : Call → Count
count_of (ask Initialize) = no_count
count_of (ask (Tick n)) = n
count_of (ask (Adjust n)) = n
count_of (ask (Set ms n)) = n
count_of (ask (Read k)) = count_used k
count_of (ask Second) = no_count
count_of (ask (SelfReport k)) = count_used k
count_of (ask (Lookup a)) = no_count
count_of (ask (Step k)) = count_used k
count_of (send i k buffer) = count_used k
count_of (deliver d packet) = count_by d
count_of (open_walk i packet) = no_count

-- WALK-9: a walk that was opened, and stepped with good tables under the same settings
pub data Walked : CallState → Type 0 where
  begins : (i : ℕ) (packet : List ℕ) (x : CallState) → x.walk.count.0 < 2 ^ 16 → Accepted x → (perform (open_walk i packet) x).reply.answer ≡ Done
      → Walked (left x (perform (open_walk i packet) x))
  goes_on : (k : Counter) (x : CallState) → (count_used k).0 < 2 ^ 16 → Walked x → Walked (left x (perform (step k) x))
  other_table : (t : NetTable) (x : CallState) → table_bad t ≡ false → Walked x → Walked (under t x)

-- HOST-6: 12 never refuses what the calls themselves produce
pub record Range : Type 0 where
  pub fresh :
      (x : CallState) → (perform (ask Initialize) x).reply.answer ≡ Done → Accepted (left x (perform (ask Initialize) x))
  -- HOST-6: any call except a step keeps it
  pub stays : (c : Call) (x : CallState) → ((k : Counter) → c ≡ step k → ⊥) → (count_of c).0 < 2 ^ 16 → Accepted x → Accepted (left x (perform c x))
  -- WALK-9: a step keeps clock, links and entries in range
  pub steps : (k : Counter) (x : CallState) → (count_used k).0 < 2 ^ 16 → x.walk.count.0 < 2 ^ 16 → Accepted x → Accepted (closed (left x (perform (step k) x)))
  -- WALK-9: a walk that was opened is never refused with 12
  pub walks : (x : CallState) → Walked x → Accepted x
  -- NET-10: another good table changes nothing
  pub tables : (t : NetTable) (x : CallState) → table_bad t ≡ false → Accepted x → Accepted (under t x)
