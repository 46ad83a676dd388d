-- BENCH-1, ISOLATION-2: a run is the list of calls that its events name. So demand 1 is true of set-up and run, for every file.
use Rattle.std.specs.Prelude.{◌≡◌, Bool, true, false, cond, ℕ, zero, suc, ◌<◌, ltb, length, get_or}
use mathlib.Core.List.{List, [], ◌∷◌, map, flatten}
use Rattle.lists.specs.Lists.{over}
use Rattle.answer.specs.declared.Answer.{Answer}
use Rattle.answer.specs.declared.Answer.TheVariants.{Done, IpForm}
use Rattle.answer.specs.Answer.{number}
use Rattle.clock.specs.declared.Counter.{Counter}
use Rattle.net_table.specs.declared.NetTable.{NetTable}
use Rattle.table.specs.Forms.{up_from}
use Rattle.host.specs.Guard.{done}
use Rattle.calls.specs.declared.Request.TheVariants as request
use Rattle.calls.specs.Perform.{Call, ask, send, inspect, act, perform}
use Rattle.bench_file.specs.declared.End.{End}
use Rattle.bench_file.specs.declared.Event.{Event}
use Rattle.bench_file.specs.declared.Event.TheVariants.{Tick, Adjust, Set, Second, SelfReport, Send, Arrival, Unknown}
use Rattle.bench_file.specs.Settings.{settings_at}
use Rattle.bench_file.specs.Records.{end_at, event_at}
use Rattle.bench.specs.declared.HostState.{HostState}
use Rattle.bench.specs.Answer.{passes}
use Rattle.bench.specs.Bench.{Bench, fresh_host, copy_of, state_at}
use Rattle.bench.specs.Slots.{packet_of, room_of, empty, far_end}
use Rattle.bench.specs.Guard.{set_up_guard, run_guard}
use Rattle.bench.specs.Run.{header, all_set, next, after_set_up, after_run, ran}
use Rattle.network_laws.specs.Isolation.{SharedEvent, Shared, shared_outcome, shared_after, shared_after_all, alone, SharedAlike}

-- ---- a bench as lists of calls have it: each host's state, and the host table that all share

-- BENCH-1: the state of a host
abbrev pub host_at : (file : List ℕ) → Bench → (host : ℕ) → HostState
host_at file b k = get_or b.hosts k (fresh_host file k)

-- BENCH-1: the state of all hosts
abbrev pub shared_of : (file : List ℕ) → Bench → Shared
shared_of file b =
    record {
      clock = λ (k : ℕ). (host_at file b k).clock;
      links = λ (k : ℕ). (host_at file b k).links;
      walk = λ (k : ℕ). (host_at file b k).walk;
      copy = λ (k : ℕ). copy_of k b.copies;
      entries = b.entries;
    }

module _ (file : List ℕ) (t : NetTable) where
  -- BENCH-1: a call at a host, with the settings of the file
  abbrev pub call_at : (host : ℕ) → Call → SharedEvent
  call_at k c = record { number = k; settings = settings_at file k; nets = t; call = c }

  -- ---- the calls of an event

  -- INSPECT-4: inspection and, if it passes, action
  abbrev pub pair_of : (passes : Bool) → End → Counter → (packet : List ℕ) → List SharedEvent
  pair_of true e k packet = call_at e.host (inspect e.link packet) ∷ call_at e.host (act e.link k packet) ∷ []
  pair_of false e k packet = call_at e.host (inspect e.link packet) ∷ []

  -- INSPECT-4: the same, if the inspection answers 0
  abbrev pub pair_at : End → Counter → (packet : List ℕ) → Bench → List SharedEvent
  pair_at e k packet b = pair_of (done (perform (inspect e.link packet) (state_at file t e.host b)).reply.answer) e k packet

  -- BENCH-4: the calls of an event: one; for an arrival two, one that is refused, or none for an empty slot
  abbrev pub calls_of : Event → Bench → List SharedEvent
  calls_of (Tick k n) b = call_at k (ask (request.Tick n)) ∷ []
  calls_of (Adjust k n) b = call_at k (ask (request.Adjust n)) ∷ []
  calls_of (Set k ms n) b = call_at k (ask (request.Set ms n)) ∷ []
  calls_of (Second k) b = call_at k (ask request.Second) ∷ []
  calls_of (SelfReport k n) b = call_at k (ask (request.SelfReport n)) ∷ []
  calls_of (Send c i n k) b =
      let e : End = end_at file (header file t) c i in
      call_at e.host (send e.link k (room_of n b.slots)) ∷ []
  calls_of (Arrival n k) b =
      cond (empty n b.slots) [] (pair_at (far_end file (header file t) n b.slots) k (packet_of n b.slots) b)
  calls_of Unknown b = []

  -- ---- the calls of a run

  -- BENCH-6: the calls of a run, event by event
  unfoldable pub turns : (allowance : ℕ) → Bench → List (List SharedEvent)
  turns zero b = []
  turns (suc n) b =
      cond (ltb b.done (header file t).events) (calls_of (event_at file (header file t) b.done) b ∷ turns n (next file t b)) []

  -- BENCH-8: none for a run that is refused
  abbrev pub run_turns : (allowance : ℕ) → Bench → List (List SharedEvent)
  run_turns n b = cond (passes (run_guard t file b)) (turns n b) []

  -- BENCH-6: the calls of a run
  abbrev pub run_calls : (allowance : ℕ) → Bench → List SharedEvent
  run_calls n b = flatten (run_turns n b)

  -- BENCH-1: the calls of set-up: each host is initialized
  abbrev pub set_up_calls : Bench → List SharedEvent
  set_up_calls b =
      cond (passes (set_up_guard t file b)) (map (λ (k : ℕ). call_at k (ask request.Initialize)) (up_from 0 (header file t).hosts)) []

-- ---- the answers

-- BENCH-6: the answer of the last call
abbrev pub last_answer : Answer → Shared → List SharedEvent → Answer
last_answer a w [] = a
last_answer a w (e ∷ es) = last_answer (shared_outcome w e).reply.answer (shared_after w e) es

-- BENCH-5, BENCH-6: the answers of all events; 3 for an event without a call
unfoldable pub answers_of : Shared → List (List SharedEvent) → List ℕ
answers_of w [] = []
answers_of w (es ∷ rest) = number (last_answer IpForm w es) ∷ answers_of (shared_after_all w es) rest

-- ---- the theorem

-- BENCH-6: what a run is
pub record Called (file : List ℕ) (t : NetTable) (n : ℕ) (b : Bench) : Type 0 where
  -- BENCH-6: the state after it is the state after its calls, in order
  pub left : shared_of file (after_run file t n b) ≡ shared_after_all (shared_of file b) (run_calls file t n b)
  -- BENCH-6: their answers are stored, from the first event not done on
  pub answers : (after_run file t n b).answers ≡ over b.answers b.done (answers_of (shared_of file b) (run_turns file t n b))
  -- BENCH-6: and the count is the number of events
  pub count : (ran file t n b).count ≡ length (run_turns file t n b)
  -- BENCH-1: set-up is the initializing of each host in turn
  pub set_up_lem : shared_of file (after_set_up file t b) ≡ shared_after_all (shared_of file b) (set_up_calls file t b)
  -- BENCH-1: and each answers 0, if set-up is not refused
  pub initialized : passes (set_up_guard t file b) ≡ true → (k : ℕ) → k < (header file t).hosts
      → (perform (ask request.Initialize) (state_at file t k (all_set file t 0 k b))).reply.answer ≡ Done
  -- ISOLATION-2: a host without calls keeps its clock, links, walk and all 255 places
  pub elsewhere : (k : ℕ) → alone k (run_calls file t n b) ≡ [] → SharedAlike k (shared_of file (after_run file t n b)) (shared_of file b)
  -- ISOLATION-3: the state of each host depends on its own calls only
  pub own : (k : ℕ)
      → SharedAlike k (shared_of file (after_run file t n b)) (shared_after_all (shared_of file b) (alone k (run_calls file t n b)))

-- BENCH-6, ISOLATION-2: for every file, table, budget and bench
unfoldable pub Calls : Type 0
Calls = (file : List ℕ) (t : NetTable) (n : ℕ) (b : Bench) → Called file t n b
