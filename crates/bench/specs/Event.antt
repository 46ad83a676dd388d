-- BENCH-4, BENCH-5: an event does what its call does, and its answer is stored.
use Rattle.std.specs.Prelude.{cond, List, ℕ, suc, set}
use Rattle.answer.specs.declared.Answer as calls
use Rattle.answer.specs.declared.Answer.TheVariants.{IpForm}
use Rattle.answer.specs.Answer.{number}
use Rattle.clock.specs.declared.Counter.{Counter}
use Rattle.net_table.specs.declared.NetTable.{NetTable}
use Rattle.host.specs.Guard.{done}
use Rattle.calls.specs.declared.Request.{Request}
use Rattle.calls.specs.declared.Request.TheVariants as request
use Rattle.calls.specs.Perform.{Outcome, ask, send, perform, in_turn}
use Rattle.bench_file.specs.declared.Header.{Header}
use Rattle.bench_file.specs.declared.End.{End}
use Rattle.bench_file.specs.declared.Event.{Event}
use Rattle.bench_file.specs.declared.Event.TheVariants.{Tick, Adjust, Set, Second, SelfReport, Send, Arrival, Unknown}
use Rattle.bench_file.specs.Records.{end_at}
use Rattle.bench.specs.Bench.{Bench, state_at}
use Rattle.bench.specs.Slots.{packet_of, room_of, empty, far_end, with_room, with_label}

-- BENCH-6: the bench after an event, and the event's answer
pub record After : Type 0 where
  pub bench : Bench
  pub answer : calls.Answer

-- BENCH-1: the bench after a call at a host
abbrev pub after_at : (host : ℕ) → Outcome → Bench → Bench
after_at k o b =
    record {
      hosts = set b.hosts k record { clock = o.clock; links = o.links; walk = o.walk };
      copies = b.copies;
      entries = o.entries;
      slots = b.slots;
      answers = b.answers;
      done = b.done;
    }

-- BENCH-5: the bench with other slots
abbrev pub with_slots : List ℕ → Bench → Bench
with_slots o b =
    record { hosts = b.hosts; copies = b.copies; entries = b.entries; slots = o; answers = b.answers; done = b.done }

module _ (file : List ℕ) (t : NetTable) (h : Header) where
  -- BENCH-4: a tick, adjust, set, second or self-report
  abbrev pub asked : (host : ℕ) → Request → Bench → After
  asked k q b =
      let o : Outcome = perform (ask q) (state_at file t k b) in
      record { bench = after_at k o b; answer = o.reply.answer }

  -- BENCH-5: a send into a slot; a refused one keeps the slot's packet
  abbrev pub sent : End → (cable end slot : ℕ) → Counter → Bench → After
  sent e c i n k b =
      let o : Outcome = perform (send e.link k (room_of n b.slots)) (state_at file t e.host b) in
      let put : List ℕ = with_room n o.buffer b.slots in
      let slots : List ℕ = cond (done o.reply.answer) (with_label n o.reply.length c i put) put in
      record { bench = with_slots slots (after_at e.host o b); answer = o.reply.answer }

  -- BENCH-5, INSPECT-4: an arrival at the far end of the cable: inspection, then action
  abbrev pub taken : End → (slot : ℕ) → Counter → Bench → After
  taken e n k b =
      let o : Outcome = in_turn e.link k (packet_of n b.slots) (state_at file t e.host b) in
      record { bench = after_at e.host o b; answer = o.reply.answer }

  -- BENCH-5, ANSWER-3: an arrival; 3 for an empty slot, without a call
  abbrev pub arrived : (slot : ℕ) → Counter → Bench → After
  arrived n k b =
      cond (empty n b.slots) record { bench = b; answer = IpForm } (taken (far_end file h n b.slots) n k b)

  -- BENCH-4: what each event does
  abbrev pub carried : Event → Bench → After
  carried (Tick k n) b = asked k (request.Tick n) b
  carried (Adjust k n) b = asked k (request.Adjust n) b
  carried (Set k ms n) b = asked k (request.Set ms n) b
  carried (Second k) b = asked k request.Second b
  carried (SelfReport k n) b = asked k (request.SelfReport n) b
  carried (Send c i n k) b = sent (end_at file h c i) c i n k b
  carried (Arrival n k) b = arrived n k b
  carried Unknown b = record { bench = b; answer = IpForm }

-- BENCH-6: the answer is stored, and one event more is done
abbrev pub kept : After → Bench
kept a =
    record {
      hosts = a.bench.hosts;
      copies = a.bench.copies;
      entries = a.bench.entries;
      slots = a.bench.slots;
      answers = set a.bench.answers a.bench.done (number a.answer);
      done = suc a.bench.done;
    }
