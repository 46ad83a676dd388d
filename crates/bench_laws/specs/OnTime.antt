-- ROOM-1 to ROOM-8: the network of a file, and when its events are on time.
use Rattle.std.specs.Prelude.{◌≡◌, true, false, cond, List, ℕ, zero, suc, ◌-◌, ◌≤◌, ◌<◌, T, ltb, ℤ, pos, ◌+ℤ◌, ◌<ℤ◌}
use Rattle.answer.specs.declared.Answer.{Answer}
use Rattle.answer.specs.declared.Answer.TheVariants.{Done}
use Rattle.clock.specs.declared.Counter.{Counter}
use Rattle.clock.specs.Midnight.{day_millis}
use Rattle.net_table.specs.declared.NetTable.{NetTable}
use Rattle.host.specs.Guard.{done}
use Rattle.bench_file.specs.declared.Event.{Event}
use Rattle.bench_file.specs.declared.Event.TheVariants.{Tick, Adjust, Set, Second, SelfReport, Send, Arrival, Unknown}
use Rattle.bench_file.specs.Settings.{settings_at}
use Rattle.bench_file.specs.Records.{end_at, event_at}
use Rattle.bench.specs.Bench.{Bench, copy_of}
use Rattle.bench.specs.Slots.{empty, far_end}
use Rattle.bench.specs.Event.{carried}
use Rattle.bench.specs.Run.{header, all_set, next}
use Rattle.network_laws.specs.History.{put}
use Rattle.network_laws.specs.Network.{Network, End, at}
use Rattle.network_laws.specs.Demand3.{reading_at, timed}
use Rattle.bench_laws.specs.Calls.{host_at}

module _ (file : List ℕ) (t : NetTable) where
  -- ---- the network of a file

  -- ROOM-1, ROOM-2: the network of a file: record a is host a, initialized by set-up
  abbrev pub file_network : Bench → (fixed : ℕ → ℤ) → (cable : (node link : ℕ) → End) → (longest : ℕ) → Network
  file_network b f cable n =
      record {
        nodes = (header file t).hosts;
        number = λ (a : ℕ). a;
        settings = λ (a : ℕ). settings_at file a;
        fixed = f;
        cable = cable;
        longest = n;
        nets = λ (a : ℕ). t;
        clock = λ (a : ℕ). (host_at file (all_set file t 0 a b) a).clock;
        links = λ (a : ℕ). (host_at file (all_set file t 0 a b) a).links;
        walk = λ (a : ℕ). (host_at file (all_set file t 0 a b) a).walk;
        copy = λ (a : ℕ). copy_of a (all_set file t 0 a b).copies;
        entries = λ (a : ℕ). (all_set file t 0 a b).entries;
      }

  -- ROOM-3: the network's cables are those of the file
  abbrev pub Wired : (cable : (node link : ℕ) → End) → Type 0
  Wired cable =
      (c i : ℕ) → c < (header file t).cables → i ≤ 1
      → cable (end_at file (header file t) c i).host (end_at file (header file t) c i).link
      ≡ at (end_at file (header file t) c (1 - i)).host (end_at file (header file t) c (1 - i)).link

  -- ---- events at the room's milliseconds

  -- ROOM-6: the answer of an event
  abbrev pub answer_of : Event → Bench → Answer
  answer_of e b = (carried file t (header file t) e b).answer

  -- ROOM-8: when the packet of each slot was sent, after an event
  abbrev pub since_then : (ms : ℤ) → (since : ℕ → ℤ) → Event → Bench → (ℕ → ℤ)
  since_then ms since (Tick k n) b = since
  since_then ms since (Adjust k n) b = since
  since_then ms since (Set k by n) b = since
  since_then ms since (Second k) b = since
  since_then ms since (SelfReport k n) b = since
  since_then ms since (Send c i n k) b = cond (done (answer_of (Send c i n k) b)) (put n ms since) since
  since_then ms since (Arrival n k) b = since
  since_then ms since Unknown b = since

  -- ROOM-8: the same after the next events, with event k at millisecond `ms k`
  unfoldable pub since_all : (ms : ℕ → ℤ) → (allowance : ℕ) → (since : ℕ → ℤ) → Bench → (ℕ → ℤ)
  since_all ms zero since b = since
  since_all ms (suc n) since b =
      cond (ltb b.done (header file t).events)
      (since_all ms n (since_then (ms b.done) since (event_at file (header file t) b.done) b) (next file t b)) since

  module _ (r : Network) where
    -- ROOM-6: the reading is the network's millisecond plus the host's fixed number, before midnight
    pub record ReadsAt (b : Bench) (a : ℕ) (k : Counter) (ms : ℤ) : Type 0 where
      pub clock : (reading_at r a (host_at file b a).clock k).time.0 ≡ ms +ℤ r.fixed a
      pub no_midnight : (reading_at r a (host_at file b a).clock k).time.0 <ℤ day_millis.0

    -- ROOM-8: the packet was at most the longest time under way
    pub record LaterThan (b : Bench) (a : ℕ) (k : Counter) (ms sent : ℤ) : Type 0 where
      pub reads : ReadsAt b a k ms
      pub way : ℕ
      pub short : way ≤ r.longest
      pub later : ms ≡ sent +ℤ pos way

    -- ROOM-4, ROOM-6: a send answered 0, and an arrival answered 0, 10 or 11, is on time. Other events are free, adjusts and sets too. `since` has each slot's time of sending.
    abbrev pub OnTime : (ms : ℤ) → (since : ℕ → ℤ) → Event → Bench → Type 0
    OnTime ms since (Tick k n) b = Unit {0}
    OnTime ms since (Adjust k n) b = Unit {0}
    OnTime ms since (Set k by n) b = Unit {0}
    OnTime ms since (Second k) b = Unit {0}
    OnTime ms since (SelfReport k n) b = Unit {0}
    OnTime ms since (Send c i n k) b =
        answer_of (Send c i n k) b ≡ Done → ReadsAt b (end_at file (header file t) c i).host k ms
    OnTime ms since (Arrival n k) b =
        empty n b.slots ≡ false → T (timed (answer_of (Arrival n k) b))
        → LaterThan b (far_end file (header file t) n b.slots).host k ms (since n)
    OnTime ms since Unknown b = Unit {0}

    -- ROOM-6: the next events, each on time
    unfoldable pub AllOnTime : (ms : ℕ → ℤ) → (allowance : ℕ) → (since : ℕ → ℤ) → Bench → Type 0
    AllOnTime ms zero since b = Unit {0}
    AllOnTime ms (suc n) since b =
        ltb b.done (header file t).events ≡ true
        → OnTime (ms b.done) since (event_at file (header file t) b.done) b
        × AllOnTime ms n (since_then (ms b.done) since (event_at file (header file t) b.done) b) (next file t b)
