-- BENCH-8, ANSWER-19: a record that names a host, link, cable, end, slot or kind that is not there, or a mark other than 0 and 1.
use Rattle.std.specs.Prelude.{Bool, false, ◌&&◌, List, ℕ, ltb, leb}
use Rattle.clock.specs.declared.Counter.{Counter}
use Rattle.table.specs.Forms.{every, up_from}
use Rattle.bench_file.specs.declared.Header.{Header}
use Rattle.bench_file.specs.declared.End.{End}
use Rattle.bench_file.specs.declared.Event.{Event}
use Rattle.bench_file.specs.declared.Event.TheVariants.{Tick, Adjust, Set, Second, SelfReport, Send, Arrival, Unknown}
use Rattle.bench_file.specs.Records.{link_count_at, end_at, event_at}

-- BENCH-4: how many slots there are
abbrev pub slots : ℕ
slots = 32

-- ---- cables

-- BENCH-8: is the end's host there, with such a link?
unfoldable pub end_good : List ℕ → Header → End → Bool
end_good file h e = ltb e.host h.hosts && (leb 1 e.link && leb e.link (link_count_at file e.host))

-- BENCH-8: are both ends of a cable good?
unfoldable pub cable_good : List ℕ → Header → (cable : ℕ) → Bool
cable_good file h k = end_good file h (end_at file h k 0) && end_good file h (end_at file h k 1)

-- ---- events

-- BENCH-8: is an overflow mark 0 or 1?
abbrev pub mark_good : Counter → Bool
mark_good k = leb k.overflow 1

-- BENCH-8: is everything there that an event names?
abbrev pub event_good : Header → Event → Bool
event_good h (Tick i n) = ltb i h.hosts
event_good h (Adjust i n) = ltb i h.hosts
event_good h (Set i ms n) = ltb i h.hosts
event_good h (Second i) = ltb i h.hosts
event_good h (SelfReport i k) = ltb i h.hosts && mark_good k
event_good h (Send c e t k) = ltb c h.cables && (leb e 1 && (ltb t slots && mark_good k))
event_good h (Arrival t k) = ltb t slots && mark_good k
event_good h Unknown = false

-- ---- the file

-- BENCH-8: are all cables good?
unfoldable pub cables_good : List ℕ → Header → Bool
cables_good file h = every (cable_good file h) (up_from 0 h.cables)

-- BENCH-8: are all events good?
unfoldable pub events_good : List ℕ → Header → Bool
events_good file h = every (λ (k : ℕ). event_good h (event_at file h k)) (up_from 0 h.events)
