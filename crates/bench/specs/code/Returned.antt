-- The next event in the code: exactly one of a call, a send, an arrival and a note.
use Rattle.std.specs.Prelude.{◌≡◌, true, false, List, ℕ, ◌*◌, ◌≤◌, ◌<◌, length}
use Rattle.clock.specs.declared.Counter.{Counter}
use Rattle.calls.specs.declared.Request.{Request}
use Rattle.calls.specs.declared.Request.TheVariants as request
use Rattle.bench_file.specs.declared.Header.{Header}
use Rattle.bench_file.specs.declared.Event.{Event}
use Rattle.bench_file.specs.declared.Event.TheVariants.{Tick, Adjust, Set, Second, SelfReport, Send, Arrival, Unknown}
use Rattle.bench_file.specs.Settings.{settings_at}
use Rattle.bench_file.specs.Records.{end_at, event_at}
use Rattle.bench_file.specs.Absent.{slots, cables_good, event_good}
use Rattle.bench_file.specs.code.Sections.{Sections}
use Rattle.bench.specs.declared.requests.Ask.{Ask}
use Rattle.bench.specs.declared.sends.Sending.{Sending}
use Rattle.bench.specs.declared.takes.Taking.{Taking}
use Rattle.bench.specs.declared.returned.Returned.{Returned}
use Rattle.bench.specs.declared.returned.Returned.TheVariants as returned
use Rattle.bench.specs.Slots.{slot_length, label_of, empty, far_end, slots_good}

-- an event of a file that passes, and valid slots
pub record EventFits (file octets : List ℕ) (i : ℕ) (h : Header) : Type 0 where
  pub sections : Sections h (length file)
  pub there : i < h.events
  pub cables : cables_good file h ≡ true
  pub good : event_good h (event_at file h i) ≡ true
  pub room : slot_length * slots ≤ length octets
  pub slots : slots_good h octets ≡ true

-- ---- what the settings of a send's and an arrival's host are read from

abbrev pub SendNames : (file : List ℕ) → Header → (cable side : ℕ) → Type 0
SendNames file h c i = Sections h (length file) × (c < h.cables) × (i ≤ 1) × ((end_at file h c i).host < h.hosts)

abbrev pub TakeNames : (file octets : List ℕ) → Header → (slot : ℕ) → Type 0
TakeNames file octets h n =
    Sections h (length file) × (cables_good file h ≡ true) × (slot_length * slots ≤ length octets) × (slots_good h octets ≡ true) × (n < slots) × (empty n octets ≡ false)

-- ---- one of the four

abbrev pub OnlyAsk : (host : ℕ) → Request → Returned → Type 0
OnlyAsk k q p = p ≡ returned.Ask record { host = k; request = q }

abbrev pub OnlySend : (cable end slot : ℕ) → Counter → Returned → Type 0
OnlySend c i n k p = p ≡ returned.Send record { cable = c; side = i; slot = n; counter = k }

abbrev pub OnlyTake : (slot : ℕ) → Counter → Returned → Type 0
OnlyTake n k p = p ≡ returned.Take record { slot = n; counter = k }

abbrev pub OnlyNote : Returned → Type 0
OnlyNote p = p ≡ returned.Note

-- ---- by the event

abbrev pub ask_of : (file : List ℕ) → (host : ℕ) → Request → Ask
ask_of file k q =
    record { host = k; settings = settings_at file k; request = q }

abbrev pub send_of : (file : List ℕ) → Header → (cable end slot : ℕ) → Counter → Sending
send_of file h c i n k =
    record {
      host = (end_at file h c i).host;
      settings = settings_at file (end_at file h c i).host;
      link = (end_at file h c i).link;
      counter = k;
      cable = c;
      side = i;
      slot = n;
    }

abbrev pub take_of : (file octets : List ℕ) → Header → (slot : ℕ) → Counter → Taking
take_of file octets h n k =
    record {
      host = (far_end file h n octets).host;
      settings = settings_at file (far_end file h n octets).host;
      link = (far_end file h n octets).link;
      counter = k;
      slot = n;
      size = (label_of n octets).length;
    }

-- a slot that was never filled is only noted
pub record ReturnsArrival (octets : List ℕ) (n : ℕ) (k : Counter) (p : Returned) : Type 0 where
  pub unfilled : empty n octets ≡ true → OnlyNote p
  pub filled : empty n octets ≡ false → OnlyTake n k p

abbrev pub Tells : (octets : List ℕ) → Event → Returned → Type 0
Tells octets (Tick k n) p = OnlyAsk k (request.Tick n) p
Tells octets (Adjust k n) p = OnlyAsk k (request.Adjust n) p
Tells octets (Set k ms n) p = OnlyAsk k (request.Set ms n) p
Tells octets (Second k) p = OnlyAsk k request.Second p
Tells octets (SelfReport k n) p = OnlyAsk k (request.SelfReport n) p
Tells octets (Send c i n k) p = OnlySend c i n k p
Tells octets (Arrival n k) p = ReturnsArrival octets n k p
Tells octets Unknown p = OnlyNote p
