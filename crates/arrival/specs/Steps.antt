-- ARRIVE-2 to ARRIVE-5: steps 2 to 4 on an arrival, and the update of step 5.
use Rattle.std.specs.Prelude.{Bool, cond, not, ◌||◌, ℕ, eqb, pos}
use Rattle.quantity.specs.declared.Millis.{Millis}
use Rattle.quantity.specs.declared.Seconds.{Seconds}
use Rattle.quantity.specs.declared.Word.{Word}
use Rattle.quantity.specs.Quantity.{millis, add_millis, sub_millis, half_millis, less_millis}
use Rattle.quantity.specs.Words.{word, to_word, of_word, zero_word}
use Rattle.wire.specs.declared.Packet.{Packet}
use Rattle.wire.specs.declared.Report.{Report}
use Rattle.wire.specs.Octets.{same_address}
use Rattle.table.specs.declared.Update.{Update}
use Rattle.table.specs.Forms.{Stage, on, end}
use Rattle.table.specs.Entry.{max_delay, min_delay}
use Rattle.table.specs.Update.{plus_report}
use Rattle.host.specs.declared.Link.{Link}
use Rattle.arrival.specs.declared.Flight.{Flight}
use Rattle.host.specs.State.{keep_alive_interval}

-- ARRIVE-2: KEEP-ALIVE becomes 4
unfoldable pub step2 : Flight → Flight
step2 f =
    record {
      reading = f.reading;
      link = record { neighbor = f.link.neighbor; keep_alive = keep_alive_interval; tsp = f.link.tsp };
      delay = f.delay;
      offset = f.offset;
    }

-- ARRIVE-3: TSP: the packet's time minus our reading, as a 16-bit word
abbrev pub tsp_of : (time reading : Millis) → Word
tsp_of t r = to_word (sub_millis t r)

-- ARRIVE-3, SLIP-4: DELAY: our reading minus the packet's TSP, as a signed 16-bit word
abbrev pub delay_of : (reading : Millis) (packet_tsp : Word) → Millis
delay_of r v = of_word (to_word (sub_millis r (of_word v)))

-- ARRIVE-3: OFFSET: TSP plus half of DELAY, as a 16-bit word
abbrev pub offset_of : (tsp : Word) (delay : Millis) → Word
offset_of v d = to_word (add_millis (of_word v) (half_millis d))

-- ARRIVE-3, SLIP-2: TSP, DELAY (0 on a broadcast link) and OFFSET
unfoldable pub step3 : (broadcast : Bool) → Packet → Flight → Flight
step3 b p f =
    let v : Word = tsp_of p.time f.reading in
    let d : Millis = cond b (millis (pos 0)) (delay_of f.reading p.tsp) in
    record {
      reading = f.reading;
      link = record { neighbor = f.link.neighbor; keep_alive = f.link.keep_alive; tsp = v };
      delay = d;
      offset = offset_of v d;
    }

-- ARRIVE-4: the source becomes NEIGHBOR-ADDRESS, and DELAY 30,000
abbrev pub new_neighbor : Packet → Flight → Flight
new_neighbor p f =
    record {
      reading = f.reading;
      link = record { neighbor = p.source; keep_alive = f.link.keep_alive; tsp = f.link.tsp };
      delay = max_delay;
      offset = f.offset;
    }

-- ARRIVE-4, ANSWER-10: a new neighbour is stored; a known one needs a TSP that is not 0 and HOLD 0, or the arrival ends with 10
unfoldable pub step4 : (broadcast : Bool) (hold : Seconds) → Packet → Flight → Stage Flight
step4 b h p f =
    cond b (on f)
    (cond (not (same_address p.source f.link.neighbor)) (on (new_neighbor p f))
    (cond (zero_word p.tsp || not (eqb h.0 0)) (end f) (on f)))

-- ARRIVE-3: steps 2 and 3 of a link and our reading
abbrev pub measured : (broadcast : Bool) → Packet → (reading : Millis) → Link → Flight
measured b p r x = step3 b p (step2 record { reading = r; link = x; delay = millis (pos 0); offset = word (pos 0) })

-- INSPECT-3: steps 2 to 4
unfoldable pub steps2to4 : (broadcast : Bool) (hold : Seconds) → Packet → (reading : Millis) → Link → Stage Flight
steps2to4 b h p r x = step4 b h p (measured b p r x)

-- ARRIVE-5, SLIP-2, SLIP-4: a DELAY of less than 100 becomes 100
abbrev pub at_least_min : Millis → Millis
at_least_min d = cond (less_millis d min_delay) min_delay d

-- ARRIVE-5, UPDATE-2: the update without a report, with the link's number as PID and the reading of step 3
abbrev pub neighbor_update : (link : ℕ) → Flight → Update
neighbor_update i f =
    record { pid = i; delay = at_least_min f.delay; offset = f.offset; reading = f.reading }

-- helper: the update with a report
abbrev pub report_update : (link : ℕ) → Flight → Report → Update
report_update i f r = plus_report (neighbor_update i f) r
