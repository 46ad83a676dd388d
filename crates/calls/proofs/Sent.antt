-- A send as the code goes: the reports fit the buffer, the message can be completed around them, and what is written and stored is what the call leaves.
use mathlib.Core.Path.{◌≡◌, refl, sym, ap, subst, ◌∙◌}
use mathlib.Core.Bool.{Bool, true, false, cond}
use mathlib.Core.List.{List, ◌++◌, map}
use Prim.Native.Nat.{ℕ, ◌+◌, ◌-◌, ◌≤◌}
use native.Mathlib.Omega.{arith}
use borrow.Author.Tests.{ltb-false}
use lib.Dec.{ltb}
use lib.ListN.{length, drop, length-map}
use Rattle.std.proofs.Common.{Some}
use Rattle.lists.specs.Lists.{part}
use Rattle.lists.proofs.Parts.{part_length, over_length}
use Rattle.quantity.specs.declared.Millis.{Millis}
use Rattle.quantity.proofs.Ints.{to-≤ℤ, to-<ℤ}
use Rattle.answer.specs.declared.Answer.TheVariants.{ShortBuffer}
use Rattle.clock.specs.Clock.{clock_in_range}
use Rattle.clock.specs.Midnight.{day_millis}
use Rattle.clock.specs.declared.Counter.{Counter}
use Rattle.wire.specs.declared.Packet.{Packet}
use Rattle.wire.specs.declared.Address.{Address}
use Rattle.wire.specs.declared.Report.{Report}
use Rattle.wire.specs.Hello.{reports_octets}
use Rattle.wire.specs.Packet.{packet_length, message}
use Rattle.wire.specs.code.Ranges.{Four}
use Rattle.wire.specs.code.Sealing.{with_reports, sealed}
use Rattle.wire.proofs.Messages.{reports_length}
use Rattle.wire.proofs.Sealing.{all_put, put_and_sealed}
use Rattle.table.specs.declared.entries.Reports.{Reports}
use Rattle.table.specs.Entry.{up_to, advertised}
use Rattle.table.specs.code.Loops.{read_out, ReportsFit}
use Rattle.table.proofs.Ranges.{within, reading_in}
use Rattle.host.specs.declared.Settings.{Settings}
use Rattle.host.specs.declared.Link.{Link}
use Rattle.host.specs.declared.guard.Scope.TheVariants.{OnLink}
use Rattle.host.specs.Settings.{settings_good}
use Rattle.host.specs.State.{first_place, host_count, link_of, own_entries}
use Rattle.host.specs.CallState.{CallState, entries_of, our_reading}
use Rattle.host.specs.Guard.{guard, done}
use Rattle.host.proofs.Places.{Holds}
use Rattle.host.proofs.Guarded.{passed, holds, number_state, clock_state, counted}
use Rattle.sending.specs.declared.Sending.{Sending}
use Rattle.sending.specs.declared.Message.{Message}
use Rattle.sending.specs.Message.{table_goes, packet_sent}
use Rattle.sending.specs.Send.{report_count, unsent, sends, send_in}
use Rattle.sending.specs.code.Finish.{Finishable, finished}
use Rattle.calls.specs.Perform.{Outcome, Leaves, send, sent_by, perform}
use Rattle.calls.specs.code.Places.{Placeable, reports_at}
use Rattle.calls.proofs.Guarding.{goes_on}
use Rattle.calls.proofs.Carried.{part_part}

pub record Sent (x : CallState) (buffer : List ℕ) (p : Sending) (o : Outcome) : Type 0 where
  pub ids : Placeable x.number p.work.first p.work.end
  pub fits : ReportsFit (reports_at x.number p.work) x.entries buffer
  pub ready : Finishable p (read_out (reports_at x.number p.work) x.entries buffer)
  pub left : Leaves o p.reply p.clock p.links x.walk x.copy x.entries
  pub octets : finished p (read_out (reports_at x.number p.work) x.entries buffer) ≡ o.buffer

-- a time of the day fits its four octets
four : (m : Millis) → up_to day_millis m ≡ true → Four m.0
four m e =
    let w = within 86400000 m.0 e in
    record { not_below = to-≤ℤ _ m.0 (omega arith); below = to-<ℤ m.0 _ (omega arith) }

module _ (x : CallState) (i : ℕ) (counter : Counter) (buffer : List ℕ) where
  abbrev s : Settings
  s = x.host.settings

  abbrev k : ℕ
  k = x.number

  abbrev F : ℕ
  F = first_place x.number

  abbrev y : Link
  y = link_of x.host.links i

  -- the number of reports
  module _ (n : ℕ) (few : n ≤ host_count s) (h : Holds k x.entries) (room : packet_length n ≤ length buffer) where
    abbrev w : Reports
    w = record { first = 0; end = n; pid = i }

    abbrev rs : List Report
    rs = map (advertised i) (part 0 n (entries_of x))

    same_part : part 0 n (entries_of x) ≡ part (F + 0) n x.entries
    unfolding own_entries
    same_part = part_part F (host_count s) 0 n x.entries (omega arith) (omega arith)

    how_many : length rs ≡ n
    how_many = length-map (part 0 n (entries_of x)) (advertised i) ∙ rw same_part (part_length (F + 0) n x.entries (omega arith))

    put : read_out (reports_at k w) x.entries buffer ≡ with_reports 0 rs buffer
    unfolding read_out
    put =
        let m : F + n - (F + 0) ≡ n = omega arith in
        rw (m, same_part) refl

    fitting : ReportsFit (reports_at k w) x.entries buffer
    fitting = record { places = record { rising = omega arith; inside = omega arith }; room = λ _. (let m : F + n - (F + 0) ≡ n = omega arith in rw m room) }

    put_length : length (with_reports 0 rs buffer) ≡ length buffer
    put_length =
        let z : packet_length (0 + length rs) ≤ length buffer = omega (arith, how_many) in
        rw (all_put 0 rs buffer z) (over_length (packet_length 0) buffer (reports_octets rs) (omega (arith, how_many, reports_length rs)))

    sealed_is : (a : Address) (p : Packet) → p.nhosts ≡ n → sealed a p (with_reports 0 rs buffer) ≡ message a p rs ++ drop (packet_length n) buffer
    sealed_is a p e =
        let z : packet_length (0 + length rs) ≤ length buffer = omega (arith, how_many) in
        rw (all_put 0 rs buffer z) (put_and_sealed a p rs buffer (e ∙ sym how_many) (omega (arith, how_many)) ∙ ap (λ (m : ℕ). message a p rs ++ drop (packet_length m) buffer) how_many)

  few : report_count s y ≤ host_count s
  few = go (table_goes s y)
    where
      go : (goes : Bool) → cond goes (host_count s) 0 ≤ host_count s
      go true = omega arith
      go false = omega arith

  -- no message
  stops : Holds k x.entries → k ≤ 15 → Sent x buffer (unsent ShortBuffer x.host) (sent_by (unsent ShortBuffer x.host) buffer x)
  unfolding read_out with_reports
  stops h k-in =
      let z : F + 0 - (F + 0) ≡ 0 = omega arith in
      record {
        ids = record { number = k-in; rising = omega arith; ids = omega arith };
        fits = record { places = record { rising = omega arith; inside = omega arith }; room = λ l. absurd (omega (arith, l)) };
        ready = record { room = λ m none. cc; time = λ m none. cc };
        left = record { reply = refl; clock = refl; links = refl; walk = refl; copy = refl; entries = refl };
        octets = rw z refl;
      }

  abbrev the_sent : Message
  the_sent =
      let r = our_reading counter x.host in
      record { destination = y.neighbor; packet = packet_sent s y r.time r.clock.date (report_count s y) }

  the_message : (m : Message) → Some the_sent ≡ Some m → the_sent ≡ m
  the_message m is = cc

  went : Holds k x.entries → k ≤ 15 → packet_length (report_count s y) ≤ length buffer
      → Sent x buffer (sends i counter x.host) (sent_by (sends i counter x.host) buffer x)
  went h k-in room =
      let n = report_count s y in
      let z : report_count s y - 0 ≡ report_count s y = omega arith in
      record {
        ids = record { number = k-in; rising = omega arith; ids = omega (arith, few) };
        fits = fitting n few h room;
        ready = record {
          room = λ m one. subst (λ (m : Message). packet_length m.packet.nhosts ≤ length (read_out (reports_at k (w n few h room)) x.entries buffer)) (the_message m one) (rw (put n few h room, put_length n few h room) room);
          time = λ m one. subst (λ (m : Message). Four m.packet.time.0) (the_message m one) (four (our_reading counter x.host).time (reading_in s.clock_tick s.hold_interval counter x.host.clock));
        };
        left = record { reply = refl; clock = refl; links = refl; walk = refl; copy = refl; entries = refl };
        octets = rw (put n few h room, z) (sealed_is n few h room y.neighbor the_sent.packet refl);
      }

  module _ (e : done (guard (OnLink i) x) ≡ true) where
    pub host_good : record { good : settings_good s ≡ true; in_range : clock_in_range x.host.clock ≡ true }
    host_good = let q = passed (OnLink i) x e in record { good = q.settings; in_range = clock_state x (q.call_state refl) }

    -- whether the buffer is too short
    pub sent : Sent x buffer (send_in i counter (length buffer) x.host) (perform (send i counter buffer) x)
    sent =
        let q = passed (OnLink i) x e in
        rw (goes_on (send i counter buffer) x e)
        (go (holds k x.entries q.places) (number_state k x.entries q.places) (ltb (length buffer) (packet_length (report_count s y))) refl)
      where
        go : Holds k x.entries → k ≤ 15 → (short : Bool) → ltb (length buffer) (packet_length (report_count s y)) ≡ short
            → Sent x buffer (cond short (unsent ShortBuffer x.host) (sends i counter x.host)) (sent_by (cond short (unsent ShortBuffer x.host) (sends i counter x.host)) buffer x)
        go h k-in true f = stops h k-in
        go h k-in false f = went h k-in (ltb-false _ _ f)
