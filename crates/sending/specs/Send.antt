-- SEND-4: what a send results in: the reply, clock and links, and the message with its reports.
use Rattle.std.specs.Prelude.{cond, List, map, ◌++◌, ℕ, ◌-◌, ltb, drop, Option, Some, None}
use Rattle.lists.specs.Lists.{part}
use Rattle.answer.specs.declared.Answer.{Answer}
use Rattle.answer.specs.declared.Answer.TheVariants.{ShortBuffer}
use Rattle.clock.specs.declared.Counter.{Counter}
use Rattle.clock.specs.declared.Reading.{Reading}
use Rattle.wire.specs.declared.Report.{Report}
use Rattle.wire.specs.Packet.{packet_length, message}
use Rattle.table.specs.declared.Entry.{Entry}
use Rattle.table.specs.Entry.{advertised}
use Rattle.host.specs.declared.Settings.{Settings}
use Rattle.host.specs.declared.Link.{Link}
use Rattle.host.specs.State.{host_count, link_of, with_link}
use Rattle.host.specs.declared.Host.{Host}
use Rattle.host.specs.CallState.{our_reading}
use Rattle.host.specs.Reply.{plainly, returns_length}
use Rattle.sending.specs.declared.Sending.{Sending}
use Rattle.sending.specs.declared.Message.{Message}
use Rattle.sending.specs.Message.{table_goes, link_sent, packet_sent}

-- SEND-2: how many reports go out
abbrev pub report_count : Settings → Link → ℕ
report_count s x = cond (table_goes s x) (host_count s) 0

-- SEND-4, CLOCK-16: a send without a message: nothing changes
abbrev pub unsent : Answer → Host → Sending
unsent a h =
    record {
      reply = plainly a;
      clock = h.clock;
      links = h.links;
      work = record { first = 0; end = 0; pid = 0 };
      message = None;
    }

-- SEND-1, SEND-2, CLOCK-16: a send with its reading, to NEIGHBOR-ADDRESS
abbrev pub sent_at : Reading → (link : ℕ) → Host → Sending
sent_at r i h =
    let x : Link = link_of h.links i in
    let n : ℕ = report_count h.settings x in
    record {
      reply = returns_length (packet_length n);
      clock = r.clock;
      links = with_link i (link_sent x) h.links;
      work = record { first = 0; end = n; pid = i };
      message = Some record { destination = x.neighbor; packet = packet_sent h.settings x r.time r.clock.date n };
    }

-- SEND-1, CLOCK-16: a send; it reads the clock once, first
abbrev pub sends : (link : ℕ) → Counter → Host → Sending
sends i k h = sent_at (our_reading k h) i h

-- SEND-4, ANSWER-2, CLOCK-16: 2 if the buffer is too short, without a reading; else the send
abbrev pub send_in : (link : ℕ) → Counter → (room : ℕ) → Host → Sending
send_in i k room h =
    cond (ltb room (packet_length (report_count h.settings (link_of h.links i)))) (unsent ShortBuffer h) (sends i k h)

-- SEND-4, TABLE-6: a message, if there is one, with these reports at the buffer's start; the octets from n on stay
abbrev pub with_message : Option Message → List Report → (n : ℕ) → (buffer : List ℕ) → List ℕ
with_message None reports n buffer = buffer
with_message (Some m) reports n buffer = message m.destination m.packet reports ++ drop n buffer

-- SEND-4, TABLE-6: the message at the buffer's start; the octets after it stay
abbrev pub written : Sending → List Entry → (buffer : List ℕ) → List ℕ
written p es buffer =
    with_message p.message (map (advertised p.work.pid) (part p.work.first (p.work.end - p.work.first) es)) p.reply.length buffer
