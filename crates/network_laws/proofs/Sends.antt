-- A message is as long as a send returns, so it is the first part of the buffer.
use mathlib.Core.Path.{◌≡◌, refl, ap, ◌∙◌}
use mathlib.Core.Bool.{Bool, true, false, cond}
use mathlib.Core.List.{List, [], map}
use Prim.Native.Nat.{ℕ, ◌-◌}
use native.Mathlib.Omega.{arith}
use lib.ListN.{length, drop, length-map}
use lib.Seq.{take_at, take_all}
use Rattle.lists.specs.Lists.{part}
use Rattle.clock.specs.declared.Counter.{Counter}
use Rattle.wire.specs.declared.Report.{Report}
use Rattle.wire.specs.Packet.{packet_length, message}
use Rattle.wire.proofs.Messages.{message_length}
use Rattle.table.specs.Entry.{advertised}
use Rattle.host.specs.declared.Link.{Link}
use Rattle.host.specs.State.{host_count, link_of}
use Rattle.host.specs.CallState.{CallState, entries_of, our_reading}
use Rattle.host.proofs.Places.{Holds, entries_length}
use Rattle.sending.specs.Message.{table_goes, packet_sent}
use Rattle.sending.specs.Send.{report_count, sends}
use Rattle.calls.specs.Perform.{sent_by}
use Rattle.network_laws.specs.HostAfter.{message_of}

module _ (x : CallState) (there : Holds x.number x.entries) (i : ℕ) where
  abbrev link : Link
  link = link_of x.host.links i

  -- what is reported: the complete table, or nothing
  abbrev pub reports : List Report
  reports = cond (table_goes x.host.settings link) (map (advertised i) (entries_of x)) []

  -- which are as many as the send counts
  pub reports_are : map (advertised i) (part 0 (report_count x.host.settings link - 0) (entries_of x)) ≡ reports
  reports_are = go (table_goes x.host.settings link)
    where
      go : (b : Bool) → map (advertised i) (part 0 (cond b (host_count x.host.settings) 0 - 0) (entries_of x)) ≡ cond b (map (advertised i) (entries_of x)) []
      go true = ap (map (advertised i)) (take_all (host_count x.host.settings - 0) (entries_of x) (omega (arith, entries_length x.host.settings x.number x.entries there)))
      go false = refl

  pub reports_count : length reports ≡ report_count x.host.settings link
  reports_count = go (table_goes x.host.settings link)
    where
      go : (b : Bool) → length (cond b (map (advertised i) (entries_of x)) []) ≡ cond b (host_count x.host.settings) 0
      go true = length-map (entries_of x) (advertised i) ∙ entries_length x.host.settings x.number x.entries there
      go false = refl

  -- the complete message; "destination NEIGHBOR-ADDRESS"
  abbrev pub sent_message : Counter → List ℕ
  sent_message k =
      message link.neighbor
      (packet_sent x.host.settings link (our_reading k x.host).time (our_reading k x.host).clock.date (report_count x.host.settings link)) reports

  pub sent_message_lem : (k : Counter) (buffer : List ℕ) → message_of (sent_by (sends i k x.host) buffer x) ≡ sent_message k
  sent_message_lem k buffer =
      rw reports_are
      (take_at (sent_message k) (drop (packet_length (report_count x.host.settings link)) buffer) (packet_length (report_count x.host.settings link))
      (message_length _ _ reports ∙ ap packet_length reports_count))
