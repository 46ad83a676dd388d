-- A send keeps the entries and the buffer's length, and the length that it returns fits the buffer.
use mathlib.Core.Path.{◌≡◌, refl, sym, ◌∙◌, ap}
use mathlib.Core.Bool.{Bool, true, false, cond, false≢true}
use mathlib.Core.List.{List, map}
use Prim.Native.Nat.{ℕ, ◌+◌, ◌-◌, ◌≤◌}
use native.Mathlib.Omega.{arith}
use borrow.Author.Tests.{ltb-false}
use lib.Dec.{ltb}
use lib.ListN.{length, drop, length-map, length-append, length-drop}
use Rattle.lists.specs.Lists.{part}
use Rattle.lists.proofs.Parts.{part_length}
use Rattle.answer.specs.declared.Answer.TheVariants.{ShortBuffer}
use Rattle.clock.specs.declared.Counter.{Counter}
use Rattle.wire.specs.declared.Report.{Report}
use Rattle.wire.specs.Packet.{packet_length, message}
use Rattle.wire.proofs.Messages.{message_length}
use Rattle.table.specs.Entry.{advertised}
use Rattle.host.specs.declared.guard.Scope.TheVariants.{OnLink}
use Rattle.host.specs.State.{host_count, link_of}
use Rattle.host.specs.CallState.{CallState, entries_of, our_reading}
use Rattle.host.specs.Guard.{guard, done}
use Rattle.host.proofs.Places.{Holds, entries_length}
use Rattle.host.proofs.Guarded.{either, passed, holds}
use Rattle.sending.specs.Message.{table_goes, packet_sent}
use Rattle.sending.specs.Send.{report_count, unsent, sends}
use Rattle.calls.specs.Perform.{Outcome, send, sent_by, perform}
use Rattle.calls.specs.Laws.{SendKeeps, EverySendKeeps}

module _ (x : CallState) (i : ℕ) (k : Counter) (buffer : List ℕ) where
  -- what is claimed of an outcome
  record Fits (o : Outcome) : Type 0 where
    pub room : length o.buffer ≡ length buffer
    pub returned : done o.reply.answer ≡ true → o.reply.length ≤ length buffer

  abbrev n : ℕ
  n = report_count x.host.settings (link_of x.host.links i)

  -- the reports are as many as the send counts
  abbrev reports : List Report
  reports = map (advertised i) (part 0 (n - 0) (entries_of x))

  counted : Holds x.number x.entries → length reports ≡ n
  counted h = length-map (part 0 (n - 0) (entries_of x)) (advertised i) ∙ go (table_goes x.host.settings (link_of x.host.links i))
    where
      go : (goes : Bool) → length (part 0 (cond goes (host_count x.host.settings) 0 - 0) (entries_of x)) ≡ cond goes (host_count x.host.settings) 0
      go true =
          let z : host_count x.host.settings - 0 ≡ host_count x.host.settings = omega arith in
          part_length 0 (host_count x.host.settings - 0) (entries_of x) (omega (arith, entries_length x.host.settings x.number x.entries h)) ∙ z
      go false = refl

  abbrev sent_message : List ℕ
  sent_message =
      let y = link_of x.host.links i in
      let r = our_reading k x.host in
      message y.neighbor (packet_sent x.host.settings y r.time r.clock.date n) reports

  fits : Fits (perform (send i k buffer) x)
  unfolding perform
  fits =
      either Fits (guard (OnLink i) x) (λ e. record { room = refl; returned = λ d. absurd (false≢true (sym e ∙ d)) })
      (λ e. go (holds x.number x.entries (passed (OnLink i) x e).places) (ltb (length buffer) (packet_length n)) refl)
    where
      go : Holds x.number x.entries → (short : Bool) → ltb (length buffer) (packet_length n) ≡ short
          → Fits (sent_by (cond short (unsent ShortBuffer x.host) (sends i k x.host)) buffer x)
      go h true q = record { room = refl; returned = λ d. absurd (false≢true d) }
      go h false q =
          let enough : packet_length n ≤ length buffer = ltb-false (length buffer) (packet_length n) q in
          let m : length sent_message ≡ packet_length n = message_length _ _ reports ∙ ap packet_length (counted h) in
          let whole : length sent_message + length (drop (packet_length n) buffer) ≡ length buffer = omega (arith, m, enough, length-drop (packet_length n) buffer) in
          record { room = length-append sent_message (drop (packet_length n) buffer) ∙ whole; returned = λ d. enough }

  same_entries : (perform (send i k buffer) x).entries ≡ x.entries
  unfolding perform
  same_entries = either (λ (o : Outcome). o.entries ≡ x.entries) (guard (OnLink i) x) (λ _. refl) (λ _. refl)

  pub keeps : SendKeeps x i k buffer
  keeps = record { own_entries = same_entries; room = fits.room; fits = fits.returned }

pub every_send_keeps : EverySendKeeps
unfolding EverySendKeeps
every_send_keeps = keeps
