-- An event keeps the length of the slots, and their labels stay good.
use mathlib.Core.Path.{◌≡◌, refl, ◌∙◌}
use mathlib.Core.Bool.{true, false≢true}
use mathlib.Core.List.{List}
use Prim.Native.Nat.{ℕ, ◌*◌, ◌≤◌, ◌<◌}
use native.Mathlib.Omega.{arith}
use lib.ListN.{length}
use Rattle.lists.proofs.Tests.{either}
use Rattle.lists.proofs.Parts.{part_length}
use Rattle.answer.specs.declared.Answer.TheVariants.{IpForm}
use Rattle.clock.specs.declared.Counter.{Counter}
use Rattle.net_table.specs.declared.NetTable.{NetTable}
use Rattle.host.specs.Guard.{longest, done}
use Rattle.host.specs.CallState.{CallState}
use Rattle.calls.specs.Perform.{Outcome, send, perform}
use Rattle.calls.proofs.SendKeeps.{keeps as send-keeps}
use Rattle.bench_file.specs.declared.Header.{Header}
use Rattle.bench_file.specs.declared.End.{End}
use Rattle.bench_file.specs.declared.Event.{Event}
use Rattle.bench_file.specs.declared.Event.TheVariants.{Tick, Adjust, Set, Second, SelfReport, Send, Arrival, Unknown}
use Rattle.bench_file.specs.Records.{end_at}
use Rattle.bench_file.specs.Absent.{slots, event_good}
use Rattle.bench.specs.Bench.{Bench, state_at}
use Rattle.bench.specs.Slots.{slot_length, room_place, room_of, empty, far_end, with_room, with_label, slots_good}
use Rattle.bench.specs.Event.{After, sent, taken, carried}
use Rattle.bench.proofs.Labels as labels
use Rattle.bench.proofs.Named.{send_names}

pub record SlotsKept (h : Header) (o p : List ℕ) : Type 0 where
  pub long : length p ≡ length o
  pub good : slots_good h o ≡ true → slots_good h p ≡ true

module _ (file : List ℕ) (t : NetTable) (h : Header) (b : Bench) (long : slot_length * slots ≤ length b.slots) where
  stays : SlotsKept h b.slots b.slots
  stays = record { long = refl; good = λ g. g }

  sends : (e : End) (c i n : ℕ) (k : Counter) → c < h.cables → i ≤ 1 → n < slots → SlotsKept h b.slots (sent file t h e c i n k b).bench.slots
  sends e c i n k cable end slot =
      let x : CallState = state_at file t e.host b in
      let o : Outcome = perform (send e.link k (room_of n b.slots)) x in
      let f = send-keeps x e.link k (room_of n b.slots) in
      let room : length (room_of n b.slots) ≡ longest = part_length (room_place n) longest b.slots (omega arith) in
      let put : List ℕ = with_room n o.buffer b.slots in
      let full : length o.buffer ≡ longest = f.room ∙ room in
      let same : length put ≡ length b.slots = labels.room_length b.slots n slot long o.buffer full in
      let keeps : slots_good h b.slots ≡ true → slots_good h put ≡ true = labels.room_good b.slots n slot long o.buffer full h in
      let more : slot_length * slots ≤ length put = rw same long in
      record {
        long =
            either (λ (s : List ℕ). length s ≡ length b.slots) (done o.reply.answer) (with_label n o.reply.length c i put) put
            (λ d. labels.label_length_lem put n slot more o.reply.length c i ∙ same) (λ d. same);
        good = λ g.
            either (λ (s : List ℕ). slots_good h s ≡ true) (done o.reply.answer) (with_label n o.reply.length c i put) put
            (λ d. labels.label_good_lem put n slot more o.reply.length c i h (keeps g) (rw room at (f.fits d)) cable end) (λ d. keeps g);
      }

  pub slots_kept : (e : Event) → event_good h e ≡ true → SlotsKept h b.slots (carried file t h e b).bench.slots
  slots_kept (Tick k n) g = stays
  slots_kept (Adjust k n) g = stays
  slots_kept (Set k ms n) g = stays
  slots_kept (Second k) g = stays
  slots_kept (SelfReport k n) g = stays
  slots_kept (Send c i n k) g = let s = send_names h c i n k g in sends (end_at file h c i) c i n k s.0 s.1 s.2
  slots_kept (Arrival n k) g =
      either (λ (a : After). SlotsKept h b.slots a.bench.slots) (empty n b.slots) record { bench = b; answer = IpForm } (taken file t h (far_end file h n b.slots) n k b)
      (λ _. stays) (λ _. stays)
  slots_kept Unknown g = absurd (false≢true g)
