-- The host's state is read, its message is written into the slot, the state after the send is stored, and the slot gets a label if a message was sent.
use mathlib.Core.Path.{◌≡◌, ap, ◌∙◌}
use mathlib.Core.List.{List, append_assoc}
use Prim.Native.Nat.{ℕ, ◌+◌, ◌-◌, ◌*◌, ◌≤◌, ◌<◌}
use native.Mathlib.Omega.{arith}
use borrow.Rule.Slice.PartMut.{put_mid}
use lib.ListN.{length, get_or, set}
use lib.Seq.{drop-drop}
use Rattle.lists.specs.Lists.{part}
use Rattle.lists.proofs.Parts.{part_length}
use Rattle.net_table.specs.declared.NetTable.{NetTable}
use Rattle.table.specs.declared.Entry.{Entry}
use Rattle.host.specs.Guard.{longest}
use Rattle.host.specs.CallState.{call_state}
use Rattle.calls.specs.Perform.{Outcome, perform}
use Rattle.calls.specs.Perform as definition
use Rattle.calls.proofs.SendKeeps.{keeps}
use Rattle.bench_file.specs.Absent as file
use Rattle.bench.specs.declared.HostState.{HostState}
use Rattle.bench.specs.declared.sends.Sending.{Sending}
use Rattle.bench.specs.Slots.{slot_length, room_place, with_room}
use Rattle.bench.specs.code.Sends.{outcome_of, labelled}
use Rattle.bench.proofs.Defaults.{any_default, nobody}
use Rattle.bench.proofs.sends.send_at.Goals as goal

-- the send borrows what the definition says
module _ (w : Sending) (t : NetTable) (hosts : List HostState) (copies : List ℕ) (entries : List Entry) (slots : List ℕ)
    (here there : ℕ) (copy : List ℕ) (copy_is : copy ≡ part (longest * w.host) longest copies)
    (here-is : here ≡ room_place w.slot) (there-is : there ≡ room_place w.slot + longest) (v : HostState) where
  abbrev made : Outcome
  made =
      perform (definition.send w.link w.counter (part here (there - here) slots))
      (call_state w.settings t w.host v.clock v.links v.walk copy entries)

  m : room_place w.slot + longest - room_place w.slot ≡ longest
  m = omega arith

  same : (d : HostState) → v ≡ get_or hosts w.host d → made ≡ outcome_of w t hosts copies entries slots d
  same d v-is =
      rw (copy_is, here-is, there-is, m, v-is)

  -- what the send returns, if its buffer is the slot
  module _ (slot : w.slot < file.slots) (long : slot_length * file.slots ≤ length slots) (room : List ℕ) (room-is : room ≡ made.buffer) where
    full : length room ≡ longest
    full =
        ap (λ (b : List ℕ). length b) room-is
        ∙ (keeps (call_state w.settings t w.host v.clock v.links v.walk copy entries) w.link w.counter (part here (there - here) slots)).room
        ∙ rw (here-is, there-is, m) (part_length (room_place w.slot) longest slots (omega arith))

    back : put_mid here (there - here) slots room ≡ with_room w.slot room slots
    back = rw (here-is, there-is, m, full, drop-drop longest (room_place w.slot) slots) (simp append_assoc)

pub returns : goal.returns
returns c d =
    let a = c.args in
    let v = get_or a.hosts.now a.w.host nobody in
    let r = c.send-reply.ensures.0 in
    let e = same a.w a.net_table.now a.hosts.now a.copies.now a.entries.now a.slots.now _ _ c.copy_of.result.now c.copy_of.ensures c.room_start.ensures c.room_end.ensures v d (any_default a.hosts.now a.w.host nobody d c.requires.there) in
    let b = back a.w a.net_table.now a.hosts.now a.copies.now a.entries.now a.slots.now _ _ c.copy_of.result.now c.copy_of.ensures c.room_start.ensures c.room_end.ensures v c.requires.slot c.requires.room _ c.send-reply.ensures.1 in
    record {
      states = λ i. set a.hosts.now a.w.host record {
        clock = (r.clock ∙ ap (λ (o : Outcome). o.clock) e) i;
        links = (r.links ∙ ap (λ (o : Outcome). o.links) e) i;
        walk = (r.walk ∙ ap (λ (o : Outcome). o.walk) e) i;
      };
      slots = c.label.ensures ∙ (λ i. labelled a.w ((r.reply ∙ ap (λ (o : Outcome). o.reply) e) i) (b i)) ∙ ap (λ (l : List ℕ). labelled a.w (outcome_of a.w a.net_table.now a.hosts.now a.copies.now a.entries.now a.slots.now d).reply (with_room a.w.slot l a.slots.now)) (c.send-reply.ensures.1 ∙ ap (λ (o : Outcome). o.buffer) e);
      reply = r.reply ∙ ap (λ (o : Outcome). o.reply) e;
    }
