-- The packet of the slot is acted on with the host's state, in its place.
use mathlib.Core.Path.{ap, ◌∙◌}
use mathlib.Core.List.{List}
use Prim.Native.Nat.{ℕ, ◌-◌}
use lib.ListN.{get_or, set}
use Rattle.lists.specs.Lists.{part}
use Rattle.arrival.specs.declared.Delivery.{Delivery}
use Rattle.host.specs.CallState.{call_state}
use Rattle.calls.specs.Perform.{Outcome, perform}
use Rattle.calls.specs.Perform as definition
use Rattle.bench.proofs.Defaults.{nobody}
use Rattle.bench.proofs.AtSlot.{same}
use Rattle.bench.proofs.takes.act_at.Goals as goal

pub returns : goal.returns
returns c d =
    let a = c.args in
    let r = c.deliver.ensures in
    let v = get_or a.hosts.now a.w.host nobody in
    let acts = ap (λ (k : Delivery). perform (definition.deliver k (part c.room_start.result (c.packet_end.result - c.room_start.result) a.slots.now)) (call_state a.w.settings a.net_table.now a.w.host v.clock v.links v.walk c.copy_of.result.now a.entries.now)) c.acts.ensures in
    let e = acts ∙ same (λ (p : List ℕ). definition.act a.w.link a.w.counter p) a.w a.net_table.now a.hosts.now a.copies.now a.entries.now a.slots.now c.copy_of.result.now c.copy_of.ensures _ _ c.room_start.ensures c.packet_end.ensures d c.requires.there in
    record {
      states = λ i. set a.hosts.now a.w.host record {
        clock = (r.clock ∙ ap (λ (o : Outcome). o.clock) e) i;
        links = (r.links ∙ ap (λ (o : Outcome). o.links) e) i;
        walk = (r.walk ∙ ap (λ (o : Outcome). o.walk) e) i;
      };
      own_entries = r.entries ∙ ap (λ (o : Outcome). o.entries) e;
      reply = r.reply ∙ ap (λ (o : Outcome). o.reply) e;
    }
