-- The packet of the slot is inspected with the host's state.
use mathlib.Core.Path.{ap, ◌∙◌}
use mathlib.Core.List.{List}
use Prim.Native.Nat.{ℕ}
use Rattle.calls.specs.Perform.{Outcome}
use Rattle.calls.specs.Perform as definition
use Rattle.bench.proofs.AtSlot.{same}
use Rattle.bench.proofs.takes.look_at.Goals as goal

pub returns : goal.returns
returns c d =
    let a = c.args in
    c.inspect.ensures.reply
    ∙ ap (λ (o : Outcome). o.reply) (same (λ (p : List ℕ). definition.inspect a.w.link p) a.w a.net_table.now a.hosts.now a.copies.now a.entries.now a.slots.now c.copy_of.result.now c.copy_of.ensures _ _ c.room_start.ensures c.packet_end.ensures d c.requires.there)
