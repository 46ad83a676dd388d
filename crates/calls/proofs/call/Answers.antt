-- The guard; then the entry that is looked at, the plan by value, its ids placed, and the loop that changes the entries. Clock, links and walk are stored.
use Rattle.calls.specs.Effects.{scope_of}
use Rattle.calls.specs.Perform.{ask}
use Rattle.host.proofs.Guarded.{ready}
use Rattle.calls.proofs.Performed.{seekable, sought, rows, walk_in_range_lem, performed}
use Rattle.calls.proofs.Guarding.{passes, refuses}
use Rattle.calls.proofs.call.Goals as goal

pub returns-then-refuses : goal.returns-then-refuses
returns-then-refuses c =
    refuses (ask c.args.request) _ c.scope_of-a.ensures c.guard-g.ensures c.refuses.ensures c.if-refuses.true c.plainly.ensures

pub sought-z-requires : goal.sought-z-requires
sought-z-requires c =
    let on = passes (ask c.args.request) _ c.scope_of-a.ensures c.guard-g.ensures c.refuses.ensures c.if-refuses.false in
    seekable _ c.args.request on

pub entry_of-e-requires : goal.entry_of-e-requires
entry_of-e-requires c =
    let on = passes (ask c.args.request) _ c.scope_of-a.ensures c.guard-g.ensures c.refuses.ensures c.if-refuses.false in
    rw (c.sought-z.ensures) (sought _ c.args.request on).there

pub effect-p-requires : goal.effect-p-requires
effect-p-requires c =
    let on = passes (ask c.args.request) _ c.scope_of-a.ensures c.guard-g.ensures c.refuses.ensures c.if-refuses.false in
    rw c.host_of-h.ensures (ready (scope_of c.args.request) _ on, rows _ c.args.request on, walk_in_range_lem _ c.args.request on)

pub placed-w-requires : goal.placed-w-requires
placed-w-requires c =
    let on = passes (ask c.args.request) _ c.scope_of-a.ensures c.guard-g.ensures c.refuses.ensures c.if-refuses.false in
    rw (c.effect-p.ensures, c.host_of-h.ensures) (performed _ c.args.request on _ (rw c.sought-z.ensures at c.entry_of-e.ensures)).ids

pub change_all-requires : goal.change_all-requires
change_all-requires c =
    let on = passes (ask c.args.request) _ c.scope_of-a.ensures c.guard-g.ensures c.refuses.ensures c.if-refuses.false in
    rw (c.placed-w.ensures, c.effect-p.ensures, c.host_of-h.ensures) (performed _ c.args.request on _ (rw c.sought-z.ensures at c.entry_of-e.ensures)).places

pub returns : goal.returns
returns c =
    let on = passes (ask c.args.request) _ c.scope_of-a.ensures c.guard-g.ensures c.refuses.ensures c.if-refuses.false in
    rw (c.change_all.ensures, c.placed-w.ensures, c.effect-p.ensures, c.host_of-h.ensures) (performed _ c.args.request on _ (rw c.sought-z.ensures at c.entry_of-e.ensures)).left
