-- The guard; then the plan by value, its ids placed, the reports written into the buffer, and the message completed around them. Clock and links are stored.
use mathlib.Core.Path.{refl}
use Rattle.calls.specs.Perform as definition
use Rattle.calls.proofs.Guarding.{keeps_buffer}
use Rattle.calls.proofs.HostAfter.{on_a_link}
use Rattle.calls.proofs.Sent.{host_good, sent}
use Rattle.calls.proofs.Guarding.{passes, refuses}
use Rattle.calls.proofs.send.Goals as goal

pub returns-then-refuses : goal.returns-then-refuses
returns-then-refuses c =
    (refuses (definition.send c.args.link c.args.counter c.args.buffer.now) _ refl c.guard-g.ensures c.refuses.ensures c.if-refuses.true c.plainly.ensures, keeps_buffer (definition.send c.args.link c.args.counter c.args.buffer.now) _ refl c.guard-g.ensures c.refuses.ensures c.if-refuses.true)

pub invariant_of-h : goal.invariant_of-h
invariant_of-h c =
    let on = passes (definition.send c.args.link c.args.counter c.args.buffer.now) _ refl c.guard-g.ensures c.refuses.ensures c.if-refuses.false in
    rw c.host_of.ensures (host_good _ c.args.link c.args.counter c.args.buffer.now on)

pub invariant_of-i : goal.invariant_of-i
invariant_of-i c =
    let on = passes (definition.send c.args.link c.args.counter c.args.buffer.now) _ refl c.guard-g.ensures c.refuses.ensures c.if-refuses.false in
    let z = on_a_link _ c.args.link c.args.buffer.now on in
    record { from_one = z.0; to_eight = z.1 }

pub reports_at-w-requires : goal.reports_at-w-requires
reports_at-w-requires c =
    let on = passes (definition.send c.args.link c.args.counter c.args.buffer.now) _ refl c.guard-g.ensures c.refuses.ensures c.if-refuses.false in
    rw (c.send_in-p.ensures, c.host_of.ensures) (sent _ c.args.link c.args.counter c.args.buffer.now on).ids

pub read_out-requires : goal.read_out-requires
read_out-requires c =
    let on = passes (definition.send c.args.link c.args.counter c.args.buffer.now) _ refl c.guard-g.ensures c.refuses.ensures c.if-refuses.false in
    rw (c.reports_at-w.ensures, c.send_in-p.ensures, c.host_of.ensures) (sent _ c.args.link c.args.counter c.args.buffer.now on).fits

pub finish-requires : goal.finish-requires
finish-requires c =
    let on = passes (definition.send c.args.link c.args.counter c.args.buffer.now) _ refl c.guard-g.ensures c.refuses.ensures c.if-refuses.false in
    rw (c.read_out.ensures, c.reports_at-w.ensures, c.send_in-p.ensures, c.host_of.ensures) (sent _ c.args.link c.args.counter c.args.buffer.now on).ready

pub returns : goal.returns
returns c =
    let on = passes (definition.send c.args.link c.args.counter c.args.buffer.now) _ refl c.guard-g.ensures c.refuses.ensures c.if-refuses.false in
    rw (c.finish.ensures, c.read_out.ensures, c.reports_at-w.ensures, c.send_in-p.ensures, c.host_of.ensures) ((sent _ c.args.link c.args.counter c.args.buffer.now on).left, (sent _ c.args.link c.args.counter c.args.buffer.now on).octets)
