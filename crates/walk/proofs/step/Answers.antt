-- 17, or the box.
use mathlib.Core.Path.{◌∙◌, sym}
use lib.Seq.{length-take-le}
use Rattle.host.proofs.Walks.{opened_says}
use Rattle.host.proofs.Guarded.{counted}
use Rattle.walk.proofs.step.Goals as goal

pub slice_bounds-box_of-end : goal.slice_bounds-box_of-end
slice_bounds-box_of-end c =
    let a = c.args in
    sym (length-take-le _ a.copy.now (opened_says a.h.host.settings a.w a.copy.now c.requires.walk (sym c.is_open.ensures ∙ c.if-not-is_open.false)).length)

pub invariant_of-box_of : goal.invariant_of-box_of
invariant_of-box_of c =
    let o = opened_says c.args.h.host.settings c.args.w c.args.copy.now c.requires.walk (sym c.is_open.ensures ∙ c.if-not-is_open.false) in
    let n = counted c.args.h.host.settings c.args.w.link o.link in
    record { from_one = n.from_one; to_eight = n.to_eight }

pub box_of-requires-clause-packet_value : goal.box_of-requires-clause-packet_value
box_of-requires-clause-packet_value c =
    (opened_says c.args.h.host.settings c.args.w c.args.copy.now c.requires.walk (sym c.is_open.ensures ∙ c.if-not-is_open.false)).held
