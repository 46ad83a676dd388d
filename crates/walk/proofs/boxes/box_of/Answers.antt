-- The packet passed the inspection before, so its fields are those that the inspection returns.
use mathlib.Core.Path.{◌≡◌, sym, subst}
use mathlib.Core.Bool.{true}
use Rattle.wire.specs.declared.Packet.{Packet}
use Rattle.host.specs.Walk.{place_of, walk_fields_at}
use Rattle.host.specs.code.Walks.{Reported}
use Rattle.walk.proofs.Passed.{passed, passed_fits, passed_long}
use Rattle.walk.proofs.boxes.box_of.Goals as goal

pub fields-p-requires : goal.fields-p-requires
fields-p-requires c =
    let a = c.args in
    let fits = passed_fits a.h.host.settings a.w.walk a.packet.now c.requires.packet_value in
    passed_long a.h.host.settings _ a.packet.now fits

pub box_at-requires-clause-reported : goal.box_at-requires-clause-reported
box_at-requires-clause-reported c =
    let a = c.args in
    subst (λ (p : Packet). Reported a.h.host.settings p a.packet.now) (sym c.fields-p.ensures.0) (passed_fits a.h.host.settings a.w.walk a.packet.now c.requires.packet_value)

pub box_at-requires-clause-packet_value : goal.box_at-requires-clause-packet_value
box_at-requires-clause-packet_value c =
    let a = c.args in
    let is = passed a.h.host.settings a.w.walk a.packet.now c.requires.packet_value in
    subst (λ (p : Packet). walk_fields_at (place_of a.w.walk) a.h.host.settings a.w.walk p a.packet.now ≡ true) (sym c.fields-p.ensures.0) (rw is at c.requires.packet_value)

pub returns : goal.returns
returns c =
    let a = c.args in
    rw (passed a.h.host.settings a.w.walk a.packet.now c.requires.packet_value, sym c.fields-p.ensures.0) c.box_at.ensures
