-- A file that passes has a header, and all state that its hosts borrow; the parts together are the definition.
use mathlib.Core.Path.{sym, ap, ◌∙◌}
use Rattle.bench.specs.Answer.{passes}
use Rattle.bench.proofs.SetsUp.{there, long, hosts_fit, all_set_up}
use Rattle.bench.proofs.set_up.Goals as goal

pub returns-then-not-passes : goal.returns-then-not-passes
returns-then-not-passes c =
    let e = ap passes (sym c.set_up_tested-answer.ensures) ∙ sym c.passes.ensures ∙ c.if-not-passes.true in
    (c.set_up_tested-answer.ensures, rw e)

pub read_header-header-requires : goal.read_header-header-requires
read_header-header-requires c =
    let a = c.args in
    (there a.file.now a.net_table.now a.hosts.now a.copies.now a.entries.now a.slots.now a.answers.now a.progress.now.done
    (ap passes (sym c.set_up_tested-answer.ensures) ∙ sym c.passes.ensures ∙ c.if-not-passes.false)).0

pub sets-requires : goal.sets-requires
sets-requires c =
    let a = c.args in
    rw c.read_header-header.ensures (hosts_fit a.file.now a.net_table.now a.hosts.now a.copies.now a.entries.now a.slots.now a.answers.now a.progress.now.done
    (ap passes (sym c.set_up_tested-answer.ensures) ∙ sym c.passes.ensures ∙ c.if-not-passes.false))

pub clear-requires : goal.clear-requires
clear-requires c =
    let a = c.args in
    (long a.file.now a.net_table.now a.hosts.now a.copies.now a.entries.now a.slots.now a.answers.now a.progress.now.done
    (ap passes (sym c.set_up_tested-answer.ensures) ∙ sym c.passes.ensures ∙ c.if-not-passes.false)).slots

pub clear-requires-2 : goal.clear-requires-2
clear-requires-2 c =
    let a = c.args in
    rw c.read_header-header.ensures (long a.file.now a.net_table.now a.hosts.now a.copies.now a.entries.now a.slots.now a.answers.now a.progress.now.done
    (ap passes (sym c.set_up_tested-answer.ensures) ∙ sym c.passes.ensures ∙ c.if-not-passes.false)).answers

pub returns : goal.returns
returns c =
    let a = c.args in
    let left = c.sets.ensures in
    let e = ap passes (sym c.set_up_tested-answer.ensures) ∙ sym c.passes.ensures ∙ c.if-not-passes.false in
    let is = all_set_up a.file.now a.net_table.now a.hosts.now a.copies.now a.entries.now a.slots.now a.answers.now a.progress.now.done c.sets.new.hosts c.sets.new.entries (rw c.read_header-header.ensures at left) in
    (c.set_up_tested-answer.ensures, rw (c.clear.ensures, c.clear-2.ensures, c.read_header-header.ensures, e) is)
