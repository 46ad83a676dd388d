-- A file that passes has a header, and no more is done than it has; the events together are the definition.
use mathlib.Core.Path.{◌≡◌, refl, sym, ap, ◌∙◌}
use Prim.Native.Nat.{◌-◌}
use native.Mathlib.Omega.{arith}
use Rattle.bench.specs.Answer.{passes}
use Rattle.bench.proofs.RunsOn.{there, turns_fit, counted, all_turned}
use Rattle.bench.proofs.run.Goals as goal

pub returns-then-not-passes : goal.returns-then-not-passes
returns-then-not-passes c =
    let e = ap passes (sym c.run_tested-answer.ensures) ∙ sym c.passes.ensures ∙ c.if-not-passes.true in
    let none : 0 ≡ c.args.progress.now.done - c.args.progress.now.done = omega arith in
    rw e (λ i. record { answer = c.run_tested-answer.ensures i; count = none i }, refl)

pub read_header-header-requires : goal.read_header-header-requires
read_header-header-requires c =
    let a = c.args in
    (there a.file.now a.net_table.now a.hosts.now a.copies.now a.entries.now a.slots.now a.answers.now a.progress.now.done a.allowance
    (ap passes (sym c.run_tested-answer.ensures) ∙ sym c.passes.ensures ∙ c.if-not-passes.false)).0

pub turns-requires : goal.turns-requires
turns-requires c =
    let a = c.args in
    rw (c.min-count.ensures, c.read_header-header.ensures) (turns_fit a.file.now a.net_table.now a.hosts.now a.copies.now a.entries.now a.slots.now a.answers.now a.progress.now.done a.allowance
    (ap passes (sym c.run_tested-answer.ensures) ∙ sym c.passes.ensures ∙ c.if-not-passes.false))

pub returns : goal.returns
returns c =
    let a = c.args in
    let left = c.turns.ensures in
    let e = ap passes (sym c.run_tested-answer.ensures) ∙ sym c.passes.ensures ∙ c.if-not-passes.false in
    let n = counted a.file.now a.net_table.now a.hosts.now a.copies.now a.entries.now a.slots.now a.answers.now a.progress.now.done a.allowance e in
    let is = all_turned a.file.now a.net_table.now a.hosts.now a.copies.now a.entries.now a.slots.now a.answers.now a.progress.now.done a.allowance e
    c.turns.new.hosts c.turns.new.entries c.turns.new.slots c.turns.new.answers (rw (c.min-count.ensures, c.read_header-header.ensures) at left) in
    rw (c.min-count.ensures, c.read_header-header.ensures, e) (λ i. record { answer = c.run_tested-answer.ensures i; count = n i }, is)
