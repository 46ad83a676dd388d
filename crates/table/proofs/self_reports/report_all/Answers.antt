-- The full fours and the entries after them are all entries.
use mathlib.Core.Path.{ap, ◌∙◌}
use Prim.Native.Nat.{ℕ, ◌+◌, ◌-◌, ◌*◌, ◌/◌}
use native.Mathlib.Omega.{arith}
use Rattle.table.specs.declared.entries.Changes.{Changes}
use Rattle.table.specs.Runs.{changes}
use Rattle.table.specs.code.Blocks.{last_of}
use Rattle.table.proofs.Reporting.{two_parts}
use Rattle.table.proofs.self_reports.report_all.Goals as goal

pub returns : goal.returns
returns c =
    let w = c.args.w in
    let entries = c.args.entries.now in
    let h = c.requires.0 in
    let done : ℕ = w.first + 4 * ((w.end - w.first) / 4) in
    c.report_each.ensures ∙ ap (λ (u : Changes). changes u c.report_blocks.new.entries) c.last_of.ensures ∙ ap (changes (last_of w)) c.report_blocks.ensures
    ∙ two_parts entries w c.args.reading w.first done w.end c.requires.1 (omega arith) (omega (arith, h.rising)) h.inside
