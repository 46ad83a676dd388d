-- If an entry of the four has a mark, the four is reported; else a report keeps it.
use mathlib.Core.Path.{◌≡◌, sym, ap, ◌∙◌}
use Prim.Native.Nat.{ℕ, ◌+◌, ◌-◌, ◌*◌}
use native.Mathlib.Omega.{arith}
use Rattle.lists.specs.Lists.{part}
use Rattle.table.specs.code.Blocks.{any_mark}
use Rattle.table.proofs.Reporting.{none_marked}
use Rattle.table.proofs.self_reports.report_block.Goals as goal

pub returns-else-some_here : goal.returns-else-some_here
returns-else-some_here c =
    let entries = c.args.entries.now in
    let w = c.args.w in
    let f = w.first + 4 * c.args.k in
    let four : f + 4 - f ≡ 4 = omega arith in
    let none = sym c.some_here.ensures ∙ c.if-some_here.false in
    none_marked entries w c.args.reading f (f + 4) c.requires.1 (omega arith) (omega (arith, c.requires.0.fits, c.requires.0.inside))
    (ap (λ (n : ℕ). any_mark (part f n entries)) four ∙ none)
