-- After k turns the first k fours are reported.
use mathlib.Core.Path.{◌≡◌, sym, ap, ◌∙◌}
use Prim.Native.Nat.{ℕ, ◌+◌, ◌*◌}
use native.Mathlib.Omega.{arith}
use Rattle.table.specs.Runs.{changes}
use Rattle.table.specs.code.Blocks.{between, block_of}
use Rattle.table.proofs.Reporting.{two_parts, no_places_lem}
use Rattle.table.proofs.self_reports.report_blocks.Goals as goal

pub loop-k-init : goal.loop-k-init
loop-k-init c =
    let w = c.args.w in
    let entries = c.args.entries.now in
    let z : w.first + 4 * 0 ≡ w.first = omega arith in
    no_places_lem entries w w.first (omega (arith, c.requires.0.rising, c.requires.0.inside)) ∙ ap (λ (e : ℕ). changes (between w.first e w) entries) (sym z)

pub loop-k-preserved : goal.loop-k-preserved
loop-k-preserved c =
    let w = c.args.w in
    let f = w.first in
    let entries = c.args.entries.now in
    let h = c.requires.0 in
    let k = c.loop-k.k in
    let more = c.loop-k-test.true in
    let next : f + 4 * k + 4 ≡ f + 4 * (k + 1) = omega arith in
    c.report_block.ensures ∙ ap (changes (block_of k w)) c.loop-k.invariant
    ∙ two_parts entries w c.args.reading f (f + 4 * k) (f + 4 * k + 4) c.requires.1 (omega arith) (omega arith) (omega (arith, more, h.rising, h.inside))
    ∙ ap (λ (e : ℕ). changes (between f e w) entries) next
