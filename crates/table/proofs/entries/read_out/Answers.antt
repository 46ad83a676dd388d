-- After n turns the buffer has the reports of the first n entries.
use mathlib.Core.Path.{◌≡◌, refl, sym, ap, ◌∙◌}
use mathlib.Core.List.{List, map}
use Prim.Native.Nat.{ℕ, suc, ◌+◌, ◌-◌, ◌≤◌, ◌<◌}
use native.Mathlib.Omega.{arith}
use lib.ListN.{length, get_or}
use Rattle.lists.specs.Lists.{part}
use Rattle.wire.specs.code.Sealing.{with_reports}
use Rattle.table.specs.declared.Entry.{Entry}
use Rattle.table.specs.declared.entries.Reports.{Reports}
use Rattle.table.specs.Entry.{advertised}
use Rattle.table.specs.code.Loops.{reported, read_out}
use Rattle.table.proofs.Loops.{report_turn}
use Rattle.table.proofs.entries.read_out.Goals as goal

pub loop-i-init : goal.loop-i-init
unfolding with_reports
loop-i-init c =
    let w = c.args.w in
    let none : w.first - w.first ≡ 0 = omega arith in
    rw (none) refl

-- one report more
turn : (w : Reports) (entries : List Entry) (b : List ℕ) (none : Entry) (i : ℕ) → w.first ≤ i → i < length entries
    → reported w i (get_or entries i none) (with_reports 0 (map (advertised w.pid) (part w.first (i - w.first) entries)) b)
    ≡ with_reports 0 (map (advertised w.pid) (part w.first (i + 1 - w.first) entries)) b
turn w entries b none i low inside =
    let n = i - w.first in
    let at : w.first + n ≡ i = omega (arith, low) in
    let next : i + 1 - w.first ≡ suc n = omega (arith, low) in
    ap (λ (j : ℕ). reported w j (get_or entries j none) (with_reports 0 (map (advertised w.pid) (part w.first n entries)) b)) (sym at)
    ∙ report_turn entries w.first n none (omega (arith, at, inside)) (advertised w.pid) b
    ∙ ap (λ (m : ℕ). with_reports 0 (map (advertised w.pid) (part w.first m entries)) b) (sym next)

pub loop-i-preserved : goal.loop-i-preserved
loop-i-preserved c =
    let w = c.args.w in
    let entries = c.args.entries.now in
    let i = c.loop-i.i in
    let kept = c.loop-i.invariant in
    let more = c.loop-i-test.true in
    let inside : i < length entries = omega (arith, more, c.requires.places.inside) in
    c.put.ensures ∙ ap (reported w i (get_or entries i _)) kept ∙ turn w entries c.args.buffer.now _ i c.loop-i.auto.i inside

pub returns : goal.returns
unfolding read_out
returns c =
    let w = c.args.w in
    let last : c.loop-i.i - w.first ≡ w.end - w.first = omega (arith, c.loop-i-test.false, c.loop-i.auto.i, c.loop-i.auto.i-end, c.requires.places.rising) in
    rw last at c.loop-i.invariant
