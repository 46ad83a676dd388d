-- After each turn the word has the marks from a place on.
use native.Mathlib.Omega.{arith}
use mathlib.Core.Path.{◌≡◌, ◌∙◌}
use Prim.Native.Nat.{◌-◌, ◌+◌, ◌≤◌}
use Rattle.bench_file.proofs.Marks.{word_on, word_none, one_bit}
use Rattle.bench_file.proofs.hosts.word_at.Goals as goal

pub loop-i-init : goal.loop-i-init
loop-i-init c = (omega arith, word_none c.args.octets.now c.args.at (omega arith), omega arith)

pub loop-i-preserved : goal.loop-i-preserved
loop-i-preserved c =
    let a = c.args in
    let w = c.loop-i in
    let e : w.i - 1 + 1 ≡ w.i = omega arith in
    let mark = c.from.ensures ∙ c.min.ensures in
    let one : c.from.result ≤ 1 = omega (arith, mark) in
    (omega arith, word_on a.octets.now a.at (omega arith) (w.i - 1) w.word c.from.result (omega arith) (rw e w.invariant.1) mark, one_bit w.word (w.i - 1) c.from.result (omega arith) (rw e w.invariant.2) one)
