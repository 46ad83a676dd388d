-- After the last turn all places are changed.
use mathlib.Core.Path.{◌≡◌, ap, ◌∙◌}
use Prim.Native.Nat.{◌-◌}
use native.Mathlib.Omega.{arith}
use Rattle.table.proofs.Changing.{made, all_turns}
use Rattle.table.proofs.entries.change_each.Goals as goal

pub returns : goal.returns
returns g c =
    let w = c.args.w in
    let entries = c.args.entries.now in
    let last : c.loop-i.i - w.first ≡ w.end - w.first = omega (arith, c.loop-i-test.false, c.loop-i.auto.i, c.loop-i.auto.i-end, c.requires.places.rising) in
    c.loop-i.invariant ∙ ap (made w entries) last ∙ all_turns entries w c.requires.places
