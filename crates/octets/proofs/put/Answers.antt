-- What the part holds now is put over the list.
use mathlib.Core.Path.{refl, sym, ◌∙◌}
use Prim.Native.Nat.{◌+◌, ◌-◌}
use native.Mathlib.Omega.{arith}
use mathlib.Core.List.{append_assoc}
use lib.ListN.{length, take, drop}
use Rattle.std.proofs.lemmas.Slice.{put_mid-paste}
use Rattle.std.proofs.lemmas.List.Edits.{paste_all, sets-eq}
use Rattle.octets.proofs.put.Goals as goal

pub returns : goal.returns
returns c =
    let a = c.args in
    let n = length a.octets.now in
    put_mid-paste a.i (a.i + n - a.i) a.s.now c.copy_from_slice.new.self a.octets.now n c.copy_from_slice.ensures.after (omega arith) refl
    ∙ paste_all a.s.now a.i a.octets.now n refl
    ∙ sym (append_assoc (take a.i a.s.now) a.octets.now (drop (a.i + n) a.s.now))
    ∙ sym (sets-eq a.octets.now a.s.now a.i c.requires)
