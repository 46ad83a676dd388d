-- The four octets of a number are those of its last 32 bits.
use mathlib.Core.Path.{ap, ◌∙◌}
use native.Mathlib.Omega.{arith}
use lib.Seq.{sets, sets-eq}
use Rattle.octets.specs.Octets.{four}
use Rattle.octets.proofs.Widths.{last_bits}
use Rattle.capture.proofs.writing.put_four.Goals as goal

pub returns : goal.returns
returns c =
    let a = c.args in
    c.put_four.ensures ∙ ap (sets a.s.now a.i) (last_bits 4 a.n) ∙ sets-eq (four a.n) a.s.now a.i (omega arith)
