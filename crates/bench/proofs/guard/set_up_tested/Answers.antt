-- Two ways through `set_up_tested`: in each, the branches taken decide the tests of the definition, with the contracts of `file_tested`, `passes`, `read_header`, `rest_tested`.
use mathlib.Core.Path.{◌≡◌, sym, ap, ◌∙◌}
use mathlib.Core.Bool.{true}
use Rattle.bench_file.proofs.Fits.{header_there}
use Rattle.bench.specs.Answer.{passes}
use Rattle.bench.specs.Guard.{file_tested}
use Rattle.bench.proofs.Files.{file_there}
use Rattle.bench.proofs.guard.set_up_tested.Goals as goal

pub read_header-requires : goal.read_header-requires
read_header-requires c =
    let a = c.args in
    let x : passes (file_tested a.t a.file.now) ≡ true = ap passes (sym c.file_tested-a.ensures) ∙ sym c.passes.ensures ∙ c.if-not-passes.false in
    (header_there a.file.now (file_there a.t a.file.now x)).0

pub rest_tested-requires : goal.rest_tested-requires
rest_tested-requires c =
    let a = c.args in
    let x : passes (file_tested a.t a.file.now) ≡ true = ap passes (sym c.file_tested-a.ensures) ∙ sym c.passes.ensures ∙ c.if-not-passes.false in
    rw c.read_header.ensures (header_there a.file.now (file_there a.t a.file.now x)).1
