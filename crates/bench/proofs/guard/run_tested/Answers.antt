-- Three ways through `run_tested`: in each, the branches taken decide the tests of the definition, with the contracts of `file_tested`, `passes`, `read_header`, `can_run` and others. Bounds follow by linear arithmetic.
use mathlib.Core.Path.{◌≡◌, sym, ap, ◌∙◌}
use mathlib.Core.Bool.{true}
use Rattle.bench_file.proofs.Fits.{header_there}
use native.Mathlib.Omega.{arith}
use Rattle.bench_file.specs.Header.{header_of}
use Rattle.bench.specs.Answer.{passes}
use Rattle.bench.specs.Guard.{file_tested}
use Rattle.bench.proofs.Files.{file_there, short_slots}
use Rattle.bench.proofs.guard.run_tested.Goals as goal

pub read_header-h-requires : goal.read_header-h-requires
read_header-h-requires c =
    let a = c.args in
    let x : passes (file_tested a.t a.file.now) ≡ true = ap passes (sym c.file_tested-a.ensures) ∙ sym c.passes.ensures ∙ c.if-not-passes.false in
    (header_there a.file.now (file_there a.t a.file.now x)).0

pub returns-then-octets-lt-SLOTS_LENGTH : goal.returns-then-octets-lt-SLOTS_LENGTH
returns-then-octets-lt-SLOTS_LENGTH c =
    let a = c.args in
    let x : passes (file_tested a.t a.file.now) ≡ true = ap passes (sym c.file_tested-a.ensures) ∙ sym c.passes.ensures ∙ c.if-not-passes.false in
    rw (x, short_slots (header_of a.file.now) a.n (omega arith))

pub rest_tested-requires : goal.rest_tested-requires
rest_tested-requires c =
    let a = c.args in
    let x : passes (file_tested a.t a.file.now) ≡ true = ap passes (sym c.file_tested-a.ensures) ∙ sym c.passes.ensures ∙ c.if-not-passes.false in
    rw c.read_header-h.ensures (header_there a.file.now (file_there a.t a.file.now x)).1
