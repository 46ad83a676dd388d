-- Three ways through `file_tested`: in each, the branches taken decide the tests of the definition, with the contracts of `header_bad`, `read_header`, `records_good`.
use mathlib.Core.Path.{◌≡◌, sym, ap, ◌∙◌}
use mathlib.Core.Bool.{true, false}
use Rattle.bench_file.proofs.Fits.{header_there}
use Rattle.bench_file.specs.Header.{header_of, header_bad}
use Rattle.bench.specs.Guard.{records_good, file_tested}
use Rattle.bench.proofs.guard.file_tested.Goals as goal

pub returns-then-header_bad : goal.returns-then-header_bad
unfolding file_tested
returns-then-header_bad c =
    let a = c.args in
    let x : header_bad a.file.now ≡ true = sym c.header_bad.ensures ∙ c.if-header_bad.true in
    rw x

pub records_good-requires : goal.records_good-requires
records_good-requires c = rw c.read_header.ensures (header_there c.args.file.now (sym c.header_bad.ensures ∙ c.if-header_bad.false)).1

pub returns-then-not-records_good : goal.returns-then-not-records_good
unfolding file_tested
returns-then-not-records_good c =
    let a = c.args in
    let x : header_bad a.file.now ≡ false = sym c.header_bad.ensures ∙ c.if-header_bad.false in
    let y : records_good a.t a.file.now (header_of a.file.now) ≡ false = ap (records_good a.t a.file.now) (sym c.read_header.ensures) ∙ sym c.records_good.ensures ∙ c.if-not-records_good.true in
    rw (x, y)

pub returns : goal.returns
unfolding file_tested
returns c =
    let a = c.args in
    let x : header_bad a.file.now ≡ false = sym c.header_bad.ensures ∙ c.if-header_bad.false in
    let y : records_good a.t a.file.now (header_of a.file.now) ≡ true = ap (records_good a.t a.file.now) (sym c.read_header.ensures) ∙ sym c.records_good.ensures ∙ c.if-not-records_good.false in
    rw (x, y)
