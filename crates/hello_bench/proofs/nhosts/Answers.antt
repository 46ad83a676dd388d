-- If the header is not bad, the file has it and the first host's record.
use mathlib.Core.Path.{sym, ◌∙◌}
use native.Mathlib.Omega.{arith}
use Rattle.bench_file.proofs.Fits.{header_there}
use Rattle.hello_bench.proofs.nhosts.Goals as goal

pub settings_at-requires : goal.settings_at-requires
settings_at-requires c =
    (rw c.read_header-h.ensures (header_there c.args.file.now (sym c.header_bad.ensures ∙ c.if-header_bad.false)).1, omega arith)
