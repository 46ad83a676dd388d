use mathlib.Core.Path.{◌≡◌}
use Prim.Native.Nat.{◌+◌, ◌*◌}
use Rattle.table.specs.Runs.{changes}
use Rattle.table.specs.code.Blocks.{between}
use Rattle.table.proofs.self_reports.report_blocks.Given as goal

abbrev pub invariant-loop-k : goal.invariant-loop-k
invariant-loop-k l = l.entries ≡ changes (between l.w.first (l.w.first + 4 * l.k) l.w) l.initial.entries
