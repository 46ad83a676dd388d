-- After each turn one more host is initialized.
use mathlib.Core.List.{List}
use Prim.Native.Nat.{ℕ}
use Rattle.bench.specs.Bench.{bench}
use Rattle.bench.specs.Run.{all_set}
use Rattle.bench.specs.code.Sets.{HostsAfter}
use Rattle.bench.proofs.sets.sets.Given as goal

abbrev pub invariant-loop-i : goal.invariant-loop-i
invariant-loop-i l =
    (slots answers : List ℕ) (n : ℕ) → HostsAfter (all_set l.file l.net_table 0 l.i (bench l.initial.hosts l.copies l.initial.entries slots answers n)) l.hosts l.entries
