use mathlib.Core.Path.{◌≡◌}
use Prim.Native.Nat.{◌≤◌, ◌<◌, ◌-◌, ◌^◌}
use lib.ListN.{drop}
use Rattle.lists.specs.Lists.{part}
use Rattle.bench_file.specs.Settings.{word_of}
use Rattle.bench_file.proofs.hosts.word_at.Given as goal

abbrev pub invariant-loop-i : goal.invariant-loop-i
invariant-loop-i l = (l.i ≤ 64) × (l.word ≡ word_of (drop l.i (part l.at 64 l.octets))) × (l.word < 2 ^ (64 - l.i))
