-- REPLY-5, BENCH-6: what an exported run returns.
use Rattle.bench.specs.declared.Ran.{Ran}
use Rattle.bench.specs.Answer.{number}
use Rattle.class_bench.specs.declared.BenchRan.{BenchRan}

-- REPLY-5: the number of the answer, and how many events it did
abbrev pub ran_returned : Ran → BenchRan
ran_returned r = record { answer = number r.answer; count = r.count }
