-- ANSWER-18, ANSWER-19: the answers of set-up and run.
use Rattle.std.specs.Prelude.{Bool, ℕ, eqb}
use Rattle.bench.specs.declared.Answer.{Answer}
use Rattle.bench.specs.declared.Answer.TheVariants.{Done, OutOfRange, Header, Absent}

-- ANSWER-18, ANSWER-19, BENCH-8, REPLY-5: the number of each answer
abbrev pub number : Answer → ℕ
number Done = 0
number OutOfRange = 12
number Header = 18
number Absent = 19

-- BENCH-8: is the answer 0?
abbrev pub passes : Answer → Bool
passes a = eqb (number a) 0
