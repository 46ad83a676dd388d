-- ANSWER-21, ANSWER-22: the answers of the tutor's calls.
use Rattle.std.specs.Prelude.{ℕ}
use Rattle.net_table.specs.declared.Answer.{Answer}
use Rattle.net_table.specs.declared.Answer.TheVariants.{Done, Setting, OutOfRange, TableFull, NoRow}

-- ANSWER-21, ANSWER-22, REPLY-5: the number of each answer
abbrev pub number : Answer → ℕ
number Done = 0
number Setting = 1
number OutOfRange = 12
number TableFull = 21
number NoRow = 22
