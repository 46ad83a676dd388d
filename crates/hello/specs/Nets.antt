-- REPLY-5, NET-3: what adding a row returns.
use Rattle.net_table.specs.declared.Added.{Added}
use Rattle.net_table.specs.Answer.{number}
use Rattle.hello.specs.declared.tutor.NetAdded.{NetAdded}

-- REPLY-5: the number of the answer, and the row's number
abbrev pub added_returned : Added → NetAdded
added_returned a = record { answer = number a.answer; row = a.row }
